-- Laws: of tests on every element and on every pair, and the loops that decide them.
use Rattle.std.specs.Prelude.{◌≡◌, Bool, ℕ, zero, suc, ◌+◌, ◌≤◌, ◌<◌, take, drop, eqb}
use Rattle.std.proofs.Math.Path.{refl, sym, ap}
use Rattle.std.proofs.Common.{ap₂, ◌∙◌, arith, add-one}
use Rattle.std.proofs.Math.Bool.{true, false}
use mathlib.Core.List.{List, [], ◌∷◌, ◌++◌, map}
use borrow.Author.Tests.{eqb-true, eqb-false, not-true, not-false}
use Rattle.lists.specs.Pick.{pick}
use Rattle.lists.specs.All.{All, all_by, pairs_by, all_to}

-- ---- every number below n

to_more : (p : ℕ → Bool) (n : ℕ) → all_to p (n + 1) ≡ pick (all_to p n) (p n) false
unfolding all_to
to_more p n = ap (all_to p) (add-one n)

to_broken : (p : ℕ → Bool) (i n : ℕ) → i < n → p i ≡ false → all_to p n ≡ false
unfolding all_to pick
to_broken p i zero h e = absurd (omega arith)
to_broken p i (suc n) h e = go (eqb i n) refl (to_broken p i n)
  where
    last : (b : Bool) → pick b false false ≡ false
    last true = refl
    last false = refl

    go : (b : Bool) → eqb i n ≡ b → (i < n → p i ≡ false → all_to p n ≡ false) → pick (all_to p n) (p n) false ≡ false
    go true q ih = ap (λ (k : ℕ). pick (all_to p n) (p k) false) (sym (eqb-true i n q)) ∙ ap (λ (b : Bool). pick (all_to p n) b false) e ∙ last (all_to p n)
    go false q ih = let q' = eqb-false i n q in ap (λ (b : Bool). pick b (p n) false) (ih (omega arith) e)

pub record UptoInv (p : ℕ → Bool) (n i : ℕ) : Type 0 where
  pub within : i ≤ n
  pub sofar : all_to p i ≡ true

pub upto_start : {p : ℕ → Bool} {n : ℕ} → UptoInv p n 0
unfolding all_to
upto_start = record { within = omega arith; sofar = refl }

module _ {p : ℕ → Bool} {n i : ℕ} (v : UptoInv p n i) where
  pub upto_broken : {q : Bool} → i < n → q ≡ p i → q ≡ false → false ≡ all_to p n
  upto_broken h e y = sym (to_broken p i n h (sym e ∙ y))

  pub upto_next : {q : Bool} → i < n → q ≡ p i → q ≡ true → UptoInv p n (i + 1)
  unfolding pick
  upto_next h e y = record { within = omega arith; sofar = to_more p i ∙ ap (λ (b : Bool). pick b (p i) false) v.sofar ∙ sym e ∙ y }

  pub upto_end : n ≤ i → true ≡ all_to p n
  upto_end h = let e : i ≡ n = omega (arith, v.within) in sym v.sofar ∙ ap (all_to p) e

pub ruleset uptos = (upto_start, upto_broken, upto_next, upto_end, not-true, not-false)

-- ---- laws of all and pairs
pub all_head : {A : Type 0} (t : A → Bool) (x : A) (xs : List A) → all_by t (x ∷ xs) ≡ true → (t x ≡ true) × (all_by t xs ≡ true)
unfolding all_by pick
all_head t x xs h = go (t x) refl h
  where
    go : (b : Bool) → t x ≡ b → pick b (all_by t xs) false ≡ true → (t x ≡ true) × (all_by t xs ≡ true)
    go true e h = (e, h)
    go false e h = absurd (let z : ◌≡◌ {A = ℕ} 0 1 = cc in omega arith)

pub all_cons : {A : Type 0} (t : A → Bool) (x : A) (xs : List A) → t x ≡ true → all_by t xs ≡ true → all_by t (x ∷ xs) ≡ true
unfolding all_by pick
all_cons t x xs e h = ap (λ (b : Bool). pick b (all_by t xs) false) e ∙ h

pub pairs_head : {A : Type 0} (t : A → A → Bool) (x : A) (xs : List A) → pairs_by t (x ∷ xs) ≡ true → (all_by (t x) xs ≡ true) × (pairs_by t xs ≡ true)
unfolding pairs_by pick
pairs_head t x xs h = go (all_by (t x) xs) refl h
  where
    go : (b : Bool) → all_by (t x) xs ≡ b → pick b (pairs_by t xs) false ≡ true → (all_by (t x) xs ≡ true) × (pairs_by t xs ≡ true)
    go true e h = (e, h)
    go false e h = absurd (let z : ◌≡◌ {A = ℕ} 0 1 = cc in omega arith)

pub pairs_cons : {A : Type 0} (t : A → A → Bool) (x : A) (xs : List A) → all_by (t x) xs ≡ true → pairs_by t xs ≡ true → pairs_by t (x ∷ xs) ≡ true
unfolding pairs_by pick
pairs_cons t x xs e h = ap (λ (b : Bool). pick b (pairs_by t xs) false) e ∙ h

-- what follows from both tests holds of all
pub all_both : {A : Type 0} (t u w : A → Bool) (l : List A) → ((x : A) → t x ≡ true → u x ≡ true → w x ≡ true) → all_by t l ≡ true → all_by u l ≡ true → all_by w l ≡ true
unfolding all_by
all_both t u w [] f p q = refl
all_both t u w (x ∷ l) f p q =
    let a = all_head t x l p in let b = all_head u x l q in
    all_cons w x l (f x a.0 b.0) (all_both t u w l f a.1 b.1)

pub all_append : {A : Type 0} (t : A → Bool) (x y : List A) → all_by t x ≡ true → all_by t y ≡ true → all_by t (x ++ y) ≡ true
all_append t [] y p q = q
all_append t (a ∷ x) y p q = let h = all_head t a x p in all_cons t a (x ++ y) h.0 (all_append t x y h.1 q)

pub pairs_append : {A : Type 0} (t : A → A → Bool) (x y : List A) → pairs_by t x ≡ true → pairs_by t y ≡ true → all_by (λ a. all_by (t a) y) x ≡ true → pairs_by t (x ++ y) ≡ true
pairs_append t [] y p q r = q
pairs_append t (a ∷ x) y p q r =
    let h = pairs_head t a x p in let g = all_head (λ a. all_by (t a) y) a x r in
    pairs_cons t a (x ++ y) (all_append (t a) x y h.0 g.0) (pairs_append t x y h.1 q g.1)

-- ---- tests of what is read through f
pub all_map : {A B : Type 0} (t : B → Bool) (f : A → B) (l : List A) → all_by t (map f l) ≡ all_by (λ x. t (f x)) l
unfolding all_by
all_map t f [] = refl
all_map t f (x ∷ l) = ap (λ (r : Bool). pick (t (f x)) r false) (all_map t f l)

pub pairs_map : {A B : Type 0} (t : B → B → Bool) (f : A → B) (l : List A) → pairs_by t (map f l) ≡ pairs_by (λ x y. t (f x) (f y)) l
unfolding pairs_by
pairs_map t f [] = refl
pairs_map t f (x ∷ l) = ap₂ (λ (p q : Bool). pick p q false) (all_map (t (f x)) f l) (pairs_map t f l)

-- ---- the same tests
pub all_same : {A : Type 0} (t u : A → Bool) (l : List A) → ((x : A) → t x ≡ u x) → all_by t l ≡ all_by u l
unfolding all_by
all_same t u [] h = refl
all_same t u (x ∷ l) h = ap₂ (λ (p q : Bool). pick p q false) (h x) (all_same t u l h)

pub pairs_same : {A : Type 0} (t u : A → A → Bool) (l : List A) → ((x y : A) → t x y ≡ u x y) → pairs_by t l ≡ pairs_by u l
unfolding pairs_by
pairs_same t u [] h = refl
pairs_same t u (x ∷ l) h = ap₂ (λ (p q : Bool). pick p q false) (all_same (t x) (u x) l (h x)) (pairs_same t u l h)

pub to_same : (p q : ℕ → Bool) (n : ℕ) → ((i : ℕ) → i < n → p i ≡ q i) → all_to p n ≡ all_to q n
unfolding all_to
to_same p q zero h = refl
to_same p q (suc n) h = ap₂ (λ (a b : Bool). pick a b false) (to_same p q n (λ i g. h i (omega arith))) (h n (omega arith))

-- what passes up to n passes at each number below it
pub to_each : (p : ℕ → Bool) (n : ℕ) → all_to p n ≡ true → (i : ℕ) → i < n → p i ≡ true
to_each p n h i g = go (p i) refl
  where
    go : (b : Bool) → p i ≡ b → p i ≡ true
    go true e = e
    go false e = absurd (let f = sym h ∙ to_broken p i n g e in let z : ◌≡◌ {A = ℕ} 0 1 = cc in omega arith)

pub each_to : (p : ℕ → Bool) (n : ℕ) → ((i : ℕ) → i < n → p i ≡ true) → all_to p n ≡ true
unfolding all_to pick
each_to p zero h = refl
each_to p (suc n) h = ap (λ (b : Bool). pick b (p n) false) (each_to p n (λ i g. h i (omega arith))) ∙ h n (omega arith)

-- ---- what holds of every element
pub all_facts : {A : Type 0} (t : A → Bool) (P : A → Type 0) (l : List A) → ((x : A) → t x ≡ true → P x) → all_by t l ≡ true → All P l
unfolding All
all_facts t P [] f e = tt
all_facts t P (x ∷ l) f e = let p = all_head t x l e in (f x p.0, all_facts t P l f p.1)

pub all_tests : {A : Type 0} (t : A → Bool) (P : A → Type 0) (l : List A) → ((x : A) → P x → t x ≡ true) → All P l → all_by t l ≡ true
unfolding All all_by
all_tests t P [] f h = refl
all_tests t P (x ∷ l) f h = all_cons t x l (f x h.0) (all_tests t P l f h.1)

pub all_any : {A : Type 0} (P : A → Type 0) → ((x : A) → P x) → (l : List A) → All P l
unfolding All
all_any P f [] = tt
all_any P f (x ∷ l) = (f x, all_any P f l)

pub one_fact : {A : Type 0} (P Q : A → Type 0) (l : List A) → ((x : A) → P x → Q x) → All P l → All Q l
unfolding All
one_fact P Q [] f p = tt
one_fact P Q (x ∷ l) f p = (f x p.0, one_fact P Q l f p.1)

pub two_facts : {A : Type 0} (P Q R : A → Type 0) (l : List A) → ((x : A) → P x → Q x → R x) → All P l → All Q l → All R l
unfolding All
two_facts P Q R [] f p q = tt
two_facts P Q R (x ∷ l) f p q = (f x p.0 q.0, two_facts P Q R l f p.1 q.1)

pub all_take : {A : Type 0} (P : A → Type 0) (n : ℕ) (l : List A) → All P l → All P (take n l)
unfolding All
all_take P zero l h = tt
all_take P (suc n) [] h = tt
all_take P (suc n) (x ∷ l) h = (h.0, all_take P n l h.1)

pub all_drop : {A : Type 0} (P : A → Type 0) (n : ℕ) (l : List A) → All P l → All P (drop n l)
unfolding All
all_drop P zero l h = h
all_drop P (suc n) [] h = tt
all_drop P (suc n) (x ∷ l) h = all_drop P n l h.1

pub all_mapped : {A B : Type 0} (P : B → Type 0) (g : A → B) (l : List A) → All (λ x. P (g x)) l → All P (map g l)
unfolding All
all_mapped P g [] h = tt
all_mapped P g (x ∷ l) h = (h.0, all_mapped P g l h.1)

pub all_joined : {A : Type 0} (P : A → Type 0) (x y : List A) → All P x → All P y → All P (x ++ y)
unfolding All
all_joined P [] y p q = q
all_joined P (a ∷ x) y p q = (p.0, all_joined P x y p.1 q)
