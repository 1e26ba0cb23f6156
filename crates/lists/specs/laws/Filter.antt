-- Laws: of the elements that pass a test, and of the numbers of a list.
use Rattle.std.specs.Prelude.{◌≡◌, refl, Bool, not, true, false, List, [], ◌∷◌, ◌++◌, ℕ, suc, ◌+◌, ◌≤◌, ◌<◌, length, eqb}
use Rattle.std.proofs.Common.{sym, ap, ◌∙◌, subst, arith, eqb-true, eq-eqb}
use Rattle.lists.specs.Pick.{pick}
use Rattle.lists.specs.All.{All, all_by, pairs_by}
use Rattle.lists.specs.laws.All.{all_head, all_cons, pairs_head, pairs_cons}
use Rattle.lists.specs.Filter.{filter_by, is_in}
use Rattle.lists.specs.Place.{place_by}

-- ---- laws of filters
-- what holds of all holds of those that pass
pub filter_all : {A : Type 0} (t u : A → Bool) (l : List A) → all_by t l ≡ true → all_by t (filter_by u l) ≡ true
unfolding filter_by pick
filter_all t u [] h = h
filter_all {A} t u (x ∷ l) h = let a = all_head t x l h in go (u x) a.0 (filter_all t u l a.1)
  where
    go : (b : Bool) → t x ≡ true → all_by t (filter_by u l) ≡ true → all_by t (pick b (x ∷ filter_by u l) (filter_by u l)) ≡ true
    go true p q = all_cons t x (filter_by u l) p q
    go false p q = q

pub filter_pairs : {A : Type 0} (t : A → A → Bool) (u : A → Bool) (l : List A) → pairs_by t l ≡ true → pairs_by t (filter_by u l) ≡ true
unfolding filter_by pick
filter_pairs t u [] h = h
filter_pairs {A} t u (x ∷ l) h = let a = pairs_head t x l h in go (u x) (filter_all (t x) u l a.0) (filter_pairs t u l a.1)
  where
    go : (b : Bool) → all_by (t x) (filter_by u l) ≡ true → pairs_by t (filter_by u l) ≡ true → pairs_by t (pick b (x ∷ filter_by u l) (filter_by u l)) ≡ true
    go true p q = pairs_cons t x (filter_by u l) p q
    go false p q = q

-- those that pass the test pass it
pub filter_passes : {A : Type 0} (t : A → Bool) (l : List A) → all_by t (filter_by t l) ≡ true
unfolding filter_by pick all_by
filter_passes t [] = refl
filter_passes {A} t (x ∷ l) = go (t x) refl (filter_passes t l)
  where
    go : (b : Bool) → t x ≡ b → all_by t (filter_by t l) ≡ true → all_by t (pick b (x ∷ filter_by t l) (filter_by t l)) ≡ true
    go true e q = all_cons t x (filter_by t l) e q
    go false e q = q

-- where all pass, all stay
pub filter_none_out : {A : Type 0} (t : A → Bool) (l : List A) → all_by t l ≡ true → filter_by t l ≡ l
unfolding filter_by pick
filter_none_out t [] h = refl
filter_none_out {A} t (x ∷ l) h =
    let a = all_head t x l h in
    ap (λ (b : Bool). pick b (x ∷ filter_by t l) (filter_by t l)) a.0 ∙ ap {B = List A} (λ (r : List A). x ∷ r) (filter_none_out t l a.1)

pub filter_append : {A : Type 0} (t : A → Bool) (x y : List A) → filter_by t (x ++ y) ≡ filter_by t x ++ filter_by t y
unfolding filter_by pick
filter_append t [] y = refl
filter_append {A} t (a ∷ x) y = go (t a) (filter_append t x y)
  where
    go : (b : Bool) → filter_by t (x ++ y) ≡ filter_by t x ++ filter_by t y → pick b (a ∷ filter_by t (x ++ y)) (filter_by t (x ++ y)) ≡ pick b (a ∷ filter_by t x) (filter_by t x) ++ filter_by t y
    go true ih = ap {B = List A} (λ (r : List A). a ∷ r) ih
    go false ih = ih

-- a filter makes nothing longer
pub filter_length : {A : Type 0} (t : A → Bool) (l : List A) → length (filter_by t l) ≤ length l
unfolding filter_by pick
filter_length t [] = omega arith
filter_length {A} t (x ∷ l) = go (t x) (filter_length t l)
  where
    go : (b : Bool) → length (filter_by t l) ≤ length l → length (pick b (x ∷ filter_by t l) (filter_by t l)) ≤ suc (length l)
    go true ih = omega arith
    go false ih = omega arith

-- those that pass and those that don't are all
pub filter_both : {A : Type 0} (t : A → Bool) (l : List A) → length (filter_by t l) + length (filter_by (λ x. not (t x)) l) ≡ length l
unfolding filter_by pick
filter_both t [] = refl
filter_both t (x ∷ l) = go (t x) (filter_both t l)
  where
    go : (b : Bool) → length (filter_by t l) + length (filter_by (λ x. not (t x)) l) ≡ length l
        → length (pick b (x ∷ filter_by t l) (filter_by t l)) + length (pick (not b) (x ∷ filter_by (λ x. not (t x)) l) (filter_by (λ x. not (t x)) l)) ≡ suc (length l)
    go true h = omega arith
    go false h = omega arith

-- where one is found, fewer are left without its like
pub filter_fewer : {A : Type 0} (t : A → Bool) (l : List A) → place_by t l < length l → length (filter_by (λ x. not (t x)) l) < length l
unfolding place_by filter_by pick
filter_fewer t [] h = absurd (omega arith)
filter_fewer {A} t (x ∷ l) h = go (t x) h (filter_fewer t l)
  where
    go : (b : Bool) → pick b 0 (suc (place_by t l)) < suc (length l) → (place_by t l < length l → length (filter_by (λ x. not (t x)) l) < length l)
        → length (pick (not b) (x ∷ filter_by (λ x. not (t x)) l) (filter_by (λ x. not (t x)) l)) < suc (length l)
    go true h ih = let k = filter_length (λ x. not (t x)) l in omega arith
    go false h ih = let k = ih (omega arith) in omega arith

-- ---- laws of membership
-- a number is among those that pass where it is in the list and passes
pub in_filter : (a : ℕ) (t : ℕ → Bool) (l : List ℕ) → is_in a (filter_by t l) ≡ pick (t a) (is_in a l) false
unfolding is_in filter_by pick
in_filter a t [] = go (t a)
  where
    go : (b : Bool) → false ≡ pick b false false
    go true = refl
    go false = refl
in_filter a t (x ∷ l) = go (t x) refl (eqb a x) refl (in_filter a t l)
  where
    go : (b : Bool) → t x ≡ b → (c : Bool) → eqb a x ≡ c → is_in a (filter_by t l) ≡ pick (t a) (is_in a l) false
        → is_in a (pick b (x ∷ filter_by t l) (filter_by t l)) ≡ pick (t a) (pick c true (is_in a l)) false
    go true e true q ih =
        ap (λ (z : Bool). pick z true (is_in a (filter_by t l))) q ∙ sym (ap (λ (z : Bool). pick z true false) (ap t (eqb-true a x q) ∙ e))
    go true e false q ih = ap (λ (z : Bool). pick z true (is_in a (filter_by t l))) q ∙ ih
    go false e true q ih =
        let n : t a ≡ false = ap t (eqb-true a x q) ∙ e in
        ih ∙ ap (λ (z : Bool). pick z (is_in a l) false) n ∙ sym (ap (λ (z : Bool). pick z true false) n)
    go false e false q ih = ih

pub in_append : (a : ℕ) (x y : List ℕ) → is_in a (x ++ y) ≡ pick (is_in a x) true (is_in a y)
unfolding is_in pick
in_append a [] y = refl
in_append a (z ∷ x) y = go (eqb a z) (in_append a x y)
  where
    go : (c : Bool) → is_in a (x ++ y) ≡ pick (is_in a x) true (is_in a y) → pick c true (is_in a (x ++ y)) ≡ pick (pick c true (is_in a x)) true (is_in a y)
    go true ih = refl
    go false ih = ih

-- what holds of all holds of each number in the list, and the other way round
pub in_fact : (P : ℕ → Type 0) (l : List ℕ) (a : ℕ) → All P l → is_in a l ≡ true → P a
unfolding All is_in pick
in_fact P [] a h e = absurd (let z : ◌≡◌ {A = ℕ} 0 1 = cc in omega arith)
in_fact P (x ∷ l) a h e = go (eqb a x) refl e (in_fact P l a h.1)
  where
    go : (c : Bool) → eqb a x ≡ c → pick c true (is_in a l) ≡ true → (is_in a l ≡ true → P a) → P a
    go true q e ih = subst P (sym (eqb-true a x q)) h.0
    go false q e ih = ih e

pub facts_in : (P : ℕ → Type 0) (l : List ℕ) → ((x : ℕ) → is_in x l ≡ true → P x) → All P l
unfolding All is_in pick
facts_in P [] f = tt
facts_in P (x ∷ l) f = (f x (ap (λ (c : Bool). pick c true (is_in x l)) (eq-eqb x x refl)), facts_in P l (λ y e. f y (also y (eqb y x) e)))
  where
    also : (y : ℕ) (c : Bool) → is_in y l ≡ true → pick c true (is_in y l) ≡ true
    also y true e = refl
    also y false e = e
