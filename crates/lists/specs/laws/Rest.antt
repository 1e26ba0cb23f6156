-- Laws: a value gathered over what is left of a list; parts of an array up to a count, and from it on, whatever the count; neighbours.
use Rattle.std.specs.Prelude.{◌≡◌, Bool, true, false, leb, List, [], ◌∷◌, ℕ, ◌≤◌, min, length, take, drop}
use Rattle.std.proofs.Common.{sym, ap, ◌∙◌, refl, arith, drop_of_length-le, leb-true, leb-false}
use Rattle.lists.specs.Fold.{fold}
use Rattle.lists.specs.Pick.{pick}
use Rattle.lists.specs.All.{all_by, pairs_by}
use Rattle.lists.specs.Next.{next_by}
use Rattle.lists.specs.laws.Next.{next_is_pairs}
use Rattle.lists.specs.laws.Part.{cut_take}

pub rest_start : {A B : Type 0} (f : B → A → B) (l : List A) {n : ℕ} (acc : B) {w : B} (x k : ℕ) → n ≡ min x k → length l ≡ k → fold f acc (take x l) ≡ w → fold f acc (take n l) ≡ w
rest_start f l acc x k e g p = ap (λ (z : ℕ). fold f acc (take z l)) e ∙ ap (fold f acc) (cut_take k x l g) ∙ p

pub rest_end : {A B : Type 0} (f : B → A → B) (l : List A) (i : ℕ) {acc w : B} → length l ≤ i → fold f acc (drop i l) ≡ w → acc ≡ w
rest_end f l i {acc} h p = sym (ap (fold f acc) (drop_of_length-le l {i = i} h)) ∙ p

-- ---- a count past the end leaves nothing behind it
pub drop_cut : {A : Type 0} (x k n : ℕ) (l : List A) → n ≡ min x k → length l ≡ k → drop n l ≡ drop x l
drop_cut x k n l e g = go (leb x k) refl
  where
    go : (b : Bool) → leb x k ≡ b → drop n l ≡ drop x l
    go true p = let h = leb-true x k p in ap (λ (z : ℕ). drop z l) (let f : n ≡ x = omega arith in f)
    go false p = let h = leb-false x k p in drop_of_length-le l {i = n} (omega arith) ∙ sym (drop_of_length-le l {i = x} (omega arith))

pub all_behind : {A : Type 0} (t : A → Bool) (l : List A) {r : Bool} (x k n : ℕ) → r ≡ all_by t (drop n l) → n ≡ min x k → length l ≡ k → r ≡ all_by t (drop x l)
all_behind t l x k n p e g = p ∙ ap (all_by t) (drop_cut x k n l e g)

pub pairs_within : {A : Type 0} (t : A → A → Bool) (l : List A) {r : Bool} (x k n : ℕ) → r ≡ pairs_by t (take n l) → n ≡ min x k → length l ≡ k → r ≡ pairs_by t (take x l)
pairs_within t l x k n p e g = p ∙ ap (λ (z : ℕ). pairs_by t (take z l)) e ∙ ap (pairs_by t) (cut_take k x l g)

-- ---- neighbours
next_implies : {A : Type 0} (t u : A → A → Bool) → ((x y : A) → t x y ≡ true → u x y ≡ true) → (l : List A) → next_by t l ≡ true → next_by u l ≡ true
unfolding next_by pick
next_implies t u f [] h = refl
next_implies t u f (x ∷ []) h = refl
next_implies t u f (x ∷ y ∷ l) h = go (t x y) refl h (next_implies t u f (y ∷ l))
  where
    go : (b : Bool) → t x y ≡ b → pick b (next_by t (y ∷ l)) false ≡ true → (next_by t (y ∷ l) ≡ true → next_by u (y ∷ l) ≡ true) → pick (u x y) (next_by u (y ∷ l)) false ≡ true
    go true e p ih = ap (λ (b : Bool). pick b (next_by u (y ∷ l)) false) (f x y e) ∙ ih p
    go false e p ih = absurd (let z : ◌≡◌ {A = ℕ} 0 1 = cc in omega arith)

module _ {A : Type 0} (u : A → A → Bool) (trans : (x y z : A) → u x y ≡ true → u y z ≡ true → u x z ≡ true) (l : List A) (x k n : ℕ) (c : n ≡ min x k) (g : length l ≡ k) where
  pub next_within : {r : Bool} → r ≡ next_by u (take n l) → r ≡ pairs_by u (take x l)
  next_within e = pairs_within u l x k n (e ∙ next_is_pairs u trans (take n l)) c g

  -- a test that implies u may say so first
  pub next_first : (t : A → A → Bool) → ((a b : A) → t a b ≡ true → u a b ≡ true) → {r : Bool} → r ≡ next_by t (take n l) → r ≡ true → true ≡ pairs_by u (take x l)
  next_first t f e y = next_within (sym (next_implies t u f (take n l) (sym e ∙ y)))
