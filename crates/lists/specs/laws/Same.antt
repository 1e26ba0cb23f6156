-- Laws: of two lists compared element by element, and the loop that does it.
use Rattle.std.specs.Prelude.{◌≡◌, refl, Bool, true, false, ◌&&◌, List, [], ◌∷◌, ℕ, ◌+◌, ◌≤◌, ◌<◌, length, get_or, drop}
use Rattle.std.proofs.Math.Path.{sym}
use Rattle.std.proofs.Common.{ap, ap₂, ◌∙◌, arith, add-one, drop_of_length-le, drop-cons}
use Rattle.std.proofs.lemmas.Bool.{not-true, not-false}
use Rattle.lists.specs.Same.{same_by}
use Rattle.lists.specs.laws.Both.{and_parts, and_both}
use Rattle.lists.specs.laws.Part.{unmapped}

-- a list and itself
pub same_self : {A : Type 0} (t : A → A → Bool) → ((x : A) → t x x ≡ true) → (l : List A) → same_by t l l ≡ true
unfolding same_by
same_self t h [] = refl
same_self t h (x ∷ l) = and_both (h x) (same_self t h l)

-- where t is true of equal elements alone, the comparison is of equal lists alone
pub same_is : {A : Type 0} (t : A → A → Bool) → ((x y : A) → t x y ≡ true → x ≡ y) → (x y : List A) → same_by t x y ≡ true → x ≡ y
unfolding same_by
same_is t h [] [] e = refl
same_is t h [] (b ∷ y) e = absurd (let z : ◌≡◌ {A = ℕ} 0 1 = cc in omega arith)
same_is t h (a ∷ x) [] e = absurd (let z : ◌≡◌ {A = ℕ} 0 1 = cc in omega arith)
same_is {A} t h (a ∷ x) (b ∷ y) e = let p = and_parts (t a b) (same_by t x y) e in ap₂ {C = List A} (λ (c : A) (l : List A). c ∷ l) (h a b p.0) (same_is t h x y p.1)

-- ---- the loop over two arrays of n elements: to go on from place i gives the answer
pub record SameInv {A : Type 0} (t : A → A → Bool) (d : A) (x y : List A) (n i : ℕ) : Type 0 where
  pub within : i ≤ n
  pub one : length x ≡ n
  pub two : length y ≡ n
  pub whole : same_by t (drop i x) (drop i y) ≡ same_by t x y

pub same_start : {A : Type 0} {t : A → A → Bool} {d : A} {x y : List A} {n : ℕ} → length x ≡ n → length y ≡ n → SameInv t d x y n 0
same_start p q = record { within = omega arith; one = p; two = q; whole = refl }

here : {A : Type 0} (d : A) (l : List A) (i : ℕ) → i < length l → drop i l ≡ get_or l i d ∷ drop (i + 1) l
here d l i h = drop-cons l i d h ∙ ap (λ (k : ℕ). get_or l i d ∷ drop k l) (sym (add-one i))

module _ {A : Type 0} {t : A → A → Bool} {d : A} {x y : List A} {n i : ℕ} (v : SameInv t d x y n i) where
  same_here : i < n → (t (get_or x i d) (get_or y i d) && same_by t (drop (i + 1) x) (drop (i + 1) y)) ≡ same_by t x y
  unfolding same_by
  same_here h = let a = v.one in let b = v.two in sym (ap₂ (same_by t) (here d x i (omega arith)) (here d y i (omega arith))) ∙ v.whole

  pub same_broken : {q : Bool} → i < n → q ≡ t (get_or x i d) (get_or y i d) → q ≡ false → false ≡ same_by t x y
  same_broken h e f = ap (λ (b : Bool). b && same_by t (drop (i + 1) x) (drop (i + 1) y)) (sym f ∙ e) ∙ same_here h

  pub same_next : {q : Bool} → i < n → q ≡ t (get_or x i d) (get_or y i d) → q ≡ true → SameInv t d x y n (i + 1)
  same_next h e f = record {
    within = omega arith;
    one = v.one;
    two = v.two;
    whole = ap (λ (b : Bool). b && same_by t (drop (i + 1) x) (drop (i + 1) y)) (sym f ∙ e) ∙ same_here h;
  }

  pub same_end : n ≤ i → true ≡ same_by t x y
  unfolding same_by
  same_end h =
      let a = v.one in let b = v.two in
      sym (ap₂ (same_by t) (drop_of_length-le x {i = i} (omega arith)) (drop_of_length-le y {i = i} (omega arith))) ∙ v.whole

pub ruleset sames = (same_start, same_broken, same_next, same_end, unmapped, not-true, not-false)
