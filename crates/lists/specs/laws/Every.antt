-- Laws: the loops that test the elements of a list, where an element at hand stands in for a filler.
use Rattle.std.specs.Prelude.{◌≡◌, Bool, true, false, List, [], ◌∷◌, ℕ, ◌+◌, ◌-◌, ◌≤◌, ◌<◌, length, get_or, take, drop}
use Rattle.std.proofs.Common.{sym, ap, ap₂, ◌∙◌, refl, arith, add-one, drop-cons, drop_of_length-le, length-drop, take_all}
use Rattle.lists.specs.Pick.{pick}
use Rattle.lists.specs.All.{all_by, pairs_by}
use Rattle.lists.specs.Next.{next_by}

-- what is left at a place
left_at : {A : Type 0} (l : List A) (i : ℕ) (x : A) → i < length l → x ≡ get_or l i x → drop i l ≡ x ∷ drop (i + 1) l
left_at {A} l i x h e = drop-cons l i x h ∙ ap₂ {C = List A} (λ (y : A) (k : ℕ). y ∷ drop k l) (sym e) (sym (add-one i))

module _ {A : Type 0} (t : A → Bool) (l : List A) (j : ℕ) (y : A) (h : j < length l) (e : y ≡ get_or l j y) where
  all_left : {q : Bool} → q ≡ t y → pick q (all_by t (drop (j + 1) l)) false ≡ all_by t (drop j l)
  unfolding all_by
  all_left f = ap (λ (b : Bool). pick b (all_by t (drop (j + 1) l)) false) f ∙ sym (ap (all_by t) (left_at l j y h e))

  pub each_next : {q w : Bool} → q ≡ t y → q ≡ true → all_by t (drop j l) ≡ w → all_by t (drop (j + 1) l) ≡ w
  unfolding pick
  each_next f g p = ap (λ (b : Bool). pick b (all_by t (drop (j + 1) l)) false) (sym g) ∙ all_left f ∙ p

  pub each_broken : {q w : Bool} → q ≡ t y → q ≡ false → all_by t (drop j l) ≡ w → false ≡ w
  unfolding pick
  each_broken f g p = ap (λ (b : Bool). pick b (all_by t (drop (j + 1) l)) false) (sym g) ∙ all_left f ∙ p

  -- the same in a row of pairs, of which r is what the rows behind it give
  pub row_next : (r : Bool) {q w : Bool} → q ≡ t y → q ≡ true → pick (all_by t (drop j l)) r false ≡ w → pick (all_by t (drop (j + 1) l)) r false ≡ w
  row_next r f g p = ap (λ (b : Bool). pick b r false) (each_next f g refl) ∙ p

  pub row_broken : (r : Bool) {q w : Bool} → q ≡ t y → q ≡ false → pick (all_by t (drop j l)) r false ≡ w → false ≡ w
  unfolding pick
  row_broken r f g p = ap (λ (b : Bool). pick b r false) (each_broken f g refl) ∙ p

pub each_ended : {A : Type 0} (t : A → Bool) (l : List A) (j : ℕ) {w : Bool} → length l ≤ j → all_by t (drop j l) ≡ w → true ≡ w
unfolding all_by
each_ended t l j h p = sym (ap (all_by t) (drop_of_length-le l {i = j} h)) ∙ p

-- the pairs that x at place i begins, with what stands from place k on, and those of what is behind it
pub row_open : {A : Type 0} (t : A → A → Bool) (l : List A) (i : ℕ) (x : A) {k : ℕ} {w : Bool} → k ≡ i + 1 → i < length l → x ≡ get_or l i x → pairs_by t (drop i l) ≡ w
    → pick (all_by (t x) (take (length l - k) (drop k l))) (pairs_by t (drop (i + 1) l)) false ≡ w
unfolding pairs_by
row_open {A} t l i x n h e p =
    ap (λ (k : ℕ). pick (all_by (t x) (take (length l - k) (drop k l))) (pairs_by t (drop (i + 1) l)) false) n
    ∙ ap (λ (r : List A). pick (all_by (t x) r) (pairs_by t (drop (i + 1) l)) false) (take_all (length l - (i + 1)) (drop (i + 1) l) (omega (arith, length-drop (i + 1) l)))
    ∙ sym (ap (pairs_by t) (left_at l i x h e)) ∙ p

pub row_ended : {A : Type 0} (t : A → Bool) (l : List A) (j : ℕ) {r w : Bool} → length l ≤ j → pick (all_by t (drop j l)) r false ≡ w → r ≡ w
unfolding pick
row_ended t l j {r} h p = ap (λ (b : Bool). pick b r false) (each_ended t l j h refl) ∙ p

pub pairs_ended : {A : Type 0} (t : A → A → Bool) (l : List A) (i : ℕ) {w : Bool} → length l ≤ i → pairs_by t (drop i l) ≡ w → true ≡ w
unfolding pairs_by
pairs_ended t l i h p = sym (ap (pairs_by t) (drop_of_length-le l {i = i} h)) ∙ p

-- ---- each element with the next one
module _ {A : Type 0} (t : A → A → Bool) (l : List A) (i : ℕ) (x y : A) (a : 1 ≤ i) (h : i < length l) (d : x ≡ get_or l (i - 1) x) (e : y ≡ get_or l i y) where
  near_left : {q : Bool} → q ≡ t x y → pick q (next_by t (drop i l)) false ≡ next_by t (drop (i - 1) l)
  unfolding next_by
  near_left f =
      let back : i - 1 + 1 ≡ i = omega (arith, a) in
      let here : drop i l ≡ y ∷ drop (i + 1) l = left_at l i y h e in
      ap₂ (λ (b : Bool) (r : List A). pick b (next_by t r) false) f here
      ∙ sym (ap (next_by t) (left_at l (i - 1) x (omega (arith, a, h)) d ∙ ap (λ (k : ℕ). x ∷ drop k l) back ∙ ap {B = List A} (λ (r : List A). x ∷ r) here))

  pub near_next : {q w : Bool} → q ≡ t x y → q ≡ true → next_by t (drop (i - 1) l) ≡ w → next_by t (drop (i + 1 - 1) l) ≡ w
  unfolding pick
  near_next f g p = let same : i + 1 - 1 ≡ i = omega arith in ap (λ (k : ℕ). next_by t (drop k l)) same ∙ ap (λ (b : Bool). pick b (next_by t (drop i l)) false) (sym g) ∙ near_left f ∙ p

  pub near_broken : {q w : Bool} → q ≡ t x y → q ≡ false → next_by t (drop (i - 1) l) ≡ w → false ≡ w
  unfolding pick
  near_broken f g p = ap (λ (b : Bool). pick b (next_by t (drop i l)) false) (sym g) ∙ near_left f ∙ p

short : {A : Type 0} (t : A → A → Bool) (l : List A) → length l ≤ 1 → next_by t l ≡ true
unfolding next_by
short t [] h = refl
short t (x ∷ []) h = refl
short t (x ∷ y ∷ l) h = absurd (omega arith)

pub near_ended : {A : Type 0} (t : A → A → Bool) (l : List A) (i : ℕ) {w : Bool} → length l ≤ i → next_by t (drop (i - 1) l) ≡ w → true ≡ w
near_ended t l i h p = sym (short t (drop (i - 1) l) (omega (arith, length-drop (i - 1) l, h))) ∙ p
