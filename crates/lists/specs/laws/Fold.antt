-- Laws: one for every loop that goes through an array from the front and gathers a value.
use Rattle.std.specs.Prelude.{◌≡◌, List, ℕ, ◌+◌, ◌≤◌, ◌<◌, length, get_or, drop}
use Rattle.std.proofs.Common.{sym, ap, ◌∙◌, arith, add-one, drop_of_length-le, drop-cons}
use Rattle.lists.specs.Fold.{fold}

-- What such a loop keeps, with acc gathered before index i: to go on from there gives w. d is what an array's element is past its end.
pub record FoldInv {A B : Type 0} (f : B → A → B) (d : A) (l : List A) (n : ℕ) (w acc : B) (i : ℕ) : Type 0 where
  pub within : i ≤ n
  pub long : length l ≡ n
  pub whole : fold f acc (drop i l) ≡ w

-- from the front
pub fold_start : {A B : Type 0} {f : B → A → B} {d : A} {l : List A} {n : ℕ} {w r : B} → length l ≡ n → fold f r l ≡ w → FoldInv f d l n w r 0
fold_start e p = record { within = omega arith; long = e; whole = p }

module _ {A B : Type 0} {f : B → A → B} {d : A} {l : List A} {n : ℕ} {w acc : B} {i : ℕ} (v : FoldInv f d l n w acc i) where
  pub fold_next : {r : B} → i < n → r ≡ f acc (get_or l i d) → FoldInv f d l n w r (i + 1)
  fold_next {r} h e = record {
    within = omega arith;
    long = v.long;
    whole =
        ap (λ (x : B). fold f x (drop (i + 1) l)) e
        ∙ ap (λ (k : ℕ). fold f (f acc (get_or l i d)) (drop k l)) (add-one i)
        ∙ sym (ap (fold f acc) (drop-cons l i d (omega (arith, v.long)))) ∙ v.whole;
  }

  pub fold_end : n ≤ i → acc ≡ w
  fold_end h = sym (ap (fold f acc) (drop_of_length-le l {i = i} (omega (arith, v.long)))) ∙ v.whole
