-- Laws: one for every loop that writes a list s into a list d from `at` on, one element a turn.
use Rattle.std.specs.Prelude.{◌≡◌, List, ◌++◌, ℕ, ◌+◌, ◌≤◌, ◌<◌, length, get_or, set, take, drop}
use Rattle.std.proofs.Common.{sym, ap, ◌∙◌, subst, append-nil, arith, zero-add, add-one, drop_of_length-le, take_all}
use Rattle.std.proofs.Math.Seq.{paste, paste-zero, paste-suc}

-- What such a loop keeps: i elements are written, and now is the list. z is what an element is past a list's end.
pub record CopyInv {A : Type 0} (z : A) (d : List A) (at : ℕ) (s : List A) (n : ℕ) (now : List A) (i : ℕ) : Type 0 where
  pub within : i ≤ n
  pub fits : at + n ≤ length d
  pub enough : n ≤ length s
  pub whole : now ≡ paste d at s i

pub copy_start : {A : Type 0} {z : A} {d : List A} {at : ℕ} {s : List A} {n : ℕ} (m k : ℕ) → length d ≡ m → length s ≡ k → at + n ≤ m → n ≤ k → CopyInv z d at s n d 0
copy_start {d = d} {at = at} {s = s} m k p q h g = record { within = omega arith; fits = omega arith; enough = omega arith; whole = paste-zero d at s }

module _ {A : Type 0} {z : A} {d : List A} {at : ℕ} {s : List A} {n : ℕ} {now : List A} {i : ℕ} (v : CopyInv z d at s n now i) where
  pub copy_next : (x : A) → i < n → x ≡ get_or s i z → CopyInv z d at s n (set now (at + i) x) (i + 1)
  copy_next x h e = record {
    within = omega arith;
    fits = v.fits;
    enough = v.enough;
    whole =
        ap (λ (y : A). set now (at + i) y) e
        ∙ ap (λ (l : List A). set l (at + i) (get_or s i z)) v.whole
        ∙ paste-suc d at s i z (omega (arith, v.fits)) (omega (arith, v.enough))
        ∙ ap (paste d at s) (sym (add-one i));
  }

  pub copy_end : n ≤ i → now ≡ paste d at s n
  copy_end h = let e : i ≡ n = omega arith in v.whole ∙ ap (paste d at s) e

  pub copy_paste : n ≤ i → length s ≡ n → now ≡ take at d ++ s ++ drop (at + n) d
  copy_paste h e = copy_end h ∙ ap (λ (l : List A). take at d ++ l ++ drop (at + n) d) (take_all n s (omega arith))

-- the same from the front
module _ {A : Type 0} {z : A} {d : List A} {s : List A} {n : ℕ} {now : List A} {i : ℕ} (v : CopyInv z d 0 s n now i) where
  pub copy_front : (x : A) → i < n → x ≡ get_or s i z → CopyInv z d 0 s n (set now i x) (i + 1)
  copy_front x h e = subst (λ (k : ℕ). CopyInv z d 0 s n (set now k x) (i + 1)) (zero-add i) (copy_next v x h e)

  pub copy_full : n ≤ i → length d ≡ n → now ≡ take n s
  copy_full h e = copy_end v h ∙ ap (λ (l : List A). take n s ++ l) (drop_of_length-le d {i = 0 + n} (omega arith)) ∙ append-nil (take n s)
