-- Laws: one for every loop that fills an array from the front with the values of a row and leaves the rest as it was.
use Rattle.std.specs.Prelude.{List, ◌++◌, ◌≡◌, ◌+◌, ◌-◌, ◌<◌, ◌≤◌, suc, zero, ℕ, drop, get_or, length, replicate, set}
use Rattle.std.proofs.Common.{◌∙◌, ap, subst, sym, zero-add, arith, length-set}
use Rattle.std.proofs.lemmas.List.{length-replicate}
use Rattle.lists.specs.Row.{laid_row}
use Rattle.lists.specs.laws.Copy.{CopyInv, copy_front, copy_paste, copy_start}

drop_replicate : {A : Type 0} (z : A) (n k : ℕ) → drop n (replicate k z) ≡ replicate (k - n) z
drop_replicate z zero k = ap (λ (j : ℕ). replicate j z) (let e : k ≡ k - 0 = omega arith in e)
drop_replicate z (suc n) zero = ap (λ (j : ℕ). replicate j z) (let e : 0 ≡ 0 - suc n = omega arith in e)
drop_replicate z (suc n) (suc k) = drop_replicate z n k ∙ ap (λ (j : ℕ). replicate j z) (let e : k - n ≡ suc k - suc n = omega arith in e)

pub record PadInv {A : Type 0} (z : A) (m : ℕ) (l : List A) (n : ℕ) (out : List A) (i : ℕ) : Type 0 where
  pub within : i ≤ n
  pub small : n ≤ m
  pub long : length l ≡ n
  pub kept : length out ≡ m
  pub copy : CopyInv z (replicate m z) 0 l n out i

pub pad_start : {A : Type 0} (z y : A) (m n : ℕ) (l : List A) → y ≡ z → n ≤ m → length l ≡ n → PadInv z m l n (replicate m y) 0
pad_start z y m n l e h g =
    subst (λ x. PadInv z m l n (replicate m x) 0) (sym e)
    (record { within = omega arith; small = h; long = g; kept = length-replicate m z; copy = copy_start m n (length-replicate m z) g (omega arith) (omega arith) })

module _ {A : Type 0} {z : A} {m : ℕ} {l : List A} {n : ℕ} {out : List A} {i : ℕ} (v : PadInv z m l n out i) where
  pub pad_next : (x : A) → i < n → x ≡ get_or l i z → PadInv z m l n (set out i x) (i + 1)
  pad_next x h e = record { within = omega arith; small = v.small; long = v.long; kept = length-set out i x ∙ v.kept; copy = copy_front v.copy x h e }

  pub pad_end : n ≤ i → out ≡ laid_row z m l
  pad_end h = copy_paste v.copy h v.long ∙ ap (λ (r : List A). l ++ r) (ap (λ (j : ℕ). drop j (replicate m z)) (zero-add n ∙ sym v.long) ∙ drop_replicate z (length l) m)
