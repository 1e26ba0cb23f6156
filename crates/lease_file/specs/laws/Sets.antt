-- Laws: the offsets of a set written lowest first, each taken off the set.
use Rattle.std.specs.Prelude.{Bool, false, true, List, [], ◌++◌, ◌∷◌, ◌≡◌, refl, ◌%◌, ◌*◌, ◌+◌, ◌-◌, ◌<◌, ◌^◌, ◌≤◌, min, suc, zero, ℕ, ltb, length}
use Rattle.std.proofs.Common.{append_assoc, append-nil, ◌∙◌, ap, ap₂, sym, arith, length-append, ltb-false, ltb-true}
use Rattle.std.proofs.lemmas.Nat.{trailing_le}
use Rattle.std.specs.Int.Count.{count_trailing_zeros}
use Rattle.address_set.specs.AddressSet.{bit, difference_of, keep, offsets, offsets_from}
use Rattle.address_set.specs.laws.Bits.{bit_le, bit_pow_other, bit_pow_same, bit_without, offsets_cong, offsets_of_zero, offsets_step, without_le}
use Rattle.address_set.specs.laws.Offsets.{difference_without, shift_one}
use Rattle.address_set.proofs.Ranges.{trailing_fits, trailing_lt, trailing_one, trailing_zero}
use Rattle.octets.specs.Octets.{Wrote}
use Rattle.octets.specs.laws.Octets.{wrote_as, wrote_joined, wrote_none}

-- zeros add no offset
skip : (m at f k : ℕ) → ((a : ℕ) → at ≤ a → a < at + f → bit m a ≡ 0) → offsets_from m at (f + k) ≡ offsets_from m (at + f) k
unfolding offsets_from
skip m at zero k h = ap₂ (offsets_from m) (let e : at ≡ at + 0 = omega arith in e) (let e : 0 + k ≡ k = omega arith in e)
skip m at (suc f) k h =
    let e : suc f + k ≡ suc (f + k) = omega arith in
    ap (offsets_from m at) e ∙ ap (λ (b : ℕ). keep b at (offsets_from m (suc at) (f + k))) (h at (omega arith) (omega arith))
    ∙ skip m (suc at) f k (λ a p q. h a (omega arith) (omega arith)) ∙ ap (λ (x : ℕ). offsets_from m x k) (let q : suc at + f ≡ at + suc f = omega arith in q)

from : (m f : ℕ) → f ≤ 64 → ((a : ℕ) → a < f → bit m a ≡ 0) → offsets m ≡ offsets_from m f (64 - f)
from m f h z =
    ap (offsets_from m 0) (let q : 64 ≡ f + (64 - f) = omega arith in q)
    ∙ skip m 0 f (64 - f) (λ a g l. z a (omega arith)) ∙ ap (λ (x : ℕ). offsets_from m x (64 - f)) (let q : 0 + f ≡ f = omega arith in q)

module _ (m f : ℕ) (h : m < 2 ^ 64) (p : 0 < m) (e : f ≡ count_trailing_zeros 64 m) where
  first_small : f < 64
  first_small = let l = trailing_lt m h p in omega arith

  -- what is left when the lowest offset is taken off
  module _ (r : ℕ) (er : r ≡ difference_of m ((1 * 2 ^ f) % 2 ^ 64)) where
    left_bit : (a : ℕ) → bit r a ≡ bit m a - min (bit m a) (bit (2 ^ f) a)
    left_bit a =
        ap (λ (x : ℕ). bit x a) (er ∙ sym (difference_without m ((1 * 2 ^ f) % 2 ^ 64) h (let g : (1 * 2 ^ f) % 18446744073709551616 < 18446744073709551616 = omega arith in g)))
        ∙ bit_without m ((1 * 2 ^ f) % 2 ^ 64) a ∙ ap (λ (x : ℕ). bit m a - min (bit m a) (bit x a)) (shift_one f first_small)

    left_low : (a : ℕ) → a < f + 1 → bit r a ≡ 0
    left_low a g = go (ltb a f) refl
      where
        go : (b : Bool) → ltb a f ≡ b → bit r a ≡ 0
        go true q = let l = ltb-true a f q in let z = trailing_zero 64 m a (omega arith) in let b = left_bit a in omega arith
        go false q =
            let l = ltb-false a f q in
            let t : a ≡ f = omega arith in
            let b = left_bit a in let s : bit (2 ^ f) a ≡ 1 = ap (bit (2 ^ f)) t ∙ bit_pow_same f in let u = bit_le m a in omega arith

    left_high : (a : ℕ) → f + 1 ≤ a → bit m a ≡ bit r a
    left_high a g = let b = left_bit a in let z = bit_pow_other f a (λ q. absurd (omega arith)) in omega arith

    first_off : offsets m ≡ f ∷ offsets r
    first_off =
        from m f (let l = first_small in omega arith) (λ a g. trailing_zero 64 m a (omega arith))
        ∙ offsets_step m f first_small
        ∙ ap (λ (b : ℕ). keep b f (offsets_from m (f + 1) (64 - (f + 1)))) (ap (bit m) e ∙ trailing_one 64 m (trailing_lt m h p))
        ∙ ap {B = List ℕ} (λ (l : List ℕ). f ∷ l) (offsets_cong m r (f + 1) (64 - (f + 1)) left_high ∙ sym (from r (f + 1) (let l = first_small in omega arith) left_low))

-- ---- the loop
pub record OffsetsInv (set : ℕ) (r₀ : List ℕ) (at : ℕ) (buffer : List ℕ) (to left : ℕ) : Type 0 where
  pub done : List ℕ
  pub whole : offsets set ≡ done ++ offsets left
  pub wrote : Wrote r₀ at done buffer to
  pub fits : at + length (offsets set) ≤ length r₀
  pub kept : length buffer ≡ length r₀
  pub small : left < 2 ^ 64

pub offs_start : {set : ℕ} {r₀ : List ℕ} {at : ℕ} → set < 2 ^ 64 → at + length (offsets set) ≤ length r₀ → OffsetsInv set r₀ at r₀ at set
offs_start {set} {r₀} {at} s h = record { done = []; whole = refl; wrote = wrote_none r₀ at; fits = h; kept = refl; small = s }

pub offs_end : {set : ℕ} {r₀ : List ℕ} {at : ℕ} {buffer : List ℕ} {to left : ℕ} → OffsetsInv set r₀ at buffer to left → left ≤ 0 → Wrote r₀ at (offsets set) buffer to
offs_end {left = left} v h = wrote_as (sym (v.whole ∙ ap (λ (x : ℕ). v.done ++ offsets x) (let e : left ≡ 0 = omega arith in e) ∙ ap (λ (l : List ℕ). v.done ++ l) (offsets_of_zero 0 64) ∙ append-nil v.done)) v.wrote

module _ {set : ℕ} {r₀ : List ℕ} {at : ℕ} {buffer : List ℕ} {to left : ℕ} (v : OffsetsInv set r₀ at buffer to left) (h : 0 < left) where
  some : 0 < length (offsets left)
  some = omega (arith, ap length (first_off left (count_trailing_zeros 64 left) v.small h refl _ refl))

  pub offs_shift : count_trailing_zeros 64 left < 64
  offs_shift = trailing_lt left v.small h

  pub offs_room : to + 1 ≤ length buffer
  offs_room =
      let l = ap length v.whole in let a = length-append v.done (offsets left) in let w = v.wrote.next in let k = v.kept in let g = v.fits in let o = some in omega arith

  module _ (x : ℕ) (ex : x ≡ difference_of left ((1 * 2 ^ count_trailing_zeros 64 left) % 2 ^ 64)) where
    pub offs_less : length (offsets x) < length (offsets left)
    offs_less = omega (arith, ap length (first_off left (count_trailing_zeros 64 left) v.small h refl x ex))

    pub offs_next : {r₁ : List ℕ} {k : ℕ} → Wrote buffer to (count_trailing_zeros 64 left ∷ []) r₁ k → length r₁ ≡ length buffer → OffsetsInv set r₀ at r₁ k x
    offs_next w l = record {
      done = v.done ++ count_trailing_zeros 64 left ∷ [];
      whole = v.whole ∙ ap (λ (y : List ℕ). v.done ++ y) (first_off left (count_trailing_zeros 64 left) v.small h refl x ex) ∙ sym (append_assoc v.done (count_trailing_zeros 64 left ∷ []) (offsets x));
      wrote = wrote_joined (let g = v.fits in omega arith) v.wrote w;
      fits = v.fits;
      kept = l ∙ v.kept;
      small =
          let e = ex ∙ sym (difference_without left ((1 * 2 ^ count_trailing_zeros 64 left) % 2 ^ 64) v.small (let g : (1 * 2 ^ count_trailing_zeros 64 left) % 18446744073709551616 < 18446744073709551616 = omega arith in g)) in
          let q = without_le left ((1 * 2 ^ count_trailing_zeros 64 left) % 2 ^ 64) in let m = v.small in omega arith;
    }

pub trailing_octet : (m : ℕ) → count_trailing_zeros 64 m < 256
trailing_octet m = let l = trailing_le 64 m in omega arith

pub ruleset offset_loop = (offs_shift, trailing_fits, trailing_octet, offs_start, offs_end, offs_room, offs_less, offs_next)
