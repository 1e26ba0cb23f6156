-- Laws: of sets as bits of a number.
use Rattle.std.specs.Prelude.{ℕ, zero, suc, ◌+◌, ◌-◌, ◌/◌, ◌%◌, ◌^◌, ◌*◌, ◌≤◌, ◌<◌, min, max, Bool, true, false, List, [], ◌∷◌, ◌++◌, eqb, length, take, ◌≡◌, refl}
use Rattle.std.specs.Int.Bits.{bit_or, bit_and, or_step, and_step, or_zero_r}
use Rattle.std.proofs.lemmas.Nat.{or_shr, and_shr, and_le_l, or_lt, and_le_r}
use Rattle.std.proofs.Common.{length-take, ap₂, ◌∙◌, subst, eqb-true, one-mul, pow-suc, div-one, mul_comm, le_of_suc-le-suc, lt_of_le_of_lt, lt_of_lt_of_le, add-zero, pow_mono, shl_exact, add-one, sub-one}
use Rattle.lists.specs.Filter.{filter_by, is_in}
use Rattle.std.proofs.Math.Path.{sym, ap}
use Rattle.std.proofs.lemmas.Bool.{eqb-false}
use Rattle.std.proofs.Math.Nat.{div-div-eq-div-mul, div-eq_of_lt}
use native.Mathlib.Omega.{arith}
use Rattle.std.proofs.Math.Arith.{digits_mod}
use Rattle.std.specs.Int.Count.{ones, ones_step}
use Rattle.std.proofs.Math.Seq.{take-nil}
use Rattle.address_set.specs.AddressSet.{bit, keep, offsets_from, offsets, set_of, lowest_of, chosen}

-- ---- bit forms, which proofs calculate with
-- the offsets of m that are not in n
unfoldable pub without : ℕ → ℕ → ℕ
without m n = m - bit_and m n

pub bit_le : (m a : ℕ) → bit m a ≤ 1
unfolding bit
bit_le m a = omega arith

pub bit_zero : (m : ℕ) → bit m 0 ≡ m % 2
unfolding bit
bit_zero m = ap (λ (x : ℕ). x % 2) (div-one m)

pub bit_suc : (m a : ℕ) → bit m (suc a) ≡ bit (m / 2) a
unfolding bit
bit_suc m a = ap (λ (x : ℕ). m / x % 2) (pow-suc 2 a ∙ mul_comm (2 ^ a) 2) ∙ ap (λ (x : ℕ). x % 2) (sym (div-div-eq-div-mul m 2 (2 ^ a)))

pub or_bit : (m n a : ℕ) → bit (bit_or m n) a ≡ max (bit m a) (bit n a)
unfolding bit
or_bit m n a =
    ap (λ (x : ℕ). x % 2) (or_shr m n a ∙ or_step (m / 2 ^ a) (n / 2 ^ a))
    ∙ digits_mod _ (omega arith)

pub and_bit : (m n a : ℕ) → bit (bit_and m n) a ≡ min (bit m a) (bit n a)
unfolding bit
and_bit m n a =
    ap (λ (x : ℕ). x % 2) (and_shr m n a ∙ and_step (m / 2 ^ a) (n / 2 ^ a))
    ∙ digits_mod _ (omega arith)

pub half_lt : (m k : ℕ) → m < 2 ^ suc k → m / 2 < 2 ^ k
half_lt m k h = let e = pow-suc 2 k in omega arith

-- two numbers of k bits are equal where their bits are
pub bit_ext : (k m n : ℕ) → m < 2 ^ k → n < 2 ^ k → ((a : ℕ) → a < k → bit m a ≡ bit n a) → m ≡ n
bit_ext zero m n hm hn h = omega arith
bit_ext (suc k) m n hm hn h =
    let lo : m % 2 ≡ n % 2 = sym (bit_zero m) ∙ h 0 (omega arith) ∙ bit_zero n in
    let hi : m / 2 ≡ n / 2 =
    bit_ext k (m / 2) (n / 2) (half_lt m k hm) (half_lt n k hn)
    (λ a p. sym (bit_suc m a) ∙ h (suc a) (omega arith) ∙ bit_suc n a) in
    omega arith

-- no bit, no number
pub bit_of_zero : (a : ℕ) → bit 0 a ≡ 0
bit_of_zero zero = bit_zero 0
bit_of_zero (suc a) = bit_suc 0 a ∙ bit_of_zero a

-- m & !n, as the code may write it: m - (m & n)
step_without : (m n : ℕ) → without m n ≡ without (m / 2) (n / 2) * 2 + (m % 2 - min (m % 2) (n % 2))
unfolding without
step_without m n =
    let s = and_step m n in
    let l = and_le_l (m / 2) (n / 2) in
    omega arith

pub bit_without : (m n a : ℕ) → bit (without m n) a ≡ bit m a - min (bit m a) (bit n a)
bit_without m n zero =
    let s = step_without m n in let x = bit_zero (without m n) in let y = bit_zero m in let z = bit_zero n in omega arith
bit_without m n (suc a) =
    let s = step_without m n in
    let h : without m n / 2 ≡ without (m / 2) (n / 2) = omega arith in
    bit_suc (without m n) a ∙ ap (λ (x : ℕ). bit x a) h ∙ bit_without (m / 2) (n / 2) a
    ∙ ap₂ (λ (x y : ℕ). x - min x y) (sym (bit_suc m a)) (sym (bit_suc n a))

-- !n of k bits
pub bit_not : (k n a : ℕ) → n < 2 ^ k → a < k → bit ((2 ^ k - 1) - n) a ≡ 1 - bit n a
bit_not zero n a hn ha = elim ha [ ]
bit_not (suc k) n zero hn ha = let e = pow-suc 2 k in let x = bit_zero ((2 ^ suc k - 1) - n) in let y = bit_zero n in omega arith
bit_not (suc k) n (suc a) hn ha =
    let e = pow-suc 2 k in
    let h : ((2 ^ suc k - 1) - n) / 2 ≡ (2 ^ k - 1) - n / 2 = omega arith in
    bit_suc ((2 ^ suc k - 1) - n) a ∙ ap (λ (x : ℕ). bit x a) h ∙ bit_not k (n / 2) a (half_lt n k hn) (le_of_suc-le-suc ha)
    ∙ ap (λ (x : ℕ). 1 - x) (sym (bit_suc n a))

lt_pow : (n : ℕ) → n < 2 ^ n
lt_pow zero = omega arith
lt_pow (suc n) = let e = pow-suc 2 n in let h = lt_pow n in omega arith

-- any two numbers are equal where their bits are
pub bit_eq : (m n : ℕ) → ((a : ℕ) → bit m a ≡ bit n a) → m ≡ n
bit_eq m n h =
    bit_ext (m + n) m n (lt_of_lt_of_le (lt_pow m) (pow_mono (omega arith))) (lt_of_lt_of_le (lt_pow n) (pow_mono (omega arith))) (λ a p. h a)

pub or_assoc : (x y z : ℕ) → bit_or (bit_or x y) z ≡ bit_or x (bit_or y z)
or_assoc x y z = bit_eq _ _ (λ a. simp or_bit (omega arith))

pub and_or : (x y z : ℕ) → bit_and x (bit_or y z) ≡ bit_or (bit_and x y) (bit_and x z)
and_or x y z = bit_eq _ _ (λ a. simp (or_bit, and_bit) (omega arith))

-- the number of bits, as `count_ones` gives it, is the number of offsets
length_keep : (b a : ℕ) (l : List ℕ) → b ≤ 1 → length (keep b a l) ≡ b + length l
length_keep zero a l h = omega arith
length_keep (suc b) a l h = omega arith

pub shr_suc : (m at : ℕ) → m / 2 ^ suc at ≡ m / 2 ^ at / 2
shr_suc m at = ap (λ (x : ℕ). m / x) (pow-suc 2 at) ∙ sym (div-div-eq-div-mul m (2 ^ at) 2)

pub ones_offsets_from : (m at k : ℕ) → m < 2 ^ (at + k) → length (offsets_from m at k) ≡ ones (m / 2 ^ at)
unfolding offsets_from bit ones
ones_offsets_from m at zero h = ap ones (sym (div-eq_of_lt (subst (λ (x : ℕ). m < 2 ^ x) (add-zero at) h)))
ones_offsets_from m at (suc k) h =
    length_keep (bit m at) at (offsets_from m (suc at) k) (bit_le m at)
    ∙ ap (λ (x : ℕ). bit m at + x) (ones_offsets_from m (suc at) k (subst (λ (x : ℕ). m < 2 ^ x) (omega arith) h) ∙ ap ones (shr_suc m at))
    ∙ sym (ones_step (m / 2 ^ at))

pub ones_offsets : (m : ℕ) → m < 2 ^ 64 → ones m ≡ length (offsets m)
ones_offsets m h = sym (ones_offsets_from m 0 64 h ∙ ap ones (div-one m))

pub without_le : (m n : ℕ) → without m n ≤ m
unfolding without
without_le m n = omega arith

pub and_not : (k m n : ℕ) → m < 2 ^ k → n < 2 ^ k → bit_and m ((2 ^ k - 1) - n) ≡ without m n
and_not k m n hm hn =
    bit_ext k _ _ (lt_of_le_of_lt (and_le_l m _) hm) (lt_of_le_of_lt (without_le m n) hm)
    (λ a p. rw (and_bit, bit_not k n a hn p, bit_without) (let u = bit_le m a in let v = bit_le n a in omega arith))

-- ---- the lowest n offsets, one offset at a time

pub offsets_step : (m at : ℕ) → at < 64 → offsets_from m at (64 - at) ≡ keep (bit m at) at (offsets_from m (at + 1) (64 - (at + 1)))
unfolding offsets_from
offsets_step m at h =
    let e : 64 - at ≡ suc (64 - (at + 1)) = omega arith in
    ap (offsets_from m at) e ∙ ap (λ (x : ℕ). keep (bit m at) at (offsets_from m x (64 - (at + 1)))) (sym (add-one at))

-- the next offset is not in the set
pub low_skip : (m at n : ℕ) → at < 64 → bit m at ≤ 0
    → set_of (take n (offsets_from m at (64 - at))) ≡ set_of (take n (offsets_from m (at + 1) (64 - (at + 1))))
low_skip m at n h z = ap (λ (l : List ℕ). set_of (take n l)) (offsets_step m at h ∙ go (bit m at) (offsets_from m (at + 1) (64 - (at + 1))) z)
  where
    go : (b : ℕ) (l : List ℕ) → b ≤ 0 → keep b at l ≡ l
    go zero l h = refl
    go (suc b) l h = absurd (omega arith)

-- none are wanted
pub low_none : (l l' : List ℕ) (n : ℕ) → n ≤ 0 → set_of (take n l) ≡ set_of (take n l')
low_none l l' zero h = refl
low_none l l' (suc n) h = absurd (omega arith)

-- it is in the set and wanted
pub low_take : (m at n : ℕ) → at < 64 → 0 < bit m at → 0 < n
    → set_of (take n (offsets_from m at (64 - at))) ≡ bit_or (2 ^ at) (set_of (take (n - 1) (offsets_from m (at + 1) (64 - (at + 1)))))
unfolding set_of
low_take m at n h p q = ap (λ (l : List ℕ). set_of (take n l)) (offsets_step m at h) ∙ go (bit m at) n (offsets_from m (at + 1) (64 - (at + 1))) p q
  where
    go : (b n : ℕ) (l : List ℕ) → 0 < b → 0 < n → set_of (take n (keep b at l)) ≡ bit_or (2 ^ at) (set_of (take (n - 1) l))
    go zero n l h g = absurd (omega arith)
    go (suc b) zero l h g = absurd (omega arith)
    go (suc b) (suc n) l h g = ap (λ (x : ℕ). bit_or (2 ^ at) (set_of (take x l))) (sym (sub-one (suc n)))

-- what the loop of `lowest` keeps: what it took and what it will take make the answer
pub record LowInv (mask n out left at : ℕ) : Type 0 where
  pub within : at ≤ 64
  pub whole : bit_or out (set_of (take left (offsets_from mask at (64 - at)))) ≡ set_of (take n (offsets mask))

pub low_inv_start : (mask n : ℕ) → LowInv mask n 0 n 0
low_inv_start mask n = record { within = omega arith; whole = refl }

module _ {mask n out left at : ℕ} (v : LowInv mask n out left at) where
  pub low_inv_skip : at < 64 → bit mask at ≤ 0 → LowInv mask n out left (at + 1)
  low_inv_skip h z = record { within = omega arith; whole = ap (bit_or out) (sym (low_skip mask at left h z)) ∙ v.whole }

  pub low_inv_none : at < 64 → left ≤ 0 → LowInv mask n out left (at + 1)
  low_inv_none h z = record { within = omega arith; whole = ap (bit_or out) (low_none _ _ left z) ∙ v.whole }

  pub low_inv_take : at < 64 → 0 < bit mask at → 0 < left → LowInv mask n (bit_or out ((1 * 2 ^ at) % 2 ^ 64)) (left - 1) (at + 1)
  low_inv_take h p q = record {
    within = omega arith;
    whole =
        ap (λ (x : ℕ). bit_or (bit_or out x) (set_of (take (left - 1) (offsets_from mask (at + 1) (64 - (at + 1)))))) (shl_exact {a = 1} 1 at 64 (omega arith) (omega arith) ∙ one-mul (2 ^ at))
        ∙ or_assoc out (2 ^ at) _ ∙ ap (bit_or out) (sym (low_take mask at left h p q)) ∙ v.whole;
  }

  pub low_inv_end : 64 ≤ at → out ≡ set_of (take n (offsets mask))
  unfolding set_of offsets_from
  low_inv_end h =
      let e : 64 - at ≡ 0 = omega arith in
      sym (or_zero_r out) ∙ ap (bit_or out) (sym (ap set_of (take-nil left))) ∙ ap (λ (k : ℕ). bit_or out (set_of (take left (offsets_from mask at k)))) (sym e) ∙ v.whole

pub ruleset lows = (low_inv_start, low_inv_take, low_inv_none, low_inv_skip, low_inv_end)

-- ---- sets of lists

pub set_of_append : (x y : List ℕ) → set_of (x ++ y) ≡ bit_or (set_of x) (set_of y)
unfolding set_of
set_of_append [] y = refl
set_of_append (a ∷ x) y = ap (bit_or (2 ^ a)) (set_of_append x y) ∙ sym (or_assoc (2 ^ a) (set_of x) (set_of y))

pub take_append : {A : Type 0} (k : ℕ) (x y : List A) → take k (x ++ y) ≡ take k x ++ take (k - length x) y
take_append {A} k [] y =
    let e : k ≡ k - 0 = omega arith in
    ap₂ {C = List A} (λ (p : List A) (n : ℕ). p ++ take n y) (sym (take-nil k)) e
take_append zero (a ∷ x) y = let e : 0 ≡ 0 - suc (length x) = omega arith in ap (λ (n : ℕ). take n y) e
take_append {A} (suc k) (a ∷ x) y =
    let e : k - length x ≡ suc k - suc (length x) = omega arith in
    ap {B = List A} (λ (r : List A). a ∷ r) (take_append k x y ∙ ap (λ (n : ℕ). take k x ++ take n y) e)

-- the two passes
pub chosen_is : (k own nobodys : ℕ) → set_of (chosen k own nobodys) ≡ bit_or (lowest_of own k) (lowest_of nobodys (k - length (offsets own)))
chosen_is k own nobodys = ap set_of (take_append k (offsets own) (offsets nobodys)) ∙ set_of_append _ _

-- ---- the bits of the lowest n

pub bit_pow_same : (b : ℕ) → bit (2 ^ b) b ≡ 1
bit_pow_same zero = bit_zero 1
bit_pow_same (suc b) = bit_suc (2 ^ suc b) b ∙ ap (λ (x : ℕ). bit x b) (half b) ∙ bit_pow_same b
  where
    half : (b : ℕ) → 2 ^ suc b / 2 ≡ 2 ^ b
    half b = let e = pow-suc 2 b in omega arith

pub bit_pow_other : (b a : ℕ) → (a ≡ b → ⊥) → bit (2 ^ b) a ≡ 0
bit_pow_other zero zero h = absurd (h refl)
bit_pow_other zero (suc a) h = bit_suc 1 a ∙ bit_of_zero a
bit_pow_other (suc b) zero h = let e = pow-suc 2 b in bit_zero (2 ^ suc b) ∙ omega arith
bit_pow_other (suc b) (suc a) h =
    let e = pow-suc 2 b in let f : 2 ^ suc b / 2 ≡ 2 ^ b = omega arith in
    bit_suc (2 ^ suc b) a ∙ ap (λ (x : ℕ). bit x a) f ∙ bit_pow_other b a (λ q. h (ap suc q))

-- none below the first
low_below : (m at k n a : ℕ) → a < at → bit (set_of (take n (offsets_from m at k))) a ≡ 0
unfolding set_of offsets_from
low_below m at zero n a h = ap (λ (l : List ℕ). bit (set_of l) a) (take-nil n) ∙ bit_of_zero a
low_below m at (suc k) n a h = go (bit m at) n (λ n. low_below m (suc at) k n a (omega arith))
  where
    go : (b n : ℕ) → ((n : ℕ) → bit (set_of (take n (offsets_from m (suc at) k))) a ≡ 0) → bit (set_of (take n (keep b at (offsets_from m (suc at) k)))) a ≡ 0
    go zero n ih = ih n
    go (suc b) zero ih = bit_of_zero a
    go (suc b) (suc n) ih = or_bit _ _ a ∙ ap₂ max (bit_pow_other at a (λ q. absurd (omega arith))) (ih n)

-- bits that agree from `at` on give the same offsets
pub offsets_cong : (x y at k : ℕ) → ((a : ℕ) → at ≤ a → bit x a ≡ bit y a) → offsets_from x at k ≡ offsets_from y at k
unfolding offsets_from
offsets_cong x y at zero h = refl
offsets_cong x y at (suc k) h = ap₂ (λ (b : ℕ) (l : List ℕ). keep b at l) (h at (omega arith)) (offsets_cong x y (suc at) k (λ a p. h a (omega arith)))

pub offsets_of_zero : (at k : ℕ) → offsets_from 0 at k ≡ []
unfolding offsets_from
offsets_of_zero at zero = refl
offsets_of_zero at (suc k) = ap (λ (b : ℕ). keep b at (offsets_from 0 (suc at) k)) (bit_of_zero at) ∙ offsets_of_zero (suc at) k

-- a pass over no offsets, or up to 0, takes none
pub low_of_zero : (m n : ℕ) → m ≡ 0 → 0 ≡ lowest_of m n
unfolding set_of
low_of_zero m n e = sym (ap (λ (x : ℕ). lowest_of x n) e ∙ ap (λ (l : List ℕ). set_of (take n l)) (offsets_of_zero 0 64) ∙ ap set_of (take-nil n))

pub low_to_zero : (m n : ℕ) → n ≡ 0 → 0 ≡ lowest_of m n
unfolding set_of
low_to_zero m n e = sym (ap (lowest_of m) e)

-- the offsets of the lowest n are the first n offsets
low_offsets_from : (m at k n : ℕ) → offsets_from (set_of (take n (offsets_from m at k))) at k ≡ take n (offsets_from m at k)
unfolding set_of offsets_from
low_offsets_from m at zero n = sym (take-nil n)
low_offsets_from m at (suc k) n = go (bit m at) n (λ n. low_offsets_from m (suc at) k n)
  where
    R : List ℕ
    R = offsets_from m (suc at) k

    go : (b n : ℕ) → ((n : ℕ) → offsets_from (set_of (take n R)) (suc at) k ≡ take n R)
        → keep (bit (set_of (take n (keep b at R))) at) at (offsets_from (set_of (take n (keep b at R))) (suc at) k) ≡ take n (keep b at R)
    go zero n ih = ap (λ (x : ℕ). keep x at (offsets_from (set_of (take n R)) (suc at) k)) (low_below m (suc at) k n at (omega arith)) ∙ ih n
    go (suc b) zero ih = offsets_of_zero at (suc k)
    go (suc b) (suc n) ih =
        let Y = set_of (take n R) in
        ap (λ (x : ℕ). keep x at (offsets_from (bit_or (2 ^ at) Y) (suc at) k)) (or_bit (2 ^ at) Y at ∙ ap₂ max (bit_pow_same at) (low_below m (suc at) k n at (omega arith)))
        ∙ ap {B = List ℕ} (λ (l : List ℕ). at ∷ l)
        (offsets_cong (bit_or (2 ^ at) Y) Y (suc at) k
        (λ a p. or_bit (2 ^ at) Y a ∙ ap (λ (x : ℕ). max x (bit Y a)) (bit_pow_other at a (λ q. absurd (omega arith))) ∙ omega arith)
        ∙ ih n)

pub low_offsets : (m n : ℕ) → offsets (set_of (take n (offsets m))) ≡ take n (offsets m)
low_offsets m n = low_offsets_from m 0 64 n

-- so the lowest n of m are n, or all that m has
pub low_size : (m n : ℕ) → length (offsets (set_of (take n (offsets m)))) ≡ min n (length (offsets m))
low_size m n = ap length (low_offsets m n) ∙ length-take n (offsets m)

pub length_offsets : (m : ℕ) → length (offsets m) ≤ 64
unfolding offsets_from
length_offsets m = go 0 64
  where
    keep_le : (b a k : ℕ) (l : List ℕ) → length l ≤ k → length (keep b a l) ≤ suc k
    keep_le zero a k l h = omega arith
    keep_le (suc b) a k l h = omega arith

    go : (at k : ℕ) → length (offsets_from m at k) ≤ k
    go at zero = omega arith
    go at (suc k) = keep_le (bit m at) at k (offsets_from m (suc at) k) (go (suc at) k)

-- ---- sizes of unions
ones_zero : ones 0 ≡ 0
unfolding ones
ones_zero = refl

-- size of a union and of what is common
pub ones_or_and : (k a b : ℕ) → a < 2 ^ k → b < 2 ^ k → ones (bit_or a b) + ones (bit_and a b) ≡ ones a + ones b
ones_or_and zero a b ha hb =
    let ea : a ≡ 0 = omega arith in let eb : b ≡ 0 = omega arith in
    ap₂ (λ (x y : ℕ). ones (bit_or x y) + ones (bit_and x y)) ea eb ∙ sym (ap₂ (λ (x y : ℕ). ones x + ones y) ea eb)
ones_or_and (suc k) a b ha hb =
    let ih = ones_or_and k (a / 2) (b / 2) (half_lt a k ha) (half_lt b k hb) in
    let so = ones_step (bit_or a b) in
    let sa = ones_step (bit_and a b) in
    let p = or_step a b in
    let q = and_step a b in
    let po : bit_or a b / 2 ≡ bit_or (a / 2) (b / 2) = omega arith in
    let qo : bit_and a b / 2 ≡ bit_and (a / 2) (b / 2) = omega arith in
    let eo : ones (bit_or a b / 2) ≡ ones (bit_or (a / 2) (b / 2)) = ap ones po in
    let ea : ones (bit_and a b / 2) ≡ ones (bit_and (a / 2) (b / 2)) = ap ones qo in
    let x = ones_step a in
    let y = ones_step b in
    let mo : bit_or a b % 2 ≡ max (a % 2) (b % 2) = omega arith in
    let ma : bit_and a b % 2 ≡ min (a % 2) (b % 2) = omega arith in
    omega arith

-- disjoint sets: the sizes add up
pub size_union : (a b : ℕ) → a < 2 ^ 64 → b < 2 ^ 64 → bit_and a b ≡ 0 → length (offsets (bit_or a b)) ≡ length (offsets a) + length (offsets b)
size_union a b ha hb e =
    let n = ones_or_and 64 a b ha hb in
    let z : ones (bit_and a b) ≡ 0 = ap ones e ∙ ones_zero in
    let x = ones_offsets a ha in
    let y = ones_offsets b hb in
    let w = ones_offsets (bit_or a b) (or_lt 64 a b ha hb) in
    omega arith

-- ---- the lowest n of a set are in it
pub low_in : (m at k n a : ℕ) → bit (set_of (take n (offsets_from m at k))) a ≤ bit m a
unfolding set_of offsets_from
low_in m at zero n a = let e : bit (set_of (take n [])) a ≡ 0 = ap (λ (l : List ℕ). bit (set_of l) a) (take-nil n) ∙ bit_of_zero a in omega arith
low_in m at (suc k) n a = go (bit m at) refl n (λ n. low_in m (suc at) k n a)
  where
    go : (b : ℕ) → bit m at ≡ b → (n : ℕ) → ((n : ℕ) → bit (set_of (take n (offsets_from m (suc at) k))) a ≤ bit m a)
        → bit (set_of (take n (keep b at (offsets_from m (suc at) k)))) a ≤ bit m a
    go zero e n ih = ih n
    go (suc b) e zero ih = let z : bit 0 a ≡ 0 = bit_of_zero a in omega arith
    go (suc b) e (suc n) ih = pick_one (eqb a at) refl
      where
        pick_one : (t : Bool) → eqb a at ≡ t → bit (bit_or (2 ^ at) (set_of (take n (offsets_from m (suc at) k)))) a ≤ bit m a
        pick_one true q =
            let x : a ≡ at = eqb-true a at q in
            let y : bit m a ≡ suc b = ap (bit m) x ∙ e in
            let z = bit_le (bit_or (2 ^ at) (set_of (take n (offsets_from m (suc at) k)))) a in
            omega arith
        pick_one false q =
            let x : bit (2 ^ at) a ≡ 0 = bit_pow_other at a (eqb-false a at q) in
            let y = or_bit (2 ^ at) (set_of (take n (offsets_from m (suc at) k))) a in
            let w = ih n in
            omega arith

pub low_lt : (m n : ℕ) → m < 2 ^ 64 → set_of (take n (offsets m)) < 2 ^ 64
low_lt m n h = le_bits (set_of (take n (offsets m))) m (λ a. low_in m 0 64 n a) h
  where
    le_bits : (x y : ℕ) → ((a : ℕ) → bit x a ≤ bit y a) → y < 2 ^ 64 → x < 2 ^ 64
    le_bits x y f g =
        let e : bit_and x y ≡ x = bit_eq _ _ (λ a. and_bit x y a ∙ (let u = f a in omega arith)) in
        let l = and_le_r x y in
        lt_of_le_of_lt (subst (λ (z : ℕ). z ≤ y) e l) g

-- ---- what the functions give, by the offsets of their sets

unfoldable pub intersection_of : ℕ → ℕ → ℕ
intersection_of m n = set_of (filter_by (λ a. is_in a (offsets n)) (offsets m))
