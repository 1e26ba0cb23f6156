-- Laws: the fewest ranges of a set, one after the other: the first, and those of the offsets behind it.
use Rattle.std.specs.Prelude.{◌≡◌, refl, Bool, true, false, ltb, leb, eqb, length}
use Rattle.std.proofs.Math.Path.{sym, ap}
use Rattle.std.proofs.Common.{ap₂, ◌∙◌, subst, lt_of_le_of_lt, mod-eq_of_lt, add-one, shr-shr, ltb-true, ltb-false, leb-true, leb-false, eq-eqb, ne_eqb}
use mathlib.Core.List.{List, [], ◌∷◌}
use Prim.Native.Nat.{ℕ, zero, suc, ◌+◌, ◌-◌, ◌*◌, ◌/◌, ◌%◌, ◌^◌, ◌≤◌, ◌<◌}
use native.Mathlib.Omega.{arith}
use Rattle.std.specs.Int.Bits.{shifted_half, shifted_even}
use Rattle.std.specs.Int.Count.{count_trailing_zeros, under}
use Rattle.std.proofs.lemmas.Nat.{trailing_le, shl-shr, shr_le}
use Rattle.std.proofs.Math.Pow.{split}
use Rattle.lists.specs.Pick.{pick}
use Rattle.lists.specs.Filter.{filter_by, is_in}
use Rattle.lists.specs.laws.Filter.{in_filter}
use Rattle.address_set.specs.declared.Range.{Range}
use Rattle.address_set.specs.AddressSet.{bit, keep, offsets_from, offsets, extend, joined, fewest_ranges, first_range, behind}
use Rattle.address_set.specs.laws.Bits.{bit_le, bit_zero, bit_suc, bit_not, bit_of_zero, bit_ext, bit_eq, offsets_cong, offsets_of_zero, length_offsets}
use Rattle.address_set.specs.laws.Offsets.{bit_in, bit_set_of, bit_past}

-- ---- the zeros below the lowest bit
pub trailing_zero : (k n a : ℕ) → a < count_trailing_zeros k n → bit n a ≡ 0
unfolding count_trailing_zeros
trailing_zero zero n a h = absurd (omega arith)
trailing_zero (suc k) n a h = go (n % 2) refl a h (λ a h. trailing_zero k (n / 2) a h)
  where
    go : (d : ℕ) → n % 2 ≡ d → (a : ℕ) → a < under d (count_trailing_zeros k (n / 2)) → ((a : ℕ) → a < count_trailing_zeros k (n / 2) → bit (n / 2) a ≡ 0) → bit n a ≡ 0
    go zero e zero h ih = bit_zero n ∙ e
    go zero e (suc a) h ih = bit_suc n a ∙ ih a (omega arith)
    go (suc d) e a h ih = absurd (omega arith)

pub trailing_one : (k n : ℕ) → count_trailing_zeros k n < k → bit n (count_trailing_zeros k n) ≡ 1
unfolding count_trailing_zeros
trailing_one zero n h = absurd (omega arith)
trailing_one (suc k) n h = go (n % 2) refl h (trailing_one k (n / 2))
  where
    go : (d : ℕ) → n % 2 ≡ d → under d (count_trailing_zeros k (n / 2)) < suc k → (count_trailing_zeros k (n / 2) < k → bit (n / 2) (count_trailing_zeros k (n / 2)) ≡ 1)
        → bit n (under d (count_trailing_zeros k (n / 2))) ≡ 1
    go zero e h ih = bit_suc n (count_trailing_zeros k (n / 2)) ∙ ih (omega arith)
    go (suc d) e h ih = let z = bit_zero n in let l = bit_le n 0 in omega arith

-- ---- the bits of what is shifted
bit_shr : (m e a : ℕ) → bit (m / 2 ^ e) a ≡ bit m (e + a)
unfolding bit
bit_shr m e a = ap (λ (x : ℕ). x % 2) (shr-shr m e a)

bit_shl_low : (x e a : ℕ) → a < e → bit (x * 2 ^ e) a ≡ 0
bit_shl_low x zero a h = absurd (omega arith)
bit_shl_low x (suc e) zero h = bit_zero (x * 2 ^ suc e) ∙ shifted_even x e
bit_shl_low x (suc e) (suc a) h = bit_suc (x * 2 ^ suc e) a ∙ ap (λ (y : ℕ). bit y a) (shifted_half x e) ∙ bit_shl_low x e a (omega arith)

bit_shl_high : (x e a : ℕ) → bit (x * 2 ^ e) (e + a) ≡ bit x a
bit_shl_high x e a = sym (bit_shr (x * 2 ^ e) e a) ∙ ap (λ (y : ℕ). bit y a) (shl-shr x e)

-- the bits of m from e on
abbrev pub high : ℕ → ℕ → ℕ
high m e = m / 2 ^ e * 2 ^ e

high_low : (m e a : ℕ) → a < e → bit (high m e) a ≡ 0
high_low m e a h = bit_shl_low (m / 2 ^ e) e a h

high_same : (m e a : ℕ) → e ≤ a → bit (high m e) a ≡ bit m a
high_same m e a h =
    let q : a ≡ e + (a - e) = omega arith in
    ap (bit (high m e)) q ∙ bit_shl_high (m / 2 ^ e) e (a - e) ∙ bit_shr m e (a - e) ∙ ap (bit m) (sym q)

pub high_le : (m e : ℕ) → high m e ≤ m
high_le m e = let s = split m e in omega arith

-- less than m, where a bit below e was
high_less : (m e a : ℕ) → a < e → bit m a ≡ 1 → high m e < m
high_less m e a h o = go (ltb (high m e) m) refl
  where
    go : (b : Bool) → ltb (high m e) m ≡ b → high m e < m
    go true t = ltb-true (high m e) m t
    go false t =
        let l = ltb-false (high m e) m t in
        let y = high_le m e in
        let z : high m e ≡ m = omega arith in
        let w : bit m a ≡ 0 = ap (λ (n : ℕ). bit n a) (sym z) ∙ high_low m e a h in
        absurd (omega arith)

-- behind a range stand the bits from its end on
pub behind_high : (m : ℕ) (r : Range) (e : ℕ) → m < 2 ^ 64 → e ≡ r.first + r.count → high m e ≡ behind m r
unfolding behind pick
behind_high m r e h q = bit_eq _ _ (λ a. go a (leb e a) refl
    ∙ sym (bit_set_of a (filter_by (λ a. leb (r.first + r.count) a) (offsets m)) ∙ ap (λ (b : Bool). pick b 1 0) (in_filter a (λ a. leb (r.first + r.count) a) (offsets m) ∙ ap (λ (x : ℕ). pick (leb x a) (is_in a (offsets m)) false) (sym q))))
  where
    go : (a : ℕ) (b : Bool) → leb e a ≡ b → bit (high m e) a ≡ pick (pick (leb e a) (is_in a (offsets m)) false) 1 0
    go a true p = high_same m e a (leb-true e a p) ∙ bit_in m a h ∙ sym (ap (λ (b : Bool). pick (pick b (is_in a (offsets m)) false) 1 0) p)
    go a false p = high_low m e a (leb-false e a p) ∙ sym (ap (λ (b : Bool). pick (pick b (is_in a (offsets m)) false) 1 0) p)

-- and nothing past the last offset
pub behind_none : (m : ℕ) (r : Range) (e : ℕ) → m < 2 ^ 64 → e ≡ r.first + r.count → 64 ≤ e → 0 ≡ behind m r
behind_none m r e h q g = sym none ∙ behind_high m r e h q
  where
    none : high m e ≡ 0
    none = bit_eq _ _ (λ a. go a (leb e a) refl ∙ sym (bit_of_zero a))
      where
        go : (a : ℕ) (b : Bool) → leb e a ≡ b → bit (high m e) a ≡ 0
        go a true p = let l = leb-true e a p in high_same m e a l ∙ bit_past 64 m a h (omega arith)
        go a false p = high_low m e a (leb-false e a p)

-- ---- the first range, by its bits
pub record RangeAt (m f c : ℕ) : Type 0 where
  pub below : (a : ℕ) → a < f → bit m a ≡ 0
  pub ones : (a : ℕ) → a < c → bit m (f + a) ≡ 1
  pub stop : bit m (f + c) ≡ 0
  pub some : 1 ≤ c
  pub fits : f + c ≤ 64

pub trailing_lt : (m : ℕ) → m < 2 ^ 64 → 0 < m → count_trailing_zeros 64 m < 64
trailing_lt m h p = go (ltb (count_trailing_zeros 64 m) 64) refl
  where
    go : (b : Bool) → ltb (count_trailing_zeros 64 m) 64 ≡ b → count_trailing_zeros 64 m < 64
    go true q = ltb-true _ _ q
    go false q =
        let l = ltb-false (count_trailing_zeros 64 m) 64 q in
        let z : m ≡ 0 = bit_ext 64 m 0 h (omega arith) (λ a g. trailing_zero 64 m a (omega arith) ∙ sym (bit_of_zero a)) in
        absurd (omega arith)

-- the zeros above the lowest bit of m are the ones of this
unfoldable pub flip : ℕ → ℕ
flip m = (2 ^ 64 - 1) - m / 2 ^ count_trailing_zeros 64 m

module _ (m : ℕ) (h : m < 2 ^ 64) (p : 0 < m) where
  flip_bit : (a : ℕ) → a < 64 → bit (flip m) a ≡ 1 - bit m (count_trailing_zeros 64 m + a)
  unfolding flip
  flip_bit a g = bit_not 64 (m / 2 ^ count_trailing_zeros 64 m) a (lt_of_le_of_lt (shr_le m (count_trailing_zeros 64 m)) h) g ∙ ap (λ (x : ℕ). 1 - x) (bit_shr m (count_trailing_zeros 64 m) a)

  count_fits : count_trailing_zeros 64 m + count_trailing_zeros 64 (flip m) ≤ 64
  count_fits = go (leb (count_trailing_zeros 64 m + count_trailing_zeros 64 (flip m)) 64) refl
    where
      go : (b : Bool) → leb (count_trailing_zeros 64 m + count_trailing_zeros 64 (flip m)) 64 ≡ b → count_trailing_zeros 64 m + count_trailing_zeros 64 (flip m) ≤ 64
      go true q = leb-true _ _ q
      go false q =
          let l = leb-false (count_trailing_zeros 64 m + count_trailing_zeros 64 (flip m)) 64 q in
          let t = trailing_le 64 (flip m) in
          let f = trailing_lt m h p in
          let a : ℕ = 64 - count_trailing_zeros 64 m in
          let e : count_trailing_zeros 64 m + a ≡ 64 = omega arith in
          let z : bit (flip m) a ≡ 0 = trailing_zero 64 (flip m) a (omega arith) in
          let u : bit m (count_trailing_zeros 64 m + a) ≡ 0 = ap (bit m) e ∙ bit_past 64 m 64 h (omega arith) in
          let v = flip_bit a (omega arith) in
          absurd (omega arith)

  pub first_range_at : RangeAt m (count_trailing_zeros 64 m) (count_trailing_zeros 64 (flip m))
  first_range_at = record {
    below = λ a g. trailing_zero 64 m a g;
    ones = λ a g. (let f = count_fits in let z = trailing_zero 64 (flip m) a g in let v = flip_bit a (omega arith) in let l = bit_le m (count_trailing_zeros 64 m + a) in omega arith);
    stop = go (ltb (count_trailing_zeros 64 m + count_trailing_zeros 64 (flip m)) 64) refl;
    some = more (leb 1 (count_trailing_zeros 64 (flip m))) refl;
    fits = count_fits;
  }
    where
      go : (b : Bool) → ltb (count_trailing_zeros 64 m + count_trailing_zeros 64 (flip m)) 64 ≡ b → bit m (count_trailing_zeros 64 m + count_trailing_zeros 64 (flip m)) ≡ 0
      go true q =
          let l = ltb-true (count_trailing_zeros 64 m + count_trailing_zeros 64 (flip m)) 64 q in
          let z = trailing_one 64 (flip m) (omega arith) in
          let v = flip_bit (count_trailing_zeros 64 (flip m)) (omega arith) in
          let u = bit_le m (count_trailing_zeros 64 m + count_trailing_zeros 64 (flip m)) in
          omega arith
      go false q = bit_past 64 m _ h (ltb-false _ _ q)

      more : (b : Bool) → leb 1 (count_trailing_zeros 64 (flip m)) ≡ b → 1 ≤ count_trailing_zeros 64 (flip m)
      more true q = leb-true _ _ q
      more false q =
          let l = leb-false 1 (count_trailing_zeros 64 (flip m)) q in
          let e : count_trailing_zeros 64 (flip m) ≡ 0 = omega arith in
          let z : bit (flip m) 0 ≡ 1 = ap (bit (flip m)) (sym e) ∙ trailing_one 64 (flip m) (omega arith) in
          let v = flip_bit 0 (omega arith) in
          let g : count_trailing_zeros 64 m + 0 ≡ count_trailing_zeros 64 m = omega arith in
          let u : bit m (count_trailing_zeros 64 m + 0) ≡ 1 = ap (bit m) g ∙ trailing_one 64 m (trailing_lt m h p) in
          absurd (omega arith)

-- ---- from bits to ranges
-- zeros add no offset
skip : (m at f k : ℕ) → ((a : ℕ) → at ≤ a → a < at + f → bit m a ≡ 0) → offsets_from m at (f + k) ≡ offsets_from m (at + f) k
unfolding offsets_from
skip m at zero k h = ap₂ (offsets_from m) (let e : at ≡ at + 0 = omega arith in e) (let e : 0 + k ≡ k = omega arith in e)
skip m at (suc f) k h =
    let e : suc f + k ≡ suc (f + k) = omega arith in
    ap (offsets_from m at) e ∙ ap (λ (b : ℕ). keep b at (offsets_from m (suc at) (f + k))) (h at (omega arith) (omega arith))
    ∙ skip m (suc at) f k (λ a p q. h a (omega arith) (omega arith)) ∙ ap (λ (x : ℕ). offsets_from m x k) (let q : suc at + f ≡ at + suc f = omega arith in q)

apart : (x at : ℕ) (l : List Range) → suc x < at → joined x (joined at l) ≡ record { first = x; count = 1 } ∷ joined at l
unfolding joined
apart x at [] h = ap (λ (b : Bool). extend b x (record { first = at; count = 1 }) []) (ne_eqb at (suc x) (λ e. absurd (omega arith)))
apart x at (r ∷ rs) h = go (eqb r.first (suc at))
  where
    go : (c : Bool) → joined x (extend c at r rs) ≡ record { first = x; count = 1 } ∷ extend c at r rs
    go true = ap (λ (b : Bool). extend b x (record { first = at; count = suc r.count }) rs) (ne_eqb at (suc x) (λ e. absurd (omega arith)))
    go false = ap (λ (b : Bool). extend b x (record { first = at; count = 1 }) (r ∷ rs)) (ne_eqb at (suc x) (λ e. absurd (omega arith)))

-- an offset that no other follows
alone : (x m at k : ℕ) → suc x < at → joined x (fewest_ranges (offsets_from m at k)) ≡ record { first = x; count = 1 } ∷ fewest_ranges (offsets_from m at k)
unfolding fewest_ranges offsets_from joined
alone x m at zero h = refl
alone x m at (suc k) h = go (bit m at) (alone x m (suc at) k (omega arith))
  where
    go : (b : ℕ) → joined x (fewest_ranges (offsets_from m (suc at) k)) ≡ record { first = x; count = 1 } ∷ fewest_ranges (offsets_from m (suc at) k)
        → joined x (fewest_ranges (keep b at (offsets_from m (suc at) k))) ≡ record { first = x; count = 1 } ∷ fewest_ranges (keep b at (offsets_from m (suc at) k))
    go zero ih = ih
    go (suc b) ih = apart x at (fewest_ranges (offsets_from m (suc at) k)) h

single : (m at k : ℕ) → bit m (suc at) ≡ 0 → joined at (fewest_ranges (offsets_from m (suc at) k)) ≡ record { first = at; count = 1 } ∷ fewest_ranges (offsets_from m (suc at) k)
unfolding fewest_ranges offsets_from joined
single m at zero e = refl
single m at (suc k) e =
    ap (λ (b : ℕ). joined at (fewest_ranges (keep b (suc at) (offsets_from m (suc (suc at)) k)))) e
    ∙ alone at m (suc (suc at)) k (omega arith)
    ∙ sym (ap (λ (b : ℕ). record { first = at; count = 1 } ∷ fewest_ranges (keep b (suc at) (offsets_from m (suc (suc at)) k))) e)

range_ones : (m at c k : ℕ) → ((a : ℕ) → at ≤ a → a < at + suc c → bit m a ≡ 1) → bit m (at + suc c) ≡ 0
    → fewest_ranges (offsets_from m at (suc c + k)) ≡ record { first = at; count = suc c } ∷ fewest_ranges (offsets_from m (at + suc c) k)
unfolding fewest_ranges offsets_from joined
range_ones m at zero k h z =
    let e : suc 0 + k ≡ suc k = omega arith in
    let q : at + suc 0 ≡ suc at = omega arith in
    ap (λ (x : ℕ). fewest_ranges (offsets_from m at x)) e
    ∙ ap (λ (b : ℕ). fewest_ranges (keep b at (offsets_from m (suc at) k))) (h at (omega arith) (omega arith))
    ∙ single m at k (ap (bit m) (sym q) ∙ z)
    ∙ ap (λ (x : ℕ). record { first = at; count = 1 } ∷ fewest_ranges (offsets_from m x k)) (sym q)
range_ones m at (suc c) k h z =
    let e : suc (suc c) + k ≡ suc (suc c + k) = omega arith in
    let q : at + suc (suc c) ≡ suc at + suc c = omega arith in
    ap (λ (x : ℕ). fewest_ranges (offsets_from m at x)) e
    ∙ ap (λ (b : ℕ). fewest_ranges (keep b at (offsets_from m (suc at) (suc c + k)))) (h at (omega arith) (omega arith))
    ∙ ap (joined at) (range_ones m (suc at) c k (λ a g l. h a (omega arith) (omega arith)) (ap (bit m) (sym q) ∙ z))
    ∙ ap (λ (b : Bool). extend b at (record { first = suc at; count = suc c }) (fewest_ranges (offsets_from m (suc at + suc c) k))) (eq-eqb (suc at) (suc at) refl)
    ∙ ap (λ (x : ℕ). record { first = at; count = suc (suc c) } ∷ fewest_ranges (offsets_from m x k)) (sym q)

-- the offsets from e on are those of the bits from e on
offsets_high : (m e : ℕ) → e ≤ 64 → offsets_from m e (64 - e) ≡ offsets (high m e)
offsets_high m e h =
    offsets_cong m (high m e) e (64 - e) (λ a g. sym (high_same m e a g))
    ∙ sym (ap (offsets_from (high m e) 0) (let q : 64 ≡ e + (64 - e) = omega arith in q)
    ∙ skip (high m e) 0 e (64 - e) (λ a g l. high_low m e a (omega arith)) ∙ ap (λ (x : ℕ). offsets_from (high m e) x (64 - e)) (let q : 0 + e ≡ e = omega arith in q))

pub fewest_first : (m f c : ℕ) → RangeAt m f c → fewest_ranges (offsets m) ≡ record { first = f; count = c } ∷ fewest_ranges (offsets (high m (f + c)))
fewest_first m f zero v = absurd (let s = v.some in omega arith)
fewest_first m f (suc c) v =
    let fit = v.fits in
    let q : 64 ≡ f + (suc c + (64 - (f + suc c))) = omega arith in
    ap (λ (x : ℕ). fewest_ranges (offsets_from m 0 x)) q
    ∙ ap fewest_ranges (skip m 0 f (suc c + (64 - (f + suc c))) (λ a g l. v.below a (omega arith)) ∙ ap (λ (x : ℕ). offsets_from m x (suc c + (64 - (f + suc c)))) (let e : 0 + f ≡ f = omega arith in e))
    ∙ range_ones m f c (64 - (f + suc c)) (λ a g l. ap (bit m) (let e : a ≡ f + (a - f) = omega arith in e) ∙ v.ones (a - f) (omega arith)) v.stop
    ∙ ap (λ (l : List ℕ). record { first = f; count = suc c } ∷ fewest_ranges l) (offsets_high m (f + suc c) v.fits)

-- ---- what `first_range` and `rest` give
pub first_none : (m : ℕ) → m ≡ 0 → record { first = 0; count = 0 } ≡ first_range (fewest_ranges (offsets m))
unfolding first_range fewest_ranges
first_none m e = sym (ap (λ (l : List ℕ). first_range (fewest_ranges l)) (ap offsets e ∙ offsets_of_zero 0 64))

module _ (m : ℕ) (h : m < 2 ^ 64) (p : 0 < m) where
  pub first_some : record { first = count_trailing_zeros 64 m; count = count_trailing_zeros 64 (flip m) } ≡ first_range (fewest_ranges (offsets m))
  unfolding first_range
  first_some = sym (ap first_range (fewest_first m _ _ (first_range_at m h p)))

-- ---- for a caller's loop `while set != 0 { let r = first_range(set); ..; set = rest(set, r); }`
pub ranges_none : fewest_ranges (offsets 0) ≡ []
unfolding fewest_ranges
ranges_none = ap fewest_ranges (offsets_of_zero 0 64)

module _ {m : ℕ} {r : Range} (h : m < 2 ^ 64) (p : 0 < m) (e : r ≡ first_range (fewest_ranges (offsets m))) where
  at : RangeAt m r.first r.count
  at = subst (λ (x : Range). RangeAt m x.first x.count) (sym (e ∙ sym (first_some m h p))) (first_range_at m h p)

  first_one : bit m r.first ≡ 1
  first_one = ap (bit m) (let z : r.first ≡ r.first + 0 = omega arith in z) ∙ at.ones 0 at.some

  pub range_count : r.count ≤ 64
  range_count = let f = at.fits in omega arith

  -- the first range, and those of the rest
  pub ranges_next : {m' : ℕ} → m' ≡ behind m r → fewest_ranges (offsets m) ≡ r ∷ fewest_ranges (offsets m')
  ranges_next {m'} q =
      fewest_first m r.first r.count at
      ∙ ap (λ (x : ℕ). r ∷ fewest_ranges (offsets x)) (behind_high m r (r.first + r.count) h refl ∙ sym q)

  -- the rest is smaller
  pub ranges_less : {m' : ℕ} → m' ≡ behind m r → m' < m
  ranges_less q = subst (λ (x : ℕ). x < m) (behind_high m r (r.first + r.count) h refl ∙ sym q) (high_less m (r.first + r.count) r.first (let s = at.some in omega arith) first_one)

  -- ---- the same for a loop over the offsets, one by one: the lowest, and those of the rest
  pub range_first : r.first < 64
  range_first = let s = at.some in let f = at.fits in omega arith

  one_high : {m' : ℕ} → m' ≡ behind m (record { first = r.first; count = 1 }) → high m (r.first + 1) ≡ m'
  one_high q = behind_high m (record { first = r.first; count = 1 }) (r.first + 1) h refl ∙ sym q

  pub offset_next : {m' : ℕ} → m' ≡ behind m (record { first = r.first; count = 1 }) → offsets m ≡ r.first ∷ offsets m'
  unfolding offsets_from
  offset_next {m'} q =
      let f = range_first in
      let z : 64 ≡ r.first + suc (64 - (r.first + 1)) = omega arith in
      ap (offsets_from m 0) z
      ∙ skip m 0 r.first (suc (64 - (r.first + 1))) (λ a g l. at.below a (omega arith))
      ∙ ap (λ (x : ℕ). offsets_from m x (suc (64 - (r.first + 1)))) (let w : 0 + r.first ≡ r.first = omega arith in w)
      ∙ ap (λ (x : ℕ). keep x r.first (offsets_from m (suc r.first) (64 - (r.first + 1)))) first_one
      ∙ ap {B = List ℕ} (λ (l : List ℕ). r.first ∷ l)
      (ap (λ (x : ℕ). offsets_from m x (64 - (r.first + 1))) (sym (add-one r.first)) ∙ offsets_high m (r.first + 1) (omega arith) ∙ ap offsets (one_high q))

  pub offset_less : {m' : ℕ} → m' ≡ behind m (record { first = r.first; count = 1 }) → m' < m
  offset_less q = subst (λ (x : ℕ). x < m) (one_high q) (high_less m (r.first + 1) r.first (omega arith) first_one)

-- a set has at most 64 ranges
joined_few : (x : ℕ) (l : List Range) → length (joined x l) ≤ suc (length l)
unfolding joined
joined_few x [] = omega arith
joined_few x (r ∷ rs) = go (eqb r.first (suc x))
  where
    go : (b : Bool) → length (extend b x r rs) ≤ suc (suc (length rs))
    go true = omega arith
    go false = omega arith

pub fewest_few : (l : List ℕ) → length (fewest_ranges l) ≤ length l
unfolding fewest_ranges
fewest_few [] = omega arith
fewest_few (x ∷ l) = let h = joined_few x (fewest_ranges l) in let g = fewest_few l in omega arith

pub ranges_few : (m : ℕ) → length (fewest_ranges (offsets m)) ≤ 64
ranges_few m = let h = fewest_few (offsets m) in let g = length_offsets m in omega arith

-- ---- as the code has them
pub trailing_fits : (m : ℕ) → count_trailing_zeros 64 m < 2 ^ 64
trailing_fits m = let h = trailing_le 64 m in omega arith

pub behind_shifted : (m : ℕ) (r : Range) (e : ℕ) → m < 2 ^ 64 → e ≡ r.first + r.count → (m / 2 ^ e * 2 ^ e) % 2 ^ 64 ≡ behind m r
behind_shifted m r e h q = mod-eq_of_lt (lt_of_le_of_lt (high_le m e) h) ∙ behind_high m r e h q
