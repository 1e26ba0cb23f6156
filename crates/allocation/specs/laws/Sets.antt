-- Laws: of the sets that the grant rule goes by, bit by bit.
use Prim.Native.Nat.{ℕ, zero, suc, ◌+◌, ◌-◌, ◌^◌, ◌≤◌, ◌<◌, min, max}
use Rattle.std.specs.Prelude.{◌≡◌, refl, Bool, true, false, not, List, [], ◌∷◌, map, ltb, eqb, take, get_or}
use Rattle.std.proofs.Math.Path.{sym, ap, ap₂}
use Rattle.std.proofs.Common.{◌∙◌, subst, lt_of_le_of_lt, pow_pos, pow_mono, take_all, ltb-true, ltb-false, le-ltb, eqb-true}
use native.Mathlib.Omega.{arith}
use Rattle.std.specs.Int.Bits.{bit_and, bit_or, or_zero_r}
use Rattle.std.proofs.lemmas.Nat.{or_lt}
use Rattle.std.proofs.Math.ListN.{length}
use Rattle.std.proofs.lemmas.Bool.{eqb-false}
use Rattle.lists.specs.Pick.{pick}
use Rattle.lists.specs.All.{All}
use Rattle.lists.specs.Filter.{filter_by, is_in}
use Rattle.address_set.specs.AddressSet.{bit, keep, offsets_from, offsets, set_of, lowest_of, difference_of, chosen, up_to, rises_from}
use Rattle.address_set.specs.laws.Bits.{without, bit_le, or_bit, and_bit, bit_eq, bit_of_zero, bit_without, bit_pow_same, bit_pow_other, without_le, low_in, low_lt, low_size, size_union, ones_or_and, ones_offsets, chosen_is, length_offsets, offsets_of_zero, set_of_append}
use Rattle.address_set.specs.laws.Offsets.{offsets_set_of, rises_offsets, offsets_small, set_of_small, bit_set_of, bit_past, difference_without, up_to_ones}
use Rattle.state.specs.Book.{union_all}
use Rattle.soundness.specs.laws.Kept.{count_less}

-- ---- a set without what is no offset
abbrev pub low : ℕ → ℕ
low m = set_of (offsets m)

pub low_small : (m : ℕ) → low m < 2 ^ 64
low_small m = set_of_small 64 (offsets m) (offsets_small m)

pub low_same : (m : ℕ) → offsets (low m) ≡ offsets m
low_same m = offsets_set_of (offsets m) (rises_offsets m) (offsets_small m)

in_offsets : (m at k a : ℕ) → at ≤ a → a < at + k → bit m a ≡ 1 → is_in a (offsets_from m at k) ≡ true
unfolding offsets_from is_in pick
in_offsets m at zero a h g e = absurd (omega arith)
in_offsets m at (suc k) a h g e = go (bit m at) refl (eqb a at) refl (λ h. in_offsets m (suc at) k a h (omega arith) e)
  where
    R : List ℕ
    R = offsets_from m (suc at) k

    go : (b : ℕ) → bit m at ≡ b → (c : Bool) → eqb a at ≡ c → (suc at ≤ a → is_in a R ≡ true) → is_in a (keep b at R) ≡ true
    go zero p true q ih = let z : bit m a ≡ bit m at = ap (bit m) (eqb-true a at q) in absurd (omega arith)
    go zero p false q ih = let n = eqb-false a at q in ih (omega arith)
    go (suc b) p true q ih = ap (λ (c : Bool). pick c true (is_in a R)) q
    go (suc b) p false q ih = let n = eqb-false a at q in ap (λ (c : Bool). pick c true (is_in a R)) q ∙ ih (omega arith)

pub low_bit : (m a : ℕ) → a < 64 → bit (low m) a ≡ bit m a
unfolding pick
low_bit m a h = go (bit m a) refl
  where
    le : bit (low m) a ≤ bit m a
    le = subst (λ (l : List ℕ). bit (set_of l) a ≤ bit m a) (take_all 64 (offsets m) (length_offsets m)) (low_in m 0 64 64 a)

    go : (b : ℕ) → bit m a ≡ b → bit (low m) a ≡ bit m a
    go zero e = omega (arith, le)
    go (suc b) e =
        let one : bit m a ≡ 1 = (let u = bit_le m a in omega arith) in
        bit_set_of a (offsets m) ∙ ap (λ (c : Bool). pick c 1 0) (in_offsets m 0 64 a (omega arith) (omega arith) one) ∙ sym one

pub low_past : (m a : ℕ) → 64 ≤ a → bit (low m) a ≡ 0
low_past m a h = bit_past 64 (low m) a (low_small m) h

-- ---- the same offsets
cong_below : (x y at k : ℕ) → ((a : ℕ) → a < at + k → bit x a ≡ bit y a) → offsets_from x at k ≡ offsets_from y at k
unfolding offsets_from
cong_below x y at zero h = refl
cong_below x y at (suc k) h = ap₂ (λ (b : ℕ) (l : List ℕ). keep b at l) (h at (omega arith)) (cong_below x y (suc at) k (λ a g. h a (omega arith)))

pub same_offsets : (x y : ℕ) → ((a : ℕ) → a < 64 → bit x a ≡ bit y a) → offsets x ≡ offsets y
same_offsets x y h = cong_below x y 0 64 (λ a g. h a (omega arith))

-- ---- sizes
abbrev pub size : ℕ → ℕ
size m = length (offsets m)

or_low : (x y a : ℕ) → a < 64 → bit (bit_or x y) a ≡ bit (bit_or (low x) (low y)) a
or_low x y a h = or_bit x y a ∙ sym (or_bit (low x) (low y) a ∙ ap₂ max (low_bit x a h) (low_bit y a h))

pub size_or : (x y : ℕ) → size (bit_or x y) ≤ size x + size y
size_or x y =
    let e : size (bit_or x y) ≡ size (bit_or (low x) (low y)) = ap length (same_offsets (bit_or x y) (bit_or (low x) (low y)) (or_low x y)) in
    let n = ones_or_and 64 (low x) (low y) (low_small x) (low_small y) in
    let p = ones_offsets (low x) (low_small x) in
    let q = ones_offsets (low y) (low_small y) in
    let r = ones_offsets (bit_or (low x) (low y)) (or_lt 64 (low x) (low y) (low_small x) (low_small y)) in
    let u : size (low x) ≡ size x = ap length (low_same x) in
    let w : size (low y) ≡ size y = ap length (low_same y) in
    omega arith

-- of two sets that are apart the union has as many as both
pub size_add : (x y : ℕ) → ((a : ℕ) → bit x a + bit y a ≤ 1) → size x + size y ≤ size (bit_or x y)
size_add x y h =
    let e : size (bit_or x y) ≡ size (bit_or (low x) (low y)) = ap length (same_offsets (bit_or x y) (bit_or (low x) (low y)) (or_low x y)) in
    let n = size_union (low x) (low y) (low_small x) (low_small y) (bit_eq (bit_and (low x) (low y)) 0 (λ a. and_bit (low x) (low y) a ∙ none a ∙ sym (bit_of_zero a))) in
    let u : size (low x) ≡ size x = ap length (low_same x) in
    let w : size (low y) ≡ size y = ap length (low_same y) in
    omega arith
  where
    none : (a : ℕ) → min (bit (low x) a) (bit (low y) a) ≡ 0
    none a = go (ltb a 64) refl
      where
        go : (b : Bool) → ltb a 64 ≡ b → min (bit (low x) a) (bit (low y) a) ≡ 0
        go true e = let p = low_bit x a (ltb-true a 64 e) in let q = low_bit y a (ltb-true a 64 e) in let r = h a in omega arith
        go false e = let p = low_past x a (ltb-false a 64 e) in omega arith

pub size_zero : size 0 ≡ 0
size_zero = ap length (offsets_of_zero 0 64)

pub some_positive : (m : ℕ) → 0 < size m → 0 < m
some_positive zero h = absurd (let z = size_zero in omega arith)
some_positive (suc m) h = omega arith

-- ---- differences
pub difference_low : (m n : ℕ) → difference_of m n ≡ without (low m) (low n)
unfolding difference_of
difference_low m n =
    sym (difference_without (low m) (low n) (low_small m) (low_small n)
    ∙ ap₂ (λ (x y : List ℕ). set_of (filter_by (λ a. not (is_in a y)) x)) (low_same m) (low_same n))

pub difference_small : (m n : ℕ) → difference_of m n < 2 ^ 64
difference_small m n = subst (λ (x : ℕ). x < 2 ^ 64) (sym (difference_low m n)) (lt_of_le_of_lt (without_le (low m) (low n)) (low_small m))

pub difference_bit : (m n a : ℕ) → bit (difference_of m n) a ≡ bit (low m) a - min (bit (low m) a) (bit (low n) a)
difference_bit m n a = ap (λ (x : ℕ). bit x a) (difference_low m n) ∙ bit_without (low m) (low n) a

pub by_64 : (a : ℕ) (P : ℕ → Type 0) → ((a : ℕ) → a < 64 → P a) → ((a : ℕ) → 64 ≤ a → P a) → P a
by_64 a P f g = go (ltb a 64) refl
  where
    go : (b : Bool) → ltb a 64 ≡ b → P a
    go true e = f a (ltb-true a 64 e)
    go false e = g a (ltb-false a 64 e)

-- of the second set only what is in the first counts
pub difference_agrees : (m n n' : ℕ) → ((a : ℕ) → min (bit m a) (bit n a) ≡ min (bit m a) (bit n' a)) → difference_of m n ≡ difference_of m n'
difference_agrees m n n' f = bit_eq (difference_of m n) (difference_of m n') here
  where
    here : (a : ℕ) → bit (difference_of m n) a ≡ bit (difference_of m n') a
    here a =
        by_64 a (λ a. bit (difference_of m n) a ≡ bit (difference_of m n') a)
        (λ a h. let e = difference_bit m n a in let e' = difference_bit m n' a in let u = low_bit m a h in let w = low_bit n a h in let w' = low_bit n' a h in let g = f a in omega arith)
        (λ a h. let e = difference_bit m n a in let e' = difference_bit m n' a in let u = low_past m a h in omega arith)

-- a difference is in the first set, and not in the second
pub difference_in : (m n a : ℕ) → bit (difference_of m n) a ≤ bit m a
difference_in m n a =
    by_64 a (λ a. bit (difference_of m n) a ≤ bit m a) (λ a h. let e = difference_bit m n a in let u = low_bit m a h in omega arith)
    (λ a h. let e = difference_bit m n a in let u = low_past m a h in omega arith)

pub difference_out : (m n a : ℕ) → bit (difference_of m n) a + bit n a ≤ 1
difference_out m n a =
    by_64 a (λ a. bit (difference_of m n) a + bit n a ≤ 1)
    (λ a h. let e = difference_bit m n a in let u = low_bit n a h in let p = bit_le (low m) a in let q = bit_le n a in omega arith)
    (λ a h. let e = difference_bit m n a in let u = low_past m a h in let q = bit_le n a in omega arith)

-- and what it leaves out is in the second
pub difference_rest : (m n : ℕ) → m < 2 ^ 64 → size m ≤ size (difference_of m n) + size n
difference_rest m n h =
    let p = count_less m (bit_or (difference_of m n) n) (λ a. let o = or_bit (difference_of m n) n a in let r = here a in omega arith) in
    let q = size_or (difference_of m n) n in
    omega arith
  where
    here : (a : ℕ) → bit m a ≤ max (bit (difference_of m n) a) (bit n a)
    here a =
        by_64 a (λ a. bit m a ≤ max (bit (difference_of m n) a) (bit n a))
        (λ a g. let e = difference_bit m n a in let u = low_bit m a g in let w = low_bit n a g in let p = bit_le m a in let q = bit_le n a in omega arith)
        (λ a g. let z = bit_past 64 m a h g in omega arith)

-- ---- the lowest of own, then of new
-- the two passes give the choice; where f is larger than k, k - f is 0 and the second pass takes none
pub two_passes : (k own new f m a b : ℕ) → a ≡ lowest_of own k → f ≡ length (offsets own) → m ≡ k - f → b ≡ lowest_of new m → bit_or a b ≡ set_of (chosen k own new)
two_passes k own new f m a b first counted less second =
    ap₂ bit_or first (second ∙ ap (lowest_of new) (less ∙ ap (λ (x : ℕ). k - x) counted)) ∙ sym (chosen_is k own new)

pub chosen_bit : (k own new a : ℕ) → bit (set_of (chosen k own new)) a ≤ max (bit own a) (bit new a)
chosen_bit k own new a =
    let e : bit (set_of (chosen k own new)) a ≡ bit (bit_or (set_of (take k (offsets own))) (set_of (take (k - length (offsets own)) (offsets new)))) a = ap (λ (x : ℕ). bit x a) (chosen_is k own new) in
    let o = or_bit (set_of (take k (offsets own))) (set_of (take (k - length (offsets own)) (offsets new))) a in
    let p = low_in own 0 64 k a in
    let q = low_in new 0 64 (k - length (offsets own)) a in
    omega arith

module _ (held own new k : ℕ) (so : own < 2 ^ 64) (sn : new < 2 ^ 64) (inside : (a : ℕ) → bit own a ≤ bit held a) (outside : (a : ℕ) → bit new a + bit held a ≤ 1) where
  A : ℕ
  A = set_of (take k (offsets own))

  B : ℕ
  B = set_of (take (k - size own) (offsets new))

  two : size A + size B ≡ min k (size own + size new)
  unfolding A B
  two = let p = low_size own k in let q = low_size new (k - size own) in omega arith

  -- there are k of them, or as many as there are
  pub chosen_count : size (set_of (chosen k own new)) ≡ min k (size own + size new)
  unfolding A B
  chosen_count =
      ap size (chosen_is k own new)
      ∙ size_union A B (low_lt own k so) (low_lt new (k - size own) sn)
      (bit_eq (bit_and A B) 0 (λ a. and_bit A B a ∙ none a ∙ sym (bit_of_zero a)))
      ∙ two
    where
      none : (a : ℕ) → min (bit A a) (bit B a) ≡ 0
      none a =
          let p = low_in own 0 64 k a in let q = low_in new 0 64 (k - size own) a in let r = inside a in let s = outside a in
          let u = bit_le held a in omega arith

  -- with what is held already
  pub after_count : size (bit_or (set_of (chosen k own new)) held) ≡ size held + min (k - size own) (size new)
  unfolding A B
  after_count =
      ap length (same_offsets (bit_or (set_of (chosen k own new)) held) (bit_or (low held) B) same)
      ∙ size_union (low held) B (low_small held) (low_lt new (k - size own) sn) (bit_eq (bit_and (low held) B) 0 (λ a. and_bit (low held) B a ∙ none a ∙ sym (bit_of_zero a)))
      ∙ ap₂ (λ (x y : ℕ). x + y) (ap length (low_same held)) (low_size new (k - size own))
    where
      same : (a : ℕ) → a < 64 → bit (bit_or (set_of (chosen k own new)) held) a ≡ bit (bit_or (low held) B) a
      same a h =
          let e : bit (set_of (chosen k own new)) a ≡ max (bit A a) (bit B a) = ap (λ (x : ℕ). bit x a) (chosen_is k own new) ∙ or_bit A B a in
          let o = or_bit (set_of (chosen k own new)) held a in
          let p = or_bit (low held) B a in
          let q = low_bit held a h in
          let r = low_in own 0 64 k a in
          let s = inside a in
          omega arith

      none : (a : ℕ) → min (bit (low held) a) (bit B a) ≡ 0
      none a =
          by_64 a (λ a. min (bit (low held) a) (bit B a) ≡ 0)
          (λ a h. let q = low_in new 0 64 (k - size own) a in let s = outside a in let u = low_bit held a h in omega arith)
          (λ a h. let u = low_past held a h in omega arith)

-- ---- all addresses of a scope
pub pool_small : (n : ℕ) → n ≤ 64 → set_of (up_to n) < 2 ^ 64
pool_small n h = let e = up_to_ones n in let m : 2 ^ n ≤ 2 ^ 64 = pow_mono h in let p = pow_pos n in omega arith

pub pool_past : (n a : ℕ) → n ≤ a → bit (set_of (up_to n)) a ≡ 0
pool_past n a h = bit_past n (set_of (up_to n)) a (let e = up_to_ones n in let p = pow_pos n in omega arith) h

one_size : (n : ℕ) → n < 64 → size (2 ^ n) ≡ 1
unfolding set_of All rises_from pick
one_size n h = ap size (sym (or_zero_r (2 ^ n))) ∙ ap length (offsets_set_of (n ∷ []) (ap (λ (b : Bool). pick b false true) (le-ltb n 0 (omega arith))) (h, tt))

power_small : (n : ℕ) → n < 64 → 2 ^ n < 2 ^ 64
unfolding All set_of
power_small n h = subst (λ (x : ℕ). x < 2 ^ 64) (or_zero_r (2 ^ n)) (set_of_small 64 (n ∷ []) (h, tt))

pub pool_size : (n : ℕ) → n ≤ 64 → size (set_of (up_to n)) ≡ n
unfolding up_to set_of
pool_size zero h = size_zero
pool_size (suc n) h =
    ap size (set_of_append (up_to n) (n ∷ []) ∙ ap (bit_or (set_of (up_to n))) (or_zero_r (2 ^ n)))
    ∙ size_union (set_of (up_to n)) (2 ^ n) (pool_small n (omega arith)) power
    (bit_eq (bit_and (set_of (up_to n)) (2 ^ n)) 0 (λ a. and_bit (set_of (up_to n)) (2 ^ n) a ∙ none a (eqb a n) refl ∙ sym (bit_of_zero a)))
    ∙ (let p = pool_size n (omega arith) in let q = one_size n (omega arith) in omega arith)
  where
    power : 2 ^ n < 2 ^ 64
    power = power_small n (omega arith)

    none : (a : ℕ) (b : Bool) → eqb a n ≡ b → min (bit (set_of (up_to n)) a) (bit (2 ^ n) a) ≡ 0
    none a true q = let z : a ≡ n = eqb-true a n q in let p = pool_past n a (omega arith) in omega arith
    none a false q = let p = bit_pow_other n a (eqb-false a n q) in omega arith

-- ---- the sets of several tenants
union_grows : {A : Type 0} (f : A → ℕ) (d : A) (a : ℕ) → bit (f d) a ≡ 0 → (t : List A) (g : ℕ) → bit (f (get_or t g d)) a ≤ bit (union_all (map f t)) a
unfolding union_all
union_grows f d a z [] g = omega (arith, z)
union_grows f d a z (x ∷ t) zero = let o = or_bit (f x) (union_all (map f t)) a in omega arith
union_grows f d a z (x ∷ t) (suc g) = let o = or_bit (f x) (union_all (map f t)) a in let r = union_grows f d a z t g in omega arith

pub in_union : {A : Type 0} (f : A → ℕ) (d : A) (a : ℕ) → f d ≡ 0 → (t : List A) (g : ℕ) → bit (f (get_or t g d)) a ≤ bit (union_all (map f t)) a
in_union f d a z t g = union_grows f d a (ap (λ (x : ℕ). bit x a) z ∙ bit_of_zero a) t g

last : (n : ℕ) → set_of (n ∷ []) ≡ 2 ^ n
unfolding set_of
last n = or_zero_r (2 ^ n)

-- all offsets below n are there
pub in_up_to : (n x : ℕ) → x < n → bit (set_of (up_to n)) x ≡ 1
unfolding up_to
in_up_to zero x h = absurd (omega arith)
in_up_to (suc n) x h = ap (λ (m : ℕ). bit m x) (set_of_append (up_to n) (n ∷ [])) ∙ or_bit (set_of (up_to n)) (set_of (n ∷ [])) x ∙ go (eqb x n) refl (in_up_to n x)
  where
    one : set_of (n ∷ []) ≡ 2 ^ n
    one = last n

    go : (b : Bool) → eqb x n ≡ b → (x < n → bit (set_of (up_to n)) x ≡ 1) → max (bit (set_of (up_to n)) x) (bit (set_of (n ∷ [])) x) ≡ 1
    go true e ih =
        let z : bit (set_of (n ∷ [])) x ≡ 1 = ap₂ bit one (eqb-true x n e) ∙ bit_pow_same n in
        let w = bit_le (set_of (up_to n)) x in omega arith
    go false e ih = let z = eqb-false x n e in let p = ih (omega arith) in let w = bit_le (set_of (n ∷ [])) x in omega arith
