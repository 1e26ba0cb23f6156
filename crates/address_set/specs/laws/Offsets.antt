-- Laws: sets and lists of offsets: the one gives the other back, and the bit forms of what the functions promise by lists.
use Rattle.std.specs.Prelude.{◌≡◌, refl, Bool, true, false, not, List, [], ◌∷◌, ◌++◌, map, ℕ, zero, suc, ◌+◌, ◌-◌, ◌*◌, ◌%◌, ◌^◌, ◌≤◌, ◌<◌, min, max, ltb, eqb, length, get_or}
use Rattle.std.proofs.Common.{sym, ap, ap₂, ◌∙◌, subst, arith, one-mul, pow-suc, lt_of_lt_of_le, length-append, pow_pos, pow_mono, shl_exact, ltb-true, ltb-false, lt-ltb, le-ltb, eq-eqb, ne_eqb, eqb-true}
use Rattle.std.proofs.Math.Nat.{div-eq_of_lt}
use Rattle.std.specs.Int.Bits.{bit_and, bit_or, or_zero_r, or_zero_l, or_shifted_r}
use Rattle.std.proofs.lemmas.Nat.{or_lt}
use Rattle.std.proofs.lemmas.List.{length-map, get_or_at}
use Rattle.std.proofs.Math.ListN.{get_or-append}
use Rattle.std.proofs.Math.Pow.{pow-lt}
use Rattle.std.proofs.lemmas.Bool.{eqb-false}
use Rattle.lists.specs.Pick.{pick}
use Rattle.std.specs.List.{fold}
use Rattle.lists.specs.All.{All, all_by}
use Rattle.lists.specs.laws.All.{all_head, all_cons, all_both}
use Rattle.lists.specs.Filter.{filter_by, is_in}
use Rattle.lists.specs.laws.Each.{map_at}
use Rattle.lists.specs.laws.Filter.{in_filter, in_fact}
use Rattle.address_set.specs.AddressSet.{bit, keep, offsets_from, offsets, set_of, difference_of, up_to, read_offsets, with_offset, rises_from, rises}
use Rattle.address_set.specs.laws.Bits.{without, bit_le, or_bit, bit_without, bit_of_zero, bit_ext, bit_eq, bit_pow_same, bit_pow_other, offsets_cong, offsets_of_zero, set_of_append, or_assoc, and_not}

-- ---- rising offsets and their set

pub rises_step : (m y : ℕ) (l : List ℕ) → rises_from m (y ∷ l) ≡ true → (m ≤ y) × (rises_from (suc y) l ≡ true)
unfolding rises_from pick
rises_step m y l e = go (ltb y m) refl e
  where
    go : (b : Bool) → ltb y m ≡ b → pick b false (rises_from (suc y) l) ≡ true → (m ≤ y) × (rises_from (suc y) l ≡ true)
    go true q e = let z : ◌≡◌ {A = Bool} false true = e in let w : ◌≡◌ {A = ℕ} 0 1 = cc in absurd (omega arith)
    go false q e = (ltb-false y m q, e)

rises_cons : (m y : ℕ) (l : List ℕ) → m ≤ y → rises_from (suc y) l ≡ true → rises_from m (y ∷ l) ≡ true
unfolding rises_from pick
rises_cons m y l h e = ap (λ (b : Bool). pick b false (rises_from (suc y) l)) (le-ltb y m h) ∙ e

rises_more : (m n : ℕ) (l : List ℕ) → m ≤ n → rises_from n l ≡ true → rises_from m l ≡ true
unfolding rises_from
rises_more m n [] h e = refl
rises_more m n (y ∷ l) h e = let (a, b) = rises_step n y l e in rises_cons m y l (omega arith) b

-- what rises from m on has no bit below m
none_below : (m : ℕ) (l : List ℕ) → rises_from m l ≡ true → (a : ℕ) → a < m → bit (set_of l) a ≡ 0
unfolding set_of
none_below m [] e a h = bit_of_zero a
none_below m (y ∷ l) e a h =
    let (p, q) = rises_step m y l e in
    or_bit (2 ^ y) (set_of l) a ∙ ap₂ max (bit_pow_other y a (λ r. absurd (omega arith))) (none_below (suc y) l q a (omega arith))

-- the offsets of rising offsets
offsets_of : (k at : ℕ) (l : List ℕ) → rises_from at l ≡ true → All (λ x. x < at + k) l → offsets_from (set_of l) at k ≡ l
unfolding offsets_from set_of All
offsets_of zero at [] e h = refl
offsets_of zero at (y ∷ l) e h = let (p, q) = rises_step at y l e in let r = h.0 in absurd (omega arith)
offsets_of (suc k) at [] e h = offsets_of_zero at (suc k)
offsets_of (suc k) at (y ∷ l) e h = go (ltb at y) refl (offsets_of k (suc at) (y ∷ l)) (offsets_of k (suc at) l)
  where
    m : ℕ
    m = bit_or (2 ^ y) (set_of l)

    fits : (x : ℕ) → x < at + suc k → x < suc at + k
    fits x g = omega arith

    fit : (l : List ℕ) → All (λ x. x < at + suc k) l → All (λ x. x < suc at + k) l
    fit [] h = tt
    fit (x ∷ l) h = (fits x h.0, fit l h.1)

    go : (b : Bool) → ltb at y ≡ b
        → (rises_from (suc at) (y ∷ l) ≡ true → All (λ x. x < suc at + k) (y ∷ l) → offsets_from (set_of (y ∷ l)) (suc at) k ≡ y ∷ l)
        → (rises_from (suc at) l ≡ true → All (λ x. x < suc at + k) l → offsets_from (set_of l) (suc at) k ≡ l)
        → keep (bit m at) at (offsets_from m (suc at) k) ≡ y ∷ l
    go true q ih ih' =
        let (p, r) = rises_step at y l e in
        let s : at < y = ltb-true at y q in
        let up : rises_from (suc at) (y ∷ l) ≡ true = rises_cons (suc at) y l s r in
        ap (λ (b : ℕ). keep b at (offsets_from m (suc at) k)) (none_below (suc at) (y ∷ l) up at (omega arith)) ∙ ih up (fit (y ∷ l) h)
    go false q ih ih' =
        let (p, r) = rises_step at y l e in
        let s : y ≡ at = (let g = ltb-false at y q in omega arith) in
        let r' : rises_from (suc at) l ≡ true = subst (λ (z : ℕ). rises_from (suc z) l ≡ true) s r in
        let same : bit m at ≡ 1 = or_bit (2 ^ y) (set_of l) at ∙ ap₂ max (ap (λ (z : ℕ). bit (2 ^ z) at) s ∙ bit_pow_same at) (none_below (suc at) l r' at (omega arith)) in
        let rest : offsets_from m (suc at) k ≡ offsets_from (set_of l) (suc at) k =
        offsets_cong m (set_of l) (suc at) k
        (λ a g. or_bit (2 ^ y) (set_of l) a ∙ ap (λ (x : ℕ). max x (bit (set_of l) a)) (bit_pow_other y a (λ z. absurd (omega arith))) ∙ omega arith) in
        ap (λ (b : ℕ). keep b at (offsets_from m (suc at) k)) same ∙ ap₂ {C = List ℕ} (λ (x : ℕ) (t : List ℕ). x ∷ t) (sym s) (rest ∙ ih' r' (fit l h.1))

pub offsets_set_of : (l : List ℕ) → rises l ≡ true → All (λ x. x < 64) l → offsets (set_of l) ≡ l
offsets_set_of l e h = offsets_of 64 0 l e h

-- offsets rise and are below 64
rises_nil : (n : ℕ) → rises_from n [] ≡ true
unfolding rises_from
rises_nil n = refl

offsets_rise : (m at k : ℕ) → rises_from at (offsets_from m at k) ≡ true
unfolding offsets_from
offsets_rise m at zero = rises_nil at
offsets_rise m at (suc k) = go (bit m at) (offsets_rise m (suc at) k)
  where
    go : (b : ℕ) → rises_from (suc at) (offsets_from m (suc at) k) ≡ true → rises_from at (keep b at (offsets_from m (suc at) k)) ≡ true
    go zero ih = rises_more at (suc at) (offsets_from m (suc at) k) (omega arith) ih
    go (suc b) ih = rises_cons at at (offsets_from m (suc at) k) (omega arith) ih

pub rises_offsets : (m : ℕ) → rises (offsets m) ≡ true
rises_offsets m = offsets_rise m 0 64

offsets_below : (m at k n : ℕ) → at + k ≤ n → All (λ x. x < n) (offsets_from m at k)
unfolding offsets_from All
offsets_below m at zero n h = tt
offsets_below m at (suc k) n h = go (bit m at) (offsets_below m (suc at) k n (omega arith))
  where
    go : (b : ℕ) → All (λ x. x < n) (offsets_from m (suc at) k) → All (λ x. x < n) (keep b at (offsets_from m (suc at) k))
    go zero ih = ih
    go (suc b) ih = (omega arith, ih)

pub offsets_small : (m : ℕ) → All (λ x. x < 64) (offsets m)
offsets_small m = offsets_below m 0 64 64 (omega arith)

-- the bits of the offsets of m are those of m
set_of_bit : (m at k a : ℕ) → at ≤ a → a < at + k → bit (set_of (offsets_from m at k)) a ≡ bit m a
unfolding offsets_from set_of
set_of_bit m at zero a h g = absurd (omega arith)
set_of_bit m at (suc k) a h g = go (bit m at) refl (ltb at a) refl (λ h. set_of_bit m (suc at) k a h (omega arith))
  where
    R : List ℕ
    R = offsets_from m (suc at) k

    go : (b : ℕ) → bit m at ≡ b → (c : Bool) → ltb at a ≡ c → (suc at ≤ a → bit (set_of R) a ≡ bit m a) → bit (set_of (keep b at R)) a ≡ bit m a
    go zero e true q ih = ih (ltb-true at a q)
    go zero e false q ih =
        let s : a ≡ at = (let g = ltb-false at a q in omega arith) in
        none_below (suc at) R (offsets_rise m (suc at) k) a (omega arith) ∙ sym (ap (bit m) s ∙ e)
    go (suc b) e true q ih =
        or_bit (2 ^ at) (set_of R) a ∙ ap₂ max (bit_pow_other at a (λ z. let l = ltb-true at a q in absurd (omega arith))) (ih (ltb-true at a q)) ∙ omega arith
    go (suc b) e false q ih =
        let s : a ≡ at = (let g = ltb-false at a q in omega arith) in
        let one : bit m at ≡ 1 = (let u = bit_le m at in omega arith) in
        or_bit (2 ^ at) (set_of R) a
        ∙ ap₂ max (ap (bit (2 ^ at)) s ∙ bit_pow_same at) (none_below (suc at) R (offsets_rise m (suc at) k) a (omega arith))
        ∙ sym (ap (bit m) s ∙ one)

-- offsets below n make a number of n bits
pub set_of_small : (n : ℕ) (l : List ℕ) → All (λ x. x < n) l → set_of l < 2 ^ n
unfolding set_of All
set_of_small n [] h = pow_pos n
set_of_small n (x ∷ l) h = or_lt n (2 ^ x) (set_of l) (pow-lt h.0) (set_of_small n l h.1)

pub set_of_offsets : (m : ℕ) → m < 2 ^ 64 → set_of (offsets m) ≡ m
set_of_offsets m h = bit_ext 64 (set_of (offsets m)) m (set_of_small 64 (offsets m) (offsets_small m)) h (λ a g. set_of_bit m 0 64 a (omega arith) g)

-- ---- members
-- a bit is 1 where its offset is in the list
pub bit_set_of : (a : ℕ) (l : List ℕ) → bit (set_of l) a ≡ pick (is_in a l) 1 0
unfolding set_of is_in pick
bit_set_of a [] = bit_of_zero a
bit_set_of a (x ∷ l) = or_bit (2 ^ x) (set_of l) a ∙ go (eqb a x) refl (bit_set_of a l)
  where
    go : (c : Bool) → eqb a x ≡ c → bit (set_of l) a ≡ pick (is_in a l) 1 0 → max (bit (2 ^ x) a) (bit (set_of l) a) ≡ pick (pick c true (is_in a l)) 1 0
    go true q ih =
        let e : bit (2 ^ x) a ≡ 1 = ap (bit (2 ^ x)) (eqb-true a x q) ∙ bit_pow_same x in
        let h = bit_le (set_of l) a in omega arith
    go false q ih =
        let e : bit (2 ^ x) a ≡ 0 = bit_pow_other x a (eqb-false a x q) in
        let g : max (bit (2 ^ x) a) (bit (set_of l) a) ≡ bit (set_of l) a = omega arith in
        g ∙ ih

pub bit_in : (m a : ℕ) → m < 2 ^ 64 → bit m a ≡ pick (is_in a (offsets m)) 1 0
bit_in m a h = ap (λ (x : ℕ). bit x a) (sym (set_of_offsets m h)) ∙ bit_set_of a (offsets m)

-- an offset below 64 is in the list where its bit is 1
pub in_bit : (m a : ℕ) → a < 64 → is_in a (offsets m) ≡ eqb (bit m a) 1
unfolding pick
in_bit m a h = go (is_in a (offsets m)) (sym (set_of_bit m 0 64 a (omega arith) (omega arith)) ∙ bit_set_of a (offsets m))
  where
    go : (b : Bool) → bit m a ≡ pick b 1 0 → b ≡ eqb (bit m a) 1
    go true e = sym (eq-eqb (bit m a) 1 e)
    go false e = sym (ne_eqb (bit m a) 1 (λ z. absurd (omega arith)))

-- and no other is
pub in_small : (m a : ℕ) → is_in a (offsets m) ≡ true → a < 64
in_small m a e = in_fact (λ x. x < 64) (offsets m) a (offsets_small m) e

-- nor one below those that rise
pub rises_out : (m a : ℕ) (l : List ℕ) → a < m → rises_from m l ≡ true → is_in a l ≡ false
unfolding pick
rises_out m a l h r = go (is_in a l) (sym (none_below m l r a h) ∙ bit_set_of a l)
  where
    go : (b : Bool) → ◌≡◌ {A = ℕ} 0 (pick b 1 0) → b ≡ false
    go true e = absurd (omega arith)
    go false e = refl

-- no bit from k on in a number of k bits
pub bit_past : (k m a : ℕ) → m < 2 ^ k → k ≤ a → bit m a ≡ 0
unfolding bit
bit_past k m a h g = ap (λ (x : ℕ). x % 2) (div-eq_of_lt (lt_of_lt_of_le h (pow_mono g)))

-- every offset of a set has its bit
offsets_set : (m at k : ℕ) → all_by (λ a. eqb (bit m a) 1) (offsets_from m at k) ≡ true
unfolding offsets_from all_by
offsets_set m at zero = refl
offsets_set m at (suc k) = go (bit m at) refl (offsets_set m (suc at) k)
  where
    go : (b : ℕ) → bit m at ≡ b → all_by (λ a. eqb (bit m a) 1) (offsets_from m (suc at) k) ≡ true → all_by (λ a. eqb (bit m a) 1) (keep b at (offsets_from m (suc at) k)) ≡ true
    go zero e ih = ih
    go (suc b) e ih = all_cons (λ a. eqb (bit m a) 1) at (offsets_from m (suc at) k) (eq-eqb (bit m at) 1 (let l = bit_le m at in omega arith)) ih

pub offsets_have : (m : ℕ) → all_by (λ a. eqb (bit m a) 1) (offsets m) ≡ true
offsets_have m = offsets_set m 0 64

small_all : (n : ℕ) (l : List ℕ) → all_by (λ a. ltb a n) l ≡ true → All (λ x. x < n) l
unfolding All
small_all n [] h = tt
small_all n (x ∷ l) h = let p = all_head (λ a. ltb a n) x l h in (ltb-true x n p.0, small_all n l p.1)

-- the offsets of a set are below n where it is a number of n bits
pub below_bits : (n m : ℕ) → m < 2 ^ 64 → all_by (λ a. ltb a n) (offsets m) ≡ ltb m (2 ^ n)
below_bits n m h = go (ltb m (2 ^ n)) refl (all_by (λ a. ltb a n) (offsets m)) refl
  where
    low : m < 2 ^ n → (a : ℕ) → eqb (bit m a) 1 ≡ true → ltb a n ≡ true
    low g a e = pick_low (ltb a n) refl
      where
        pick_low : (b : Bool) → ltb a n ≡ b → ltb a n ≡ true
        pick_low true q = q
        pick_low false q = let z = bit_past n m a g (ltb-false a n q) in let o = eqb-true (bit m a) 1 e in absurd (omega arith)

    go : (p : Bool) → ltb m (2 ^ n) ≡ p → (q : Bool) → all_by (λ a. ltb a n) (offsets m) ≡ q → q ≡ p
    go true e q f =
        let g = all_both (λ a. eqb (bit m a) 1) (λ a. eqb (bit m a) 1) (λ a. ltb a n) (offsets m) (λ a u v. low (ltb-true m (2 ^ n) e) a u) (offsets_have m) (offsets_have m) in
        sym f ∙ g
    go false e true f =
        let g : set_of (offsets m) < 2 ^ n = set_of_small n (offsets m) (small_all n (offsets m) f) in
        let w : set_of (offsets m) ≡ m = set_of_offsets m h in
        let l = ltb-false m (2 ^ n) e in
        absurd (omega arith)
    go false e false f = refl

-- ---- bit forms

pub difference_without : (m n : ℕ) → m < 2 ^ 64 → n < 2 ^ 64 → without m n ≡ difference_of m n
unfolding difference_of pick
difference_without m n hm hn = bit_eq _ _ (λ a.
    bit_without m n a ∙ ap₂ (λ (x y : ℕ). x - min x y) (bit_in m a hm) (bit_in n a hn) ∙ go (is_in a (offsets m)) (is_in a (offsets n))
    ∙ sym (bit_set_of a (filter_by (λ a. not (is_in a (offsets n))) (offsets m)) ∙ ap (λ (b : Bool). pick b 1 0) (in_filter a (λ a. not (is_in a (offsets n))) (offsets m))))
  where
    go : (p q : Bool) → pick p 1 0 - min (pick p 1 0) (pick q 1 0) ≡ pick (pick (not q) p false) 1 0
    go true true = refl
    go true false = refl
    go false true = refl
    go false false = refl

-- the offsets below n are the lowest n bits
pub up_to_ones : (n : ℕ) → set_of (up_to n) ≡ 2 ^ n - 1
unfolding set_of up_to
up_to_ones zero = refl
up_to_ones (suc n) =
    set_of_append (up_to n) (n ∷ []) ∙ ap₂ bit_or (up_to_ones n) (or_zero_r (2 ^ n) ∙ sym (one-mul (2 ^ n)))
    ∙ or_shifted_r 1 n (2 ^ n - 1) (let p = pow_pos n in omega arith)
    ∙ (let p = pow_pos n in let e = pow-suc 2 n in omega arith)

-- they stand in their places
up_to_long : (n : ℕ) → length (up_to n) ≡ n
unfolding up_to
up_to_long zero = refl
up_to_long (suc n) = length-append (up_to n) (n ∷ []) ∙ (let e = up_to_long n in omega arith)

up_to_at : (n a d : ℕ) → a < n → get_or (up_to n) a d ≡ a
unfolding up_to
up_to_at zero a d h = absurd (omega arith)
up_to_at (suc n) a d h = go (ltb a n) refl (up_to_at n a d)
  where
    go : (b : Bool) → ltb a n ≡ b → (a < n → get_or (up_to n) a d ≡ a) → get_or (up_to n ++ n ∷ []) a d ≡ a
    go true e ih = let q = ltb-true a n e in let p = up_to_long n in get_or-append (up_to n) (n ∷ []) d a (omega arith) ∙ ih q
    go false e ih = let q = ltb-false a n e in let z : n ≡ a = omega arith in get_or_at (up_to n) n [] d a (up_to_long n ∙ z) ∙ z

-- what is made of each, one after the other
module _ {A : Type 0} (f : ℕ → A) (n : ℕ) where
  pub each_long : length (map f (up_to n)) ≡ n
  each_long = length-map (up_to n) f ∙ up_to_long n

  pub each_at : (a : ℕ) (d : A) → a < n → get_or (map f (up_to n)) a d ≡ f a
  each_at a d h = map_at f (up_to n) a 0 d (let e = up_to_long n in omega arith) ∙ ap f (up_to_at n a 0 h)

pub below_ones : (n r : ℕ) → n < 64 → r ≡ 2 ^ n - 1 → r ≡ set_of (up_to (min n 64))
below_ones n r h e = e ∙ sym (up_to_ones n) ∙ ap (λ (x : ℕ). set_of (up_to x)) (let q : n ≡ min n 64 = omega arith in q)

pub all_ones : (n : ℕ) → 64 ≤ n → 18446744073709551615 ≡ set_of (up_to (min n 64))
all_ones n h = sym (up_to_ones 64) ∙ ap (λ (x : ℕ). set_of (up_to x)) (let q : 64 ≡ min n 64 = omega arith in q)

-- ---- a list read into a set, one offset at a time
pub shift_one : (a : ℕ) → a < 64 → (1 * 2 ^ a) % 2 ^ 64 ≡ 2 ^ a
shift_one a h = shl_exact 1 a 64 (omega arith) (omega arith) ∙ one-mul (2 ^ a)

pub with_in : (m a : ℕ) → a < 64 → bit_or m ((1 * 2 ^ a) % 2 ^ 64) ≡ with_offset m a
unfolding with_offset pick
with_in m a h = ap (bit_or m) (shift_one a h) ∙ sym (ap (λ (b : Bool). pick b (bit_or m (2 ^ a)) m) (lt-ltb a 64 h))

pub with_out : (m a : ℕ) → 64 ≤ a → m ≡ with_offset m a
unfolding with_offset pick
with_out m a h = sym (ap (λ (b : Bool). pick b (bit_or m (2 ^ a)) m) (le-ltb a 64 h))

read_from : (m : ℕ) (l : List ℕ) → fold with_offset m l ≡ bit_or m (read_offsets l)
unfolding read_offsets filter_by set_of with_offset pick
read_from m [] = sym (or_zero_r m)
read_from m (x ∷ l) = go (ltb x 64) (λ n. read_from n l)
  where
    go : (b : Bool) → ((n : ℕ) → fold with_offset n l ≡ bit_or n (read_offsets l))
        → fold with_offset (pick b (bit_or m (2 ^ x)) m) l ≡ bit_or m (set_of (pick b (x ∷ filter_by (λ a. ltb a 64) l) (filter_by (λ a. ltb a 64) l)))
    go true ih = ih (bit_or m (2 ^ x)) ∙ or_assoc m (2 ^ x) (read_offsets l)
    go false ih = ih m

pub read_is : (l : List ℕ) → fold with_offset 0 l ≡ read_offsets l
read_is l = read_from 0 l ∙ or_zero_l (read_offsets l)

-- ---- as the code has them
pub difference_by : (m n : ℕ) → m < 2 ^ 64 → n < 2 ^ 64 → bit_and m ((2 ^ 64 - 1) - n) ≡ difference_of m n
difference_by m n hm hn = and_not 64 m n hm hn ∙ difference_without m n hm hn

pub shift_some : (a : ℕ) → a < 64 → 1 ≤ (1 * 2 ^ a) % 2 ^ 64
shift_some a h = let e = shift_one a h in let p = pow_pos a in omega arith

pub shift_less : (a : ℕ) → a < 64 → (1 * 2 ^ a) % 2 ^ 64 - 1 ≡ set_of (up_to (min a 64))
shift_less a h = below_ones a _ h (ap (λ (x : ℕ). x - 1) (shift_one a h))
