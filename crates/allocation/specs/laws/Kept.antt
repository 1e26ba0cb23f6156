-- Laws: a grant that is recorded keeps a sound book sound.
use Prim.Native.Nat.{ℕ, zero, suc, ◌+◌, ◌-◌, ◌^◌, ◌≤◌, ◌<◌, min, max}
use Rattle.std.specs.Prelude.{◌≡◌, Bool, ◌&&◌, leb, length, get_or, set}
use Rattle.std.proofs.Math.Path.{refl, ap}
use Rattle.std.proofs.Common.{sym, ap₂, ◌∙◌, subst, le_trans, get_or-set_same, get_or-set_other}
use Rattle.std.proofs.Math.Bool.{true, false}
use mathlib.Core.List.{List, [], ◌∷◌}
use native.Mathlib.Omega.{arith}
use Rattle.std.proofs.Math.Dec.{ltb, eqb}
use Rattle.std.specs.Int.Bits.{bit_and, bit_or, or_zero_l}
use borrow.Author.Tests.{leb-true, lt-ltb, ltb-true, ltb-false, eqb-true, eqb-false, eq-eqb, ne_eqb}
use Rattle.lists.specs.Pick.{pick}
use Rattle.lists.specs.All.{All, all_by}
use Rattle.lists.specs.laws.All.{all_head, all_cons, all_both}
use Rattle.lists.specs.laws.Both.{and_parts}
use Rattle.lists.specs.Filter.{filter_by}
use Rattle.lists.specs.Down.{largest}
use Rattle.address_set.specs.AddressSet.{bit, offsets}
use Rattle.address_set.specs.laws.Bits.{bit_le, or_bit, and_bit, bit_eq, bit_of_zero}
use Rattle.address_set.specs.laws.Offsets.{offsets_have, offsets_small, bit_past, below_bits}
use Rattle.state.specs.declared.Lease.{Lease}
use Rattle.state.specs.declared.State.{State}
use Rattle.state.specs.Book.{union_all, addresses_of, in_scope, used_in, overlaps, held_of, held_count, busy_of, id_of, other, insert_of, scope_at, reserve_at, limit_at, held_at, with_held, committed, committed_sum}
use Rattle.state.specs.laws.Sets.{adds, addresses_cons, insert_addresses}
use Rattle.soundness.specs.Sound.{tenants_in, scopes_in, id_b, scope_known, below_b, offsets_b, kind_b, period_b, lease_b, padded_b, hold_b, disjoint, apart_in, apart, compatible}
use Rattle.soundness.specs.laws.Book.{lease_ok, Sound}
use Rattle.soundness.specs.laws.Kept.{sum_less}
use Rattle.soundness.specs.laws.Added.{compatible_turn, each_at, owners_at, apart_inserted, sound_inserted}
use Rattle.allocation.specs.declared.Ask.{Ask}
use Rattle.allocation.specs.Rule.{taken_of, busy_in, pool_of, nobodys_of, held_by, free_of, held_after, allowed, grant_of}
use Rattle.allocation.specs.laws.Sets.{size, low, low_bit, low_small, low_same, some_positive, difference_small, difference_in, difference_out, after_count, pool_past}
use Rattle.allocation.specs.laws.Granted.{own_or_nobodys, busy_here, free_held, nobodys_out, grant_allowed, grant_exists}

-- ---- sets that are apart
pub disjoint_bits : (m n : ℕ) → ((a : ℕ) → bit m a + bit n a ≤ 1) → disjoint m n ≡ true
unfolding disjoint
disjoint_bits m n f = eq-eqb (bit_and m n) 0 (bit_eq (bit_and m n) 0 (λ a. and_bit m n a ∙ (let p = f a in let q = bit_le m a in omega arith) ∙ sym (bit_of_zero a)))

pub bits_disjoint : (m n : ℕ) → disjoint m n ≡ true → (a : ℕ) → bit m a + bit n a ≤ 1
unfolding disjoint
bits_disjoint m n e a =
    let z : min (bit m a) (bit n a) ≡ 0 = sym (and_bit m n a) ∙ ap (λ (x : ℕ). bit x a) (eqb-true (bit_and m n) 0 e) ∙ bit_of_zero a in
    let p = bit_le m a in let q = bit_le n a in omega arith

pub apart_in_law : (x y : List Lease) (k : ℕ) → k < 4 → apart x y ≡ true → apart_in (k + 1) x y ≡ true
unfolding apart
apart_in_law x y zero h e = (and_parts (apart_in 1 x y) (apart_in 2 x y && (apart_in 3 x y && apart_in 4 x y)) e).0
apart_in_law x y (suc zero) h e = (and_parts (apart_in 2 x y) (apart_in 3 x y && apart_in 4 x y) (and_parts (apart_in 1 x y) (apart_in 2 x y && (apart_in 3 x y && apart_in 4 x y)) e).1).0
apart_in_law x y (suc (suc zero)) h e =
    (and_parts (apart_in 3 x y) (apart_in 4 x y) (and_parts (apart_in 2 x y) (apart_in 3 x y && apart_in 4 x y) (and_parts (apart_in 1 x y) (apart_in 2 x y && (apart_in 3 x y && apart_in 4 x y)) e).1).1).0
apart_in_law x y (suc (suc (suc zero))) h e =
    (and_parts (apart_in 3 x y) (apart_in 4 x y) (and_parts (apart_in 2 x y) (apart_in 3 x y && apart_in 4 x y) (and_parts (apart_in 1 x y) (apart_in 2 x y && (apart_in 3 x y && apart_in 4 x y)) e).1).1).1
apart_in_law x y (suc (suc (suc (suc k)))) h e = absurd (omega arith)

-- ---- leases and the sets of their addresses
-- what holds of a lease whose addresses, where it passes u, are within B holds of all
within : (u w : Lease → Bool) (B : ℕ → ℕ) (x : List Lease) → ((y : Lease) → (u y ≡ true → (a : ℕ) → bit y.addresses a ≤ B a) → w y ≡ true)
    → ((a : ℕ) → bit (addresses_of u x) a ≤ B a) → all_by w x ≡ true
unfolding all_by pick
within u w B [] f g = refl
within u w B (y ∷ x) f g =
    all_cons w y x (f y (λ e a. let p = part a in let q : bit (adds u y) a ≡ bit y.addresses a = ap (λ (b : Bool). bit (pick b y.addresses 0) a) e in let r = g a in omega arith))
    (within u w B x f (λ a. let p = part a in let r = g a in omega arith))
  where
    part : (a : ℕ) → bit (addresses_of u (y ∷ x)) a ≡ max (bit (adds u y) a) (bit (addresses_of u x) a)
    part a = ap (λ (m : ℕ). bit m a) (addresses_cons u y x) ∙ or_bit (adds u y) (addresses_of u x) a

no_addresses : (u : Lease → Bool) (a : ℕ) → bit (addresses_of u []) a ≡ 0
unfolding addresses_of filter_by union_all
no_addresses u a = bit_of_zero a

-- a lease that is in use in a period is held
pub used_held : (s from to : ℕ) (x : List Lease) (a : ℕ) → bit (busy_of s from to x) a ≤ bit (held_of s x) a
unfolding used_in pick
used_held s from to [] a = let p = no_addresses (used_in s from to) a in omega arith
used_held s from to (y ∷ x) a =
    let p : bit (busy_of s from to (y ∷ x)) a ≡ max (bit (adds (used_in s from to) y) a) (bit (busy_of s from to x) a) = ap (λ (m : ℕ). bit m a) (addresses_cons (used_in s from to) y x) ∙ or_bit (adds (used_in s from to) y) (busy_of s from to x) a in
    let q : bit (held_of s (y ∷ x)) a ≡ max (bit (adds (in_scope s) y) a) (bit (held_of s x) a) = ap (λ (m : ℕ). bit m a) (addresses_cons (in_scope s) y x) ∙ or_bit (adds (in_scope s) y) (held_of s x) a in
    let r = used_held s from to x a in
    let o = go (in_scope s y) (overlaps from to y) in
    omega arith
  where
    go : (b c : Bool) → bit (pick (b && c) y.addresses 0) a ≤ bit (pick b y.addresses 0) a
    go true true = omega arith
    go true false = let z = bit_of_zero a in omega arith
    go false c = omega arith

-- the addresses of sound leases are below the scope's size
below_bit : (n m a : ℕ) → below_b n m ≡ true → a < 64 → n ≤ a → bit m a ≡ 0
unfolding below_b
below_bit n m a e h g =
    let f : ltb (low m) (2 ^ n) ≡ true = sym (below_bits n (low m) (low_small m)) ∙ ap (all_by (λ a. ltb a n)) (low_same m) ∙ e in
    sym (low_bit m a h) ∙ bit_past n (low m) a (ltb-true (low m) (2 ^ n) f) g

one_below : (s : State) (k : ℕ) → k < scopes_in s → (y : Lease) → lease_ok s y ≡ true → (a : ℕ) → a < 64 → (scope_at s k).size ≤ a → bit (adds (in_scope (k + 1)) y) a ≡ 0
unfolding lease_ok offsets_b lease_b pick
one_below s k here y e a h g = go (eqb y.scope (k + 1)) refl
  where
    P : ((id_b y && offsets_b s y) ≡ true) × ((lease_b s y && (padded_b y && hold_b s.clock y)) ≡ true)
    P = and_parts (id_b y && offsets_b s y) (lease_b s y && (padded_b y && hold_b s.clock y)) e

    O : offsets_b s y ≡ true
    O = (and_parts (id_b y) (offsets_b s y) P.0).1

    K : scope_known s y ≡ true
    K = (and_parts (scope_known s y) (kind_b y && period_b s.clock y) (and_parts (lease_b s y) (padded_b y && hold_b s.clock y) P.1).0).0

    below : below_b (scope_at s (y.scope - 1)).size y.addresses ≡ true
    below = sym (ap (λ (b : Bool). pick b (below_b (scope_at s (y.scope - 1)).size y.addresses) true) K) ∙ O

    go : (b : Bool) → eqb y.scope (k + 1) ≡ b → bit (pick b y.addresses 0) a ≡ 0
    go true q =
        let z : y.scope - 1 ≡ k = (let w = eqb-true y.scope (k + 1) q in omega arith) in
        below_bit (scope_at s k).size y.addresses a (ap (λ (j : ℕ). below_b (scope_at s j).size y.addresses) (sym z) ∙ below) h g
    go false q = bit_of_zero a

pub held_below : (s : State) (k : ℕ) → k < scopes_in s → (x : List Lease) → all_by (lease_ok s) x ≡ true → (a : ℕ) → a < 64 → (scope_at s k).size ≤ a → bit (held_of (k + 1) x) a ≡ 0
unfolding addresses_of filter_by union_all
held_below s k here [] e a h g = bit_of_zero a
held_below s k here (y ∷ x) e a h g =
    let q = all_head (lease_ok s) y x e in
    let p : bit (held_of (k + 1) (y ∷ x)) a ≡ max (bit (adds (in_scope (k + 1)) y) a) (bit (held_of (k + 1) x) a) = ap (λ (m : ℕ). bit m a) (addresses_cons (in_scope (k + 1)) y x) ∙ or_bit (adds (in_scope (k + 1)) y) (held_of (k + 1) x) a in
    let r = held_below s k here x q.1 a h g in
    let o = one_below s k here y q.0 a h g in
    omega arith

-- a lease is compatible with those whose addresses in its period, all within B, are not its own
pub compatible_within : (l : Lease) (scope from to B : ℕ) (x : List Lease) → l.scope ≡ scope → l.start ≡ from → l.end ≡ to → ((a : ℕ) → bit l.addresses a + bit B a ≤ 1)
    → ((a : ℕ) → bit (busy_of scope from to x) a ≤ bit B a) → all_by (compatible l) x ≡ true
unfolding compatible used_in overlaps pick
compatible_within l scope from to B x e1 e3 e4 out inside =
    within (used_in scope from to) (compatible l) (λ a. bit B a) x
    (λ y f. compatible_turn l y ∙ ap₂ (λ (p q : Bool). pick p (pick q (disjoint y.addresses l.addresses) true) true) (ap (eqb y.scope) e1)
    (ap₂ (λ (p q : ℕ). ltb y.start q && ltb p y.end) e3 e4) ∙ go y (eqb y.scope scope) (overlaps from to y) refl refl f)
    inside
  where
    go : (y : Lease) (b c : Bool) → eqb y.scope scope ≡ b → overlaps from to y ≡ c → ((eqb y.scope scope && overlaps from to y) ≡ true → (a : ℕ) → bit y.addresses a ≤ bit B a)
        → pick b (pick c (disjoint y.addresses l.addresses) true) true ≡ true
    go y true true p q f = disjoint_bits y.addresses l.addresses (λ a. let g = f (ap₂ (λ (b c : Bool). b && c) p q) a in let o = out a in omega arith)
    go y true false p q f = refl
    go y false c p q f = refl

all_small : (l : List ℕ) → All (λ x. x < 64) l → all_by (λ x. ltb x 64) l ≡ true
unfolding All all_by
all_small [] h = refl
all_small (x ∷ l) h = all_cons (λ x. ltb x 64) x l (lt-ltb x 64 h.0) (all_small l h.1)

-- ---- the grant of a sound book
module _ (s : State) (t : List (List Lease)) (v : Sound s t) (k : ℕ) (here : k < scopes_in s) (a : Ask) (es : a.scope ≡ k + 1) (known : a.tenant < tenants_in s)
    (some : 0 < (grant_of (scope_at s k) (tenants_in s) t a).number) where
  G : ℕ
  G = (grant_of (scope_at s k) (tenants_in s) t a).addresses

  grant_bit : (x : ℕ) → bit G x ≤ max (bit (free_of t a) x) (bit (nobodys_of (scope_at s k) t a) x)
  unfolding G
  grant_bit x = own_or_nobodys (scope_at s k) (tenants_in s) t a x

  -- no other tenant has one of its addresses
  grant_apart : (g : ℕ) → (g ≡ a.tenant → ⊥) → disjoint G (held_of a.scope (get_or t g [])) ≡ true
  grant_apart g n = disjoint_bits G (held_of a.scope (get_or t g [])) (λ x.
      let p = grant_bit x in
      let q = free_held t a x in
      let r = bits_disjoint (held_of a.scope (get_or t a.tenant [])) (held_of a.scope (get_or t g [])) owners x in
      let u = nobodys_out (scope_at s k) t a g x in
      omega arith)
    where
      owners : disjoint (held_of a.scope (get_or t a.tenant [])) (held_of a.scope (get_or t g [])) ≡ true
      owners =
          ap (λ (z : ℕ). disjoint (held_of z (get_or t a.tenant [])) (held_of z (get_or t g []))) es
          ∙ apart_in_law (get_or t a.tenant []) (get_or t g []) k (omega arith) (owners_at s t v a.tenant g n)

  -- no lease of the tenant that overlaps the period has one
  grant_compatible : (l : Lease) → l.scope ≡ a.scope → l.addresses ≡ G → l.start ≡ a.from → l.end ≡ a.to → all_by (compatible l) (get_or t a.tenant []) ≡ true
  grant_compatible l e1 e2 e3 e4 =
      compatible_within l a.scope a.from a.to (busy_of a.scope a.from a.to (get_or t a.tenant [])) (get_or t a.tenant []) e1 e3 e4
      (λ x. subst (λ (g : ℕ). bit g x + bit (busy_of a.scope a.from a.to (get_or t a.tenant [])) x ≤ 1) (sym e2)
      (let p = grant_bit x in
      let b = busy_here a.scope a.from a.to t a.tenant x in
      let r = difference_out (held_by t a) (busy_in a.scope a.from a.to t) x in
      let h = used_held a.scope a.from a.to (get_or t a.tenant []) x in
      let u = nobodys_out (scope_at s k) t a a.tenant x in
      omega arith))
      (λ x. omega arith)

  -- what the tenant holds afterwards
  pub grant_held : (l : Lease) → l.scope ≡ a.scope → l.addresses ≡ (grant_of (scope_at s k) (tenants_in s) t a).addresses → held_count a.scope (insert_of l (get_or t a.tenant [])) ≤ held_after t a (grant_of (scope_at s k) (tenants_in s) t a).number
  unfolding G grant_of pick
  grant_held l e1 e2 =
      let j : ℕ = largest (allowed (scope_at s k) (tenants_in s) t a) a.desired in
      let p : held_count a.scope (insert_of l (get_or t a.tenant [])) ≡ size (bit_or G (held_by t a)) =
      ap size (insert_addresses (in_scope a.scope) l (get_or t a.tenant []) ∙ ap (λ (z : ℕ). bit_or z (held_by t a)) (ap (λ (b : Bool). pick b l.addresses 0) (eq-eqb l.scope a.scope e1) ∙ e2)) in
      let q = after_count (held_by t a) (free_of t a) (nobodys_of (scope_at s k) t a) j (difference_small (held_by t a) (busy_in a.scope a.from a.to t))
      (difference_small (pool_of (scope_at s k)) (taken_of a.scope t)) (free_held t a) (nobodys_out (scope_at s k) t a a.tenant) in
      omega arith

  within_limits : (held_after t a (grant_of (scope_at s k) (tenants_in s) t a).number ≤ limit_at (scope_at s k) a.tenant)
      × (committed_sum (scope_at s k) (tenants_in s) (with_held a.tenant (held_after t a (grant_of (scope_at s k) (tenants_in s) t a).number) (held_at t a.scope)) ≤ (scope_at s k).size)
  unfolding allowed
  within_limits =
      let d : ℕ = held_after t a (grant_of (scope_at s k) (tenants_in s) t a).number in
      let p = and_parts (leb d (limit_at (scope_at s k) a.tenant)) (leb (committed_sum (scope_at s k) (tenants_in s) (with_held a.tenant d (held_at t a.scope))) (scope_at s k).size)
      (grant_allowed s t v k here a es known some) in
      (leb-true d (limit_at (scope_at s k) a.tenant) p.0, leb-true (committed_sum (scope_at s k) (tenants_in s) (with_held a.tenant d (held_at t a.scope))) (scope_at s k).size p.1)

  -- another scope's holding does not change
  held_other : (l : Lease) → l.scope ≡ a.scope → (j : ℕ) → (j ≡ k → ⊥) → held_count (j + 1) (insert_of l (get_or t a.tenant [])) ≡ held_count (j + 1) (get_or t a.tenant [])
  unfolding pick
  held_other l e1 j n =
      ap size (insert_addresses (in_scope (j + 1)) l (get_or t a.tenant [])
      ∙ ap (λ (b : Bool). bit_or (pick b l.addresses 0) (held_of (j + 1) (get_or t a.tenant []))) (ne_eqb l.scope (j + 1) (λ z. n (omega arith)))
      ∙ or_zero_l (held_of (j + 1) (get_or t a.tenant [])))

  module _ (l : Lease) (e1 : l.scope ≡ a.scope) (e2 : l.addresses ≡ (grant_of (scope_at s k) (tenants_in s) t a).addresses) where
    -- document 01's rule 11 of a sound book: each holding at most its limit
    pub grant_limits : (j : ℕ) → j < scopes_in s → held_count (j + 1) (insert_of l (get_or t a.tenant [])) ≤ limit_at (scope_at s j) a.tenant
    unfolding G
    grant_limits j h = go (eqb j k) refl
      where
        go : (b : Bool) → eqb j k ≡ b → held_count (j + 1) (insert_of l (get_or t a.tenant [])) ≤ limit_at (scope_at s j) a.tenant
        go true e =
            let z : j ≡ k = eqb-true j k e in
            let y : a.scope ≡ j + 1 = omega arith in
            let x : held_count (j + 1) (insert_of l (get_or t a.tenant [])) ≡ held_count a.scope (insert_of l (get_or t a.tenant [])) = ap (λ (i : ℕ). held_count i (insert_of l (get_or t a.tenant []))) (sym y) in
            let w : limit_at (scope_at s j) a.tenant ≡ limit_at (scope_at s k) a.tenant = ap (λ (i : ℕ). limit_at (scope_at s i) a.tenant) z in
            let p = grant_held l e1 e2 in
            let q = within_limits.0 in
            omega arith
        go false e =
            let x = held_other l e1 j (eqb-false j k e) in
            let y = v.holdings j a.tenant h known in
            omega arith

    -- rule 12: the sums
    pub grant_commitments : a.tenant < length t → (j : ℕ) → j < scopes_in s → committed_sum (scope_at s j) (tenants_in s) (held_at (set t a.tenant (insert_of l (get_or t a.tenant []))) (j + 1)) ≤ (scope_at s j).size
    unfolding G committed with_held pick
    grant_commitments there j h = go (eqb j k) refl
      where
        x' : List Lease
        x' = insert_of l (get_or t a.tenant [])

        d : ℕ
        d = held_after t a (grant_of (scope_at s k) (tenants_in s) t a).number

        new : (i : ℕ) → held_count i (get_or (set t a.tenant x') a.tenant []) ≡ held_count i x'
        new i = ap (held_count i) (get_or-set_same t a.tenant x' [] there)

        old : (i g : ℕ) → (g ≡ a.tenant → ⊥) → held_count i (get_or (set t a.tenant x') g []) ≡ held_count i (get_or t g [])
        old i g n = ap (held_count i) (get_or-set_other t a.tenant g x' [] n)

        one : (g : ℕ) (b : Bool) → eqb g a.tenant ≡ b → committed (scope_at s k) (held_at (set t a.tenant x') (k + 1)) g ≤ max (pick b d (held_at t a.scope g)) (reserve_at (scope_at s k) g)
        one g true e =
            let z : g ≡ a.tenant = eqb-true g a.tenant e in
            let p : held_count (k + 1) (get_or (set t a.tenant x') g []) ≡ held_count a.scope x' = ap (λ (i : ℕ). held_count (k + 1) (get_or (set t a.tenant x') i [])) z ∙ new (k + 1) ∙ ap (λ (i : ℕ). held_count i x') (sym es) in
            let q = grant_held l e1 e2 in
            omega arith
        one g false e =
            let p = old (k + 1) g (eqb-false g a.tenant e) in
            let q : held_at t a.scope g ≡ held_at t (k + 1) g = ap (λ (i : ℕ). held_at t i g) es in
            omega arith

        same : (j : ℕ) → (j ≡ k → ⊥) → (g : ℕ) (b : Bool) → eqb g a.tenant ≡ b → committed (scope_at s j) (held_at (set t a.tenant x') (j + 1)) g ≤ committed (scope_at s j) (held_at t (j + 1)) g
        same j n g true e =
            let z : g ≡ a.tenant = eqb-true g a.tenant e in
            let p : held_count (j + 1) (get_or (set t a.tenant x') g []) ≡ held_count (j + 1) (get_or t a.tenant []) = ap (λ (i : ℕ). held_count (j + 1) (get_or (set t a.tenant x') i [])) z ∙ new (j + 1) ∙ held_other l e1 j n in
            let q : held_count (j + 1) (get_or t g []) ≡ held_count (j + 1) (get_or t a.tenant []) = ap (λ (i : ℕ). held_count (j + 1) (get_or t i [])) z in
            omega arith
        same j n g false e = let p = old (j + 1) g (eqb-false g a.tenant e) in omega arith

        go : (b : Bool) → eqb j k ≡ b → committed_sum (scope_at s j) (tenants_in s) (held_at (set t a.tenant x') (j + 1)) ≤ (scope_at s j).size
        go true e =
            let z : k ≡ j = sym (eqb-true j k e) in
            subst (λ (i : ℕ). committed_sum (scope_at s i) (tenants_in s) (held_at (set t a.tenant x') (i + 1)) ≤ (scope_at s i).size) z
            (le_trans (sum_less _ _ (tenants_in s) (λ g q. one g (eqb g a.tenant) refl)) within_limits.1)
        go false e = le_trans (sum_less _ (committed (scope_at s j) (held_at t (j + 1))) (tenants_in s) (λ g q. same j (eqb-false j k e) g (eqb g a.tenant) refl)) (v.commitments j h)

    -- rule 9: no address has two tenants
    pub grant_owners : (g : ℕ) → (g ≡ a.tenant → ⊥) → apart (insert_of l (get_or t a.tenant [])) (get_or t g []) ≡ true
    unfolding G pick
    grant_owners g n = apart_inserted l (get_or t a.tenant []) (get_or t g []) (owners_at s t v a.tenant g n) (λ i. go i (eqb l.scope i) refl)
      where
        zero_apart : (m : ℕ) → disjoint 0 m ≡ true
        zero_apart m = disjoint_bits 0 m (λ x. let z = bit_of_zero x in let y = bit_le m x in omega arith)

        go : (i : ℕ) (b : Bool) → eqb l.scope i ≡ b → disjoint (pick b l.addresses 0) (held_of i (get_or t g [])) ≡ true
        go i true e =
            let z : i ≡ a.scope = sym (eqb-true l.scope i e) ∙ e1 in
            ap₂ (λ (m j : ℕ). disjoint m (held_of j (get_or t g []))) e2 z ∙ grant_apart g n
        go i false e = zero_apart (held_of i (get_or t g []))

    -- its addresses are in the pool, and there is one
    grant_below : (x : ℕ) → x < 64 → (scope_at s k).size ≤ x → bit G x ≡ 0
    grant_below x h g =
        let p = grant_bit x in
        let q = free_held t a x in
        let r : bit (held_by t a) x ≡ 0 = ap (λ (i : ℕ). bit (held_of i (get_or t a.tenant [])) x) es ∙ held_below s k here (get_or t a.tenant []) (each_at s t v a.tenant) x h g in
        let u = difference_in (pool_of (scope_at s k)) (taken_of a.scope t) x in
        let w = pool_past (min (scope_at s k).size 64) x (omega arith) in
        omega arith

    pub grant_offsets : below_b (scope_at s k).size l.addresses ≡ true
    unfolding below_b G
    grant_offsets =
        ap (λ (m : ℕ). all_by (λ a. ltb a (scope_at s k).size) (offsets m)) e2
        ∙ all_both (λ x. eqb (bit G x) 1) (λ x. ltb x 64) (λ x. ltb x (scope_at s k).size) (offsets G) (λ x p q. low_enough x (eqb-true (bit G x) 1 p) (ltb-true x 64 q) (ltb x (scope_at s k).size) refl)
        (offsets_have G) (all_small (offsets G) (offsets_small G))
      where
        low_enough : (x : ℕ) → bit G x ≡ 1 → x < 64 → (b : Bool) → ltb x (scope_at s k).size ≡ b → ltb x (scope_at s k).size ≡ true
        low_enough x p q true e = e
        low_enough x p q false e = let z = grant_below x q (ltb-false x (scope_at s k).size e) in absurd (omega arith)

    pub grant_some : 0 < l.addresses
    unfolding G
    grant_some =
        let p = grant_exists s t v k here a es known some in
        let q = some_positive G (omega arith) in
        omega arith

    -- recording the grant keeps the book sound
    pub sound_granted : l.start ≡ a.from → l.end ≡ a.to → a.tenant < length t → length (get_or t a.tenant []) < 16 → lease_ok s l ≡ true → all_by (other (id_of l)) (get_or t a.tenant []) ≡ true
        → Sound s (set t a.tenant (insert_of l (get_or t a.tenant [])))
    unfolding G
    sound_granted e3 e4 there room ok new =
        sound_inserted s t a.tenant l v known there room ok new (grant_compatible l e1 e2 e3 e4) grant_owners grant_limits (grant_commitments there)
