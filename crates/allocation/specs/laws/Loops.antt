-- Laws: between the grant rule and the loops that gather its numbers.
use Rattle.std.specs.Prelude.{ℕ, zero, suc, ◌+◌, ◌-◌, ◌*◌, ◌≤◌, ◌<◌, max, min, ◌≡◌, refl, Bool, true, false, ◌&&◌, List, [], ◌∷◌, map, leb, eqb, length, get_or}
use Rattle.std.proofs.Common.{sym, ap, ap₂, ◌∙◌, arith, eq-eqb, le-leb}
use Rattle.std.specs.Int.Bits.{bit_or, or_zero_l, or_zero_r}
use Rattle.std.proofs.Math.ListN.{get_or-map}
use Rattle.std.proofs.lemmas.Bool.{lt-leb}
use Rattle.lists.specs.Pick.{pick}
use Rattle.lists.specs.laws.Pick.{pick_lt, pick_not_lt}
use Rattle.lists.specs.laws.Both.{and_both}
use Rattle.lists.specs.Filter.{filter_by}
use Rattle.lists.specs.Fold.{fold}
use Rattle.lists.specs.Sums.{sum_to, except}
use Rattle.lists.specs.laws.Sums.{sum_same, sum_split}
use Rattle.lists.specs.Down.{largest}
use Rattle.lists.specs.laws.Down.{largest_same}
use Rattle.address_set.specs.laws.Bits.{length_offsets, or_assoc}
use Rattle.address_set.specs.AddressSet.{offsets, set_of, difference_of, chosen}
use Rattle.state.specs.declared.Lease.{Lease}
use Rattle.state.specs.declared.TenantLeases.{TenantLeases}
use Rattle.state.specs.declared.Scope.{Scope}
use Rattle.state.specs.Book.{in_use, union_all, addresses_of, held_of, busy_of, reserve_at, limit_at, held_at, with_held, committed, committed_sum}
use Rattle.soundness.specs.declared.Held.{Held}
use Rattle.soundness.specs.declared.HeldTable.{HeldTable}
use Rattle.soundness.specs.Sound.{one_to}
use Rattle.soundness.specs.Parts.{set_at}
use Rattle.allocation.specs.declared.Ask.{Ask}
use Rattle.allocation.specs.declared.GrantNumbers.{GrantNumbers}
use Rattle.allocation.specs.declared.Grant.{Grant}
use Rattle.allocation.specs.Closed.{allowed_of}
use Rattle.allocation.specs.Rule.{taken_of, pool_of, free_of, allowed, grant_of, suffices, grant_to}
use Rattle.allocation.specs.Loops.{set_in, sets_in, count_at, free_in, numbers_of, Numbered}
use Rattle.allocation.specs.Own.{grant_known, grant_in}

-- ---- the sets
pub set_here : (x : Held) (s k : ℕ) → (s ≡ 0 → ⊥) → s ≤ 4 → k ≡ s - 1 → set_at x k ≡ set_in s x
unfolding set_in one_to pick
set_here x s k h g e =
    ap (set_at x) e ∙ sym (ap (λ (b : Bool). pick b (set_at x (s - 1)) 0) (and_both (le-leb 1 s (let z = positive s h in omega arith)) (le-leb s 4 g)))
  where
    positive : (n : ℕ) → (n ≡ 0 → ⊥) → 1 ≤ n
    positive zero f = absurd (f refl)
    positive (suc n) f = omega arith

pub set_zero : (x : Held) (s : ℕ) → s ≡ 0 → 0 ≡ set_in s x
unfolding set_in one_to pick
set_zero x s e = sym (ap (λ (n : ℕ). pick (leb 1 n && leb n 4) (set_at x (n - 1)) 0) e)

pub set_past : (x : Held) (s : ℕ) → 4 < s → 0 ≡ set_in s x
unfolding set_in one_to pick
set_past x s h = sym (ap₂ (λ (a b : Bool). pick (a && b) (set_at x (s - 1)) 0) (le-leb 1 s (omega arith)) (lt-leb s 4 h))

joined : (sum : ℕ) (m : List ℕ) → fold bit_or sum m ≡ bit_or sum (union_all m)
unfolding union_all
joined sum [] = sym (or_zero_r sum)
joined sum (x ∷ m) = joined (bit_or sum x) m ∙ or_assoc sum x (union_all m)

pub union_is : (m : List ℕ) → fold bit_or 0 m ≡ union_all m
union_is m = joined 0 m ∙ or_zero_l (union_all m)

pub free_is : (m : List ℕ) (own : TenantLeases) (a : Ask) (u r : ℕ) → u ≡ busy_of a.scope a.from a.to (in_use own) → r ≡ difference_of (get_or m a.tenant 0) u → r ≡ free_in m (in_use own) a
unfolding free_in
free_is m own a u r p e = e ∙ ap (difference_of (get_or m a.tenant 0)) p

-- ---- what the other tenants hold or have in reserve
pub other_committed_read : (m : List ℕ) (c : Scope) (h g r : ℕ) → r ≡ pick (eqb g h) 0 (max (length (offsets (get_or m g 0))) (get_or c.reserve g 0)) → r ≡ except h (committed c (count_at m)) g
unfolding except committed count_at
other_committed_read m c h g r e = e

pub other_committed_is : (m reserve n r : ℕ) → n ≡ length (offsets m) → r ≡ max n reserve → r ≡ max (length (offsets m)) reserve
other_committed_is m reserve n r p e = e ∙ ap (λ (x : ℕ). max x reserve) p

pub other_committed_small : (m reserve n r : ℕ) → n ≡ length (offsets m) → reserve < 256 → r ≡ max n reserve → r < 256
other_committed_small m reserve n r p h e = omega (arith, length_offsets m)

-- the others' and the tenant's own, with d for what it holds, make the sum
pub committed_split : (c : Scope) (n : ℕ) (held : ℕ → ℕ) (h d : ℕ) → h < n
    → committed_sum c n (with_held h d held) ≡ sum_to (except h (committed c held)) n + max d (reserve_at c h)
unfolding committed with_held except pick
committed_split c n held h d p =
    sum_split (committed c (with_held h d held)) n h p
    ∙ ap₂ (λ (x y : ℕ). x + y) (sum_same (except h (committed c (with_held h d held))) (except h (committed c held)) n (λ g q. others g (eqb g h)))
    (ap (λ (b : Bool). max (pick b d (held h)) (reserve_at c h)) (eq-eqb h h refl))
  where
    others : (g : ℕ) (b : Bool) → pick b 0 (max (pick b d (held g)) (reserve_at c g)) ≡ pick b 0 (max (held g) (reserve_at c g))
    others g true = refl
    others g false = refl

-- ---- the whole
pub numbers_is : (c : Scope) (n : ℕ) (m : List ℕ) (h free : ℕ) (d f v u w z : ℕ) → d ≡ length (offsets (get_or m h 0)) → f ≡ length (offsets free)
    → (v ≡ get_or c.reserve h 0) × (v < 256) → (u ≡ get_or c.limit h 0) × (u < 256)
    → (w ≡ sum_to (except h (committed c (count_at m))) n) × (w ≤ 255 * n) → n ≤ 8 → (z ≡ c.size) × (z < 256)
    → Numbered c n m h free (record { held = d; free = f; reserve = v; limit = u; others = w; size = z })
unfolding numbers_of count_at
numbers_is c n m h free d f v u w z ed ef ev eu ew hn ez =
    let p = length_offsets (get_or m h 0) in
    let q = length_offsets free in
    record {
      whole = cc (ev.0, eu.0, ew.0, ez.0);
      small = record { held = omega arith; free = omega arith; others = omega arith; reserve = omega (arith, ev.1); limit = omega (arith, eu.1); size = omega (arith, ez.1) };
    }

-- what a tenant holds, by the sets of all
held_none : (s : ℕ) → held_of s [] ≡ 0
unfolding addresses_of filter_by union_all
held_none s = refl

pub held_read : (s : ℕ) (t : List (List Lease)) (g : ℕ) → get_or (map (held_of s) t) g 0 ≡ held_of s (get_or t g [])
held_read s t g = ap (get_or (map (held_of s) t) g) (sym (held_none s)) ∙ get_or-map (held_of s) t g []

counts_are : (s : ℕ) (t : List (List Lease)) (g : ℕ) → held_at t s g ≡ count_at (map (held_of s) t) g
unfolding count_at
counts_are s t g = ap (λ (x : ℕ). length (offsets x)) (sym (held_read s t g))

pub allowed_is : (c : Scope) (n : ℕ) (t : List (List Lease)) (a : Ask) (k : ℕ) → a.tenant < n → allowed c n t a k ≡ allowed_of (numbers_of c n (map (held_of a.scope) t) a.tenant (free_of t a)) k
unfolding allowed allowed_of numbers_of committed except pick
allowed_is c n t a k h =
    let d : ℕ = held_at t a.scope a.tenant + (k - length (offsets (free_of t a))) in
    ap (λ (x : ℕ). leb d (limit_at c a.tenant) && leb x c.size) (committed_split c n (held_at t a.scope) a.tenant d h)
    ∙ ap₂ (λ (x y : ℕ). leb (x + (k - length (offsets (free_of t a)))) (limit_at c a.tenant) && leb (y + max (x + (k - length (offsets (free_of t a)))) (reserve_at c a.tenant)) c.size)
    (counts_are a.scope t a.tenant)
    (sum_same (except a.tenant (committed c (held_at t a.scope))) (except a.tenant (committed c (count_at (map (held_of a.scope) t)))) n
    (λ g q. ap (λ (x : ℕ). pick (eqb g a.tenant) 0 (max x (reserve_at c g))) (counts_are a.scope t g)))

-- the grant by one tenant's leases: its parts by their calls, and the test on the number of tenants
pub grant_is : (own : List Lease) (held : HeldTable) (c : Scope) (n : ℕ) (a : Ask) (m : List ℕ) (l : GrantNumbers) (k o f x d : ℕ) → m ≡ sets_in a.scope held → o ≡ free_in m own a
    → Numbered c n m a.tenant o l → d ≡ a.desired → k ≡ largest (allowed_of l) d → f ≡ difference_of (pool_of c) (union_all m) → x ≡ set_of (chosen k o f)
    → ◌≡◌ {A = Grant} (record { number = k; addresses = x }) (grant_known own held c n a)
unfolding grant_known
grant_is own held c n a m l k o f x d em eo v ed ek ef ex = cc v.whole

pub granted_known : (own : List Lease) (held : HeldTable) (c : Scope) (n : ℕ) (a : Ask) {k : ℕ} {r : Grant} → k ≡ min n 8 → a.tenant < k → r ≡ grant_known own held c k a → r ≡ grant_in own held c n a
unfolding grant_in
granted_known own held c n a {k} {r} e h p = pick_lt _ _ r a.tenant (min n 8) (omega arith) (p ∙ ap (λ (x : ℕ). grant_known own held c x a) e)

pub granted_unknown : (own : List Lease) (held : HeldTable) (c : Scope) (n : ℕ) (a : Ask) {k : ℕ} → k ≡ min n 8 → k ≤ a.tenant → ◌≡◌ {A = Grant} (record { number = 0; addresses = 0 }) (grant_in own held c n a)
unfolding grant_in
granted_unknown own held c n a e h = pick_not_lt _ _ _ a.tenant (min n 8) (omega arith) refl

-- it is the rule's where the sets are those of the tenants' leases, and the tenant's addresses that are free are
pub grant_by : (own : List Lease) (held : HeldTable) (c : Scope) (n : ℕ) (t : List (List Lease)) (a : Ask) → a.tenant < n → sets_in a.scope held ≡ map (held_of a.scope) t
    → free_in (sets_in a.scope held) own a ≡ free_of t a → grant_known own held c n a ≡ grant_of c n t a
unfolding grant_known grant_of taken_of
grant_by own held c n t a h em eo =
    let e : largest (allowed_of (numbers_of c n (sets_in a.scope held) a.tenant (free_in (sets_in a.scope held) own a))) a.desired ≡ largest (allowed c n t a) a.desired =
    ap₂ (λ (y : List ℕ) (z : ℕ). largest (allowed_of (numbers_of c n y a.tenant z)) a.desired) em eo ∙ sym (largest_same _ _ a.desired (λ k. allowed_is c n t a k h)) in
    cc

-- the grant to a tenant that is known
pub grant_known_law : (c : Scope) (n : ℕ) (t : List (List Lease)) (a : Ask) → n ≤ 8 → a.tenant < n → grant_to c n t a ≡ grant_of c n t a
unfolding grant_to
grant_known_law c n t a h p = let e : n ≡ min n 8 = omega arith in sym (pick_lt _ _ _ a.tenant (min n 8) (omega arith) (ap (λ (x : ℕ). grant_of c x t a) e))

pub suffices_is : (least r : ℕ) (g : Grant) → r ≡ least → leb r g.number ≡ suffices least g
unfolding suffices
suffices_is least r g e = ap (λ (x : ℕ). leb x g.number) e
