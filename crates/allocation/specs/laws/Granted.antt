-- Laws: what the grant rule ensures by itself: a tenant's unused reserve is allowed, and the addresses of
-- a grant exist, each the tenant's own or nobody's.
use Prim.Native.Nat.{ℕ, zero, suc, ◌+◌, ◌-◌, ◌^◌, ◌≤◌, ◌<◌, min, max}
use Rattle.std.specs.Prelude.{◌≡◌, refl, Bool, ◌&&◌, length, drop, take}
use Rattle.std.proofs.Common.{sym, ◌∙◌}
use Rattle.std.proofs.Math.Path.{ap}
use Rattle.std.proofs.Math.Bool.{true, false}
use mathlib.Core.List.{List, [], ◌∷◌}
use native.Mathlib.Omega.{arith}
use Rattle.std.proofs.Math.Nat.{le_trans}
use Rattle.std.proofs.Math.Dec.{leb, eqb}
use Rattle.std.proofs.Math.ListN.{get_or}
use borrow.Author.Tests.{le-leb, leb-true, eqb-true, eqb-false}
use Rattle.lists.specs.Pick.{pick}
use Rattle.lists.specs.All.{all_by, all_to}
use Rattle.lists.specs.laws.All.{all_head, to_each}
use Rattle.lists.specs.laws.Both.{and_parts, and_both}
use Rattle.lists.specs.Filter.{filter_by}
use Rattle.lists.specs.Sums.{sum_to}
use Rattle.lists.specs.laws.Sums.{sum_same}
use Rattle.lists.specs.Down.{largest}
use Rattle.lists.specs.laws.Down.{largest_passes}
use Rattle.address_set.specs.AddressSet.{bit, set_of, up_to}
use Rattle.state.specs.declared.Lease.{Lease}
use Rattle.state.specs.declared.Scope.{Scope}
use Rattle.state.specs.declared.State.{State}
use Rattle.state.specs.Book.{union_all, addresses_of, held_of, busy_of, zero_scope, scope_at, reserve_at, limit_at, held_at, with_held, committed, committed_sum}
use Rattle.state.specs.laws.Layout.{no_scope}
use Rattle.soundness.specs.Sound.{one_to, tenants_in, scopes_in, size_b, reserve_b, reserves_b, counts_b, rule3, rule4, rule5, rule6, settings_b}
use Rattle.soundness.specs.laws.Book.{settings_ok, no_leases_b, Sound}
use Rattle.soundness.specs.laws.Kept.{sum_less}
use Rattle.allocation.specs.declared.Ask.{Ask}
use Rattle.allocation.specs.Rule.{taken_of, busy_in, pool_of, nobodys_of, held_by, free_of, held_after, allowed, grant_of, unused_reserve}
use Rattle.allocation.specs.laws.Loops.{committed_split}
use Rattle.allocation.specs.laws.Sets.{size, size_or, size_zero, difference_small, difference_in, difference_out, difference_rest, chosen_bit, chosen_count, pool_small, pool_size, in_union}

-- ---- allowed numbers are closed downwards

-- an allowed number up to the desired one is no more than the grant
pub largest_least : (p : ℕ → Bool) (n k : ℕ) → k ≤ n → p k ≡ true → k ≤ largest p n
unfolding largest pick
largest_least p zero k h e = h
largest_least p (suc n) k h e = go (p (suc n)) refl (eqb k (suc n)) refl (λ g. largest_least p n k g e)
  where
    go : (b : Bool) → p (suc n) ≡ b → (q : Bool) → eqb k (suc n) ≡ q → (k ≤ n → k ≤ largest p n) → k ≤ pick b (suc n) (largest p n)
    go true u q w ih = h
    go false u true w ih = let z : true ≡ false = sym e ∙ ap p (eqb-true k (suc n) w) ∙ u in let y : ◌≡◌ {A = ℕ} 0 1 = cc in absurd (omega arith)
    go false u false w ih = let z = eqb-false k (suc n) w in ih (omega arith)

pub granted_least : (c : Scope) (n : ℕ) (t : List (List Lease)) (a : Ask) (k : ℕ) → k ≤ a.desired → allowed c n t a k ≡ true → k ≤ (grant_of c n t a).number
unfolding grant_of
granted_least c n t a k h e = largest_least (allowed c n t a) a.desired k h e

-- ---- what a sound book says of a scope
module _ (s : State) (t : List (List Lease)) (v : Sound s t) (k : ℕ) (here : k < scopes_in s) where
  parts : (counts_b s ≡ true) × (rule6 s ≡ true)
  unfolding settings_ok
  parts =
      let p = and_parts (counts_b s && (rule3 s && rule4 s)) (rule5 s && (rule6 s && settings_b s)) v.settings in
      ((and_parts (counts_b s) (rule3 s && rule4 s) p.0).0, (and_parts (rule6 s) (settings_b s) (and_parts (rule5 s) (rule6 s && settings_b s) p.1).1).0)

  -- its size is at most 64
  pub size_most : (scope_at s k).size ≤ 64
  unfolding counts_b size_b one_to
  size_most =
      let p = and_parts (one_to 8 s.tenant_count) (one_to 4 s.scope_count && all_by size_b (take s.scope_count s.scopes)) parts.0 in
      let q = and_parts (one_to 4 s.scope_count) (all_by size_b (take s.scope_count s.scopes)) p.1 in
      at s.scopes s.scope_count k (omega arith) q.1
    where
      at : (l : List Scope) (n k : ℕ) → k < n → all_by size_b (take n l) ≡ true → (get_or l k zero_scope).size ≤ 64
      at [] n k h p = omega arith
      at (x ∷ l) zero k h p = absurd (omega arith)
      at (x ∷ l) (suc n) zero h p = leb-true x.size 64 (and_parts (leb 1 x.size) (leb x.size 64) (all_head size_b x (take n l) p).0).1
      at (x ∷ l) (suc n) (suc k) h p = at l n k (omega arith) (all_head size_b x (take n l) p).1

  -- a reserve is within its limit
  pub reserve_limit : (g : ℕ) → g < tenants_in s → reserve_at (scope_at s k) g ≤ limit_at (scope_at s k) g
  unfolding rule6 reserves_b reserve_b
  reserve_limit g h = at s.scopes s.scope_count k (omega arith) parts.1
    where
      zeros : (g : ℕ) → get_or zero_scope.reserve g 0 ≤ get_or zero_scope.limit g 0
      zeros g = omega arith

      at : (l : List Scope) (n k : ℕ) → k < n → all_by (reserves_b (tenants_in s)) (take n l) ≡ true → reserve_at (get_or l k zero_scope) g ≤ limit_at (get_or l k zero_scope) g
      at [] n k q p = zeros g
      at (x ∷ l) zero k q p = absurd (omega arith)
      at (x ∷ l) (suc n) zero q p =
          let e = and_parts (all_to (reserve_b x) (tenants_in s)) (leb (sum_to (reserve_at x) (tenants_in s)) x.size) (all_head (reserves_b (tenants_in s)) x (take n l) p).0 in
          leb-true (reserve_at x g) (limit_at x g) (and_parts (leb (reserve_at x g) (limit_at x g)) (leb (limit_at x g) x.size) (to_each (reserve_b x) (tenants_in s) e.0 g h)).0
      at (x ∷ l) (suc n) (suc k) q p = at l n k (omega arith) (all_head (reserves_b (tenants_in s)) x (take n l) p).1

  -- the sum with what a tenant holds or has in reserve is the book's own
  pub committed_now : (h d : ℕ) → d ≤ max (held_at t (k + 1) h) (reserve_at (scope_at s k) h) → committed_sum (scope_at s k) (tenants_in s) (with_held h d (held_at t (k + 1))) ≤ (scope_at s k).size
  unfolding committed with_held pick
  committed_now h d p = le_trans (sum_less _ (committed (scope_at s k) (held_at t (k + 1))) (tenants_in s) (λ g q. go g (eqb g h) refl)) (v.commitments k here)
    where
      go : (g : ℕ) (b : Bool) → eqb g h ≡ b → max (pick b d (held_at t (k + 1) g)) (reserve_at (scope_at s k) g) ≤ max (held_at t (k + 1) g) (reserve_at (scope_at s k) g)
      go g true e =
          let z : g ≡ h = eqb-true g h e in
          let x : held_at t (k + 1) g ≡ held_at t (k + 1) h = ap (held_at t (k + 1)) z in
          let y : reserve_at (scope_at s k) g ≡ reserve_at (scope_at s k) h = ap (reserve_at (scope_at s k)) z in
          omega arith
      go g false e = omega arith

  -- ---- the guaranteed number is allowed
  pub guaranteed_allowed : (a : Ask) → a.scope ≡ k + 1 → a.tenant < tenants_in s → (j : ℕ) → j ≤ unused_reserve (scope_at s k) t a → allowed (scope_at s k) (tenants_in s) t a j ≡ true
  unfolding allowed
  guaranteed_allowed a e h j q =
      let x : held_at t a.scope a.tenant ≡ held_at t (k + 1) a.tenant = ap (λ (z : ℕ). held_at t z a.tenant) e in
      let y = v.holdings k a.tenant here h in
      let z = reserve_limit a.tenant h in
      let w = committed_now a.tenant (held_after t a j) (omega arith) in
      and_both (le-leb (held_after t a j) (limit_at (scope_at s k) a.tenant) (omega arith))
      (ap (λ (z : ℕ). leb (committed_sum (scope_at s k) (tenants_in s) (with_held a.tenant (held_after t a j) (held_at t z))) (scope_at s k).size) e
      ∙ le-leb (committed_sum (scope_at s k) (tenants_in s) (with_held a.tenant (held_after t a j) (held_at t (k + 1)))) (scope_at s k).size w)

  -- so a tenant gets what it desires, up to its unused reserve
  pub guaranteed : (a : Ask) → a.scope ≡ k + 1 → a.tenant < tenants_in s → min a.desired (unused_reserve (scope_at s k) t a) ≤ (grant_of (scope_at s k) (tenants_in s) t a).number
  guaranteed a e h =
      granted_least (scope_at s k) (tenants_in s) t a (min a.desired (unused_reserve (scope_at s k) t a)) (omega arith)
      (guaranteed_allowed a e h (min a.desired (unused_reserve (scope_at s k) t a)) (omega arith))

-- ---- each address is the tenant's own, free in the period, or nobody's
pub own_or_nobodys : (c : Scope) (n : ℕ) (t : List (List Lease)) (a : Ask) (x : ℕ) → bit (grant_of c n t a).addresses x ≤ max (bit (free_of t a) x) (bit (nobodys_of c t a) x)
unfolding grant_of
own_or_nobodys c n t a x = chosen_bit (largest (allowed c n t a) a.desired) (free_of t a) (nobodys_of c t a) x

-- what is held is somebody's
held_none : (s : ℕ) → held_of s [] ≡ 0
unfolding addresses_of filter_by union_all
held_none s = refl

busy_none : (s from to : ℕ) → busy_of s from to [] ≡ 0
unfolding addresses_of filter_by union_all
busy_none s from to = refl

pub held_taken : (s : ℕ) (t : List (List Lease)) (g x : ℕ) → bit (held_of s (get_or t g [])) x ≤ bit (taken_of s t) x
unfolding taken_of
held_taken s t g x = in_union (held_of s) [] x (held_none s) t g

pub busy_here : (s from to : ℕ) (t : List (List Lease)) (g x : ℕ) → bit (busy_of s from to (get_or t g [])) x ≤ bit (busy_in s from to t) x
unfolding busy_in
busy_here s from to t g x = in_union (busy_of s from to) [] x (busy_none s from to) t g

pub free_held : (t : List (List Lease)) (a : Ask) (x : ℕ) → bit (free_of t a) x ≤ bit (held_by t a) x
free_held t a x = difference_in (held_by t a) (busy_in a.scope a.from a.to t) x

pub nobodys_out : (c : Scope) (t : List (List Lease)) (a : Ask) (g x : ℕ) → bit (nobodys_of c t a) x + bit (held_of a.scope (get_or t g [])) x ≤ 1
nobodys_out c t a g x = let p = difference_out (pool_of c) (taken_of a.scope t) x in let q = held_taken a.scope t g x in omega arith

-- ---- the addresses exist
sum_front : (f : ℕ → ℕ) (n : ℕ) → sum_to f (suc n) ≡ f 0 + sum_to (λ g. f (suc g)) n
unfolding sum_to
sum_front f zero = omega arith
sum_front f (suc n) = let p = sum_front f n in omega arith

none_taken : (s : ℕ) (t : List (List Lease)) → all_by no_leases_b t ≡ true → taken_of s t ≡ 0
unfolding taken_of union_all addresses_of filter_by
none_taken s [] h = refl
none_taken s ([] ∷ t) h = none_taken s t (all_head no_leases_b [] t h).1
none_taken s ((l ∷ x) ∷ t) h = let z = eqb-true (length (l ∷ x)) 0 (all_head no_leases_b (l ∷ x) t h).0 in absurd (omega arith)

-- taken addresses are at most what the tenants hold together
taken_few : (s : ℕ) (t : List (List Lease)) (n : ℕ) → all_by no_leases_b (drop n t) ≡ true → size (taken_of s t) ≤ sum_to (held_at t s) n
unfolding taken_of union_all sum_to
taken_few s [] n h = let z = size_zero in omega arith
taken_few s (x ∷ t) zero h = let z : size (taken_of s (x ∷ t)) ≡ 0 = ap size (none_taken s (x ∷ t) h) ∙ size_zero in omega arith
taken_few s (x ∷ t) (suc n) h =
    let p = size_or (held_of s x) (taken_of s t) in
    let q = taken_few s t n h in
    let r = sum_front (held_at (x ∷ t) s) n in
    omega arith

-- the sum counts what all hold, and the new addresses
bare_sum : (n : ℕ) (held : ℕ → ℕ) (h : ℕ) → committed_sum no_scope n (with_held h (held h) held) ≡ sum_to held n
unfolding committed with_held pick
bare_sum n held h = sum_same _ _ n (λ g q. go g (eqb g h) refl)
  where
    go : (g : ℕ) (b : Bool) → eqb g h ≡ b → max (pick b (held h) (held g)) (reserve_at no_scope g) ≡ held g
    go g true e = let z : held g ≡ held h = ap held (eqb-true g h e) in omega arith
    go g false e = omega arith

bare_less : (c : Scope) (n : ℕ) (held : ℕ → ℕ) → committed_sum no_scope n held ≤ committed_sum c n held
unfolding committed
bare_less c n held = sum_less _ _ n (λ g q. go (held g) (reserve_at c g))
  where
    go : (x r : ℕ) → max x 0 ≤ max x r
    go x r = omega arith

sum_new : (c : Scope) (n : ℕ) (held : ℕ → ℕ) (h m : ℕ) → h < n → sum_to held n + m ≤ committed_sum c n (with_held h (held h + m) held)
sum_new c n held h m p =
    let x = committed_split no_scope n held h (held h + m) p in
    let y = committed_split no_scope n held h (held h) p in
    let z = bare_sum n held h in
    let w = bare_less c n (with_held h (held h + m) held) in
    omega arith

module _ (s : State) (t : List (List Lease)) (v : Sound s t) (k : ℕ) (here : k < scopes_in s) (a : Ask) (es : a.scope ≡ k + 1) (known : a.tenant < tenants_in s) where
  -- enough addresses are nobody's for an allowed number
  pub new_exist : (j : ℕ) → allowed (scope_at s k) (tenants_in s) t a j ≡ true → j - size (free_of t a) ≤ size (nobodys_of (scope_at s k) t a)
  unfolding allowed
  new_exist j e =
      let c : Scope = scope_at s k in
      let m : ℕ = j - size (free_of t a) in
      let p = and_parts (leb (held_after t a j) (limit_at c a.tenant)) (leb (committed_sum c (tenants_in s) (with_held a.tenant (held_after t a j) (held_at t a.scope))) c.size) e in
      let w = leb-true (committed_sum c (tenants_in s) (with_held a.tenant (held_after t a j) (held_at t a.scope))) c.size p.1 in
      let x = sum_new c (tenants_in s) (held_at t a.scope) a.tenant m known in
      let y = taken_few a.scope t (tenants_in s) v.tenants in
      let f = size_most s t v k here in
      let q : size (pool_of c) ≡ c.size = ap (λ (z : ℕ). size (set_of (up_to z))) least ∙ pool_size c.size f in
      let b : pool_of c < 2 ^ 64 = pool_small (min c.size 64) (omega arith) in
      let r = difference_rest (pool_of c) (taken_of a.scope t) b in
      omega arith
    where
      least : min (scope_at s k).size 64 ≡ (scope_at s k).size
      least = let f = size_most s t v k here in omega arith

  pub grant_allowed : 0 < (grant_of (scope_at s k) (tenants_in s) t a).number → allowed (scope_at s k) (tenants_in s) t a (grant_of (scope_at s k) (tenants_in s) t a).number ≡ true
  unfolding grant_of
  grant_allowed some = largest_passes (allowed (scope_at s k) (tenants_in s) t a) a.desired some

  -- exactly as many as the grant's number
  pub grant_exists : 0 < (grant_of (scope_at s k) (tenants_in s) t a).number → size (grant_of (scope_at s k) (tenants_in s) t a).addresses ≡ (grant_of (scope_at s k) (tenants_in s) t a).number
  unfolding grant_of
  grant_exists some =
      let c : Scope = scope_at s k in
      let j : ℕ = largest (allowed c (tenants_in s) t a) a.desired in
      let p = new_exist j (largest_passes (allowed c (tenants_in s) t a) a.desired some) in
      let q = chosen_count (held_by t a) (free_of t a) (nobodys_of c t a) j (difference_small (held_by t a) (busy_in a.scope a.from a.to t)) (difference_small (pool_of c) (taken_of a.scope t))
      (free_held t a) (nobodys_out c t a a.tenant) in
      omega arith
