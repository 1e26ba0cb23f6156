-- Definitions: document 01's grant rule ("Periods and the grant rule"), over lists of live leases, one list for each tenant. A house is a tenant here,
-- its share a reserve. Tenants count from 0, scopes from 1; c is the scope, n the number of tenants, t their leases, a what is asked for.
use Rattle.lists.specs.Pick.{pick}
use Rattle.std.specs.Prelude.{ℕ, ◌+◌, ◌-◌, min, Bool, ◌&&◌, List, [], map, leb, ltb, length, get_or}
use Rattle.lists.specs.Down.{largest}
use Rattle.address_set.specs.AddressSet.{offsets, set_of, difference_of, chosen, up_to}
use Rattle.state.specs.declared.Lease.{Lease}
use Rattle.state.specs.declared.Scope.{Scope}
use Rattle.state.specs.Book.{union_all, held_of, busy_of, reserve_at, limit_at, held_at, with_held, committed_sum}
use Rattle.allocation.specs.declared.Ask.{Ask}
use Rattle.allocation.specs.declared.Grant.{Grant}

-- ---- addresses
-- those of scope s that are somebody's: "an address is a house's if a live lease of the house has it", whenever that lease runs
unfoldable pub taken_of : ℕ → List (List Lease) → ℕ
taken_of s t = union_all (map (held_of s) t)

-- those with a lease overlapping the period
unfoldable pub busy_in : ℕ → ℕ → ℕ → List (List Lease) → ℕ
busy_in s from to t = union_all (map (busy_of s from to) t)

-- all of a scope
abbrev pub pool_of : Scope → ℕ
pool_of c = set_of (up_to (min c.size 64))

-- those that are nobody's
abbrev pub nobodys_of : Scope → List (List Lease) → Ask → ℕ
nobodys_of c t a = difference_of (pool_of c) (taken_of a.scope t)

-- the house's, of which there are D; and "of these, f have no lease overlapping the wanted period"
abbrev pub held_by : List (List Lease) → Ask → ℕ
held_by t a = held_of a.scope (get_or t a.tenant [])

abbrev pub free_of : List (List Lease) → Ask → ℕ
free_of t a = difference_of (held_by t a) (busy_in a.scope a.from a.to t)

-- ---- numbers
-- "the house holds D such addresses in the scope"; "giving k takes m new addresses, m = k - f, or 0 if f is larger": D + m
abbrev pub held_after : List (List Lease) → Ask → ℕ → ℕ
held_after t a k = held_at t a.scope a.tenant + (k - length (offsets (free_of t a)))

-- "k is allowed if D + m is at most the house's limit and the sum over all houses of the larger of holding and share, with D + m for this
-- house, is at most the scope's size"
unfoldable pub allowed : Scope → ℕ → List (List Lease) → Ask → ℕ → Bool
allowed c n t a k =
    let d : ℕ = held_after t a k in
    leb d (limit_at c a.tenant) && leb (committed_sum c n (with_held a.tenant d (held_at t a.scope))) c.size

-- "the grant is the largest allowed k up to desired"; "the addresses are the lowest of the f, then the lowest that are nobody's"
unfoldable pub grant_of : Scope → ℕ → List (List Lease) → Ask → Grant
grant_of c n t a =
    let k : ℕ = largest (allowed c n t a) a.desired in
    record { number = k; addresses = set_of (chosen k (free_of t a) (nobodys_of c t a)) }

-- for every input: an unknown house is granted nothing, and a number of houses above 8 stands for 8
unfoldable pub grant_to : Scope → ℕ → List (List Lease) → Ask → Grant
grant_to c n t a = pick (ltb a.tenant (min n 8)) (grant_of c (min n 8) t a) (record { number = 0; addresses = 0 })

-- "it fails if below least"
unfoldable pub suffices : ℕ → Grant → Bool
suffices least g = leb least g.number

-- "unused share is share minus D, or 0"
abbrev pub unused_reserve : Scope → List (List Lease) → Ask → ℕ
unused_reserve c t a = reserve_at c a.tenant - held_at t a.scope a.tenant
