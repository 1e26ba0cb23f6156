-- Definitions: document 01's tests after test 7 that come before what a lease would be, Resend and errors 1, 2 and 3, each on plain values; document 02's of a RELEASE sent
-- again and of a hold; and which of them ask for the identifier's record. A house is a tenant here; h counts from 0.
use Rattle.std.specs.Prelude.{ℕ, ◌+◌, ◌-◌, min, Bool, false, not, ◌&&◌, ◌||◌, Option, Some, None, is_some, is_none, unwrap_or, List, ltb, eqb, take, length}
use Rattle.lists.specs.Pick.{pick}
use Rattle.lists.specs.Place.{place_by}
use Rattle.message.specs.declared.Fields.{Fields}
use Rattle.state.specs.declared.Lease.{Lease}
use Rattle.state.specs.declared.LeaseTable.{LeaseTable}
use Rattle.state.specs.declared.Release.{Release}
use Rattle.state.specs.declared.Scope.{Scope}
use Rattle.state.specs.declared.State.{State}
use Rattle.state.specs.Book.{in_use, is_hold, tenant_at, place_of, lease_at, scopes_of, zero_lease}
use Rattle.soundness.specs.Sound.{scopes_in}
use Rattle.releases.specs.Again.{any_again}

-- ---- document 01, "Numbers we buy by", in seconds
-- how far Current Time may be from the clock
abbrev pub skew : ℕ
skew = 1800

-- ---- message types
-- DISCOVER or REQUEST
unfoldable pub is_new : Fields → Bool
is_new m = eqb m.kind 1 || eqb m.kind 3

-- the types that ask for a period: these and RENEW
unfoldable pub has_period : Fields → Bool
has_period m = is_new m || eqb m.kind 4

-- ---- the tenant's leases, and the one that it holds under the message's identifier
abbrev pub own_of : LeaseTable → ℕ → List Lease
own_of b h = in_use (tenant_at b h)

abbrev pub lease_id_in : Fields → List ℕ
lease_id_in m = take m.id.len m.id.octets

-- the record of the identifier i, where there is one
unfoldable pub found_in : List ℕ → List Lease → Option Lease
found_in i own = pick (ltb (place_of i own) (length own)) (Some (lease_at own (place_of i own))) None

abbrev pub found_of : List Lease → Fields → Option Lease
found_of own m = found_in (lease_id_in m) own

-- and an unused one where there is none
abbrev pub recorded_of : List Lease → Fields → Lease
recorded_of own m = unwrap_or (found_of own m) zero_lease

-- a value is there, and passes a test
abbrev pub there_and : {A : Type 0} → (A → Bool) → Option A → Bool
there_and t None = false
there_and t (Some x) = t x

-- document 02, W-205: o, the record of the identifier where there is one, is a lease, or it is a hold
unfoldable pub is_leased : Option Lease → Bool
is_leased o = there_and (λ l. not (is_hold l)) o

unfoldable pub is_held : Option Lease → Bool
is_held o = there_and is_hold o

-- ---- Resend
unfoldable pub resends : Fields → Lease → Bool
resends m l = (eqb m.kind 3 || eqb m.kind 4) && (eqb l.kind m.kind && eqb l.xid m.xid)

-- ---- document 02, W-202: "A RELEASE with the same house, identifier and transaction id, at a clock less than 300 seconds after that"; q are the releases that
-- are remembered of the tenant
unfoldable pub released_again : State → List Release → Fields → Bool
released_again s q m = eqb m.kind 7 && any_again s.clock (lease_id_in m) m.xid q

-- ---- error 1
-- the place of the scope with a lowest address, counted from 0; their number where there is none
abbrev pub lowest_is : ℕ → Scope → Bool
lowest_is lowest c = eqb c.lowest lowest

unfoldable pub scope_place : State → ℕ → ℕ
scope_place s lowest = place_by (lowest_is lowest) (scopes_of s)

-- a scope's number: its place, counted from 1
abbrev pub scope_number : ℕ → ℕ
scope_number k = min k 4 + 1

-- the lowest address of the scope that the message names; 0 where it names none
abbrev pub scope_in : Fields → ℕ
scope_in m = unwrap_or m.scope 0

-- a record in the scope that the message names
unfoldable pub same_scope : State → Fields → Option Lease → Bool
same_scope s m o = there_and (λ l. eqb l.scope (scope_number (scope_place s (scope_in m)))) o

unfoldable pub knows_scope : State → Fields → Bool
knows_scope s m = there_and (λ lowest. ltb (scope_place s lowest) (scopes_in s)) m.scope

-- "DISCOVER or REQUEST whose scope is missing or not ours"
unfoldable pub lacks_scope : State → Fields → Bool
lacks_scope s m = is_new m && not (knows_scope s m)

-- "Lease Time 0"
unfoldable pub zero_length : Fields → Bool
zero_length m = there_and (λ n. eqb n 0) m.times.length

-- "least 0 or above desired"
unfoldable pub bad_counts : Fields → Bool
bad_counts m = eqb m.counts.least 0 || ltb m.counts.desired m.counts.least

-- "6 or 15 without 11"
unfoldable pub lacks_current : Fields → Bool
lacks_current m = (is_some m.times.start || is_some m.times.latest) && is_none m.times.current

-- document 02, W-203: "a Maximum Start Time before Start Time", both as they are sent
unfoldable pub latest_first : Fields → Bool
latest_first m = there_and (λ start. there_and (λ latest. ltb latest start) m.times.latest) m.times.start

-- what of error 1 the message and the settings say, before the identifier is looked for
unfoldable pub early1_of : State → Fields → Bool
early1_of s m = not m.allowed || (lacks_scope s m || (zero_length m || (bad_counts m || (lacks_current m || latest_first m))))

-- "DISCOVER or REQUEST with an identifier the house holds": "now about leases, and about a DISCOVER for a hold in another scope" (W-205)
unfoldable pub held_already : State → Fields → Option Lease → Bool
held_already s m o = (is_new m && is_leased o) || (eqb m.kind 1 && (is_held o && not (same_scope s m o)))

-- "an option that isn't allowed; DISCOVER or REQUEST whose scope is missing or not ours; Lease Time 0; least 0 or above desired;
-- 6 or 15 without 11;" "a Maximum Start Time before Start Time is error 1, after the test for 11" (W-203); and `held_already`
unfoldable pub error1_of : State → Fields → Option Lease → Bool
error1_of s m o = early1_of s m || held_already s m o

-- ---- error 2: "Current Time and clock more than 1,800 apart"
unfoldable pub skewed : ℕ → ℕ → Bool
skewed a b = ltb skew ((a - b) + (b - a))

unfoldable pub error2_of : State → Fields → Bool
error2_of s m = there_and (λ time. skewed time s.clock) m.times.current

-- ---- error 3: "RENEW or RELEASE of an identifier the house doesn't hold"; "RENEW and RELEASE for a hold draw error 3" (W-205)
unfoldable pub error3_of : Fields → Option Lease → Bool
error3_of m o = (eqb m.kind 4 || eqb m.kind 7) && not (is_leased o)

-- ---- document 02, W-205: a message for a hold
-- a DISCOVER or REQUEST "for a hold in the same scope"
unfoldable pub is_for_hold : State → Fields → Option Lease → Bool
is_for_hold s m o = is_new m && (is_held o && same_scope s m o)

-- "a REQUEST for another scope first drops the hold": asked where the hold is in another scope
unfoldable pub drops_hold : Fields → Option Lease → Bool
drops_hold m o = eqb m.kind 3 && is_held o

-- that hold, where it drops one
unfoldable pub dropped_of : Fields → Option Lease → Option Lease
dropped_of m o = pick (drops_hold m o) o None

-- ---- document 02, W-210: which tests ask for the record of the identifier
-- "one for the resend test of a REQUEST or RENEW"
abbrev pub asks_resend : Fields → Bool
asks_resend m = eqb m.kind 3 || eqb m.kind 4

-- "and one where error 1 or 3 asks for the identifier": error 1, as its last test, of a DISCOVER or REQUEST; error 3 of a RENEW or RELEASE, which comes after error 2
unfoldable pub asks_identifier : State → Fields → Bool
asks_identifier s m = is_new m || ((eqb m.kind 4 || eqb m.kind 7) && not (error2_of s m))
