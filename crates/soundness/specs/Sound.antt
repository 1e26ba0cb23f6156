-- Definitions: document 01's "Sound", rule by rule in its order, numbered by its semicolons; '"lease" .. in soundness reads "lease or hold"' (document 02,
-- W-205), so that each rule on leases is one on records. Rule 13 is W-205's on holds, 19 the layout of "How it is to be built"; 14 to 18 are Rules.antt of
-- `releases`, whose `book_b` is the whole, and 20 is Agrees.antt of `agreement`.
-- A house is a tenant here, its share a reserve; tenants count from 0, scopes from 1.
use Rattle.std.specs.Prelude.{ℕ, ◌+◌, ◌-◌, min, Bool, true, ◌&&◌, ◌||◌, List, ltb, leb, eqb, drop}
use Rattle.std.specs.Int.Bits.{bit_and}
use Rattle.lists.specs.Pick.{pick}
use Rattle.lists.specs.All.{all_by, pairs_by, all_to}
use Rattle.lists.specs.Sums.{sum_to}
use Rattle.address_set.specs.AddressSet.{offsets}
use Rattle.state.specs.declared.Lease.{Lease}
use Rattle.state.specs.declared.TenantLeases.{TenantLeases}
use Rattle.state.specs.declared.LeaseTable.{LeaseTable}
use Rattle.state.specs.declared.ClientRange.{ClientRange}
use Rattle.state.specs.declared.Scope.{Scope}
use Rattle.state.specs.declared.State.{State}
use Rattle.state.specs.Book.{Order, in_use, leases_of, differ, ordered, hold_time, is_hold, overlaps, in_scope, held_of, ranges_of, scopes_of, scope_at, reserve_at, limit_at, held_at, committed_sum}
use Rattle.soundness.specs.declared.Rules.{Rules}

-- from 1 to most
unfoldable pub one_to : ℕ → ℕ → Bool
one_to most n = leb 1 n && leb n most

-- how many tenants and scopes there are; a count above the limit, which rule 1 refuses, stands for the limit
abbrev pub tenants_in : State → ℕ
tenants_in s = min s.tenant_count 8

abbrev pub scopes_in : State → ℕ
scopes_in s = min s.scope_count 4

-- ---- 1. counts, sizes and identifier lengths within the limits
unfoldable pub size_b : Scope → Bool
size_b c = one_to 64 c.size

-- "identifier 2 to 32 octets", on a lease and on a release
abbrev pub id_length_b : ℕ → Bool
id_length_b n = leb 2 n && leb n 32

unfoldable pub id_b : Lease → Bool
id_b l = id_length_b l.id_len

unfoldable pub records_b : TenantLeases → Bool
records_b t = leb t.count 16 && all_by id_b (in_use t)

unfoldable pub counts_b : State → Bool
counts_b s = one_to 8 s.tenant_count && (one_to 4 s.scope_count && all_by size_b (scopes_of s))

unfoldable pub rule1 : State → LeaseTable → Bool
rule1 s t = counts_b s && all_by records_b t.tenants

-- ---- 2. offsets below the scope's size; a lease in an unknown scope, which rule 7 refuses, is passed over
abbrev pub scope_known : State → Lease → Bool
scope_known s l = one_to s.scope_count l.scope

abbrev pub scope_of : State → Lease → Scope
scope_of s l = scope_at s (l.scope - 1)

-- every offset of a set is below n
unfoldable pub below_b : ℕ → ℕ → Bool
below_b n m = all_by (λ a. ltb a n) (offsets m)

unfoldable pub offsets_b : State → Lease → Bool
offsets_b s l = pick (scope_known s l) (below_b (scope_of s l).size l.addresses) true

unfoldable pub rule2 : State → LeaseTable → Bool
rule2 s t = all_by (all_by (offsets_b s)) (leases_of t)

-- ---- 3. client ranges not empty and disjoint
unfoldable pub range_b : ClientRange → Bool
range_b r = leb r.low r.high

unfoldable pub ranges_apart : ClientRange → ClientRange → Bool
ranges_apart a b = ltb a.high b.low || ltb b.high a.low

unfoldable pub rule3 : State → Bool
rule3 s = all_by range_b (ranges_of s) && pairs_by ranges_apart (ranges_of s)

-- ---- 4. pools inside 224.0.0.0 to 239.255.255.255 and disjoint
unfoldable pub pool_b : Scope → Bool
pool_b c = leb 3758096384 c.lowest && leb (c.lowest + c.size) 4026531840

unfoldable pub pools_apart : Scope → Scope → Bool
pools_apart a b = leb (a.lowest + a.size) b.lowest || leb (b.lowest + b.size) a.lowest

unfoldable pub rule4 : State → Bool
rule4 s = all_by pool_b (scopes_of s) && pairs_by pools_apart (scopes_of s)

-- ---- 5. TTL not 0
unfoldable pub ttl_b : Scope → Bool
ttl_b c = ltb 0 c.ttl

unfoldable pub rule5 : State → Bool
rule5 s = all_by ttl_b (scopes_of s)

-- ---- 6. share at most limit at most size, shares together at most size
unfoldable pub reserve_b : Scope → ℕ → Bool
reserve_b c g = leb (reserve_at c g) (limit_at c g) && leb (limit_at c g) c.size

unfoldable pub reserves_b : ℕ → Scope → Bool
reserves_b n c = all_to (reserve_b c) n && leb (sum_to (reserve_at c) n) c.size

unfoldable pub rule6 : State → Bool
rule6 s = all_by (reserves_b (tenants_in s)) (scopes_of s)

-- ---- 7. each lease names a known house and scope, has type 3 or 4, start before end, end after the clock and an address
-- "a hold has type 1" (document 02, W-205): a record of another type is a lease, and must have a lease's
unfoldable pub kind_b : Lease → Bool
kind_b l = is_hold l || (eqb l.kind 3 || eqb l.kind 4)

-- start before end, end after the clock, and an address
unfoldable pub period_b : ℕ → Lease → Bool
period_b clock l = ltb l.start l.end && (ltb clock l.end && ltb 0 l.addresses)

unfoldable pub lease_b : State → Lease → Bool
lease_b s l = scope_known s l && (kind_b l && period_b s.clock l)

-- no tenant past the last has a lease: each lease names a known house
unfoldable pub none_b : TenantLeases → Bool
none_b t = eqb t.count 0

unfoldable pub tenants_b : State → LeaseTable → Bool
tenants_b s t = all_by none_b (drop (tenants_in s) t.tenants)

unfoldable pub rule7 : State → LeaseTable → Bool
rule7 s t = tenants_b s t && all_by (all_by (lease_b s)) (leases_of t)

-- ---- 8. identifiers differ within a house
unfoldable pub rule8 : LeaseTable → Bool
rule8 t = all_by (pairs_by differ) (leases_of t)

-- ---- 9. no address has two houses
unfoldable pub disjoint : ℕ → ℕ → Bool
disjoint m n = eqb (bit_and m n) 0

abbrev pub apart_in : ℕ → List Lease → List Lease → Bool
apart_in s a b = disjoint (held_of s a) (held_of s b)

-- no address in common, in any scope
unfoldable pub apart : List Lease → List Lease → Bool
apart a b = apart_in 1 a b && (apart_in 2 a b && (apart_in 3 a b && apart_in 4 a b))

unfoldable pub rule9 : LeaseTable → Bool
rule9 t = pairs_by apart (leases_of t)

-- ---- 10. leases on one address don't overlap; by rule 9 they are of one house, so that it holds of all leases (`sound_compatible` in laws/Across.antt)
-- two leases of one scope whose periods overlap have no address in common
unfoldable pub compatible : Lease → Lease → Bool
compatible a b = pick (in_scope b.scope a) (pick (overlaps b.start b.end a) (disjoint a.addresses b.addresses) true) true

unfoldable pub rule10 : LeaseTable → Bool
rule10 t = all_by (pairs_by compatible) (leases_of t)

-- ---- 11. each holding at most its limit
-- how many addresses tenant g has in scope s, counted from its leases
abbrev pub holding : LeaseTable → ℕ → ℕ → ℕ
holding t s g = held_at (leases_of t) s g

unfoldable pub limit_b : LeaseTable → Scope → ℕ → ℕ → Bool
limit_b t c s g = leb (holding t s g) (limit_at c g)

unfoldable pub limits_b : State → LeaseTable → ℕ → Bool
limits_b s t k = all_to (limit_b t (scope_at s k) (k + 1)) (tenants_in s)

unfoldable pub rule11 : State → LeaseTable → Bool
rule11 s t = all_to (limits_b s t) (scopes_in s)

-- ---- 12. per scope the sum of larger-of-holding-and-share at most size
unfoldable pub committed_b : State → LeaseTable → ℕ → Bool
committed_b s t k = leb (committed_sum (scope_at s k) (tenants_in s) (holding t (k + 1))) (scope_at s k).size

unfoldable pub rule12 : State → LeaseTable → Bool
rule12 s t = all_to (committed_b s t) (scopes_in s)

-- ---- 13. (document 02, W-205) "a hold is unsound unless it has type 1 and lapses after the clock, at most thirty seconds after it, and not after its period's
-- end"; what has type 1 is a hold, and that what stands among a file's holds has it is `hold_fit_b` of lease_file
unfoldable pub lapse_b : ℕ → Lease → Bool
lapse_b clock l = ltb clock l.lapse && (leb l.lapse (clock + hold_time) && leb l.lapse l.end)

unfoldable pub hold_b : ℕ → Lease → Bool
hold_b clock l = pick (is_hold l) (lapse_b clock l) true

unfoldable pub rule13 : State → LeaseTable → Bool
rule13 s t = all_by (all_by (hold_b s.clock)) (leases_of t)

-- ---- 19. "Each house's records are kept by end (a hold's by lapse), ties by identifier" and "records out of order are unsound" (W-209); what is unused is zero: octets past an identifier's length, a lease's lapse, records, settings entries,
-- shares and limits past the last house
unfoldable pub zero_from : ℕ → List ℕ → Bool
zero_from n l = all_by (λ x. eqb x 0) (drop n l)

unfoldable pub padded_b : Lease → Bool
padded_b l = (is_hold l || eqb l.lapse 0) && zero_from l.id_len l.id

unfoldable pub blank_b : Lease → Bool
blank_b l = (eqb l.scope 0 && (eqb l.id_len 0 && (eqb l.kind 0 && (eqb l.xid 0 && eqb l.lapse 0))))

unfoldable pub unused_b : Lease → Bool
unused_b l = blank_b l && (eqb l.start 0 && (eqb l.end 0 && (eqb l.addresses 0 && zero_from 0 l.id)))

-- by any order, as all that rests on it below: the order of records before W-209 is another (Arrangement.antt of `arrangement`)
unfoldable pub layout_by : Order → TenantLeases → Bool
layout_by o t = pairs_by o (in_use t) && (all_by padded_b (in_use t) && all_by unused_b (drop t.count t.leases))

abbrev pub layout_b : TenantLeases → Bool
layout_b t = layout_by ordered t

unfoldable pub range_zero : ClientRange → Bool
range_zero r = eqb r.low 0 && eqb r.high 0

unfoldable pub tail_b : ℕ → Scope → Bool
tail_b n c = zero_from n c.reserve && zero_from n c.limit

unfoldable pub scope_zero : Scope → Bool
scope_zero c = eqb c.lowest 0 && (eqb c.size 0 && (eqb c.ttl 0 && tail_b 0 c))

unfoldable pub settings_b : State → Bool
settings_b s = all_by range_zero (drop (tenants_in s) s.tenants) && (all_by scope_zero (drop (scopes_in s) s.scopes) && all_by (tail_b (tenants_in s)) (scopes_of s))

unfoldable pub rule19_by : Order → State → LeaseTable → Bool
rule19_by o s t = settings_b s && all_by (layout_by o) t.tenants

-- ---- all of them
unfoldable pub rules_by : Order → State → LeaseTable → Rules
rules_by o s t = record {
  limits = rule1 s t;
  offsets = rule2 s t;
  ranges = rule3 s;
  pools = rule4 s;
  ttls = rule5 s;
  reserves = rule6 s;
  leases = rule7 s t;
  identifiers = rule8 t;
  owners = rule9 t;
  periods = rule10 t;
  holdings = rule11 s t;
  commitments = rule12 s t;
  holds = rule13 s t;
  layout = rule19_by o s t;
}

abbrev pub rules_of : State → LeaseTable → Rules
rules_of s t = rules_by ordered s t

-- of rules 7 to 13, the number of the first that is broken, or 0
unfoldable pub first_late : Rules → ℕ
first_late r = pick r.leases (pick r.identifiers (pick r.owners (pick r.periods (pick r.holdings (pick r.commitments (pick r.holds 0 13) 12) 11) 10) 9) 8) 7

-- "first broken rule(1). Rules 1 to 12 are document 01's 'Sound' by semicolons .., 13 a hold's type and lapse" (document 02, W-212): of the rules that a file can
-- break, or 0
unfoldable pub first_rule : Rules → ℕ
first_rule r = pick r.limits (pick r.offsets (pick r.ranges (pick r.pools (pick r.ttls (pick r.reserves (first_late r) 6) 5) 4) 3) 2) 1

-- the number of the first rule that is broken, or 0: that one, or 19 where only the layout is broken, as it can be in a book that is lent
unfoldable pub first_broken : Rules → ℕ
first_broken r = pick (eqb (first_rule r) 0) (pick r.layout 0 19) (first_rule r)

unfoldable pub broken_by : Order → State → LeaseTable → ℕ
broken_by o s t = first_broken (rules_by o s t)

abbrev pub broken_of : State → LeaseTable → ℕ
broken_of s t = broken_by ordered s t

unfoldable pub sound_by : Order → State → LeaseTable → Bool
sound_by o s t = eqb (broken_by o s t) 0

abbrev pub sound_b : State → LeaseTable → Bool
sound_b s t = sound_by ordered s t
