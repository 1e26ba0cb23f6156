-- Definitions: lease records and the lists of leases that they stand for; document 01's book, a `State`, its settings and clock, with a `LeaseTable`, what
-- is remembered of releases with the occupancy board, and the names for the scopes.
use Rattle.std.specs.Prelude.{ℕ, zero, suc, ◌+◌, max, Bool, true, false, not, ◌&&◌, List, [], ◌∷◌, map, eqb, ltb, length, replicate, set, take, get_or, position, None}
use Rattle.std.specs.Int.Bits.{bit_or}
use Rattle.lists.specs.Pick.{pick}
use Rattle.lists.specs.Filter.{filter_by}
use Rattle.lists.specs.Fold.{fold}
use Rattle.lists.specs.Place.{place_by}
use Rattle.lists.specs.Sums.{sum_to}
use Rattle.lists.specs.Arranged.{insert_in}
use Rattle.lists.specs.Row.{laid_row, keep_row}
use Rattle.identifier.specs.Order.{order_of, same_of}
use Rattle.address_set.specs.AddressSet.{offsets}
use Rattle.occupancy.specs.declared.Board.{Board}
use Rattle.occupancy.specs.Board.{added_to, taken_from}
use Rattle.state.specs.declared.Lease.{Lease}
use Rattle.state.specs.declared.TenantLeases.{TenantLeases}
use Rattle.state.specs.declared.LeaseTable.{LeaseTable}
use Rattle.state.specs.declared.Release.{Release}
use Rattle.state.specs.declared.TenantReleases.{TenantReleases}
use Rattle.state.specs.declared.Memory.{Memory}
use Rattle.state.specs.declared.Ledger.{Ledger}
use Rattle.state.specs.declared.Lookup.{Lookup}
use Rattle.state.specs.declared.OrderBy.{OrderBy}
use Rattle.state.specs.declared.OrderBy.TheVariants.{Ending, Identifier}
use Rattle.state.specs.declared.ClientRange.{ClientRange}
use Rattle.state.specs.declared.Scope.{Scope}
use Rattle.state.specs.declared.State.{State}

-- ---- records and lists
-- a lease from its scope, the length and octets of its identifier, its type, transaction id, start, end and addresses: every definition, law and specimen
-- makes a lease by it. A further field of a lease touches this line. A lease does not lapse: its lapse is 0
abbrev pub lease_with : ℕ → ℕ → List ℕ → ℕ → ℕ → ℕ → ℕ → ℕ → Lease
lease_with scope len id kind xid start end addresses = record { scope = scope; id_len = len; id = id; kind = kind; xid = xid; start = start; end = end; addresses = addresses; lapse = 0 }

-- the record l, but that it lapses at a time
abbrev pub lapsing_at : ℕ → Lease → Lease
lapsing_at t l = record {
  scope = l.scope;
  id_len = l.id_len;
  id = l.id;
  kind = l.kind;
  xid = l.xid;
  start = l.start;
  end = l.end;
  addresses = l.addresses;
  lapse = t;
}

-- the unused record
abbrev pub zero_lease : Lease
zero_lease = lease_with 0 0 (replicate 32 0) 0 0 0 0 0

-- the leases and holds that one tenant's records stand for
abbrev pub in_use : TenantLeases → List Lease
in_use t = take t.count t.leases

-- the records of a list of leases
unfoldable pub laid_out : List Lease → TenantLeases
laid_out p = record { leases = laid_row zero_lease 16 p; count = length p }

-- the leases of all tenants, tenant by tenant
abbrev pub leases_of : LeaseTable → List (List Lease)
leases_of b = map in_use b.tenants

-- the records of one tenant, counted from 0; those of no lease past the last
abbrev pub tenant_at : LeaseTable → ℕ → TenantLeases
tenant_at b h = get_or b.tenants h (laid_out [])

abbrev pub put_at : LeaseTable → ℕ → TenantLeases → LeaseTable
put_at b h t = record { tenants = set b.tenants h t }

unfoldable pub table_of : List (List Lease) → LeaseTable
table_of ls = record { tenants = map laid_out ls }

-- ---- what is remembered besides (document 02, W-202): "For each house the last four released identifiers are remembered, with transaction id and the
-- clock at release"
abbrev pub zero_release : Release
zero_release = record { id_len = 0; id = replicate 32 0; xid = 0; time = 0 }

-- a tenant's releases, oldest first
abbrev pub remembered : TenantReleases → List Release
remembered q = take q.count q.releases

-- the entries of a list of releases
unfoldable pub laid_releases : List Release → TenantReleases
laid_releases p = record { releases = laid_row zero_release 4 p; count = length p }

-- those of one tenant, counted from 0; of none past the last
abbrev pub releases_at : Memory → ℕ → TenantReleases
releases_at m h = get_or m.releases h (laid_releases [])

abbrev pub put_releases : Memory → ℕ → TenantReleases → Memory
put_releases m h q = record { releases = set m.releases h q; board = m.board }

-- the identifier that was released
abbrev pub release_id : Release → List ℕ
release_id r = take r.id_len r.id

-- ---- the book: a value of definitions alone, whose parts code has one by one
pub record Book : Type 0 where
  pub state : State
  pub table : LeaseTable
  pub memory : Memory
  -- document 02, W-201: the names for the scopes, as the octets of the campus file's section
  pub names : List ℕ

-- the book with another state, lease table and memory; its names, which no call changes, as they were. A further part of the book touches this line
abbrev pub changed_to : Book → State → LeaseTable → Memory → Book
changed_to b s t m = record { state = s; table = t; memory = m; names = b.names }

-- ---- leases and holds
-- document 02, W-205: a record is a lease or a hold, and "a hold has type 1"
unfoldable pub is_hold : Lease → Bool
is_hold l = eqb l.kind 1

abbrev pub is_lease : Lease → Bool
is_lease l = not (is_hold l)

-- how long an offer is held: "thirty seconds"
abbrev pub hold_time : ℕ
hold_time = 30

-- how long a record is live: a lease to its end, and a hold "is live until it lapses"
unfoldable pub until : Lease → ℕ
until l = pick (is_hold l) l.lapse l.end

-- ---- identifiers, and the order of a tenant's records
abbrev pub id_of : Lease → List ℕ
id_of l = take l.id_len l.id

unfoldable pub differ : Lease → Lease → Bool
differ a b = not (same_of (id_of a) (id_of b))

-- an order: the first comes before the second
abbrev pub Order : Type 0
Order = Lease → Lease → Bool

-- by identifier, octet by octet, a prefix first: the order of the campus file, and that of records before document 02's W-209
unfoldable pub by_identifier : Order
by_identifier a b = eqb (order_of (id_of a) (id_of b)) 0

-- "by end (a hold's by lapse), ties by identifier" (W-209)
unfoldable pub by_ending : Order
by_ending a b = pick (ltb (until a) (until b)) true (pick (ltb (until b) (until a)) false (by_identifier a b))

-- "Each house's records are kept by end" (W-209). Nothing else says how records are ordered; that it decides is `rising` in laws/Sorted.antt
abbrev pub ordered : Order
ordered = by_ending

-- by ending, or by identifier
unfoldable pub order_for : OrderBy → Order
order_for Ending = by_ending
order_for Identifier = by_identifier

abbrev pub named : List ℕ → Lease → Bool
named i l = same_of (id_of l) i

abbrev pub other : List ℕ → Lease → Bool
other i l = not (named i l)

-- a release of another identifier
abbrev pub other_release : List ℕ → Release → Bool
other_release i r = not (same_of (release_id r) i)

-- ---- finding, inserting, removing one lease
-- the place of an identifier among the leases; their number where it has none
abbrev pub place_of : List ℕ → List Lease → ℕ
place_of i ls = place_by (named i) ls

-- document 02, W-210: "Finding a lease or hold by identifier now also returns how many of the house's records it compared. It is the place of the match counted
-- from 1, or else the number of its records in use, holds included". ls are a house's records in use, "at most 16"
unfoldable pub compared_of : List ℕ → List Lease → ℕ
compared_of i ls = pick (ltb (place_of i ls) (length ls)) (place_of i ls + 1) (length ls)

abbrev pub lookup_of : List ℕ → List Lease → Lookup
lookup_of i ls = record { place = position (named i) ls; compared = compared_of i ls }

-- where there is no record to look at
abbrev pub no_lookup : Lookup
no_lookup = record { place = None; compared = 0 }

-- the lease at a place, or an unused record
abbrev pub lease_at : List Lease → ℕ → Lease
lease_at ls at = get_or ls at zero_lease

-- those before it, the lease, and the others
abbrev pub insert_of : Lease → List Lease → List Lease
insert_of l ls = insert_in ordered l ls

-- the same of a tenant's records, where one is left, by any order; full records stay as they are
unfoldable pub inserted_by : Order → Lease → TenantLeases → TenantLeases
inserted_by o l t = pick (ltb (length (in_use t)) 16) (laid_out (insert_in o l (in_use t))) t

abbrev pub inserted_in : Lease → TenantLeases → TenantLeases
inserted_in l t = inserted_by ordered l t

unfoldable pub remove_of : List ℕ → List Lease → List Lease
remove_of i ls = filter_by (other i) ls

-- ---- the clock
-- document 01's live: a lease is live while its end is after the clock, a hold while its lapse is
abbrev pub live : ℕ → Lease → Bool
live clock l = ltb clock (until l)

unfoldable pub live_of : ℕ → List Lease → List Lease
live_of clock ls = filter_by (live clock) ls

abbrev pub with_clock : State → ℕ → State
with_clock s c = record { server = s.server; clock = c; tenant_count = s.tenant_count; tenants = s.tenants; scope_count = s.scope_count; scopes = s.scopes }

-- the clock becomes the larger of itself and a time
unfoldable pub raised : State → ℕ → State
raised s time = with_clock s (max s.clock time)

-- the same where clock and settings stand in a ledger
abbrev pub raised_in : Ledger → ℕ → Ledger
raised_in g time = record { state = raised g.state time; memory = g.memory }

-- how many have ended in front: "Dropping ended leases should take from the front" (W-209). By ending they are all that have ended (laws/Sorted.antt)
unfoldable pub ended_front : ℕ → List Lease → ℕ
ended_front clock ls = place_by (live clock) ls

-- the leases and holds that are live at a clock
unfoldable pub dropped : ℕ → LeaseTable → LeaseTable
dropped clock t = table_of (map (live_of clock) (leases_of t))

-- ---- the occupancy board (document 02, W-207): "A lease added or removed may alter only the entries of its addresses and its house's holding in its scope"
-- (`added_to`, `taken_from`); "holds count as leases". Tenant h, counted from 0, has one record more, or one less
unfoldable pub board_with : ℕ → Board → Lease → Board
board_with h b l = added_to b h l.scope l.addresses

unfoldable pub board_without : ℕ → Board → Lease → Board
board_without h b l = taken_from b h l.scope l.addresses

-- the leases and holds that are not live at a clock
unfoldable pub ended_of : ℕ → List Lease → List Lease
ended_of clock ls = filter_by (λ l. not (live clock l)) ls

-- they are taken off the board, one after the other: those of the first k tenants
unfoldable pub cleared_to : ℕ → LeaseTable → Board → ℕ → Board
cleared_to clock t b zero = b
cleared_to clock t b (suc k) = fold (board_without k) (cleared_to clock t b k) (ended_of clock (in_use (tenant_at t k)))

abbrev pub cleared : ℕ → LeaseTable → Board → Board
cleared clock t b = cleared_to clock t b 8

-- what every call but discards 1 and 2 does first: the clock is raised, and the ended leases and lapsed holds are dropped, from the board too; the releases
-- that are remembered stay, however old
unfoldable pub advanced : Book → ℕ → Book
advanced b time =
    changed_to b (raised b.state time) (dropped (max b.state.clock time) b.table)
    (record { releases = b.memory.releases; board = cleared (max b.state.clock time) b.table b.memory.board })

-- ---- address sets
unfoldable pub union_all : List ℕ → ℕ
union_all [] = 0
union_all (m ∷ ms) = bit_or m (union_all ms)

-- the addresses of the leases that pass a test
unfoldable pub addresses_of : (Lease → Bool) → List Lease → ℕ
addresses_of t ls = union_all (map (λ l. l.addresses) (filter_by t ls))

abbrev pub in_scope : ℕ → Lease → Bool
in_scope s l = eqb l.scope s

-- periods run from start, included, to end, excluded: touching ones don't overlap
unfoldable pub overlaps : ℕ → ℕ → Lease → Bool
overlaps from to l = ltb l.start to && ltb from l.end

-- the addresses that leases have in scope s
abbrev pub held_of : ℕ → List Lease → ℕ
held_of s ls = addresses_of (in_scope s) ls

-- document 01's holding, of leases that are all live, as those of a sound book are: how many addresses, not leases
abbrev pub held_count : ℕ → List Lease → ℕ
held_count s ls = length (offsets (held_of s ls))

unfoldable pub used_in : ℕ → ℕ → ℕ → Lease → Bool
used_in s from to l = in_scope s l && overlaps from to l

-- the addresses of scope s with a lease that overlaps the period
abbrev pub busy_of : ℕ → ℕ → ℕ → List Lease → ℕ
busy_of s from to ls = addresses_of (used_in s from to) ls

-- ---- settings
abbrev pub zero_scope : Scope
zero_scope = record { lowest = 0; size = 0; ttl = 0; reserve = replicate 8 0; limit = replicate 8 0 }

-- the tenants' client ranges and the scopes that are in use
abbrev pub ranges_of : State → List ClientRange
ranges_of s = take s.tenant_count s.tenants

abbrev pub scopes_of : State → List Scope
scopes_of s = take s.scope_count s.scopes

-- the scope at a place, or an unused entry
abbrev pub scope_at : State → ℕ → Scope
scope_at s k = get_or s.scopes k zero_scope

-- ---- what tenants hold and have in reserve (document 01's houses and shares). Tenants count from 0; ls are the leases of all of them
abbrev pub reserve_at : Scope → ℕ → ℕ
reserve_at c g = get_or c.reserve g 0

abbrev pub limit_at : Scope → ℕ → ℕ
limit_at c g = get_or c.limit g 0

-- how many addresses tenant g holds in scope s, counted from its leases
abbrev pub held_at : List (List Lease) → ℕ → ℕ → ℕ
held_at ls s g = held_count s (get_or ls g [])

-- what each tenant holds, but d for tenant h
unfoldable pub with_held : ℕ → ℕ → (ℕ → ℕ) → ℕ → ℕ
with_held h d held g = pick (eqb g h) d (held g)

-- document 01's "larger of holding and share", in a scope where each tenant holds what `held` says
unfoldable pub committed : Scope → (ℕ → ℕ) → ℕ → ℕ
committed c held g = max (held g) (reserve_at c g)

-- "the sum over all houses of the larger of holding and share": of n tenants
abbrev pub committed_sum : Scope → ℕ → (ℕ → ℕ) → ℕ
committed_sum c n held = sum_to (committed c held) n

-- ---- what stands for a tenant that is not there, and one turn of the loops that insert and remove

abbrev pub no_leases : TenantLeases
no_leases = record { leases = []; count = 0 }

abbrev pub no_releases : TenantReleases
no_releases = record { releases = []; count = 0 }

-- one lease more at the end, where there is room
unfoldable pub pushed : TenantLeases → Lease → TenantLeases
pushed t l = pick (ltb t.count 16) (record { leases = set t.leases t.count l; count = t.count + 1 }) t

-- the same of a release
unfoldable pub pushed_release : TenantReleases → Release → TenantReleases
pushed_release q r = pick (ltb q.count 4) (record { releases = set q.releases q.count r; count = q.count + 1 }) q

-- one turn of a filter, of a union
unfoldable pub kept_if : (Lease → Bool) → TenantLeases → Lease → TenantLeases
kept_if t h l = keep_row pushed t h l

unfoldable pub added_if : (Lease → Bool) → ℕ → Lease → ℕ
added_if t sum l = pick (t l) (bit_or sum l.addresses) sum
