-- Specimens: whole files by computation: what the reader answers to each.
use mathlib.Core.Bool.{Bool, ◌&&◌, true}
use mathlib.Core.List.{List, [], ◌++◌, ◌∷◌}
use mathlib.Core.Path.{◌≡◌, refl}
use Prim.Native.Nat.{◌*◌, ◌+◌, ◌-◌, suc, zero, ℕ}
use lib.Dec.{eqb}
use lib.ListN.{length, replicate, take}
use Rattle.address_set.specs.AddressSet.{bit, offsets_from, read_offsets, rises_from, set_of, up_to}
use Rattle.agreement.specs.Agrees.{agrees_b}
use Rattle.identifier.specs.Order.{order_of, same_of}
use Rattle.lists.specs.All.{all_by, all_to, pairs_by}
use Rattle.lists.specs.Filter.{filter_by, is_in}
use Rattle.lists.specs.Arranged.{arranged, insert_in}
use Rattle.lists.specs.Pick.{pick}
use Rattle.lists.specs.Row.{laid_row}
use Rattle.lists.specs.Sums.{sum_to}
use Rattle.occupancy.specs.Board.{empty_scope_board, no_entry, no_board, same_board, same_entry, same_scope_board}
use Rattle.lists.specs.Same.{same_by}
use Rattle.occupancy.specs.declared.Board.{Board}
use Rattle.occupancy.specs.declared.Entry.{Entry}
use Rattle.octets.specs.Octets.{octets32}
use Rattle.soundness.specs.Sound.{apart, below_b, blank_b, broken_of, compatible, counts_b, disjoint, hold_b, lapse_b, one_to, first_broken, first_rule, first_late, tenants_b, id_b, kind_b, lease_b, limit_b, limits_b, committed_b, none_b, offsets_b, padded_b, period_b, pool_b, pools_apart, range_b, range_zero, ranges_apart, records_b, rule1, rule10, rule11, rule12, rule13, rule2, rule3, rule4, rule5, rule6, rule7, rule8, rule9, scope_zero, settings_b, reserve_b, reserves_b, size_b, tail_b, ttl_b, unused_b, zero_from, broken_by, layout_by, rule19_by, rules_by, sound_by}
use Rattle.state.specs.Board.{board_of, count_in, count_on, entry_by, is_on, owner_from, scope_by}
use Rattle.state.specs.Book.{Book, by_identifier, differ, addresses_of, is_hold, laid_out, laid_releases, lapsing_at, lease_with, overlaps, table_of, union_all, zero_release, zero_scope, committed, by_ending, until}
use Rattle.state.specs.declared.Lease.{Lease}
use Rattle.state.specs.declared.LeaseTable.{LeaseTable}
use Rattle.state.specs.declared.Memory.{Memory}
use Rattle.state.specs.declared.Release.{Release}
use Rattle.state.specs.declared.State.{State}
use Rattle.state_file.specs.File.{File, file_of}
use Rattle.format.specs.Place.{is_whole}
use Rattle.format.specs.Section.{ordered_from}
use Rattle.names.specs.Names.{names_b, sizes_ok}
use Rattle.release_file.specs.Section.{few_for, filed_memory, filed_release, keepable_b, releases_fit_b, stored_memory, stored_release}
use Rattle.format.specs.Tenants as entries
use Rattle.releases.specs.Rules.{broken_memory, broken_release, differs, few_b, filled_b, first_release, tenant_b, laid_b, length_b, memory_b, not_leased, older, once_b, past_b, release_rules_of, rules_to, unused_r}
use Rattle.releases.specs.Whole.{book_b}
use Rattle.format.specs.Format.{Got, bad, closed, got, read_number, read_octet, read_times, then, write_all}
use Rattle.state_file.specs.Records.{filed_as, counts_fit, filled, fits_b, stored_scope, stored_state, stored_table, zero_range, filed_book, filed_scope, pair_up}
use Rattle.lease_file.specs.Records.{few_of, filed_hold, filed_holds, filed_lease, filed_leases, hold_fit_b, in_file_order, lease_fit_b, merged_from, records_fit_b, storable_b, stored, stored_hold}
use Rattle.lease_file.specs.Section.{is_after}
use Rattle.std.specs.Prelude.{Ok, Err}
use Rattle.state_file.specs.declared.Refusal.TheVariants.{ShortRoom, UnsoundBook}
use Rattle.state_file.specs.StateFile.{accepted, loaded_got, judged, loaded, names_got, names_of, read_file, code_of, refusal_number, octets_of, room_after, with_board, written_of, zero_memory, zero_state, zero_table}

-- ---- files
-- 10.1.1.1, and the clock
server : ℕ → List ℕ
server clock = 1 ∷ 10 ∷ 1 ∷ 1 ∷ 1 ∷ octets32 clock

range : ℕ → ℕ → List ℕ
range low high = octets32 low ++ octets32 high

scope : ℕ → ℕ → ℕ → List ℕ → List ℕ
scope lowest size ttl parts = octets32 lowest ++ size ∷ ttl ∷ parts

lease : ℕ → ℕ → List ℕ → ℕ → ℕ → ℕ → List ℕ → List ℕ
lease tenant scope id kind start end offs = tenant ∷ scope ∷ length id ∷ id ++ kind ∷ octets32 16909060 ++ octets32 start ++ octets32 end ++ length offs ∷ offs

-- two tenants, 10.0.1.0 to 10.0.1.255 and 10.0.2.0 to 10.0.2.255
tenants : List ℕ
tenants = 2 ∷ range 167772416 167772671 ++ range 167772672 167772927

-- 239.192.0.0 of the size, with the reserves and limits
pool : ℕ → List ℕ → List ℕ
pool size parts = 1 ∷ scope 4022337536 size 1 parts

-- document 01's specimen: size 4; tenant 1 has reserve 2 and limit 3, tenant 2 reserve 1 and limit 4; clock 1000
settings : List ℕ
settings = server 1000 ++ tenants ++ pool 4 (2 ∷ 3 ∷ 1 ∷ 4 ∷ [])

-- names of k scopes and h tenants that are all missing
unnamed : ℕ → ℕ → List ℕ
unnamed k h = k ∷ replicate (k * (h + 1)) 0

-- what follows the leases where there are no names, no releases and no holds
bare : ℕ → ℕ → List ℕ
bare k h = unnamed k h ++ 0 ∷ 0 ∷ []

none : List ℕ
none = bare 1 2

name : ℕ → List ℕ → List ℕ → List ℕ
name flags tag text = flags ∷ length tag ∷ tag ++ length text ∷ text

-- the settings with a campus list of names, no lease, no tenant's own names, no release and no hold
named : List ℕ → List ℕ
named campus = settings ++ 0 ∷ 1 ∷ campus ++ 0 ∷ 0 ∷ 0 ∷ 0 ∷ []

en : List ℕ
en = 101 ∷ 110 ∷ []

-- a lease on the first scope from 1000 to 4600
plain : ℕ → List ℕ → List ℕ → List ℕ
plain t id offs = lease t 1 id 3 1000 4600 offs

a : List ℕ
a = 0 ∷ 65 ∷ []

b : List ℕ
b = 0 ∷ 66 ∷ []

c : List ℕ
c = 0 ∷ 67 ∷ []

-- a with an octet more
ab : List ℕ
ab = 0 ∷ 65 ∷ 0 ∷ []

release : ℕ → List ℕ → ℕ → ℕ → List ℕ
release tenant id xid time = tenant ∷ length id ∷ id ++ octets32 xid ++ octets32 time

-- the settings with these releases, so many by their count, no lease and no names; and no hold behind them
released : ℕ → List ℕ → List ℕ
released n entries = settings ++ 0 ∷ unnamed 1 2 ++ n ∷ entries

remembering : ℕ → List ℕ → List ℕ
remembering n entries = released n entries ++ 0 ∷ []

-- a hold on the first scope from 1000 on
hold : ℕ → List ℕ → ℕ → List ℕ → ℕ → List ℕ
hold t id end offs lapse = lease t 1 id 1 1000 end offs ++ octets32 lapse

-- one that lapses after thirty seconds
held : ℕ → List ℕ → List ℕ → List ℕ
held t id offs = hold t id 4600 offs 1030

-- the settings with these leases and holds, so many by their counts, no names and no releases
holding : ℕ → List ℕ → ℕ → List ℕ → List ℕ
holding n leases m holds = settings ++ n ∷ leases ++ unnamed 1 2 ++ 0 ∷ m ∷ holds

-- the same n times
again : ℕ → List ℕ → List ℕ
again zero l = []
again (suc n) l = l ++ again n l

-- n leases of tenant 1 with rising identifiers and periods that touch
row : ℕ → ℕ → List ℕ
row zero k = []
row (suc n) k = lease 1 1 (0 ∷ k ∷ []) 4 (1000 + k) (1001 + k) (0 ∷ []) ++ row n (suc k)

-- 32,549 octets and those of one more identifier
long : ℕ → List ℕ
long n = settings ++ 120 ∷ plain 1 (replicate n 7) (0 ∷ []) ++ again 119 (plain 1 (replicate 255 7) (0 ∷ [])) ++ none

-- four releases of a tenant, with identifiers of 32 octets
four_released : ℕ → ℕ → List ℕ
four_released t time = go 4
  where
    go : ℕ → List ℕ
    go zero = []
    go (suc n) = release t (replicate 31 8 ++ n ∷ []) n time ++ go n

-- ---- the largest sound file: eight tenants, four scopes of 64, each half of one with sixteen holds on it, nine lists of four names a scope, and four
-- releases of each tenant
eight : ℕ → ℕ → List ℕ
eight zero k = []
eight (suc n) k = range (k * 256) (k * 256 + 255) ++ eight n (suc k)

four : ℕ → ℕ → List ℕ
four zero k = []
four (suc n) k = scope (4022337536 + k * 64) 64 255 (again 8 (0 ∷ 64 ∷ [])) ++ four n (suc k)

up_from : ℕ → ℕ → List ℕ
up_from zero k = []
up_from (suc n) k = k ∷ up_from n (suc k)

sixteen : ℕ → ℕ → List ℕ → ℕ → List ℕ
sixteen t s offs zero = []
sixteen t s offs (suc n) = lease t s (replicate 31 7 ++ (16 - suc n) ∷ []) 1 (16 - suc n) (17 - suc n) offs ++ octets32 1 ++ sixteen t s offs n

largest : List ℕ
largest =
    server 0 ++ 8 ∷ eight 8 1 ++ 4 ∷ four 4 0 ++ 0 ∷
    4 ∷ again 36 (4 ∷ again 4 (name 128 (replicate 8 97) (replicate 32 98)))
    ++ 32 ∷ four_released 1 0 ++ four_released 2 0 ++ four_released 3 0 ++ four_released 4 0 ++ four_released 5 0 ++ four_released 6 0 ++ four_released 7 0 ++ four_released 8 0
    ++ 128 ∷ sixteen 1 1 (up_from 32 0) 16 ++ sixteen 2 1 (up_from 32 32) 16 ++ sixteen 3 2 (up_from 32 0) 16 ++ sixteen 4 2 (up_from 32 32) 16
    ++ sixteen 5 3 (up_from 32 0) 16 ++ sixteen 6 3 (up_from 32 32) 16 ++ sixteen 7 4 (up_from 32 0) 16 ++ sixteen 8 4 (up_from 32 32) 16

-- ---- the table
record Case : Type 0 where
  octets : List ℕ
  answer : ℕ
  rule : ℕ

-- the first rule of soundness that a file breaks, by number; 0 where there is none, where it has no form, or where the records cannot hold it
broken : State → LeaseTable → Memory → ℕ
broken s t m = pick (eqb (broken_of s t) 0) (broken_memory s t m) (broken_of s t)

rule_of : Got File → ℕ
rule_of (got f r) = pick (fits_b f) (broken (stored_state f) (stored_table f) (stored_memory f.releases)) 0
rule_of bad = 0

all_hold : List Case → Bool
all_hold [] = true
all_hold (c ∷ l) = eqb (refusal_number (read_file c.octets)) c.answer && (eqb (rule_of (file_of c.octets)) c.rule && all_hold l)

-- accepted
sound : List Case
sound =
    -- no lease; the smallest of all; touching periods; sixteen leases; a prefix before what it begins; then a pool that ends at 239.255.255.255
    record { octets = settings ++ 0 ∷ none; answer = 0; rule = 0 }
    ∷ record { octets = server 4294967295 ++ 1 ∷ range 5 5 ++ 1 ∷ scope 3758096384 1 1 (0 ∷ 0 ∷ []) ++ 0 ∷ bare 1 1; answer = 0; rule = 0 }
    ∷ record { octets = settings ++ 2 ∷ lease 1 1 a 3 1000 2000 (2 ∷ 3 ∷ []) ++ lease 1 1 b 4 2000 3000 (2 ∷ 3 ∷ []) ++ none; answer = 0; rule = 0 }
    ∷ record { octets = settings ++ 16 ∷ row 16 0 ++ none; answer = 0; rule = 0 }
    ∷ record { octets = settings ++ 2 ∷ plain 1 a (0 ∷ []) ++ plain 1 ab (1 ∷ []) ++ none; answer = 0; rule = 0 }
    -- the specimen after P3
    ∷ record { octets = settings ++ 2 ∷ lease 1 1 b 3 1000 2000 (2 ∷ 3 ∷ []) ++ plain 2 a (0 ∷ 1 ∷ []) ++ none; answer = 0; rule = 0 }
    ∷ record { octets = server 1000 ++ tenants ++ 1 ∷ scope 4026531836 4 1 (2 ∷ 3 ∷ 1 ∷ 4 ∷ []) ++ 0 ∷ none; answer = 0; rule = 0 }
    ∷ record { octets = largest; answer = 0; rule = 0 }
    -- names: four in a list, with a tag of 8 and a text of 32 octets, and two alike; of one octet each
    ∷ record { octets = named (4 ∷ name 128 (replicate 8 97) (replicate 32 98) ++ again 3 (name 128 en en)); answer = 0; rule = 0 }
    ∷ record { octets = named (1 ∷ name 0 (0 ∷ []) (255 ∷ [])); answer = 0; rule = 0 }
    -- releases: at clock 0 and at the clock, with equal times, a transaction id twice, times that fall from tenant to tenant and an identifier of both
    ∷ record { octets = remembering 4 (release 1 a 5 0 ++ release 1 b 5 1000 ++ release 1 ab 6 1000 ++ release 2 a 5 999); answer = 0; rule = 0 }
    -- four of one tenant, with an identifier of 32 octets; one that another tenant has on a lease
    ∷ record { octets = remembering 4 (four_released 1 900); answer = 0; rule = 0 }
    ∷ record { octets = settings ++ 1 ∷ plain 1 a (0 ∷ []) ++ unnamed 1 2 ++ 1 ∷ release 2 a 5 1000 ++ 0 ∷ []; answer = 0; rule = 0 }
    -- document 02, W-205: a hold by itself that lapses a second after the clock, thirty seconds after it, and at its end; a lease and a hold of one tenant,
    -- either before the other, and of two; fifteen leases and a hold; an identifier that another tenant has on a lease
    ∷ record { octets = holding 0 [] 1 (hold 1 a 4600 (0 ∷ []) 1001); answer = 0; rule = 0 }
    ∷ record { octets = holding 0 [] 1 (held 1 a (0 ∷ [])); answer = 0; rule = 0 }
    ∷ record { octets = holding 0 [] 1 (hold 1 a 1010 (0 ∷ []) 1010); answer = 0; rule = 0 }
    ∷ record { octets = holding 1 (plain 1 a (0 ∷ [])) 1 (held 1 b (1 ∷ [])); answer = 0; rule = 0 }
    ∷ record { octets = holding 1 (plain 1 b (0 ∷ [])) 1 (held 1 a (1 ∷ [])); answer = 0; rule = 0 }
    ∷ record { octets = holding 1 (plain 2 a (0 ∷ [])) 1 (held 1 a (1 ∷ [])); answer = 0; rule = 0 }
    ∷ record { octets = holding 15 (row 15 0) 1 (held 1 a (1 ∷ [])); answer = 0; rule = 0 }
    ∷ []

-- wrong form
form : List Case
form =
    -- cut off in each section
    record { octets = []; answer = 20; rule = 0 }
    ∷ record { octets = 1 ∷ 10 ∷ 1 ∷ 1 ∷ 1 ∷ 0 ∷ []; answer = 20; rule = 0 }
    ∷ record { octets = server 1000; answer = 20; rule = 0 }
    ∷ record { octets = server 1000 ++ 2 ∷ range 1 2; answer = 20; rule = 0 }
    ∷ record { octets = server 1000 ++ 9 ∷ eight 8 1; answer = 20; rule = 0 }
    ∷ record { octets = server 1000 ++ tenants; answer = 20; rule = 0 }
    ∷ record { octets = server 1000 ++ tenants ++ pool 4 (2 ∷ 3 ∷ 1 ∷ []); answer = 20; rule = 0 }
    ∷ record { octets = settings; answer = 20; rule = 0 }
    ∷ record { octets = settings ++ 1 ∷ 1 ∷ 1 ∷ 40 ∷ a; answer = 20; rule = 0 }
    ∷ record { octets = settings ++ 2 ∷ plain 1 a (0 ∷ []); answer = 20; rule = 0 }
    -- the server's count, octets left over
    ∷ record { octets = 0 ∷ tenants ++ pool 4 (2 ∷ 3 ∷ 1 ∷ 4 ∷ []) ++ 0 ∷ none; answer = 20; rule = 0 }
    ∷ record { octets = 2 ∷ 10 ∷ 1 ∷ 1 ∷ 1 ∷ octets32 1000 ++ tenants ++ pool 4 (2 ∷ 3 ∷ 1 ∷ 4 ∷ []) ++ 0 ∷ none; answer = 20; rule = 0 }
    ∷ record { octets = settings ++ 0 ∷ none ++ 0 ∷ []; answer = 20; rule = 0 }
    -- offsets that don't rise
    ∷ record { octets = settings ++ 1 ∷ plain 1 a (0 ∷ 0 ∷ []) ++ none; answer = 20; rule = 0 }
    ∷ record { octets = settings ++ 1 ∷ plain 1 a (1 ∷ 0 ∷ []) ++ none; answer = 20; rule = 0 }
    -- leases that fall: by tenant, by identifier, a prefix after what it begins, by tenants that are not there
    ∷ record { octets = settings ++ 2 ∷ plain 2 a (0 ∷ []) ++ plain 1 b (1 ∷ []) ++ none; answer = 20; rule = 0 }
    ∷ record { octets = settings ++ 2 ∷ plain 1 b (0 ∷ []) ++ plain 1 a (1 ∷ []) ++ none; answer = 20; rule = 0 }
    ∷ record { octets = settings ++ 2 ∷ plain 1 ab (0 ∷ []) ++ plain 1 a (1 ∷ []) ++ none; answer = 20; rule = 0 }
    ∷ record { octets = settings ++ 2 ∷ plain 200 a (0 ∷ []) ++ plain 0 b (0 ∷ []) ++ none; answer = 20; rule = 0 }
    -- equal identifiers with another between them
    ∷ record { octets = settings ++ 3 ∷ plain 1 a (0 ∷ []) ++ plain 1 b (1 ∷ []) ++ plain 1 a (2 ∷ []) ++ none; answer = 20; rule = 0 }
    -- the names are missing, cut off in a name and before a list, or not as many as the scopes, though the octets would suffice
    ∷ record { octets = settings ++ 0 ∷ []; answer = 20; rule = 0 }
    ∷ record { octets = settings ++ 0 ∷ 1 ∷ 1 ∷ 0 ∷ 2 ∷ 101 ∷ 110 ∷ 5 ∷ 97 ∷ []; answer = 20; rule = 0 }
    ∷ record { octets = settings ++ 0 ∷ 1 ∷ 0 ∷ 0 ∷ []; answer = 20; rule = 0 }
    ∷ record { octets = settings ++ 0 ∷ bare 0 2; answer = 20; rule = 0 }
    ∷ record { octets = settings ++ 0 ∷ bare 2 2; answer = 20; rule = 0 }
    ∷ record { octets = settings ++ 0 ∷ 2 ∷ 0 ∷ 0 ∷ 0 ∷ 0 ∷ []; answer = 20; rule = 0 }
    -- flags 1, a tag of no octet and of 9, a text of none and of 33, five names in a list
    ∷ record { octets = named (1 ∷ name 1 en en); answer = 20; rule = 0 }
    ∷ record { octets = named (1 ∷ name 0 [] en); answer = 20; rule = 0 }
    ∷ record { octets = named (1 ∷ name 0 (replicate 9 97) en); answer = 20; rule = 0 }
    ∷ record { octets = named (1 ∷ name 0 en []); answer = 20; rule = 0 }
    ∷ record { octets = named (1 ∷ name 0 en (replicate 33 97)); answer = 20; rule = 0 }
    ∷ record { octets = named (5 ∷ again 5 (name 0 en en)); answer = 20; rule = 0 }
    -- a bad name comes before an unsound lease; nine tenants have ten lists, and nine are too few
    ∷ record { octets = settings ++ 1 ∷ plain 3 a (0 ∷ []) ++ 1 ∷ 1 ∷ name 1 en en ++ 0 ∷ 0 ∷ 0 ∷ 0 ∷ []; answer = 20; rule = 0 }
    ∷ record { octets = server 1000 ++ 9 ∷ eight 9 1 ++ pool 4 (again 9 (0 ∷ 0 ∷ [])) ++ 0 ∷ bare 1 8; answer = 20; rule = 0 }
    -- the releases are missing, and cut off: in front of an entry and in each of its parts
    ∷ record { octets = settings ++ 0 ∷ unnamed 1 2; answer = 20; rule = 0 }
    ∷ record { octets = released 1 []; answer = 20; rule = 0 }
    ∷ record { octets = released 1 (1 ∷ []); answer = 20; rule = 0 }
    ∷ record { octets = released 1 (1 ∷ 3 ∷ a); answer = 20; rule = 0 }
    ∷ record { octets = released 1 (1 ∷ 2 ∷ a ++ 1 ∷ 2 ∷ 3 ∷ []); answer = 20; rule = 0 }
    ∷ record { octets = released 1 (1 ∷ 2 ∷ a ++ octets32 5 ++ 0 ∷ 0 ∷ 0 ∷ []); answer = 20; rule = 0 }
    ∷ record { octets = released 2 (release 1 a 5 900); answer = 20; rule = 0 }
    -- octets left over
    ∷ record { octets = remembering 0 (release 1 a 5 900); answer = 20; rule = 0 }
    ∷ record { octets = remembering 1 (release 1 a 5 900 ++ 0 ∷ []); answer = 20; rule = 0 }
    -- tenants that fall, times that fall in a tenant, and both of tenants that are not there
    ∷ record { octets = remembering 2 (release 2 a 5 900 ++ release 1 b 5 900); answer = 20; rule = 0 }
    ∷ record { octets = remembering 2 (release 1 a 5 900 ++ release 1 b 5 899); answer = 20; rule = 0 }
    ∷ record { octets = remembering 3 (release 1 a 5 900 ++ release 1 b 5 900 ++ release 1 ab 5 0); answer = 20; rule = 0 }
    ∷ record { octets = remembering 2 (release 200 a 5 900 ++ release 0 b 5 900); answer = 20; rule = 0 }
    ∷ record { octets = remembering 2 (release 200 a 5 900 ++ release 200 b 5 899); answer = 20; rule = 0 }
    -- releases in a wrong order come before an unsound lease, and a bad name before an unsound release
    ∷ record { octets = settings ++ 1 ∷ plain 3 a (0 ∷ []) ++ unnamed 1 2 ++ 2 ∷ release 1 a 5 900 ++ release 1 b 5 899 ++ 0 ∷ []; answer = 20; rule = 0 }
    ∷ record { octets = settings ++ 0 ∷ 1 ∷ 1 ∷ name 1 en en ++ 0 ∷ 0 ∷ 1 ∷ release 3 a 5 900 ++ 0 ∷ []; answer = 20; rule = 0 }
    -- document 02, W-205: the holds are missing, and cut off: in front of one and in its lapse, which a lease has not
    ∷ record { octets = released 0 []; answer = 20; rule = 0 }
    ∷ record { octets = holding 0 [] 1 []; answer = 20; rule = 0 }
    ∷ record { octets = holding 0 [] 1 (lease 1 1 a 1 1000 4600 (0 ∷ [])); answer = 20; rule = 0 }
    ∷ record { octets = holding 0 [] 1 (lease 1 1 a 1 1000 4600 (0 ∷ []) ++ 0 ∷ 0 ∷ 4 ∷ []); answer = 20; rule = 0 }
    ∷ record { octets = holding 1 (held 1 a (0 ∷ [])) 0 []; answer = 20; rule = 0 }
    -- octets left over, offsets that don't rise, holds that fall by tenant and by identifier
    ∷ record { octets = holding 0 [] 1 (held 1 a (0 ∷ []) ++ 0 ∷ []); answer = 20; rule = 0 }
    ∷ record { octets = holding 0 [] 1 (held 1 a (1 ∷ 0 ∷ [])); answer = 20; rule = 0 }
    ∷ record { octets = holding 0 [] 2 (held 2 a (0 ∷ []) ++ held 1 b (1 ∷ [])); answer = 20; rule = 0 }
    ∷ record { octets = holding 0 [] 2 (held 1 b (0 ∷ []) ++ held 1 a (1 ∷ [])); answer = 20; rule = 0 }
    -- holds in a wrong order come before a lease of type 1
    ∷ record { octets = holding 1 (lease 1 1 a 1 1000 4600 (0 ∷ [])) 2 (held 1 b (0 ∷ []) ++ held 1 a (1 ∷ [])); answer = 20; rule = 0 }
    -- 32,769 octets, and 32,768
    ∷ record { octets = long 220; answer = 20; rule = 0 }
    ∷ record { octets = long 219; answer = 21; rule = 0 }
    ∷ []

-- unsound, by the rules of document 01 and those of document 02 on releases and holds
unsound : List Case
unsound =
    -- 1. no tenant, nine, no scope, five, sizes 0 and 65, identifiers of no octet, of 1 and of 33, 17 leases, 129 of them
    record { octets = server 1000 ++ 0 ∷ pool 4 [] ++ 0 ∷ bare 1 0; answer = 21; rule = 1 }
    ∷ record { octets = server 1000 ++ 9 ∷ eight 9 1 ++ pool 4 (again 9 (0 ∷ 0 ∷ [])) ++ 0 ∷ bare 1 9; answer = 21; rule = 0 }
    ∷ record { octets = server 1000 ++ tenants ++ 0 ∷ 0 ∷ bare 0 2; answer = 21; rule = 1 }
    ∷ record { octets = server 1000 ++ 8 ∷ eight 8 1 ++ 5 ∷ four 5 0 ++ 0 ∷ bare 5 8; answer = 21; rule = 0 }
    ∷ record { octets = server 1000 ++ tenants ++ pool 0 (0 ∷ 0 ∷ 0 ∷ 0 ∷ []) ++ 0 ∷ none; answer = 21; rule = 1 }
    ∷ record { octets = server 1000 ++ tenants ++ pool 65 (0 ∷ 0 ∷ 0 ∷ 0 ∷ []) ++ 0 ∷ none; answer = 21; rule = 1 }
    ∷ record { octets = settings ++ 1 ∷ plain 1 [] (0 ∷ []) ++ none; answer = 21; rule = 1 }
    ∷ record { octets = settings ++ 1 ∷ plain 1 (7 ∷ []) (0 ∷ []) ++ none; answer = 21; rule = 1 }
    ∷ record { octets = settings ++ 1 ∷ plain 1 (replicate 33 7) (0 ∷ []) ++ none; answer = 21; rule = 0 }
    ∷ record { octets = settings ++ 17 ∷ row 17 0 ++ none; answer = 21; rule = 0 }
    ∷ record { octets = settings ++ 129 ∷ row 129 0 ++ none; answer = 21; rule = 0 }
    -- 2. an offset at the size, past 63, 65 of them
    ∷ record { octets = settings ++ 1 ∷ plain 1 a (4 ∷ []) ++ none; answer = 21; rule = 2 }
    ∷ record { octets = settings ++ 1 ∷ plain 1 a (64 ∷ []) ++ none; answer = 21; rule = 0 }
    ∷ record { octets = settings ++ 1 ∷ plain 1 a (up_from 65 0) ++ none; answer = 21; rule = 0 }
    -- 3. an empty client range, two that meet
    ∷ record { octets = server 1000 ++ 2 ∷ range 9 8 ++ range 10 11 ++ pool 4 (2 ∷ 3 ∷ 1 ∷ 4 ∷ []) ++ 0 ∷ none; answer = 21; rule = 3 }
    ∷ record { octets = server 1000 ++ 2 ∷ range 8 9 ++ range 9 10 ++ pool 4 (2 ∷ 3 ∷ 1 ∷ 4 ∷ []) ++ 0 ∷ none; answer = 21; rule = 3 }
    -- 4. a pool before 224.0.0.0, one past 239.255.255.255, two that meet
    ∷ record { octets = server 1000 ++ tenants ++ 1 ∷ scope 3758096383 4 1 (2 ∷ 3 ∷ 1 ∷ 4 ∷ []) ++ 0 ∷ none; answer = 21; rule = 4 }
    ∷ record { octets = server 1000 ++ tenants ++ 1 ∷ scope 4026531837 4 1 (2 ∷ 3 ∷ 1 ∷ 4 ∷ []) ++ 0 ∷ none; answer = 21; rule = 4 }
    ∷ record { octets = server 1000 ++ tenants ++ 2 ∷ scope 4022337536 4 1 (2 ∷ 3 ∷ 1 ∷ 4 ∷ []) ++ scope 4022337539 4 1 (2 ∷ 3 ∷ 1 ∷ 4 ∷ []) ++ 0 ∷ bare 2 2; answer = 21; rule = 4 }
    -- 5. TTL 0
    ∷ record { octets = server 1000 ++ tenants ++ 1 ∷ scope 4022337536 4 0 (2 ∷ 3 ∷ 1 ∷ 4 ∷ []) ++ 0 ∷ none; answer = 21; rule = 5 }
    -- 6. a reserve above its limit, a limit above the size, the reserves together above it
    ∷ record { octets = server 1000 ++ tenants ++ pool 4 (3 ∷ 2 ∷ 1 ∷ 4 ∷ []) ++ 0 ∷ none; answer = 21; rule = 6 }
    ∷ record { octets = server 1000 ++ tenants ++ pool 4 (2 ∷ 5 ∷ 1 ∷ 4 ∷ []) ++ 0 ∷ none; answer = 21; rule = 6 }
    ∷ record { octets = server 1000 ++ tenants ++ pool 4 (3 ∷ 3 ∷ 2 ∷ 4 ∷ []) ++ 0 ∷ none; answer = 21; rule = 6 }
    -- 7. an unknown tenant, an unknown scope, another type, an empty period, one that is over, no address
    ∷ record { octets = settings ++ 1 ∷ plain 0 a (0 ∷ []) ++ none; answer = 21; rule = 0 }
    ∷ record { octets = settings ++ 1 ∷ plain 3 a (0 ∷ []) ++ none; answer = 21; rule = 7 }
    ∷ record { octets = settings ++ 1 ∷ plain 9 a (0 ∷ []) ++ none; answer = 21; rule = 0 }
    ∷ record { octets = settings ++ 1 ∷ lease 1 0 a 3 1000 4600 (0 ∷ []) ++ none; answer = 21; rule = 7 }
    ∷ record { octets = settings ++ 1 ∷ lease 1 2 a 3 1000 4600 (0 ∷ []) ++ none; answer = 21; rule = 7 }
    ∷ record { octets = settings ++ 1 ∷ lease 1 1 a 2 1000 4600 (0 ∷ []) ++ none; answer = 21; rule = 7 }
    ∷ record { octets = settings ++ 1 ∷ lease 1 1 a 5 1000 4600 (0 ∷ []) ++ none; answer = 21; rule = 7 }
    ∷ record { octets = settings ++ 1 ∷ lease 1 1 a 3 4600 4600 (0 ∷ []) ++ none; answer = 21; rule = 7 }
    ∷ record { octets = settings ++ 1 ∷ lease 1 1 a 3 900 1000 (0 ∷ []) ++ none; answer = 21; rule = 7 }
    ∷ record { octets = settings ++ 1 ∷ plain 1 a [] ++ none; answer = 21; rule = 7 }
    -- 8. equal identifiers, and those of a tenant that is not there
    ∷ record { octets = settings ++ 2 ∷ plain 1 a (0 ∷ []) ++ plain 1 a (1 ∷ []) ++ none; answer = 21; rule = 8 }
    ∷ record { octets = settings ++ 2 ∷ plain 200 a (0 ∷ []) ++ plain 200 a (1 ∷ []) ++ none; answer = 21; rule = 0 }
    -- 9. an address with two tenants, though at other times
    ∷ record { octets = settings ++ 2 ∷ lease 1 1 a 3 1000 2000 (0 ∷ []) ++ lease 2 1 a 3 2000 3000 (0 ∷ []) ++ none; answer = 21; rule = 9 }
    -- 10. leases on one address that overlap by a second
    ∷ record { octets = settings ++ 2 ∷ lease 1 1 a 3 1000 2000 (0 ∷ []) ++ lease 1 1 b 3 1999 3000 (0 ∷ []) ++ none; answer = 21; rule = 10 }
    -- 11. more addresses than the limit
    ∷ record { octets = server 1000 ++ tenants ++ pool 4 (0 ∷ 1 ∷ 0 ∷ 4 ∷ []) ++ 1 ∷ plain 1 a (0 ∷ 1 ∷ []) ++ none; answer = 21; rule = 11 }
    -- 12. more than the size with what is reserved
    ∷ record { octets = settings ++ 1 ∷ plain 2 a (0 ∷ 1 ∷ 2 ∷ []) ++ none; answer = 21; rule = 12 }
    -- document 02, W-202: 14. an unknown tenant
    ∷ record { octets = remembering 1 (release 0 a 5 900); answer = 21; rule = 0 }
    ∷ record { octets = remembering 1 (release 3 a 5 900); answer = 21; rule = 14 }
    ∷ record { octets = remembering 1 (release 9 a 5 900); answer = 21; rule = 0 }
    ∷ record { octets = remembering 1 (release 200 a 5 900); answer = 21; rule = 0 }
    -- 15. more than four for one, and as many as can be counted
    ∷ record { octets = remembering 5 (release 1 a 5 900 ++ four_released 1 900); answer = 21; rule = 0 }
    ∷ record { octets = remembering 255 (again 255 (release 1 a 5 900)); answer = 21; rule = 0 }
    -- 16. an identifier of no octet, of 1, of 33 and of 255
    ∷ record { octets = remembering 1 (release 1 [] 5 900); answer = 21; rule = 16 }
    ∷ record { octets = remembering 1 (release 1 (7 ∷ []) 5 900); answer = 21; rule = 16 }
    ∷ record { octets = remembering 1 (release 1 (replicate 33 7) 5 900); answer = 21; rule = 0 }
    ∷ record { octets = remembering 1 (release 1 (replicate 255 7) 5 900); answer = 21; rule = 0 }
    -- 17. an identifier twice, with one transaction id, with two, with another between them, and on a lease
    ∷ record { octets = remembering 2 (release 1 a 5 900 ++ release 1 a 5 900); answer = 21; rule = 17 }
    ∷ record { octets = remembering 2 (release 2 a 5 900 ++ release 2 a 6 901); answer = 21; rule = 17 }
    ∷ record { octets = remembering 3 (release 1 a 5 900 ++ release 1 b 6 900 ++ release 1 a 7 900); answer = 21; rule = 17 }
    ∷ record { octets = settings ++ 1 ∷ plain 2 a (0 ∷ []) ++ unnamed 1 2 ++ 1 ∷ release 2 a 5 900 ++ 0 ∷ []; answer = 21; rule = 17 }
    -- 18. a time after the clock
    ∷ record { octets = remembering 1 (release 1 a 5 1001); answer = 21; rule = 18 }
    ∷ record { octets = remembering 1 (release 1 a 5 4294967295); answer = 21; rule = 18 }
    -- W-205: among the leases one of type 1, and among the holds of 3, 4 and 0, sound but for that
    ∷ record { octets = holding 1 (lease 1 1 a 1 1000 4600 (0 ∷ [])) 0 []; answer = 21; rule = 0 }
    ∷ record { octets = holding 0 [] 1 (lease 1 1 a 3 1000 4600 (0 ∷ []) ++ octets32 1030); answer = 21; rule = 0 }
    ∷ record { octets = holding 0 [] 1 (lease 1 1 a 4 1000 4600 (0 ∷ []) ++ octets32 1030); answer = 21; rule = 0 }
    ∷ record { octets = holding 0 [] 1 (lease 1 1 a 0 1000 4600 (0 ∷ []) ++ octets32 0); answer = 21; rule = 0 }
    -- 13. a lapse at the clock, thirty-one seconds after it, and after the end
    ∷ record { octets = holding 0 [] 1 (hold 1 a 4600 (0 ∷ []) 1000); answer = 21; rule = 13 }
    ∷ record { octets = holding 0 [] 1 (hold 1 a 4600 (0 ∷ []) 1031); answer = 21; rule = 13 }
    ∷ record { octets = holding 0 [] 1 (hold 1 a 1010 (0 ∷ []) 1011); answer = 21; rule = 13 }
    -- a hold of an unknown tenant, with an identifier of 33 octets, with an offset past 63, and as the seventeenth
    ∷ record { octets = holding 0 [] 1 (held 0 a (0 ∷ [])); answer = 21; rule = 0 }
    ∷ record { octets = holding 0 [] 1 (held 3 a (0 ∷ [])); answer = 21; rule = 7 }
    ∷ record { octets = holding 0 [] 1 (held 9 a (0 ∷ [])); answer = 21; rule = 0 }
    ∷ record { octets = holding 0 [] 1 (held 1 (replicate 33 7) (0 ∷ [])); answer = 21; rule = 0 }
    ∷ record { octets = holding 0 [] 1 (held 1 a (64 ∷ [])); answer = 21; rule = 0 }
    ∷ record { octets = holding 16 (row 16 0) 1 (held 1 a (1 ∷ [])); answer = 21; rule = 0 }
    -- an identifier on two holds and on a lease and a hold, an address with two tenants and twice with one
    ∷ record { octets = holding 0 [] 2 (held 1 a (0 ∷ []) ++ held 1 a (1 ∷ [])); answer = 21; rule = 8 }
    ∷ record { octets = holding 1 (plain 1 a (0 ∷ [])) 1 (held 1 a (1 ∷ [])); answer = 21; rule = 8 }
    ∷ record { octets = holding 1 (plain 2 a (0 ∷ [])) 1 (held 1 b (0 ∷ [])); answer = 21; rule = 9 }
    ∷ record { octets = holding 1 (plain 1 a (0 ∷ [])) 1 (held 1 b (0 ∷ [])); answer = 21; rule = 10 }
    -- of two the first; a lease's before a release's
    ∷ record { octets = remembering 1 (release 3 [] 5 1001); answer = 21; rule = 14 }
    ∷ record { octets = settings ++ 1 ∷ lease 1 1 a 3 900 1000 (0 ∷ []) ++ unnamed 1 2 ++ 1 ∷ release 3 a 5 900 ++ 0 ∷ []; answer = 21; rule = 7 }
    ∷ []

answers : all_hold (sound ++ form ++ unsound) ≡ true
unfolding all_hold rule_of long largest sound form unsound server range scope lease tenants pool settings unnamed none name named en plain a b ab again row eight four up_from sixteen pick all_by pairs_by all_to filter_by is_in sum_to bit offsets_from set_of read_offsets rises_from order_of same_of laid_out table_of by_identifier union_all addresses_of overlaps one_to size_b id_b records_b counts_b rule1 below_b offsets_b rule2 range_b ranges_apart rule3 pool_b pools_apart rule4 ttl_b rule5 reserve_b reserves_b rule6 kind_b period_b lease_b none_b tenants_b rule7 differ rule8 disjoint apart rule9 compatible rule10 limit_b limits_b rule11 committed committed_b rule12 lapse_b hold_b rule13 zero_from padded_b blank_b unused_b layout_by range_zero tail_b scope_zero settings_b rules_by first_late first_rule first_broken broken_by sound_by then closed read_octet read_number read_times is_after ordered_from file_of filled stored stored_hold insert_in arranged merged_from is_hold stored_scope stored_state stored_table storable_b lease_fit_b hold_fit_b few_of records_fit_b counts_fit fits_b refusal_number code_of accepted judged loaded loaded_got read_file rule19_by sizes_ok broken bare release released remembering hold held holding four_released broken_memory broken_release first_release release_rules_of rules_to tenant_b few_b length_b differs not_leased once_b past_b older filled_b unused_r laid_b memory_b laid_releases stored_release stored_memory entries.apart keepable_b few_for releases_fit_b by_ending until
answers = refl

-- ---- the book that a file gives, and what the writer answers to it
-- a campus name in one language, and one of tenant 1's own in another
specimen_names : List ℕ
specimen_names = 1 ∷ 1 ∷ name 128 en (83 ∷ 116 ∷ 117 ∷ 100 ∷ 105 ∷ 111 ∷ []) ++ 1 ∷ name 0 (100 ∷ 101 ∷ []) (83 ∷ 101 ∷ 110 ∷ []) ++ 0 ∷ []

-- the specimen after P3: tenant 2 has .0 and .1 until 4600, tenant 1 has .2 and .3 until 2000; a release of each is remembered; and .2 is held for tenant 1 from
-- 2000 on, under an identifier before its lease's
specimen : List ℕ
specimen =
    settings ++ 2 ∷ lease 1 1 b 3 1000 2000 (2 ∷ 3 ∷ []) ++ plain 2 a (0 ∷ 1 ∷ []) ++ specimen_names ++ 2 ∷ release 1 a 5 900 ++ release 2 b 6 800
    ++ 1 ∷ lease 1 1 ab 1 2000 3000 (2 ∷ []) ++ octets32 1030

specimen_state : State
specimen_state = record {
  server = 167837953;
  clock = 1000;
  tenant_count = 2;
  tenants = record { low = 167772416; high = 167772671 } ∷ record { low = 167772672; high = 167772927 } ∷ replicate 6 zero_range;
  scope_count = 1;
  scopes = record { lowest = 4022337536; size = 4; ttl = 1; reserve = 2 ∷ 1 ∷ replicate 6 0; limit = 3 ∷ 4 ∷ replicate 6 0 } ∷ replicate 3 zero_scope;
}

specimen_lease : List ℕ → ℕ → ℕ → Lease
specimen_lease id end addresses = lease_with 1 2 (id ++ replicate 30 0) 3 16909060 1000 end addresses

specimen_hold : ℕ → Lease
specimen_hold lapse = lapsing_at lapse (lease_with 1 3 (ab ++ replicate 29 0) 1 16909060 2000 3000 4)

-- with these records of tenant 1
table_with : List Lease → LeaseTable
table_with l = table_of (l ∷ (specimen_lease a 4600 3 ∷ []) ∷ replicate 6 [])

specimen_table : LeaseTable
specimen_table = table_with (specimen_hold 1030 ∷ specimen_lease b 2000 12 ∷ [])

-- with the first two octets as its identifier
specimen_release : List ℕ → ℕ → ℕ → Release
specimen_release id xid time = record { id_len = 2; id = laid_row 0 32 id; xid = xid; time = time }

-- the first four addresses of the first scope, and what its first two tenants hold
board_with : List Entry → List ℕ → Board
board_with entries held = record { scopes = record { entries = entries ++ replicate 60 no_entry; held = held ++ replicate 6 0 } ∷ replicate 3 empty_scope_board }

entry : ℕ → ℕ → Entry
entry owner count = record { owner = owner; count = count }

specimen_board : Board
specimen_board = board_with (entry 2 1 ∷ entry 2 1 ∷ entry 1 2 ∷ entry 1 1 ∷ []) (2 ∷ 2 ∷ [])

-- the memory with these releases of tenant 1
memory_with : List Release → Memory
memory_with l = record { releases = laid_releases l ∷ laid_releases (specimen_release b 6 800 ∷ []) ∷ replicate 6 (laid_releases []); board = specimen_board }

specimen_memory : Memory
specimen_memory = memory_with (specimen_release a 5 900 ∷ [])

-- document 02, W-209: tenant 1 has a until 4600, b until 2000, and c held until 1030. The file has them by identifier, the records by ending
unlike : List ℕ
unlike = holding 2 (lease 1 1 a 3 1000 4600 (0 ∷ []) ++ lease 1 1 b 3 1000 2000 (1 ∷ [])) 1 (held 1 c (2 ∷ []))

unlike_hold : Lease
unlike_hold = lapsing_at 1030 (lease_with 1 2 (c ++ replicate 30 0) 1 16909060 1000 4600 4)

-- the book with these records of tenant 1, no names and no releases
unlike_book : List Lease → Book
unlike_book l = let t = table_of (l ∷ replicate 7 []) in record { state = specimen_state; table = t; memory = with_board t zero_memory; names = unnamed 1 2 }

read_specimen : (read_file specimen ≡ accepted specimen_state specimen_table specimen_memory) × (names_of specimen ≡ specimen_names) × (names_of (specimen ++ 0 ∷ []) ≡ [])
    × (read_file unlike ≡ (let x = unlike_book (unlike_hold ∷ specimen_lease b 2000 2 ∷ specimen_lease a 4600 1 ∷ []) in accepted x.state x.table x.memory))
unfolding unlike unlike_hold unlike_book c holding held hold specimen specimen_names specimen_state specimen_lease specimen_hold table_with specimen_table server range scope lease tenants pool settings unnamed name en plain a b ab pick all_by pairs_by all_to filter_by is_in sum_to bit offsets_from set_of read_offsets rises_from order_of same_of laid_out table_of by_identifier union_all addresses_of overlaps one_to size_b id_b records_b counts_b rule1 below_b offsets_b rule2 range_b ranges_apart rule3 pool_b pools_apart rule4 ttl_b rule5 reserve_b reserves_b rule6 kind_b period_b lease_b none_b tenants_b rule7 differ rule8 disjoint apart rule9 compatible rule10 limit_b limits_b rule11 committed_b rule12 lapse_b hold_b rule13 zero_from padded_b blank_b unused_b layout_by range_zero tail_b scope_zero settings_b rule19_by rules_by first_late first_rule first_broken broken_by sound_by then closed read_octet read_number read_times is_after ordered_from file_of filled stored stored_hold insert_in arranged merged_from is_hold stored_scope stored_state stored_table storable_b lease_fit_b hold_fit_b few_of records_fit_b counts_fit fits_b refusal_number code_of accepted judged loaded loaded_got read_file committed names_of names_got sizes_ok bare release specimen_release memory_with specimen_memory broken_memory broken_release first_release release_rules_of rules_to tenant_b few_b length_b differs not_leased once_b past_b older filled_b unused_r laid_b memory_b laid_releases stored_release stored_memory entries.apart keepable_b few_for releases_fit_b board_of scope_by entry_by owner_from count_on count_in is_on up_to specimen_board board_with entry by_ending until
read_specimen = (refl, refl, refl, refl)

-- the book with these names, or others; and with another memory
book_with : List ℕ → Book
book_with names = record { state = specimen_state; table = specimen_table; memory = specimen_memory; names = names }

book_of : Memory → Book
book_of memory = record { state = specimen_state; table = specimen_table; memory = memory; names = specimen_names }

zero_book : Book
zero_book = record { state = zero_state; table = zero_table; memory = zero_memory; names = 0 ∷ [] }

-- the book with other records of tenant 1, and the board that they give
book_on : List Lease → Book
book_on l = record { state = specimen_state; table = table_with l; memory = with_board (table_with l) specimen_memory; names = specimen_names }

-- the book with another board
book_by : Board → Book
book_by board = book_of (record { releases = specimen_memory.releases; board = board })

-- tenant 1's entries, so many in use
counted_as : ℕ → List Release → Memory
counted_as n l = record { releases = record { releases = l; count = n } ∷ replicate 7 (laid_releases []); board = specimen_board }

-- an exact room suffices, one octet less does not, and an unsound book and bad names come before too little room
write_specimen : (octets_of (book_with specimen_names) ≡ specimen)
    × (written_of (book_with specimen_names) 154 ≡ Ok 154)
    × (written_of (book_with specimen_names) 153 ≡ Err ShortRoom)
    × (written_of zero_book 0 ≡ Err UnsoundBook)
    × (room_after (book_with specimen_names) (replicate 156 9) ≡ specimen ++ 9 ∷ 9 ∷ [])
    × (room_after (book_with specimen_names) (replicate 153 9) ≡ replicate 153 9)
    × (room_after zero_book (9 ∷ []) ≡ 9 ∷ [])
    -- none at all, an octet more, no count of the scopes, flags 1
    × (written_of (book_with []) 154 ≡ Err UnsoundBook)
    × (written_of (book_with (specimen_names ++ 0 ∷ [])) 0 ≡ Err UnsoundBook)
    × (written_of (book_with (unnamed 2 2)) 154 ≡ Err UnsoundBook)
    × (written_of (book_with (1 ∷ 1 ∷ name 1 en en ++ 0 ∷ 0 ∷ [])) 154 ≡ Err UnsoundBook)
    × (room_after (book_with []) (replicate 156 9) ≡ replicate 156 9)
    -- by ending; in the file's order
    × (octets_of (unlike_book (unlike_hold ∷ specimen_lease b 2000 2 ∷ specimen_lease a 4600 1 ∷ [])) ≡ unlike)
    × (refusal_number (written_of (unlike_book (unlike_hold ∷ specimen_lease b 2000 2 ∷ specimen_lease a 4600 1 ∷ [])) 200) ≡ 0)
    × (refusal_number (written_of (unlike_book (specimen_lease a 4600 1 ∷ specimen_lease b 2000 2 ∷ unlike_hold ∷ [])) 200) ≡ 22)
unfolding unlike unlike_hold unlike_book c holding held hold specimen specimen_names specimen_state specimen_lease specimen_hold table_with specimen_table server range scope lease tenants pool settings unnamed name en plain a b ab pick all_by pairs_by all_to filter_by is_in sum_to bit offsets_from set_of read_offsets rises_from order_of same_of laid_out table_of by_identifier union_all addresses_of overlaps one_to size_b id_b records_b counts_b rule1 below_b offsets_b rule2 range_b ranges_apart rule3 pool_b pools_apart rule4 ttl_b rule5 reserve_b reserves_b rule6 kind_b period_b lease_b none_b tenants_b rule7 differ rule8 disjoint apart rule9 compatible rule10 limit_b limits_b rule11 committed_b rule12 lapse_b hold_b rule13 zero_from padded_b blank_b unused_b layout_by range_zero tail_b scope_zero settings_b rule19_by rules_by first_late first_rule first_broken broken_by sound_by then closed read_octet read_number read_times is_after ordered_from file_of filled stored stored_hold insert_in arranged merged_from is_hold stored_scope stored_state stored_table storable_b lease_fit_b hold_fit_b few_of records_fit_b counts_fit fits_b refusal_number code_of accepted judged loaded loaded_got read_file zero_table octets_of written_of room_after filed_book filed_leases filed_holds filed_scope pair_up filed_lease filed_hold write_all committed book_with zero_book book_b names_b is_whole sizes_ok bare release specimen_release memory_with specimen_memory broken_memory broken_release first_release release_rules_of rules_to tenant_b few_b length_b differs not_leased once_b past_b older filled_b unused_r laid_b memory_b laid_releases stored_release stored_memory entries.apart keepable_b few_for releases_fit_b entries.filed_all filed_release filed_memory board_of scope_by entry_by owner_from count_on count_in is_on up_to specimen_board board_with entry agrees_b same_board same_scope_board same_entry same_by by_ending until filed_as in_file_order
write_specimen = (refl, refl, refl, refl, refl, refl, refl, refl, refl, refl, refl, refl, refl, refl, refl)

-- releases that are lent: none of tenant 1 and two of one time are written; a time after the clock, times that fall, an identifier on a lease, an octet past
-- an identifier, an entry in use of which nothing is set, an unused one that is not zero, and five of four are 22
lent_releases : (written_of (book_of (memory_with [])) 142 ≡ Ok 142)
    × (written_of (book_of (memory_with (specimen_release a 5 900 ∷ specimen_release c 5 900 ∷ []))) 166 ≡ Ok 166)
    × (written_of (book_of (memory_with (specimen_release a 5 1001 ∷ []))) 0 ≡ Err UnsoundBook)
    × (written_of (book_of (memory_with (specimen_release a 5 900 ∷ specimen_release c 5 899 ∷ []))) 166 ≡ Err UnsoundBook)
    × (written_of (book_of (memory_with (specimen_release b 5 900 ∷ []))) 154 ≡ Err UnsoundBook)
    × (written_of (book_of (memory_with (specimen_release (0 ∷ 65 ∷ 1 ∷ []) 5 900 ∷ []))) 154 ≡ Err UnsoundBook)
    × (written_of (book_of (counted_as 1 (replicate 4 zero_release))) 154 ≡ Err UnsoundBook)
    × (written_of (book_of (counted_as 0 (specimen_release a 5 900 ∷ replicate 3 zero_release))) 154 ≡ Err UnsoundBook)
    × (written_of (book_of (counted_as 5 (replicate 4 zero_release))) 154 ≡ Err UnsoundBook)
    × (room_after (book_of (counted_as 5 (replicate 4 zero_release))) (replicate 156 9) ≡ replicate 156 9)
unfolding c specimen specimen_names specimen_state specimen_lease specimen_hold table_with specimen_table server range scope lease tenants pool settings unnamed name en plain a b ab pick all_by pairs_by all_to filter_by is_in sum_to bit offsets_from set_of read_offsets rises_from order_of same_of laid_out table_of by_identifier union_all addresses_of overlaps one_to size_b id_b records_b counts_b rule1 below_b offsets_b rule2 range_b ranges_apart rule3 pool_b pools_apart rule4 ttl_b rule5 reserve_b reserves_b rule6 kind_b period_b lease_b none_b tenants_b rule7 differ rule8 disjoint apart rule9 compatible rule10 limit_b limits_b rule11 committed_b rule12 lapse_b hold_b rule13 zero_from padded_b blank_b unused_b layout_by range_zero tail_b scope_zero settings_b rule19_by rules_by first_late first_rule first_broken broken_by sound_by then closed read_octet read_number read_times is_after ordered_from file_of filled stored stored_hold insert_in arranged merged_from is_hold stored_scope stored_state stored_table storable_b lease_fit_b hold_fit_b few_of records_fit_b counts_fit fits_b refusal_number code_of accepted judged loaded loaded_got read_file zero_table octets_of written_of room_after filed_book filed_leases filed_holds filed_scope pair_up filed_lease filed_hold write_all committed book_of counted_as zero_book book_b names_b is_whole sizes_ok bare release specimen_release memory_with specimen_memory broken_memory broken_release first_release release_rules_of rules_to tenant_b few_b length_b differs not_leased once_b past_b older filled_b unused_r laid_b memory_b laid_releases stored_release stored_memory entries.apart keepable_b few_for releases_fit_b entries.filed_all filed_release filed_memory board_of scope_by entry_by owner_from count_on count_in is_on up_to specimen_board board_with entry agrees_b same_board same_scope_board same_entry same_by by_ending until filed_as in_file_order
lent_releases = (refl, refl, refl, refl, refl, refl, refl, refl, refl, refl)

-- holds that are lent: none, one alone and one behind the lease are written; a lapse at the clock, one after thirty-one seconds, one of a lease, and a lease in
-- front of a hold that lapses before its end are 22
lent_holds : (written_of (book_on (specimen_lease b 2000 12 ∷ [])) 129 ≡ Ok 129)
    × (octets_of (book_on (specimen_hold 1001 ∷ [])) ≡ settings ++ 1 ∷ plain 2 a (0 ∷ 1 ∷ []) ++ specimen_names ++ 2 ∷ release 1 a 5 900 ++ release 2 b 6 800 ++ 1 ∷ lease 1 1 ab 1 2000 3000 (2 ∷ []) ++ octets32 1001)
    × (written_of (book_on (specimen_hold 1000 ∷ specimen_lease b 2000 12 ∷ [])) 154 ≡ Err UnsoundBook)
    × (written_of (book_on (specimen_hold 1031 ∷ specimen_lease b 2000 12 ∷ [])) 154 ≡ Err UnsoundBook)
    × (written_of (book_on (specimen_hold 1030 ∷ lapsing_at 1030 (specimen_lease b 2000 12) ∷ [])) 154 ≡ Err UnsoundBook)
    × (written_of (book_on (specimen_lease b 2000 12 ∷ specimen_hold 1030 ∷ [])) 154 ≡ Err UnsoundBook)
unfolding specimen specimen_names specimen_state specimen_lease specimen_hold table_with specimen_table server range scope lease tenants pool settings unnamed name en plain a b ab pick all_by pairs_by all_to filter_by is_in sum_to bit offsets_from set_of read_offsets rises_from order_of same_of laid_out table_of by_identifier union_all addresses_of overlaps one_to size_b id_b records_b counts_b rule1 below_b offsets_b rule2 range_b ranges_apart rule3 pool_b pools_apart rule4 ttl_b rule5 reserve_b reserves_b rule6 kind_b period_b lease_b none_b tenants_b rule7 differ rule8 disjoint apart rule9 compatible rule10 limit_b limits_b rule11 committed_b rule12 lapse_b hold_b rule13 zero_from padded_b blank_b unused_b layout_by range_zero tail_b scope_zero settings_b rule19_by rules_by first_late first_rule first_broken broken_by sound_by then closed read_octet read_number read_times is_after ordered_from file_of filled stored stored_hold insert_in arranged merged_from is_hold stored_scope stored_state stored_table storable_b lease_fit_b hold_fit_b few_of records_fit_b counts_fit fits_b refusal_number code_of accepted judged loaded loaded_got read_file zero_table octets_of written_of room_after filed_book filed_leases filed_holds filed_scope pair_up filed_lease filed_hold write_all committed book_on book_b names_b is_whole sizes_ok bare release specimen_release memory_with specimen_memory broken_memory broken_release first_release release_rules_of rules_to tenant_b few_b length_b differs not_leased once_b past_b older filled_b unused_r laid_b memory_b laid_releases stored_release stored_memory entries.apart keepable_b few_for releases_fit_b entries.filed_all filed_release filed_memory board_of scope_by entry_by owner_from count_on count_in is_on up_to specimen_board board_with entry agrees_b same_board same_scope_board same_entry same_by by_ending until filed_as in_file_order
lent_holds = (refl, refl, refl, refl, refl, refl)

-- boards that are lent: one without a lease, another owner, count and holding, and the same a scope further are 22, before too little room
lent_boards : (written_of (book_by specimen_board) 154 ≡ Ok 154)
    × (written_of (book_by no_board) 0 ≡ Err UnsoundBook)
    × (written_of (book_by (board_with (entry 1 1 ∷ entry 2 1 ∷ entry 1 2 ∷ entry 1 1 ∷ []) (2 ∷ 2 ∷ []))) 154 ≡ Err UnsoundBook)
    × (written_of (book_by (board_with (entry 2 1 ∷ entry 2 1 ∷ entry 1 1 ∷ entry 1 1 ∷ []) (2 ∷ 2 ∷ []))) 154 ≡ Err UnsoundBook)
    × (written_of (book_by (board_with (entry 2 1 ∷ entry 2 1 ∷ entry 1 2 ∷ entry 1 1 ∷ []) (3 ∷ 2 ∷ []))) 154 ≡ Err UnsoundBook)
    × (written_of (book_by (record { scopes = take 4 (empty_scope_board ∷ specimen_board.scopes) })) 154 ≡ Err UnsoundBook)
    × (room_after (book_by no_board) (replicate 156 9) ≡ replicate 156 9)
unfolding specimen specimen_names specimen_state specimen_lease specimen_hold table_with specimen_table server range scope lease tenants pool settings unnamed name en plain a b ab pick all_by pairs_by all_to filter_by is_in sum_to bit offsets_from set_of read_offsets rises_from order_of same_of laid_out table_of by_identifier union_all addresses_of overlaps one_to size_b id_b records_b counts_b rule1 below_b offsets_b rule2 range_b ranges_apart rule3 pool_b pools_apart rule4 ttl_b rule5 reserve_b reserves_b rule6 kind_b period_b lease_b none_b tenants_b rule7 differ rule8 disjoint apart rule9 compatible rule10 limit_b limits_b rule11 committed_b rule12 lapse_b hold_b rule13 zero_from padded_b blank_b unused_b layout_by range_zero tail_b scope_zero settings_b rule19_by rules_by first_late first_rule first_broken broken_by sound_by then closed read_octet read_number read_times is_after ordered_from file_of filled stored stored_hold insert_in arranged merged_from is_hold stored_scope stored_state stored_table storable_b lease_fit_b hold_fit_b few_of records_fit_b counts_fit fits_b refusal_number code_of accepted judged loaded loaded_got read_file zero_table octets_of written_of room_after filed_book filed_leases filed_holds filed_scope pair_up filed_lease filed_hold write_all committed book_by book_of book_b names_b is_whole sizes_ok bare release specimen_release memory_with specimen_memory broken_memory broken_release first_release release_rules_of rules_to tenant_b few_b length_b differs not_leased once_b past_b older filled_b unused_r laid_b memory_b laid_releases stored_release stored_memory entries.apart keepable_b few_for releases_fit_b entries.filed_all filed_release filed_memory board_of scope_by entry_by owner_from count_on count_in is_on up_to specimen_board board_with entry agrees_b same_board same_scope_board same_entry same_by by_ending until filed_as in_file_order
lent_boards = (refl, refl, refl, refl, refl, refl, refl)
