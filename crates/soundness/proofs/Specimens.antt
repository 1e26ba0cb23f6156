-- Specimens: sound books by document 01's specimens, and a book for each rule that breaks it first; computed.
use mathlib.Core.Path.{◌≡◌, refl}
use mathlib.Core.Bool.{Bool, false, true}
use mathlib.Core.List.{List, [], ◌∷◌}
use Prim.Native.Nat.{ℕ}
use lib.Dec.{eqb}
use lib.ListN.{replicate}
use Rattle.lists.specs.Pick.{pick}
use Rattle.lists.specs.All.{all_by, pairs_by, all_to}
use Rattle.lists.specs.Filter.{filter_by}
use Rattle.lists.specs.Sums.{sum_to}
use Rattle.identifier.specs.Order.{order_of, same_of}
use Rattle.address_set.specs.AddressSet.{bit, offsets_from}
use Rattle.state.specs.declared.Lease.{Lease}
use Rattle.state.specs.declared.State.{State}
use Rattle.state.specs.declared.ClientRange.{ClientRange}
use Rattle.state.specs.declared.Scope.{Scope}
use Rattle.state.specs.Book.{is_hold, lapsing_at, lease_with, by_identifier, differ, laid_out, table_of, union_all, addresses_of, overlaps, zero_scope, committed, by_ending, until}
use Rattle.soundness.specs.declared.Rules.{Rules}
use Rattle.soundness.specs.Sound.{one_to, size_b, id_b, records_b, counts_b, rule1, below_b, offsets_b, rule2, range_b, ranges_apart, rule3, pool_b, pools_apart, rule4, ttl_b, rule5, reserve_b, reserves_b, rule6, kind_b, period_b, lease_b, none_b, tenants_b, rule7, rule8, disjoint, apart, rule9, compatible, rule10, limit_b, limits_b, rule11, committed_b, rule12, lapse_b, hold_b, rule13, zero_from, padded_b, blank_b, unused_b, range_zero, tail_b, scope_zero, settings_b, first_late, first_rule, first_broken, broken_of, broken_by, layout_by, rule19_by, rules_by}

-- the specimens' scope 239.192.0.0 and two houses, with what a case changes: the number of houses, the second house's lowest client,
-- the scope's lowest address and TTL, and the first house's share
settings : ℕ → ℕ → ℕ → ℕ → ℕ → State
settings tenants client lowest ttl share = record {
  server = 167837953;
  clock = 1000;
  tenant_count = tenants;
  tenants = record { low = 1; high = 9 } ∷ record { low = client; high = 19 } ∷ replicate 6 (record { low = 0; high = 0 });
  scope_count = 1;
  scopes = record { lowest = lowest; size = 4; ttl = ttl; reserve = share ∷ 1 ∷ replicate 6 0; limit = 3 ∷ 4 ∷ replicate 6 0 } ∷ replicate 3 zero_scope;
}

plain : State
plain = settings 2 10 4022337536 1 2

-- a lease of the scope: the last octet of its identifier, its period and its addresses
lease : ℕ → ℕ → ℕ → ℕ → Lease
lease i start end addresses = lease_with 1 2 (0 ∷ i ∷ replicate 30 0) 3 7 start end addresses

elsewhere : Lease
elsewhere = lease_with 2 2 (replicate 32 0) 3 7 1000 2000 1

short : Lease
short = lease_with 1 1 (replicate 32 0) 3 7 1000 2000 1

abbrev range : ℕ → ℕ → ClientRange
range low high = record { low = low; high = high }

abbrev no_range : ClientRange
no_range = range 0 0

-- any two houses' client ranges, scopes and their numbers, and what stands past the last house and the last scope
abbrev settings_of : ℕ → ClientRange → ClientRange → ClientRange → ℕ → Scope → Scope → State
settings_of tenants one two past scopes first second = record {
  server = 167837953;
  clock = 1000;
  tenant_count = tenants;
  tenants = one ∷ two ∷ past ∷ replicate 5 no_range;
  scope_count = scopes;
  scopes = first ∷ second ∷ replicate 2 zero_scope;
}

-- shares and limits of two houses, and of a third
abbrev scope_of : ℕ → ℕ → ℕ → ℕ → ℕ → ℕ → ℕ → Scope
scope_of lowest size share1 limit1 share2 limit2 share3 = record { lowest = lowest; size = size; ttl = 1; reserve = share1 ∷ share2 ∷ share3 ∷ replicate 5 0; limit = limit1 ∷ limit2 ∷ replicate 6 0 }

abbrev pool : Scope
pool = scope_of 4022337536 4 2 3 1 4 0

-- the specimens' settings with another scope, with other client ranges
abbrev scoped : Scope → State
scoped c = settings_of 2 (range 1 9) (range 10 19) no_range 1 c zero_scope

abbrev ranged : ClientRange → ClientRange → ClientRange → State
ranged one two past = settings_of 2 one two past 1 pool zero_scope

-- two scopes in use, or one and another scope behind it
abbrev paired : ℕ → Scope → State
paired scopes second = settings_of 2 (range 1 9) (range 10 19) no_range scopes pool second

-- a lease by its scope, the length of its identifier 00 01 00 .., the octet past that, its type, its period and its addresses
abbrev lease_of : ℕ → ℕ → ℕ → ℕ → ℕ → ℕ → ℕ → Lease
lease_of scope len past kind start end addresses = lease_with scope len (0 ∷ 1 ∷ past ∷ replicate 29 0) kind 7 start end addresses

-- a hold, of type 1, by its lapse, its end and its addresses
abbrev hold : ℕ → ℕ → ℕ → ℕ → Lease
hold i lapse end addresses = lapsing_at lapse (lease_with 1 2 (0 ∷ i ∷ replicate 30 0) 1 7 1000 end addresses)

record Case : Type 0 where
  state : State
  first : List Lease
  second : List Lease
  third : List Lease
  broken : ℕ

case : State → List Lease → List Lease → List Lease → ℕ → Case
case s a b c n = record { state = s; first = a; second = b; third = c; broken = n }

holds : Case → Bool
holds c = eqb (broken_of c.state (table_of (c.first ∷ c.second ∷ c.third ∷ replicate 5 []))) c.broken

cases : List Case
cases =
    case plain [] [] [] 0
    ∷ case plain [] (lease 1 1000 4600 3 ∷ []) [] 0
    ∷ case plain (lease 1 1000 2000 12 ∷ lease 2 2000 5600 12 ∷ []) (lease 1 1000 4600 3 ∷ []) [] 0
    ∷ case (settings 0 10 4022337536 1 2) [] [] [] 1
    ∷ case plain (short ∷ []) [] [] 1
    ∷ case plain (lease 1 1000 2000 16 ∷ []) [] [] 2
    ∷ case (settings 2 9 4022337536 1 2) [] [] [] 3
    ∷ case (settings 2 10 4026531837 1 2) [] [] [] 4
    ∷ case (settings 2 10 4022337536 0 2) [] [] [] 5
    ∷ case (settings 2 10 4022337536 1 4) [] [] [] 6
    ∷ case plain (lease 1 500 1000 1 ∷ []) [] [] 7
    ∷ case plain (elsewhere ∷ []) [] [] 7
    ∷ case plain [] [] (lease 1 1000 2000 1 ∷ []) 7
    ∷ case plain (lease 1 1000 2000 1 ∷ lease 1 1000 2000 2 ∷ []) [] [] 8
    ∷ case plain (lease 1 1000 2000 1 ∷ []) (lease 1 2000 3000 1 ∷ []) [] 9
    ∷ case plain (lease 1 1000 2000 1 ∷ lease 2 1999 3000 1 ∷ []) [] [] 10
    ∷ case plain (lease 1 1000 2000 15 ∷ []) [] [] 11
    ∷ case plain [] (lease 1 1000 2000 7 ∷ []) [] 12
    ∷ case plain (lease 2 1000 2000 1 ∷ lease 1 1000 2000 2 ∷ []) [] [] 19
    -- sound: one address in each of two scopes, whose pools touch; client ranges that touch, and of one address; an identifier of 32 octets, and type 4
    ∷ case (paired 2 (scope_of 4022337540 4 0 1 0 1 0)) (lease_of 2 2 0 3 1000 2000 1 ∷ []) (lease_of 1 2 0 3 1000 2000 1 ∷ []) [] 0
    ∷ case (ranged (range 9 9) (range 10 19) no_range) [] [] [] 0
    ∷ case plain (lease_of 1 32 5 4 1000 1001 1 ∷ []) [] [] 0
    -- 1: nine houses, no scope, five scopes, sizes 0 and 65, an identifier of 33 octets, seventeen leases
    ∷ case (settings_of 9 (range 1 9) (range 10 19) no_range 1 pool zero_scope) [] [] [] 1
    ∷ case (paired 0 zero_scope) [] [] [] 1
    ∷ case (paired 5 zero_scope) [] [] [] 1
    ∷ case (scoped (scope_of 4022337536 0 0 0 0 0 0)) [] [] [] 1
    ∷ case (scoped (scope_of 4022337536 65 0 0 0 0 0)) [] [] [] 1
    ∷ case plain (lease_of 1 33 0 3 1000 2000 1 ∷ []) [] [] 1
    ∷ case plain (replicate 17 (lease 1 1000 2000 1)) [] [] 1
    -- 3: an empty client range; 4: a pool before 224.0.0.0, two that meet; 6: a limit above the size, shares together above it
    ∷ case (ranged (range 9 8) (range 10 19) no_range) [] [] [] 3
    ∷ case (scoped (scope_of 3758096383 4 2 3 1 4 0)) [] [] [] 4
    ∷ case (paired 2 (scope_of 4022337539 4 0 1 0 1 0)) [] [] [] 4
    ∷ case (scoped (scope_of 4022337536 4 2 5 1 4 0)) [] [] [] 6
    ∷ case (scoped (scope_of 4022337536 4 3 3 2 4 0)) [] [] [] 6
    -- 7: scope 0, types 2 and 5, an empty period, no address
    ∷ case plain (lease_of 0 2 0 3 1000 2000 1 ∷ []) [] [] 7
    ∷ case plain (lease_of 1 2 0 2 1000 2000 1 ∷ []) [] [] 7
    ∷ case plain (lease_of 1 2 0 5 1000 2000 1 ∷ []) [] [] 7
    ∷ case plain (lease_of 1 2 0 3 2000 2000 1 ∷ []) [] [] 7
    ∷ case plain (lease_of 1 2 0 3 1000 2000 0 ∷ []) [] [] 7
    -- document 02, W-205. Sound: a hold that lapses one second after the clock, and thirty; at its end; a lease and a hold, a hold that starts in a week
    ∷ case plain (hold 1 1001 4600 1 ∷ hold 2 1030 4600 2 ∷ []) [] [] 0
    ∷ case plain (hold 1 1010 1010 1 ∷ []) [] [] 0
    ∷ case plain (hold 2 1030 4600 2 ∷ lease 1 1000 2000 1 ∷ []) [] [] 0
    ∷ case plain (lapsing_at 1030 (lease_with 1 2 (0 ∷ 1 ∷ replicate 30 0) 1 7 605800 609400 1) ∷ []) [] [] 0
    -- its addresses count as a lease's do: offsets, identifiers, owners, periods, limits and the sum
    ∷ case plain (hold 1 1030 4600 16 ∷ []) [] [] 2
    ∷ case plain (hold 1 1030 4600 0 ∷ []) [] [] 7
    ∷ case plain (lease 1 1000 2000 1 ∷ hold 1 1030 4600 2 ∷ []) [] [] 8
    ∷ case plain (lease 1 1000 2000 1 ∷ []) (hold 1 1030 4600 1 ∷ []) [] 9
    ∷ case plain (lease 1 1000 2000 1 ∷ hold 2 1030 4600 1 ∷ []) [] [] 10
    ∷ case plain (lease 1 1000 2000 3 ∷ hold 2 1030 4600 12 ∷ []) [] [] 11
    ∷ case plain [] (lease 1 1000 2000 3 ∷ hold 2 1030 4600 4 ∷ []) [] 12
    ∷ case plain (replicate 17 (hold 1 1030 4600 1)) [] [] 1
    -- 13: a lapse at the clock, at clock + 31, after the end, none; 19: a lease with one
    ∷ case plain (hold 1 1000 4600 1 ∷ []) [] [] 13
    ∷ case plain (hold 1 1031 4600 1 ∷ []) [] [] 13
    ∷ case plain (hold 1 1011 1010 1 ∷ []) [] [] 13
    ∷ case plain (hold 1 0 4600 1 ∷ []) [] [] 13
    ∷ case plain (lapsing_at 1030 (lease 1 1000 2000 1) ∷ []) [] [] 19
    -- document 02, W-209. Sound: by end whatever the identifier, a hold by its lapse, ties by identifier, a prefix first; 19: each the other way
    ∷ case plain (lease 2 1000 2000 1 ∷ lease 1 1000 2001 2 ∷ []) [] [] 0
    ∷ case plain (hold 1 1029 4600 1 ∷ lease 2 1000 1030 2 ∷ hold 3 1030 1100 4 ∷ []) [] [] 0
    ∷ case plain (lease_of 1 2 0 3 1000 2000 1 ∷ lease_of 1 3 0 3 1000 2000 2 ∷ lease 2 1000 2000 4 ∷ []) [] [] 0
    ∷ case plain (lease 1 1000 2001 2 ∷ lease 2 1000 2000 1 ∷ []) [] [] 19
    ∷ case plain (lease 1 1000 2000 1 ∷ hold 2 1030 4600 2 ∷ []) [] [] 19
    ∷ case plain (hold 3 1030 1100 4 ∷ lease 2 1000 1030 2 ∷ []) [] [] 19
    ∷ case plain (lease_of 1 3 0 3 1000 2000 2 ∷ lease_of 1 2 0 3 1000 2000 1 ∷ []) [] [] 19
    -- 19: an octet past the identifier's length, a client range past the last house, a scope past the last, a share past the last house
    ∷ case plain (lease_of 1 2 9 3 1000 2000 1 ∷ []) [] [] 19
    ∷ case (ranged (range 1 9) (range 10 19) (range 20 29)) [] [] [] 19
    ∷ case (paired 1 (scope_of 4022337540 4 0 1 0 1 0)) [] [] [] 19
    ∷ case (scoped (scope_of 4022337536 4 2 3 1 4 1)) [] [] [] 19
    ∷ []

all_hold : all_by holds cases ≡ true
unfolding settings plain lease elsewhere short case holds cases pick all_by pairs_by all_to filter_by sum_to order_of same_of bit offsets_from laid_out table_of by_identifier union_all addresses_of overlaps one_to size_b id_b records_b counts_b rule1 below_b offsets_b rule2 range_b ranges_apart rule3 pool_b pools_apart rule4 ttl_b rule5 reserve_b reserves_b rule6 kind_b period_b lease_b none_b tenants_b rule7 differ rule8 disjoint apart rule9 compatible rule10 limit_b limits_b rule11 committed committed_b rule12 is_hold lapse_b hold_b rule13 zero_from padded_b blank_b unused_b layout_by range_zero tail_b scope_zero settings_b rule19_by rules_by first_late first_rule first_broken broken_by by_ending until
all_hold = refl

-- ---- the layout comes last of all rules, and no file can break it
-- all rules kept but perhaps the twelfth and the layout
abbrev only : Bool → Bool → Rules
only commitments layout = record {
  limits = true;
  offsets = true;
  ranges = true;
  pools = true;
  ttls = true;
  reserves = true;
  leases = true;
  identifiers = true;
  owners = true;
  periods = true;
  holdings = true;
  commitments = commitments;
  holds = true;
  layout = layout;
}

layout_last : (first_rule (only true false) ∷ first_broken (only true false) ∷ first_rule (only false false) ∷ first_broken (only false false) ∷ []) ≡ 0 ∷ 19 ∷ 12 ∷ 12 ∷ []
unfolding pick first_late first_rule first_broken
layout_last = refl
