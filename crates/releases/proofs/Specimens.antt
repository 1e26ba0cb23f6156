-- Specimens: a RELEASE sent again on both sides of 300 seconds, what is remembered and forgotten, and a memory for each rule that breaks it first; computed.
use mathlib.Core.Path.{◌≡◌, refl}
use mathlib.Core.Bool.{Bool, false, true, not}
use mathlib.Core.List.{List, [], ◌∷◌}
use Prim.Native.Nat.{ℕ}
use lib.Dec.{eqb}
use lib.ListN.{replicate}
use Rattle.lists.specs.Pick.{pick}
use Rattle.lists.specs.All.{all_by, pairs_by, all_to}
use Rattle.lists.specs.Filter.{filter_by}
use Rattle.lists.specs.Place.{place_by}
use Rattle.identifier.specs.Order.{order_of, same_of}
use Rattle.occupancy.specs.Board.{no_board}
use Rattle.state.specs.declared.Lease.{Lease}
use Rattle.state.specs.declared.Edit.{Edit}
use Rattle.state.specs.declared.Release.{Release}
use Rattle.state.specs.declared.TenantReleases.{TenantReleases}
use Rattle.state.specs.declared.State.{State}
use Rattle.state.specs.Book.{laid_out, laid_releases, lease_with, remembered, table_of, zero_release}
use Rattle.state.specs.Edit.{entering, forget_of, giving_way, leaving, no_edit, noted_in, remember_of}
use Rattle.soundness.specs.Sound.{zero_from}
use Rattle.releases.specs.declared.ReleaseRules.{ReleaseRules}
use Rattle.releases.specs.Again.{any_again, is_again}
use Rattle.releases.specs.Rules.{broken_memory, differs, few_b, filled_b, broken_release, first_release, tenant_b, laid_b, length_b, not_leased, older, once_b, past_b, release_rules_of, rules_to, unused_r}

-- a release by the length of its identifier 00 i p 00 .., its transaction id and time
abbrev release_with : ℕ → ℕ → ℕ → ℕ → ℕ → Release
release_with len i p xid time = record { id_len = len; id = 0 ∷ i ∷ p ∷ replicate 29 0; xid = xid; time = time }

-- of two octets
abbrev release : ℕ → ℕ → ℕ → Release
release i xid time = release_with 2 i 0 xid time

abbrev same : Bool → Bool → Bool
same a b = pick a b (not b)

-- ---- sent again: clock, identifier and transaction id of the RELEASE, what is remembered, and whether that is the one
record Again : Type 0 where
  clock : ℕ
  id : List ℕ
  xid : ℕ
  entry : Release
  answer : Bool

again : ℕ → List ℕ → ℕ → Release → Bool → Again
again clock id xid entry answer = record { clock = clock; id = id; xid = xid; entry = entry; answer = answer }

is : Again → Bool
is a = same (is_again a.clock a.id a.xid a.entry) a.answer

agains : List Again
agains =
    again 1000 (0 ∷ 1 ∷ []) 7 (release 1 7 1000) true
    ∷ again 1299 (0 ∷ 1 ∷ []) 7 (release 1 7 1000) true
    ∷ again 1300 (0 ∷ 1 ∷ []) 7 (release 1 7 1000) false
    ∷ again 1301 (0 ∷ 1 ∷ []) 7 (release 1 7 1000) false
    -- another transaction id, another identifier, a longer and a shorter one
    ∷ again 1000 (0 ∷ 1 ∷ []) 8 (release 1 7 1000) false
    ∷ again 1000 (0 ∷ 2 ∷ []) 7 (release 1 7 1000) false
    ∷ again 1000 (0 ∷ 1 ∷ 0 ∷ []) 7 (release 1 7 1000) false
    ∷ again 1000 (0 ∷ 1 ∷ []) 7 (release_with 3 1 0 7 1000) false
    -- near the end of the 32 bits: a sum above them does not wrap
    ∷ again 4294967295 (0 ∷ 1 ∷ []) 7 (release 1 7 4294967295) true
    ∷ again 4294967295 (0 ∷ 1 ∷ []) 7 (release 1 7 4294966996) true
    ∷ again 4294967295 (0 ∷ 1 ∷ []) 7 (release 1 7 4294966995) false
    ∷ []

all_again : all_by is agains ≡ true
unfolding again is agains is_again all_by pick same_of order_of
all_again = refl

-- one of those that are remembered, whichever
any_again_law : (any_again 1299 (0 ∷ 1 ∷ []) 7 [] ∷ any_again 1299 (0 ∷ 1 ∷ []) 7 (release 2 7 1000 ∷ release 3 7 1000 ∷ release 4 7 1000 ∷ release 1 7 1000 ∷ [])
    ∷ any_again 1299 (0 ∷ 1 ∷ []) 7 (release 2 7 1000 ∷ release 1 8 1000 ∷ []) ∷ any_again 1300 (0 ∷ 1 ∷ []) 7 (release 1 7 1000 ∷ release 2 7 1001 ∷ []) ∷ [])
    ≡ false ∷ true ∷ false ∷ false ∷ []
unfolding any_again is_again place_by pick same_of order_of
any_again_law = refl

-- ---- remembering and forgetting, by the last octets of the identifiers
abbrev four : List Release
four = release 1 7 1000 ∷ release 2 7 1001 ∷ release 3 7 1001 ∷ release 4 7 1002 ∷ []

lease : Lease
lease = lease_with 1 2 (0 ∷ 5 ∷ replicate 30 0) 3 9 1000 2000 1

-- what is remembered of a tenant after an edit
after : Edit → List Release → List Release
after e q = remembered (noted_in e (laid_releases q))

-- a fourth goes behind the third, a fifth forgets the oldest
fifth : (remember_of (release 5 9 1003) [] ∷ remember_of (release 5 9 1003) (release 1 7 1000 ∷ release 2 7 1001 ∷ release 3 7 1001 ∷ []) ∷ remember_of (release 5 9 1003) four ∷ [])
    ≡ (release 5 9 1003 ∷ []) ∷ (release 1 7 1000 ∷ release 2 7 1001 ∷ release 3 7 1001 ∷ release 5 9 1003 ∷ [])
    ∷ (release 2 7 1001 ∷ release 3 7 1001 ∷ release 4 7 1002 ∷ release 5 9 1003 ∷ []) ∷ []
unfolding remember_of
fifth = refl

-- a released lease is remembered with the transaction id and the clock of its release; a new one forgets its identifier; a renewed one and no edit forget nothing
edits : (after (leaving lease 4 1003) four ∷ after (entering lease) four ∷ after (entering lease) (release 1 7 1000 ∷ release 5 8 1001 ∷ release 2 7 1002 ∷ [])
    ∷ after (giving_way lease lease) (release 5 8 1001 ∷ []) ∷ after no_edit (release 5 8 1001 ∷ []) ∷ [])
    ≡ (release 2 7 1001 ∷ release 3 7 1001 ∷ release 4 7 1002 ∷ release 5 4 1003 ∷ []) ∷ four ∷ (release 1 7 1000 ∷ release 2 7 1002 ∷ [])
    ∷ (release 5 8 1001 ∷ []) ∷ (release 5 8 1001 ∷ []) ∷ []
unfolding after lease noted_in laid_releases remember_of forget_of filter_by pick same_of order_of
edits = refl

-- ---- the rules: two houses at clock 1000; the first house's leases, what is remembered of the first, the second and a third, and the first rule that is broken
settings : State
settings = record { server = 167837953; clock = 1000; tenant_count = 2; tenants = []; scope_count = 0; scopes = [] }

record Case : Type 0 where
  leases : List Lease
  first : TenantReleases
  second : TenantReleases
  third : TenantReleases
  broken : ℕ

case : List Lease → TenantReleases → TenantReleases → TenantReleases → ℕ → Case
case l a b c n = record { leases = l; first = a; second = b; third = c; broken = n }

abbrev none : TenantReleases
none = laid_releases []

abbrev some : List Release → TenantReleases
some = laid_releases

-- entries and a count of their own
abbrev counted : ℕ → Release → Release → TenantReleases
counted n a b = record { releases = a ∷ b ∷ zero_release ∷ zero_release ∷ []; count = n }

broken_in : Case → ℕ
broken_in c = broken_memory settings (table_of (c.leases ∷ replicate 7 [])) (record { releases = c.first ∷ c.second ∷ c.third ∷ replicate 5 none; board = no_board })

holds : Case → Bool
holds c = eqb (broken_in c) c.broken

cases : List Case
cases =
    -- sound: nothing; four, two at one time and the last at the clock; one identifier in two houses, and on the other house's lease; one of 32 octets
    case [] none none none 0
    ∷ case [] (some (release 1 7 900 ∷ release 2 7 950 ∷ release 3 7 950 ∷ release 4 7 1000 ∷ [])) none none 0
    ∷ case (lease ∷ []) (some (release 1 7 900 ∷ [])) (some (release 1 7 900 ∷ release 5 7 900 ∷ [])) none 0
    ∷ case [] (some (release_with 32 1 9 7 900 ∷ [])) none none 0
    -- 14: of a third house
    ∷ case [] none none (some (release 1 7 900 ∷ [])) 14
    -- 15: five, and a count of five
    ∷ case [] (some (release 1 7 900 ∷ release 2 7 900 ∷ release 3 7 900 ∷ release 4 7 900 ∷ release 5 7 900 ∷ [])) none none 15
    ∷ case [] none (record { releases = release 1 7 900 ∷ release 2 7 900 ∷ release 3 7 900 ∷ release 4 7 900 ∷ []; count = 5 }) none 15
    -- 16: identifiers of no octet, of 1 and of 33
    ∷ case [] (some (release_with 0 0 0 7 900 ∷ [])) none none 16
    ∷ case [] (some (release_with 1 0 0 7 900 ∷ [])) none none 16
    ∷ case [] (some (release_with 33 1 0 7 900 ∷ [])) none none 16
    -- 17: repeated, whatever the transaction ids, next to each other or not; on the house's lease
    ∷ case [] (some (release 1 7 900 ∷ release 1 8 900 ∷ [])) none none 17
    ∷ case [] none (some (release 1 7 900 ∷ release 2 7 900 ∷ release 1 7 900 ∷ [])) none 17
    ∷ case (lease ∷ []) (some (release 1 7 900 ∷ release 5 7 900 ∷ [])) none none 17
    -- 18: a time after the clock
    ∷ case [] (some (release 1 7 900 ∷ release 2 7 1001 ∷ [])) none none 18
    -- 19: times that fall, next to each other or not; an octet past an identifier; an entry past the last with a length, an octet, a transaction id, a time
    ∷ case [] (some (release 1 7 901 ∷ release 2 7 900 ∷ [])) none none 19
    ∷ case [] (some (release 1 7 900 ∷ release 2 7 901 ∷ release 3 7 900 ∷ [])) none none 19
    ∷ case [] (some (release_with 2 1 9 7 900 ∷ [])) none none 19
    ∷ case [] (counted 1 (release 1 7 900) (release_with 1 0 0 0 0)) none none 19
    ∷ case [] (counted 0 zero_release (release_with 0 0 9 0 0)) none none 19
    ∷ case [] none (counted 0 (release_with 0 0 0 1 0) zero_release) none 19
    ∷ case [] none none (counted 0 (release_with 0 0 0 0 1) zero_release) 19
    -- two of them: the first is told, of whichever house
    ∷ case [] (some (release 2 7 1001 ∷ release 1 7 900 ∷ [])) none none 18
    ∷ case [] (some (release 1 7 1001 ∷ [])) (some (release_with 1 0 0 7 900 ∷ [])) none 16
    ∷ []

all_hold : all_by holds cases ≡ true
unfolding settings case broken_in holds cases lease pick all_by pairs_by all_to same_of order_of laid_out laid_releases table_of zero_from tenant_b few_b length_b differs not_leased once_b past_b older filled_b unused_r laid_b rules_to release_rules_of first_release broken_release broken_memory
all_hold = refl

-- where only the layout is broken, no file broke a rule
abbrev only : Bool → Bool → ReleaseRules
only times layout = record { tenants = true; few = true; lengths = true; once = true; times = times; layout = layout }

layout_last : (first_release (only true false) ∷ broken_release (only true false) ∷ first_release (only false false) ∷ broken_release (only false false) ∷ []) ≡ 0 ∷ 19 ∷ 18 ∷ 18 ∷ []
unfolding pick first_release broken_release
layout_last = refl
