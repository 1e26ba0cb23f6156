-- Definitions: what a sound book may remember: document 02, W-202, "Refusals", numbered as W-212 numbers them, and the layout (19). A house is a tenant
-- here, counted from 0.
use Rattle.std.specs.Prelude.{ℕ, Bool, true, ◌&&◌, ◌||◌, List, eqb, leb, ltb, drop}
use Rattle.lists.specs.Pick.{pick}
use Rattle.lists.specs.All.{all_by, all_to, pairs_by}
use Rattle.state.specs.declared.Lease.{Lease}
use Rattle.state.specs.declared.LeaseTable.{LeaseTable}
use Rattle.state.specs.declared.Memory.{Memory}
use Rattle.state.specs.declared.Release.{Release}
use Rattle.state.specs.declared.State.{State}
use Rattle.state.specs.declared.TenantReleases.{TenantReleases}
use Rattle.state.specs.Book.{in_use, other, other_release, release_id, releases_at, remembered, tenant_at}
use Rattle.soundness.specs.Sound.{id_length_b, tenants_in, zero_from}
use Rattle.releases.specs.declared.ReleaseRules.{ReleaseRules}

-- ---- 14. "an unknown house": none but the first n tenants has any
unfoldable pub tenant_b : ℕ → ℕ → TenantReleases → Bool
tenant_b n h q = ltb h n || eqb q.count 0

-- ---- 15. "more than four for one"
unfoldable pub few_b : TenantReleases → Bool
few_b q = leb q.count 4

-- ---- 16. "an identifier too short or long"
unfoldable pub length_b : Release → Bool
length_b r = id_length_b r.id_len

-- ---- 17. an identifier "repeated in the house or on its lease", which reads "lease or hold" (W-205)
unfoldable pub differs : Release → Release → Bool
differs a b = other_release (release_id b) a

-- on none of the records ls
unfoldable pub not_leased : List Lease → Release → Bool
not_leased ls r = all_by (other (release_id r)) ls

unfoldable pub once_b : List Lease → TenantReleases → Bool
once_b ls q = pairs_by differs (remembered q) && all_by (not_leased ls) (remembered q)

-- ---- 18. "a time after the clock"
unfoldable pub past_b : ℕ → Release → Bool
past_b clock r = leb r.time clock

-- ---- 19. "oldest first", where equal times stand in the order of release; and, as document 01 has it of records, what is unused is zero: octets past an
-- identifier's length, entries past the count
unfoldable pub older : Release → Release → Bool
older a b = leb a.time b.time

unfoldable pub filled_b : Release → Bool
filled_b r = zero_from r.id_len r.id

unfoldable pub unused_r : Release → Bool
unused_r r = eqb r.id_len 0 && (eqb r.xid 0 && (eqb r.time 0 && zero_from 0 r.id))

unfoldable pub laid_b : TenantReleases → Bool
laid_b q = pairs_by older (remembered q) && (all_by filled_b (remembered q) && all_by unused_r (drop q.count q.releases))

-- ---- all of them
-- of tenant h of n with the leases ls
unfoldable pub rules_at : ℕ → ℕ → ℕ → List Lease → TenantReleases → ReleaseRules
rules_at n clock h ls q = record {
  tenants = tenant_b n h q;
  few = few_b q;
  lengths = all_by length_b (remembered q);
  once = once_b ls q;
  times = all_by (past_b clock) (remembered q);
  layout = laid_b q;
}

-- of no tenant, and of two together
abbrev pub no_rules : ReleaseRules
no_rules = record { tenants = true; few = true; lengths = true; once = true; times = true; layout = true }

unfoldable pub both_rules : ReleaseRules → ReleaseRules → ReleaseRules
both_rules a b = record {
  tenants = a.tenants && b.tenants;
  few = a.few && b.few;
  lengths = a.lengths && b.lengths;
  once = a.once && b.once;
  times = a.times && b.times;
  layout = a.layout && b.layout;
}

abbrev pub own_leases : LeaseTable → ℕ → List Lease
own_leases t h = in_use (tenant_at t h)

-- of the first k tenants
unfoldable pub rules_to : ℕ → ℕ → LeaseTable → Memory → ℕ → ReleaseRules
rules_to n clock t m k = record {
  tenants = all_to (λ h. tenant_b n h (releases_at m h)) k;
  few = all_to (λ h. few_b (releases_at m h)) k;
  lengths = all_to (λ h. all_by length_b (remembered (releases_at m h))) k;
  once = all_to (λ h. once_b (own_leases t h) (releases_at m h)) k;
  times = all_to (λ h. all_by (past_b clock) (remembered (releases_at m h))) k;
  layout = all_to (λ h. laid_b (releases_at m h)) k;
}

unfoldable pub release_rules_of : State → LeaseTable → Memory → ReleaseRules
release_rules_of s t m = rules_to (tenants_in s) s.clock t m 8

-- "a release has W-202's five alone, 14 to 18" (W-212): the number of the first that is broken, or 0
unfoldable pub first_release : ReleaseRules → ℕ
first_release r = pick r.tenants (pick r.few (pick r.lengths (pick r.once (pick r.times 0 18) 17) 16) 15) 14

-- that, or 19 where only the layout is broken, as it can be in a book that is lent
unfoldable pub broken_release : ReleaseRules → ℕ
broken_release r = pick (eqb (first_release r) 0) (pick r.layout 0 19) (first_release r)

unfoldable pub broken_memory : State → LeaseTable → Memory → ℕ
broken_memory s t m = broken_release (release_rules_of s t m)

unfoldable pub memory_b : State → LeaseTable → Memory → Bool
memory_b s t m = eqb (broken_memory s t m) 0
