-- Definitions: the first rule that a lease, hold or release of a state file breaks together with those kept before it (document 02, W-212, "Salvage of a campus file"): "keeps
-- each one that leaves the book sound together with those already kept". A house is a tenant here; tenants and scopes count from 1, as in the file.
use Rattle.std.specs.Prelude.{Bool, false, not, true, ◌&&◌, List, ◌≡◌, ◌-◌, ℕ, eqb, leb, ltb, length}
use Rattle.lists.specs.All.{all_by}
use Rattle.lists.specs.Pick.{pick}
use Rattle.state.specs.Book.{in_use, inserted_in, put_at, put_releases, pushed_release, releases_at, scope_at, tenant_at}
use Rattle.state.specs.declared.Lease.{Lease}
use Rattle.state.specs.declared.LeaseTable.{LeaseTable}
use Rattle.state.specs.declared.Memory.{Memory}
use Rattle.state.specs.declared.State.{State}
use Rattle.soundness.specs.Sound.{first_rule, id_length_b, one_to, rules_of, tenants_in}
use Rattle.releases.specs.Rules.{first_release, release_rules_of}
use Rattle.release_file.specs.Section.{FileRelease, stored_release}
use Rattle.lease_file.specs.Records.{stored, stored_hold}
use Rattle.lease_file.specs.Section.{FileHold, FileLease, Entry}

-- ---- those kept, with one more
-- "A rule that needs an unknown house or scope is passed over": those that there are
unfoldable pub known_tenant : State → ℕ → Bool
known_tenant s t = one_to (tenants_in s) t

unfoldable pub known_scope : State → ℕ → Bool
known_scope s c = one_to s.scope_count c

-- the records with one more of tenant t
unfoldable pub with_record : LeaseTable → ℕ → Lease → LeaseTable
with_record b t l = put_at b (t - 1) (inserted_in l (tenant_at b (t - 1)))

abbrev pub with_lease : LeaseTable → FileLease → LeaseTable
with_lease b x = with_record b x.tenant (stored x)

abbrev pub with_hold : LeaseTable → FileHold → LeaseTable
with_hold b x = with_record b x.lease.tenant (stored_hold x)

-- what is remembered with one release more
unfoldable pub with_release : Memory → FileRelease → Memory
with_release m x = put_releases m (x.tenant - 1) (pushed_release (releases_at m (x.tenant - 1)) (stored_release x))

-- ---- "first broken rule(1). Rules 1 to 12 are document 01's "Sound" by semicolons (too many addresses break 2), 13 a hold's type and lapse"
-- 1: the length of the identifier, and a record that is left to the house
unfoldable pub limits_kept : State → LeaseTable → FileLease → Bool
limits_kept s b x = id_length_b (length x.id) && pick (known_tenant s x.tenant) (ltb (length (in_use (tenant_at b (x.tenant - 1)))) 16) true

-- 2: at most 64 addresses, and each below the size of the scope
unfoldable pub offsets_kept : State → FileLease → Bool
offsets_kept s x = leb (length x.offsets) 64 && pick (known_scope s x.scope) (all_by (λ a. ltb a (scope_at s (x.scope - 1)).size) x.offsets) true

-- 7, as far as no record can hold what breaks it: a known house and scope, and a type that the section may have
unfoldable pub names_known : State → FileLease → Bool → Bool
names_known s x typed = known_tenant s x.tenant && (known_scope s x.scope && typed)

-- the first rule, or 0, that records b break with x, which stands in them as l: 3 to 6 are the settings', and every other goes by the records with it
unfoldable pub record_rule : State → LeaseTable → FileLease → Bool → Lease → ℕ
record_rule s b x typed l =
    pick (limits_kept s b x)
    (pick (offsets_kept s x)
    (pick (names_known s x typed) (first_rule (rules_of s (with_record b x.tenant l))) 7)
    2)
    1

-- a lease: type 1 is a hold's, and none of a lease's (rule 7)
unfoldable pub lease_rule : State → LeaseTable → FileLease → ℕ
lease_rule s b x = record_rule s b x (not (eqb x.kind 1)) (stored x)

-- the record l, but of a hold's type
abbrev pub typed_hold : Lease → Lease
typed_hold l = record { scope = l.scope; id_len = l.id_len; id = l.id; kind = 1; xid = l.xid; start = l.start; end = l.end; addresses = l.addresses; lapse = l.lapse }

-- a hold: its type is rule 13's, the last, so that the others take it for a hold whatever its type
unfoldable pub type_after : ℕ → ℕ → ℕ
type_after kind r = pick (eqb r 0) (pick (eqb kind 1) 0 13) r

unfoldable pub hold_rule : State → LeaseTable → FileHold → ℕ
hold_rule s b x = type_after x.lease.kind (record_rule s b x.lease true (typed_hold (stored_hold x)))

-- "a release has W-202's five alone, 14 to 18", by the leases and holds that were kept: 14 an unknown house, 15 a fifth, 16 the length of the identifier; 17 and 18
-- go by what is remembered with it
unfoldable pub release_rule : State → LeaseTable → Memory → FileRelease → ℕ
release_rule s b m x =
    pick (known_tenant s x.tenant)
    (pick (ltb (releases_at m (x.tenant - 1)).count 4)
    (pick (id_length_b (length x.id)) (first_release (release_rules_of s b (with_release m x))) 16)
    15)
    14

-- ---- either section
unfoldable pub entry_rule : (holds : Bool) → State → LeaseTable → Entry holds → ℕ
entry_rule true s b x = hold_rule s b x
entry_rule false s b x = lease_rule s b x

unfoldable pub with_entry : (holds : Bool) → LeaseTable → Entry holds → LeaseTable
with_entry true b x = with_hold b x
with_entry false b x = with_lease b x

-- all below a bound
unfoldable pub lower_than : ℕ → List ℕ → Bool
lower_than bound xs = all_by (λ a. ltb a bound) xs

-- what breaks no rule fits where it is kept
pub record KeptWhole (P : Type 0) (r : ℕ) : Type 0 where
  pub fits : r ≡ 0 → P
