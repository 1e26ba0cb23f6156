-- Definitions: where the file's values stand in its octets, for the code that goes over them.
use Rattle.std.specs.Prelude.{false, true, Option, Some, None, List, [], ◌≡◌, ◌*◌, ◌+◌, ◌-◌, ◌≤◌, ℕ, drop, get_or, length, take}
use Rattle.format.specs.Format.{bad, got}
use Rattle.format.specs.Place.{counted_end, row}
use Rattle.lease_file.specs.Place.{EntriesIn, SectionEndsAt, entries_in}
use Rattle.octets.specs.Octets.{at32}
use Rattle.release_file.specs.Place.{ReleasesIn, releases_in}
use Rattle.state.specs.declared.ClientRange.{ClientRange}
use Rattle.state.specs.declared.State.{State}
use Rattle.state_file.specs.File.{File, FilePart, FileScope, file_limit, file_of}
use Rattle.state_file.specs.Records.{stored_state}
use Rattle.state_file.specs.declared.Places.{Places}

-- ---- settings
unfoldable pub range_at : List ℕ → ℕ → ClientRange
range_at s at = record { low = at32 s at; high = at32 s (at + 4) }

unfoldable pub part_at : List ℕ → ℕ → FilePart
part_at s at = record { reserve = get_or s at 0; limit = get_or s (at + 1) 0 }

-- of h tenants
unfoldable pub file_scope_at : ℕ → List ℕ → ℕ → FileScope
file_scope_at h s at = record { lowest = at32 s at; size = get_or s (at + 4) 0; ttl = get_or s (at + 5) 0; parts = row part_at 2 h s (at + 6) }

-- ---- the whole file
abbrev pub tenant_count_in : List ℕ → ℕ
tenant_count_in s = get_or s 9 0

-- the scopes, by where their section starts
abbrev pub scopes_in : List ℕ → ℕ → List FileScope
scopes_in s at = row (file_scope_at (tenant_count_in s)) (6 + tenant_count_in s * 2) (get_or s at 0) s (at + 1)

unfoldable pub file_at : List ℕ → Places → File
file_at s p = record {
  server = at32 s 1;
  clock = at32 s 5;
  tenants = row range_at 8 (tenant_count_in s) s 10;
  scopes = scopes_in s p.scopes;
  leases = entries_in false s p.leases;
  names = take (p.releases - p.names) (drop p.names s);
  releases = releases_in s p.releases;
  holds = entries_in true s p.holds;
}

-- the settings do not go by where the later sections are
abbrev pub state_at : List ℕ → ℕ → State
state_at s scopes = stored_state (file_at s (record { scopes = scopes; leases = 0; names = 0; releases = 0; holds = 0 }))

-- the sections before the leases lie within the octets, and the records can hold them
pub record SettingsIn (s : List ℕ) (at : ℕ) : Type 0 where
  pub tenants : at ≡ 10 + tenant_count_in s * 8
  pub few : tenant_count_in s ≤ 8
  pub four : get_or s at 0 ≤ 4
  pub room : at + 1 + get_or s at 0 * (6 + tenant_count_in s * 2) ≤ length s

-- few enough octets, and the sections before the names have the form: by where those of scopes and leases start, and the names do
pub record FirstIn (s : List ℕ) (scopes leases names : ℕ) : Type 0 where
  pub few : length s ≤ file_limit
  pub long : 9 ≤ length s
  pub one : get_or s 0 0 ≡ 1
  pub tenants : counted_end s 9 8 ≡ Some scopes
  pub pools : counted_end s scopes (6 + tenant_count_in s * 2) ≡ Some leases
  pub records : SectionEndsAt false s leases (Some names)

-- the octets have the form of a file: it is the one of their places, which lie within them
pub record Formed (s : List ℕ) (p : Places) : Type 0 where
  pub file : file_of s ≡ got (file_at s p) []
  pub tenants : p.scopes ≡ 10 + tenant_count_in s * 8
  pub sizes : p.leases ≡ p.scopes + 1 + get_or s p.scopes 0 * (6 + tenant_count_in s * 2)
  pub records : EntriesIn false s p.leases
  pub names : p.names ≤ p.releases
  pub memory : ReleasesIn s p.releases
  pub last : EntriesIn true s p.holds

unfoldable pub FormedBy : List ℕ → Option Places → Type 0
FormedBy s (Some p) = Formed s p
FormedBy s None = file_of s ≡ bad
