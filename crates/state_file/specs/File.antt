-- Definitions: the state file ("campus file" in documents 01 and 02): its values and its format, section by section. Its lists have any length: what
-- the records cannot hold is still a file, and unsound. A tenant is document 01's house.
use Rattle.std.specs.Prelude.{List, ℕ, leb, length}
use Rattle.lists.specs.Pick.{pick}
use Rattle.state.specs.declared.ClientRange.{ClientRange}
use Rattle.format.specs.Format.{Format, Got, ◌⊗◌, ◌▷◌, after, bad, closed, counted, number, octet, times, viewed}
use Rattle.format.specs.Section.{verbatim}
use Rattle.lease_file.specs.Section.{FileHold, FileLease, holds_format, leases_format}
use Rattle.names.specs.Names.{names_format}
use Rattle.release_file.specs.Section.{FileRelease, releases_format}

-- a tenant's reserve and limit in a scope (document 01's share and limit)
pub record FilePart : Type 0 where
  pub reserve : ℕ
  pub limit : ℕ

pub record FileScope : Type 0 where
  pub lowest : ℕ
  pub size : ℕ
  pub ttl : ℕ
  pub parts : List FilePart

pub record File : Type 0 where
  pub server : ℕ
  pub clock : ℕ
  pub tenants : List ClientRange
  pub scopes : List FileScope
  pub leases : List FileLease
  -- document 02, W-201: the octets of the section, as they are
  pub names : List ℕ
  -- document 02, W-202
  pub releases : List FileRelease
  -- document 02, W-205
  pub holds : List FileHold

abbrev pub tenant_format : Format ClientRange
tenant_format = viewed (λ p. record { low = p.0; high = p.1 }) (λ t. (t.low, t.high)) (number ⊗ number)

abbrev pub part_format : Format FilePart
part_format = viewed (λ p. record { reserve = p.0; limit = p.1 }) (λ t. (t.reserve, t.limit)) (octet ⊗ octet)

-- with a part for each of n tenants
abbrev pub scope_format : ℕ → Format FileScope
scope_format n =
    viewed (λ p. record { lowest = p.0; size = p.1.0; ttl = p.1.1.0; parts = p.1.1.1 }) (λ s. (s.lowest, (s.size, (s.ttl, s.parts))))
    (number ⊗ octet ⊗ octet ⊗ times n part_format)

-- the sections in the file's order, and the file of its sections
abbrev pub Sections : Type 0
Sections = (ℕ × ℕ) × (List ClientRange × (List FileScope × (List FileLease × (List ℕ × (List FileRelease × List FileHold)))))

abbrev pub of_sections : Sections → File
of_sections p = record {
  server = p.0.0;
  clock = p.0.1;
  tenants = p.1.0;
  scopes = p.1.1.0;
  leases = p.1.1.1.0;
  names = p.1.1.1.1.0;
  releases = p.1.1.1.1.1.0;
  holds = p.1.1.1.1.1.1;
}

abbrev pub to_sections : File → Sections
to_sections f = ((f.server, f.clock), (f.tenants, (f.scopes, (f.leases, (f.names, (f.releases, f.holds))))))

-- after the scopes and the tenants: leases; document 02's names, "its count that of the scopes", for as many tenants; its releases; and its holds
abbrev pub last_format : List FileScope → List ClientRange → Format (List FileLease × (List ℕ × (List FileRelease × List FileHold)))
last_format cs ts = leases_format ⊗ verbatim (names_format (length cs) (length ts)) ⊗ releases_format ⊗ holds_format

-- server (its count is always 1), tenants, scopes, leases, names, releases, holds
abbrev pub file_format : Format File
file_format =
    viewed of_sections to_sections
    (after 1 (number ⊗ number) ⊗ (counted tenant_format ▷ (λ ts. counted (scope_format (length ts)) ▷ (λ cs. last_format cs ts))))

-- document 02: "From here the file's limit is 32,768 octets"
abbrev pub file_limit : ℕ
file_limit = 32768

-- no sound book's file has more octets: 13 for the counts and the server, 8 tenants of 8, 4 scopes of 22, 128 leases and holds together, of 113 and 117, 6,229
-- of names (a count, and for each of 4 scopes 9 lists of a count and 4 names of 43), and 1,345 of releases (a count, and 32 of 42)
abbrev pub longest_file : ℕ
longest_file = 22715

-- the file that octets make; bad is refusal 20: "a bad or missing names section is 20"
unfoldable pub file_of : List ℕ → Got File
file_of s = pick (leb (length s) file_limit) (closed (file_format.read s)) bad
