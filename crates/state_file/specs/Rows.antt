-- Definitions: the octets of the book's records, as the writer goes over them: row by row, each element's going by its place.
use Rattle.std.specs.Prelude.{false, List, ◌++◌, ◌∷◌, ℕ, length, take}
use Rattle.format.specs.Rows.{write_from}
use Rattle.lease_file.specs.Records.{table_octets}
use Rattle.octets.specs.Octets.{octets32}
use Rattle.state.specs.Book.{ranges_of, scopes_of}
use Rattle.state.specs.declared.ClientRange.{ClientRange}
use Rattle.state.specs.declared.LeaseTable.{LeaseTable}
use Rattle.state.specs.declared.Scope.{Scope}
use Rattle.state.specs.declared.State.{State}
use Rattle.state_file.specs.File.{FilePart, part_format, scope_format, tenant_format}
use Rattle.state_file.specs.Records.{filed_scope, pair_up}

-- ---- settings
unfoldable pub range_row : ℕ → ClientRange → List ℕ
range_row _ r = tenant_format.write r

abbrev pub file_range_octets : State → List ℕ
file_range_octets s = write_from range_row 0 (ranges_of s)

unfoldable pub part_row : ℕ → FilePart → List ℕ
part_row _ p = part_format.write p

abbrev pub part_octets : ℕ → Scope → List ℕ
part_octets h c = write_from part_row 0 (take h (pair_up c.reserve c.limit))

unfoldable pub scope_row : ℕ → ℕ → Scope → List ℕ
scope_row h _ c = (scope_format h).write (filed_scope h c)

abbrev pub file_scope_octets : State → List ℕ
file_scope_octets s = write_from (scope_row s.tenant_count) 0 (scopes_of s)

-- ---- the sections before the names, one after the other
unfoldable pub section_octets : State → LeaseTable → List ℕ
section_octets s b =
    (((1 ∷ octets32 s.server ++ octets32 s.clock) ++ (length (ranges_of s) ∷ file_range_octets s)) ++ (length (scopes_of s) ∷ file_scope_octets s))
    ++ table_octets false b
