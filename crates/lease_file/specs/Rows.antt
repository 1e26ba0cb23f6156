-- Definitions: the octets of the records, as the writer goes over them: tenant by tenant, and of its records those that belong into the section; and rows
-- of records, as the reader fills them.
use Rattle.std.specs.Prelude.{Bool, List, [], map, ◌+◌, ℕ, get_or, length}
use Rattle.format.specs.Rows.{write_from}
use Rattle.lists.specs.Filter.{filter_by}
use Rattle.lists.specs.Pick.{pick}
use Rattle.lists.specs.Sums.{sum_to}
use Rattle.octets.specs.Octets.{octets32}
use Rattle.lists.specs.Arranged.{arranged}
use Rattle.state.specs.Book.{in_use, laid_out, no_leases, ordered}
use Rattle.state.specs.declared.Lease.{Lease}
use Rattle.state.specs.declared.LeaseTable.{LeaseTable}
use Rattle.state.specs.declared.TenantLeases.{TenantLeases}
use Rattle.lease_file.specs.Records.{filed_entry, of_kind}
use Rattle.lease_file.specs.Section.{entry_format}

-- ---- writing
-- what stands behind the rest of an entry
unfoldable pub lapse_octets : Bool → ℕ → List ℕ
lapse_octets holds lapse = pick holds (octets32 lapse) []

unfoldable pub entry_octets : Bool → ℕ → ℕ → Lease → List ℕ
entry_octets holds t _ l = pick (of_kind holds l) ((entry_format holds).write (filed_entry holds t l)) []

abbrev pub tenant_octets : Bool → ℕ → TenantLeases → List ℕ
tenant_octets holds t h = write_from (entry_octets holds t) 0 (in_use h)

unfoldable pub tenant_row : Bool → ℕ → TenantLeases → List ℕ
tenant_row holds i h = tenant_octets holds (i + 1) h

-- all but the count
abbrev pub table_rows : Bool → LeaseTable → List ℕ
table_rows holds b = write_from (tenant_row holds) 0 b.tenants

-- how many there are
unfoldable pub one_of : Bool → Lease → ℕ
one_of holds l = pick (of_kind holds l) 1 0

abbrev pub kind_count : Bool → TenantLeases → ℕ
kind_count holds h = length (filter_by (of_kind holds) (in_use h))

abbrev pub table_total : Bool → LeaseTable → ℕ
table_total holds b = sum_to (λ i. kind_count holds (get_or b.tenants i no_leases)) 8

-- ---- reading
-- each tenant's in the order of records
abbrev pub by_ending_all : List TenantLeases → List TenantLeases
by_ending_all ts = map (λ t. laid_out (arranged ordered (in_use t))) ts
