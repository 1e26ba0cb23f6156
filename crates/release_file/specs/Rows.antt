-- Definitions: the octets of what a memory holds, as the writer goes over it: tenant by tenant, release by release.
use Rattle.std.specs.Prelude.{List, ◌+◌, ℕ, get_or, length}
use Rattle.format.specs.Rows.{write_from}
use Rattle.lists.specs.Sums.{sum_to}
use Rattle.release_file.specs.Section.{filed_release, release_format}
use Rattle.state.specs.Book.{no_releases, remembered}
use Rattle.state.specs.declared.Memory.{Memory}
use Rattle.state.specs.declared.Release.{Release}
use Rattle.state.specs.declared.TenantReleases.{TenantReleases}

unfoldable pub release_octets : ℕ → ℕ → Release → List ℕ
release_octets t _ r = release_format.write (filed_release t r)

abbrev pub tenant_octets : ℕ → TenantReleases → List ℕ
tenant_octets t q = write_from (release_octets t) 0 (remembered q)

unfoldable pub tenant_row : ℕ → TenantReleases → List ℕ
tenant_row i q = tenant_octets (i + 1) q

-- all but the count
abbrev pub memory_rows : Memory → List ℕ
memory_rows m = write_from tenant_row 0 m.releases

-- how many releases there are
abbrev pub memory_total : Memory → ℕ
memory_total m = sum_to (λ i. length (remembered (get_or m.releases i no_releases))) 8
