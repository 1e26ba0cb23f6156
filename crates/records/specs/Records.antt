-- Definitions: the lent lease records (document 01, "How it is to be built"): 128 in a row, sixteen to a house, house by house; and the table that they stand
-- for. A house is a tenant here.
use Rattle.std.specs.Prelude.{ℕ, zero, suc, min, ◌+◌, ◌*◌, List, [], ◌∷◌, ◌++◌, map, length, replicate, take, drop}
use Rattle.std.proofs.Math.Seq.{paste}
use Rattle.lists.specs.Place.{place_by}
use Rattle.state.specs.declared.Lease.{Lease}
use Rattle.state.specs.declared.TenantLeases.{TenantLeases}
use Rattle.state.specs.declared.LeaseTable.{LeaseTable}
use Rattle.state.specs.Book.{zero_lease}
use Rattle.soundness.specs.Sound.{unused_b}

-- the first n rows of sixteen records
unfoldable pub rows : ℕ → List Lease → List (List Lease)
rows zero ls = []
rows (suc n) ls = take 16 ls ∷ rows n (drop 16 ls)

-- a tenant's leases stand in its records from the first on, up to the first unused one; what follows is left to soundness
unfoldable pub tenant_from : List Lease → TenantLeases
tenant_from r = record { leases = r; count = place_by unused_b r }

-- the table that records stand for
unfoldable pub table_from : List Lease → LeaseTable
table_from ls = record { tenants = map tenant_from (rows 8 ls) }

-- the records of some tenants, tenant by tenant
unfoldable pub rows_of : List TenantLeases → List Lease
rows_of [] = []
rows_of (t ∷ ts) = t.leases ++ rows_of ts

-- the records of a table
unfoldable pub records_of : LeaseTable → List Lease
records_of t = rows_of t.tenants

-- records with those of tenant h, counted from 0, replaced
unfoldable pub put_row : List Lease → ℕ → List Lease → List Lease
put_row ls h r = take (16 * h) ls ++ r ++ drop (16 * h + 16) ls

-- ---- between a lent slice of any length and 128 records by value
-- what is taken from a slice: its first records, then unused ones
unfoldable pub first128 : List Lease → List Lease
first128 ls = paste (replicate 128 zero_lease) 0 ls (min (length ls) 128)

-- a slice with 128 records laid over it; what lies past them or past its end is left
unfoldable pub covered : List Lease → List Lease → List Lease
covered ls all = paste ls 0 all (min (length ls) 128)
