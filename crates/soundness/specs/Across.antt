-- Definitions: all tenants' leases in one list, of which rule 10 holds in a sound book (laws/Across.antt).
use Rattle.std.specs.Prelude.{List, [], ◌∷◌, ◌++◌}
use Rattle.state.specs.declared.Lease.{Lease}

-- all tenants' leases in one list
unfoldable pub join_all : List (List Lease) → List Lease
join_all [] = []
join_all (l ∷ ls) = l ++ join_all ls
