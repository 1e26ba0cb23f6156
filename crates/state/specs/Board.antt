-- Definitions: what the leases say of the occupancy board (document 02, W-207): "for each scope and each of its addresses the owning house, or none, and the
-- number of leases on it, and for each house in the scope its holding; holds count as leases". Offsets past a scope's size and scopes past the last have
-- no lease in a sound book, so that what is said of them is zero. A house is a tenant here; tenants count from 0, scopes from 1, and ts are the leases of all
-- tenants.
use Rattle.std.specs.Prelude.{ℕ, zero, suc, ◌+◌, Bool, ◌&&◌, List, [], ◌∷◌, map, eqb, length}
use Rattle.lists.specs.Pick.{pick}
use Rattle.lists.specs.Filter.{filter_by}
use Rattle.lists.specs.Fold.{fold}
use Rattle.address_set.specs.AddressSet.{bit, up_to}
use Rattle.occupancy.specs.declared.Entry.{Entry}
use Rattle.occupancy.specs.declared.ScopeBoard.{ScopeBoard}
use Rattle.occupancy.specs.declared.Board.{Board}
use Rattle.occupancy.specs.Board.{no_board}
use Rattle.state.specs.declared.Lease.{Lease}
use Rattle.state.specs.declared.LeaseTable.{LeaseTable}
use Rattle.state.specs.Book.{held_of, held_count, in_scope, in_use, tenant_at, board_with}

-- "the owning house, or none": the number of the first tenant that has offset a of scope s, tenants numbered from i; 0 for none
unfoldable pub owner_from : ℕ → ℕ → ℕ → List (List Lease) → ℕ
owner_from i s a [] = 0
owner_from i s a (x ∷ ts) = pick (eqb (bit (held_of s x) a) 1) i (owner_from (suc i) s a ts)

-- "the number of leases on it", at any time
unfoldable pub is_on : ℕ → ℕ → Lease → Bool
is_on s a l = in_scope s l && eqb (bit l.addresses a) 1

unfoldable pub count_in : ℕ → ℕ → List Lease → ℕ
count_in s a ls = length (filter_by (is_on s a) ls)

unfoldable pub count_on : ℕ → ℕ → List (List Lease) → ℕ
count_on s a [] = 0
count_on s a (x ∷ ts) = count_in s a x + count_on s a ts

unfoldable pub entry_by : List (List Lease) → ℕ → ℕ → Entry
entry_by ts s a = record { owner = owner_from 1 s a ts; count = count_on s a ts }

unfoldable pub scope_by : List (List Lease) → ℕ → ScopeBoard
scope_by ts s = record { entries = map (entry_by ts s) (up_to 64); held = map (held_count s) ts }

unfoldable pub board_of : List (List Lease) → Board
board_of ts = record { scopes = map (scope_by ts) (1 ∷ 2 ∷ 3 ∷ 4 ∷ []) }

-- ---- the same, made by adding one lease after the other to an empty board: those of the first k tenants. In a sound book it is what the leases say
-- (`built_is` of agreement)
unfoldable pub built_to : LeaseTable → ℕ → Board
built_to t zero = no_board
built_to t (suc k) = fold (board_with k) (built_to t k) (in_use (tenant_at t k))

abbrev pub built_of : LeaseTable → Board
built_of t = built_to t 8
