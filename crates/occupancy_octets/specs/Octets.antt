-- Definitions: the occupancy board (document 02, W-207) as octets, for hosts: scope by scope, for each of the 64 offsets the owner(1), a house from 1 on or 0
-- for none, and the number of leases on it(1), then what each of the eight houses holds(1). A house is a tenant here.
use Rattle.std.specs.Prelude.{List, [], ◌++◌, ◌∷◌, ◌≡◌, ℕ, length}
use Rattle.format.specs.Format.{write_all}
use Rattle.occupancy.specs.declared.Board.{Board}
use Rattle.occupancy.specs.declared.Entry.{Entry}
use Rattle.occupancy.specs.declared.ScopeBoard.{ScopeBoard}

unfoldable pub entry_octets : Entry → List ℕ
entry_octets e = e.owner ∷ e.count ∷ []

unfoldable pub scope_board_octets : ScopeBoard → List ℕ
scope_board_octets v = write_all entry_octets v.entries ++ v.held

unfoldable pub board_octets : Board → List ℕ
board_octets b = write_all scope_board_octets b.scopes

-- as many as these are (`board_size_law`): four scopes of 64 offsets and eight tenants
abbrev pub board_size : ℕ
board_size = 544

-- a scope's arrays, which are so long by their types
pub record ScopeLong (v : ScopeBoard) : Type 0 where
  pub entries : length v.entries ≡ 64
  pub held : length v.held ≡ 8
