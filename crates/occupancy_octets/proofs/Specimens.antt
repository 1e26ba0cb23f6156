-- Specimens: the octets of boards by computation.
use mathlib.Core.List.{[], ◌++◌, ◌∷◌}
use mathlib.Core.Path.{◌≡◌, refl}
use lib.ListN.{replicate}
use Rattle.format.specs.Format.{write_all}
use Rattle.occupancy.specs.Board.{empty_scope_board, no_board, no_entry}
use Rattle.occupancy.specs.declared.Board.{Board}
use Rattle.occupancy_octets.specs.Octets.{board_octets, board_size, entry_octets, scope_board_octets}

none : board_octets no_board ≡ replicate board_size 0
unfolding board_octets scope_board_octets entry_octets write_all
none = refl

-- in the second scope tenant 3 has two leases on offset 1, and tenant 8 one on offset 63; nobody has any in the others
two : Board
two = record {
  scopes = empty_scope_board ∷ record {
    entries = no_entry ∷ record { owner = 3; count = 2 } ∷ replicate 61 no_entry ++ record { owner = 8; count = 1 } ∷ [];
    held = 0 ∷ 0 ∷ 1 ∷ 0 ∷ 0 ∷ 0 ∷ 0 ∷ 1 ∷ [];
  }
      ∷ empty_scope_board ∷ empty_scope_board ∷ [];
}

two_octets : board_octets two ≡ replicate 136 0 ++ (0 ∷ 0 ∷ 3 ∷ 2 ∷ replicate 122 0) ++ (8 ∷ 1 ∷ 0 ∷ 0 ∷ 1 ∷ 0 ∷ 0 ∷ 0 ∷ 0 ∷ 1 ∷ []) ++ replicate 272 0
unfolding board_octets scope_board_octets entry_octets write_all two
two_octets = refl
