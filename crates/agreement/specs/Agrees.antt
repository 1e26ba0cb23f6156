-- Definitions: "After any call on a sound book it equals what the leases say" (document 02, W-207), as a rule of a sound book, the twentieth: "a book whose board
-- disagrees is unsound".
use Rattle.std.specs.Prelude.{Bool}
use Rattle.occupancy.specs.declared.Board.{Board}
use Rattle.occupancy.specs.Board.{same_board}
use Rattle.state.specs.declared.LeaseTable.{LeaseTable}
use Rattle.state.specs.Book.{leases_of}
use Rattle.state.specs.Board.{board_of}

unfoldable pub agrees_b : LeaseTable → Board → Bool
agrees_b t b = same_board b (board_of (leases_of t))
