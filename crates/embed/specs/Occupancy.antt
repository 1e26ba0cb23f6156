-- Definitions: the occupancy board of a campus file for a host that polls it (document 02, W-207): the number it is told, the file's 20 or 21, then 23, document
-- 01's short room, where there is not room for every octet of the board, or 0; and the room afterwards. A refusal writes nothing, and what lies past the
-- board's 544 octets stays.
use Rattle.std.specs.Prelude.{ℕ, List, ◌++◌, Result, Ok, Err, ltb, drop, length}
use Rattle.lists.specs.Pick.{pick}
use Rattle.occupancy_octets.specs.Octets.{board_octets, board_size}
use Rattle.state_file.specs.declared.Loaded.{Loaded}
use Rattle.state_file.specs.declared.Refusal.{Refusal}
use Rattle.state_file.specs.StateFile.{code_of}

unfoldable pub board_number : Result Loaded Refusal → ℕ → ℕ
board_number (Ok r) n = pick (ltb n board_size) 23 0
board_number (Err e) n = code_of e

unfoldable pub room_with_board : Result Loaded Refusal → List ℕ → List ℕ
room_with_board (Ok r) room = pick (ltb (length room) board_size) room (board_octets r.memory.board ++ drop board_size room)
room_with_board (Err e) room = room
