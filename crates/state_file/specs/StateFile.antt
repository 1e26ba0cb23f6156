-- Definitions: what the reader and the writer of the state file answer: document 01, "Campus file and sound book"; document 02, W-201, W-202 and W-205, for the
-- names, the releases and the holds.
use Rattle.std.specs.Prelude.{◌&&◌, List, [], ◌++◌, ℕ, ltb, drop, length, replicate, Result, Ok, Err}
use Rattle.lists.specs.Pick.{pick}
use Rattle.releases.specs.Whole.{book_b}
use Rattle.soundness.specs.Sound.{sound_b}
use Rattle.releases.specs.Rules.{memory_b}
use Rattle.release_file.specs.Section.{stored_memory}
use Rattle.occupancy.specs.Board.{no_board}
use Rattle.state.specs.Book.{Book, laid_releases, leases_of, table_of, zero_scope}
use Rattle.state.specs.Board.{board_of}
use Rattle.state.specs.declared.LeaseTable.{LeaseTable}
use Rattle.state.specs.declared.Ledger.{Ledger}
use Rattle.state.specs.declared.Memory.{Memory}
use Rattle.state.specs.declared.State.{State}
use Rattle.state_file.specs.File.{File, file_format, file_of}
use Rattle.format.specs.Format.{Got, bad, got}
use Rattle.state_file.specs.Records.{filed_as, filed_book, fits_b, stored_state, stored_table, zero_range}
use Rattle.state_file.specs.declared.Loaded.{Loaded}
use Rattle.state_file.specs.declared.Refusal.{Refusal}
use Rattle.state_file.specs.declared.Refusal.TheVariants.{WrongForm, UnsoundFile, UnsoundBook, ShortRoom}

abbrev pub zero_state : State
zero_state = record { server = 0; clock = 0; tenant_count = 0; tenants = replicate 8 zero_range; scope_count = 0; scopes = replicate 4 zero_scope }

unfoldable pub zero_table : LeaseTable
zero_table = table_of (replicate 8 [])

abbrev pub zero_memory : Memory
zero_memory = record { releases = replicate 8 (laid_releases []); board = no_board }

abbrev pub zero_ledger : Ledger
zero_ledger = record { state = zero_state; memory = zero_memory }

-- a book that is all zero
abbrev pub zero_loaded : Loaded
zero_loaded = record { state = zero_state; table = zero_table; memory = zero_memory }

-- ---- refusals
-- the number of each: 20 and 21 are the reader's, 22 and 23 the writer's
unfoldable pub code_of : Refusal → ℕ
code_of WrongForm = 20
code_of UnsoundFile = 21
code_of UnsoundBook = 22
code_of ShortRoom = 23

-- what an answer is by number: that of its refusal, or 0
unfoldable pub refusal_number : {A : Type 0} → Result A Refusal → ℕ
refusal_number (Ok x) = 0
refusal_number (Err e) = code_of e

-- a refusal has no book: its records are zero
unfoldable pub book_in : Result Loaded Refusal → Loaded
book_in (Ok b) = b
book_in (Err e) = zero_loaded

-- and nothing that was written
unfoldable pub length_written : Result ℕ Refusal → ℕ
length_written (Ok n) = n
length_written (Err e) = 0

-- ---- the reader
unfoldable pub accepted : State → LeaseTable → Memory → Result Loaded Refusal
accepted s b m = Ok (record { state = s; table = b; memory = m })

-- a file has no board: that of an accepted one is what its leases say (document 02, W-207)
abbrev pub with_board : LeaseTable → Memory → Memory
with_board b m = record { releases = m.releases; board = board_of (leases_of b) }

unfoldable pub judged : State → LeaseTable → Memory → Result Loaded Refusal
judged s b m = pick (sound_b s b && memory_b s b m) (accepted s b (with_board b m)) (Err UnsoundFile)

-- an unsound file is one that the records cannot hold, or whose records or releases are unsound
unfoldable pub loaded : File → Result Loaded Refusal
loaded f = pick (fits_b f) (judged (stored_state f) (stored_table f) (stored_memory f.releases)) (Err UnsoundFile)

unfoldable pub loaded_got : Got File → Result Loaded Refusal
loaded_got (got f r) = loaded f
loaded_got bad = Err WrongForm

unfoldable pub read_file : List ℕ → Result Loaded Refusal
read_file s = loaded_got (file_of s)

-- the names of a file, as they stand in it, wherever its form is right; octets refused with 20 have none
unfoldable pub names_got : Got File → List ℕ
names_got (got f r) = f.names
names_got bad = []

unfoldable pub names_of : List ℕ → List ℕ
names_of s = names_got (file_of s)

-- ---- the writer
-- the octets of a book's file, each tenant's records as they stand
unfoldable pub octets_as : Book → List ℕ
octets_as b = file_format.write (filed_as b)

-- the octets of a book's file
unfoldable pub octets_of : Book → List ℕ
octets_of b = file_format.write (filed_book b)

-- bad names, bad releases and a board that disagrees, lent, make an unsound book too; and then a room may be too short, of n octets
unfoldable pub written_of : Book → ℕ → Result ℕ Refusal
written_of b n = pick (book_b b) (pick (ltb n (length (octets_of b))) (Err ShortRoom) (Ok (length (octets_of b)))) (Err UnsoundBook)

-- what the room holds afterwards: the octets, and past them what it held; a refusal writes nothing
unfoldable pub room_after : Book → List ℕ → List ℕ
room_after b room =
    pick (book_b b)
    (pick (ltb (length room) (length (octets_of b))) room (octets_of b ++ drop (length (octets_of b)) room))
    room
