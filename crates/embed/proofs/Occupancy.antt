-- Laws: an accepted file's board has 544 octets, and what a host is told of it in each case.
use Prim.Native.Nat.{ℕ, ◌+◌, ◌≤◌, ◌<◌}
use mathlib.Core.Path.{◌≡◌, refl, sym, ap, ◌∙◌}
use mathlib.Core.List.{List, ◌++◌}
use native.Mathlib.Omega.{arith}
use lib.ListN.{drop, length, length-map}
use Rattle.lists.specs.All.{All}
use Rattle.lists.specs.laws.Pick.{pick_lt, pick_not_lt}
use Rattle.address_set.specs.AddressSet.{up_to}
use Rattle.octets.specs.Octets.{Wrote, put}
use Rattle.occupancy.specs.declared.Board.{Board}
use Rattle.occupancy_octets.specs.Octets.{ScopeLong, board_octets, board_size}
use Rattle.occupancy_octets.specs.laws.Octets.{board_size_law}
use Rattle.state.specs.declared.Lease.{Lease}
use Rattle.state.specs.declared.LeaseTable.{LeaseTable}
use Rattle.state.specs.Book.{held_count, in_use, leases_of}
use Rattle.state.specs.Board.{board_of, entry_by, scope_by}
use Rattle.std.specs.Prelude.{Result, Ok, Err}
use Rattle.state_file.specs.declared.Loaded.{Loaded}
use Rattle.state_file.specs.declared.Refusal.{Refusal}
use Rattle.state_file.specs.StateFile.{book_in, code_of, read_file, refusal_number}
use Rattle.state_file.proofs.RoundTrip.{read_board}
use Rattle.records.specs.Records.{records_of}
use Rattle.records.specs.laws.Files.{file_back}
use Rattle.records.specs.laws.Table.{table_eight}
use Rattle.embed.specs.Occupancy.{board_number, room_with_board}

-- ---- as many octets
scope_long : (ts : List (List Lease)) (s : ℕ) → length ts ≡ 8 → ScopeLong (scope_by ts s)
unfolding scope_by up_to
scope_long ts s e = record { entries = length-map (up_to 64) (entry_by ts s); held = length-map ts (held_count s) ∙ e }

said_long : (ts : List (List Lease)) → length ts ≡ 8 → length (board_octets (board_of ts)) ≡ board_size
unfolding board_of All
said_long ts e = board_size_law (board_of ts) refl (scope_long ts 1 e, (scope_long ts 2 e, (scope_long ts 3 e, (scope_long ts 4 e, tt))))

board_long : (f : List ℕ) → refusal_number (read_file f) ≡ 0 → length (board_octets (book_in (read_file f)).memory.board) ≡ board_size
board_long f e =
    ap (λ (b : Board). length (board_octets b)) (read_board f e)
    ∙ said_long (leases_of (book_in (read_file f)).table)
    (length-map (book_in (read_file f)).table.tenants in_use ∙ ap (λ (t : LeaseTable). length t.tenants) (sym (file_back f e)) ∙ table_eight (records_of (book_in (read_file f)).table))

-- ---- what is told
module _ (f : List ℕ) (room : List ℕ) where
  pub board_refused : {e : Refusal} → Err e ≡ read_file f → (code_of e ≡ board_number (read_file f) (length room)) × (room ≡ room_with_board (read_file f) room)
  unfolding board_number room_with_board
  board_refused q = (ap (λ (x : Result Loaded Refusal). board_number x (length room)) q, ap (λ (x : Result Loaded Refusal). room_with_board x room) q)

  module _ {r : Loaded} (e : Ok r ≡ read_file f) where
    pub board_short : length room < board_size → (23 ≡ board_number (read_file f) (length room)) × (room ≡ room_with_board (read_file f) room)
    unfolding board_number room_with_board
    board_short h = (
      pick_lt _ _ _ (length room) board_size h refl ∙ ap (λ (x : Result Loaded Refusal). board_number x (length room)) e,
      pick_lt _ _ _ (length room) board_size h refl ∙ ap (λ (x : Result Loaded Refusal). room_with_board x room) e,
    )

    pub board_put : {after : List ℕ} {n : ℕ} → board_size ≤ length room → Wrote room 0 (board_octets r.memory.board) after n
        → (0 ≡ board_number (read_file f) (length room)) × (after ≡ room_with_board (read_file f) room)
    unfolding board_number room_with_board put refusal_number book_in
    board_put {after} h w = (
      pick_not_lt _ _ _ (length room) board_size h refl ∙ ap (λ (x : Result Loaded Refusal). board_number x (length room)) e,
      pick_not_lt _ _ _ (length room) board_size h written ∙ ap (λ (x : Result Loaded Refusal). room_with_board x room) e,
    )
      where
        long : length (board_octets r.memory.board) ≡ board_size
        long = ap (λ (x : Result Loaded Refusal). length (board_octets (book_in x).memory.board)) e ∙ board_long f (sym (ap refusal_number e))

        written : after ≡ board_octets r.memory.board ++ drop board_size room
        written = w.buffer ∙ ap (λ (k : ℕ). board_octets r.memory.board ++ drop k room) (let z : 0 + length (board_octets r.memory.board) ≡ board_size = omega (arith, long) in z)
