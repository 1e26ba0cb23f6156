-- Definitions: what the functions for a host program in C or Rust answer: numbers and octets only. A campus file is held in a buffer of the caller's.
-- The buffer is tested first: 23, document 01's short room, below 32,768 octets; 28 a length past its end; then 20 and 21. Of a list of calls:
-- 24 a record that is cut off, then 27 fewer than 518 octets left for the next answer. Each number has one meaning.
use Rattle.std.specs.Prelude.{ℕ, List, [], Result, Ok, Err, eqb, ltb, length, take}
use Rattle.state_file.specs.File.{file_limit}
use Rattle.lists.specs.Pick.{pick}
use Rattle.state.specs.declared.Lease.{Lease}
use Rattle.state.specs.declared.Ledger.{Ledger}
use Rattle.server.specs.Serve.{Call}
use Rattle.state_file.specs.declared.Refusal.{Refusal}
use Rattle.state_file.specs.StateFile.{book_in, code_of, names_of, read_file, refusal_number}
use Rattle.records.specs.Records.{records_of}
use Rattle.call_list.specs.CallList.{replayed, Worked}
use Rattle.records.specs.Lent.{ledger_from, room_lent, written_lent}
use Rattle.record_call.specs.Call.{LentAnswer, serve_lent}

-- ---- a file in a buffer
-- a file's buffer has to hold the largest file
abbrev pub largest_file : ℕ
largest_file = file_limit

-- the number that the first n octets of a buffer draw before anything is done with them, or 0
unfoldable pub refusal_in : List ℕ → ℕ → ℕ
refusal_in b n = pick (ltb (length b) largest_file) 23 (pick (ltb (length b) n) 28 (refusal_number (read_file (take n b))))

-- their ledger (clock, settings and what is remembered) and records,
abbrev pub ledger_in : List ℕ → ℕ → Ledger
ledger_in b n = ledger_from (book_in (read_file (take n b)))

abbrev pub leases_in : List ℕ → ℕ → List Lease
leases_in b n = records_of (book_in (read_file (take n b))).table

-- and the names of its scopes
abbrev pub names_in : List ℕ → ℕ → List ℕ
names_in b n = names_of (take n b)

-- no accepted file has more octets of names
abbrev pub largest_names : ℕ
largest_names = 6229

-- What is told once the file is written again. The writer refuses no book that calls on an accepted file leave (`ServedNumbers`, `ReplayedNumbers` in
-- Statement.antt of `embed_guarantee`); if it did, the host would be told its refusal, the old file would stand, and the reply or the answers would be there all the same.
abbrev pub number_after : Result ℕ Refusal → ℕ → ℕ
number_after (Ok m) k = k
number_after (Err e) k = code_of e

abbrev pub length_after : Result ℕ Refusal → ℕ → ℕ
length_after (Ok m) n = m
length_after (Err e) n = n

-- ---- work on a file's book: one call, or a list of calls
-- the number returned, the file's buffer and the file's length afterwards, and the work's other parts
pub record Filed : Type 0 where
  pub number : ℕ
  pub offset : ℕ
  pub count : ℕ
  pub buffer : List ℕ
  pub length : ℕ
  pub used : ℕ
  pub out : List ℕ

-- the file of the ledger and the records afterwards, with the same names, takes the place of the old one
abbrev pub filed : List ℕ → ℕ → Worked → Filed
filed b n r = record {
  number = number_after (written_lent r.ledger r.leases (names_in b n) (length b)) r.number;
  offset = r.offset;
  count = r.count;
  buffer = room_lent r.ledger r.leases (names_in b n) b;
  length = length_after (written_lent r.ledger r.leases (names_in b n) (length b)) n;
  used = r.used;
  out = r.out;
}

-- a refused file changes nothing
abbrev pub kept : List ℕ → ℕ → Filed
kept b n = record { number = refusal_in b n; offset = 0; count = 0; buffer = b; length = n; used = 0; out = [] }

unfoldable pub on_file : List ℕ → ℕ → (Ledger → List Lease → Worked) → Filed
on_file b n work = pick (eqb (refusal_in b n) 0) (filed b n (work (ledger_in b n) (leases_in b n))) (kept b n)

-- ---- one call
abbrev pub called : LentAnswer → Worked
called a = record { number = a.outcome; offset = a.offset; count = a.count; ledger = a.ledger; leases = a.leases; used = 0; out = a.reply }

unfoldable pub serve_file : List ℕ → ℕ → Call → Filed
serve_file b n c = on_file b n (λ g ls. called (serve_lent g ls (names_in b n) c))

-- ---- a list of calls, each a record as `replay` reads it
-- a list of calls on the file in a buffer, with so much room for answers
unfoldable pub replay_file : List ℕ → ℕ → List ℕ → ℕ → Filed
replay_file b n cs room = on_file b n (λ g ls. replayed (length cs) g ls (names_in b n) cs room)
