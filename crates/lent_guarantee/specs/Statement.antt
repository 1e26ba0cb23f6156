-- Statement: the guarantee of `guarantee`, in words that speak of the lent ledger, the lent lease records and the lent names, and the round trips of the file read into them
-- and written of them. `serve_lent` is what `lent::serve` is proved to meet.
use Rattle.std.specs.Prelude.{ℕ, ◌≤◌, ◌≡◌, true, false, ◌&&◌, List, [], ◌∷◌, ◌++◌, Result, Ok, ltb, drop, length, take}
use Rattle.lists.specs.Pick.{pick}
use Rattle.lists.specs.All.{All}
use Rattle.state_file.specs.File.{longest_file}
use Rattle.state.specs.Book.{Book, leases_of}
use Rattle.state.specs.Board.{board_of}
use Rattle.state.specs.declared.Lease.{Lease}
use Rattle.state.specs.declared.Ledger.{Ledger}
use Rattle.releases.specs.Whole.{board_good, book_b, memory_good, names_good}
use Rattle.message.specs.Read.{longest_datagram, read_of}
use Rattle.reply.specs.Reply.{least_room}
use Rattle.server.specs.declared.Outcome.{Outcome}
use Rattle.server.specs.declared.Ruling.{Ruling}
use Rattle.server.specs.Serve.{Answer, Call, Tells, serve_of}
use Rattle.server.specs.Halves.{Judgement, write_of}
use Rattle.server.specs.Statement.{judged_for}
use Rattle.guarantee.specs.Statement.{BoardKept, Granted, NewRequest, NoHold, WithinLimits, book_at, says_of, tenant_for}
use Rattle.offer_guarantee.specs.Statement.{Discovers, Elsewhere, GrantedAsOffered, Offered, OfferedAs, TakesUp, requested}
use Rattle.call_guarantee.specs.Statement.{IsReply, Narrow, ReadAs, live_under}
use Rattle.admission.specs.Tests.{lease_id_in}
use Rattle.format.specs.Format.{Octets}
use Rattle.state_file.specs.declared.Refusal.{Refusal}
use Rattle.state_file.specs.StateFile.{length_written, names_of, refusal_number}
use Rattle.state_file.specs.Typed.{Typed}
use Rattle.records.specs.Records.{records_of, table_from}
use Rattle.records.specs.Lent.{book_from, find_lent, is128, read_lent, room_lent, written_lent}
use Rattle.record_verdict.specs.Verdict.{judge_lent, ledger_of, LentJudgement}
use Rattle.record_call.specs.Call.{lent_both, LentAnswer, serve_lent}

-- a ledger (clock, settings, what is remembered and the board), records and names, as their caller holds them; the names are lent to be read only
pub record Lent : Type 0 where
  pub ledger : Ledger
  pub leases : List Lease
  pub names : List ℕ

abbrev pub lent_book : Lent → Book
lent_book l = book_from l.ledger l.leases l.names

-- the lent call on them
abbrev pub served : Lent → Call → LentAnswer
served l c = serve_lent l.ledger l.leases l.names c

-- the writer on them: its answer for n octets of room, and what the room holds afterwards
abbrev pub lent_written : Lent → ℕ → Result ℕ Refusal
lent_written l n = written_lent l.ledger l.leases l.names n

abbrev pub lent_room : Lent → List ℕ → List ℕ
lent_room l room = room_lent l.ledger l.leases l.names room

-- an answer with the book that its ledger, its records and the names are
abbrev pub answer_of : List ℕ → LentAnswer → Answer
answer_of names a = record { outcome = a.outcome; offset = a.offset; count = a.count; reply = a.reply; book = book_from a.ledger a.leases names }

-- ---- the list of calls: each gets the ledger and the records as the call before left them, and the same names
unfoldable pub run_lent : Lent → List Call → Lent
run_lent l [] = l
run_lent l (c ∷ cs) = run_lent (record { ledger = (served l c).ledger; leases = (served l c).leases; names = l.names }) cs

-- "There are always 128", releases of eight tenants, and the book that they are is sound
pub record SoundLent (l : Lent) : Type 0 where
  pub whole : length l.leases ≡ 128
  pub eight : length l.ledger.memory.releases ≡ 8
  pub sound : book_b (lent_book l) ≡ true

-- ---- the lent call is the call: on any ledger, any 128 records and any names, sound or not
unfoldable pub SameCall : Type 0
SameCall = (l : Lent) (c : Call) → length l.leases ≡ 128 → answer_of l.names (served l c) ≡ serve_of (lent_book l) c

-- ---- the call in two halves (document 02, W-208): "the first gives the verdict and the book afterwards, the second writes the reply from these"
-- the first (`lent::judge`) on them, of a call's datagram, address and time
abbrev pub judged : Lent → Call → LentJudgement
judged l c = judge_lent l.ledger l.leases l.names c.client c.time c.datagram

-- and the second (`lent::reply`) after it, on the verdict, the ledger afterwards and the names that were lent to both
abbrev pub lent_in_halves : Lent → Call → LentAnswer
lent_in_halves l c = lent_both (judged l c) (write_of (judged l c).ruling (judged l c).ledger.state l.names c.room)

abbrev pub discarded_lent : ℕ → Lent → LentAnswer
discarded_lent n l = record { outcome = n; offset = 0; count = 0; reply = []; ledger = l.ledger; leases = l.leases }

-- "The old call stays, made of the two after its own tests 1 and 2", the number of records being part of test 1
unfoldable pub LentHalves : Type 0
LentHalves =
    (l : Lent) (c : Call)
    → served l c ≡ pick (is128 (length l.leases) && book_b (lent_book l)) (pick (ltb c.room least_room) (discarded_lent 2 l) (lent_in_halves l c)) (discarded_lent 1 l)

-- the verdict with the book that its ledger, its records and the names are
abbrev pub judgement_of : List ℕ → LentJudgement → Judgement
judgement_of names j = record { ruling = j.ruling; book = book_from j.ledger j.leases names }

-- the lent first half is the first half: on any ledger, any 128 records and any names, sound or not
unfoldable pub SameJudge : Type 0
SameJudge = (l : Lent) (c : Call) → length l.leases ≡ 128 → judgement_of l.names (judged l c) ≡ judged_for (lent_book l) c

-- "The first never gives discard 2"
unfoldable pub LentNeverShort : Type 0
LentNeverShort = (l : Lent) (c : Call) → (judged l c).ruling.verdict.outcome ≡ 2 → ⊥

-- "For a verdict and book that the first didn't give together the second may answer anything, without a fault" (`lent::reply` has no `requires`) "or an octet past the
-- 512th": of whatever verdict and ledger, names and room, its outcome is one of the numbers, and every octet past the 512th is as it was. Of the verdict there is asked only that its
-- identifier is the array of 32 octets that its type has
unfoldable pub LentWritesWithin : Type 0
LentWritesWithin =
    (r : Ruling) → length r.id.octets ≡ 32 → (g : Ledger) (names before after : List ℕ) (x : Outcome) → Tells (write_of r g.state names (length before)) before after x
    → (x.outcome ≤ 8) × (drop least_room after ≡ drop least_room before)

-- ---- demand 3, its sentences in guarantee's statement
-- of the ledger and records after a list of calls
pub record LentAfterList (l : Lent) : Type 0 where
  -- "After the list the book is sound", on 128 records
  pub sound : SoundLent l
  -- "and no house holds more addresses in a scope than its limit"
  pub limits : WithinLimits (lent_book l)
  -- "Let the next datagram be a new REQUEST ..: it is granted, .., whatever the other houses sent"
  pub next : (c : Call) → NewRequest (lent_book l) c → Granted (lent_book l) c (answer_of l.names (served l c))

-- "Take every sound book and every list of datagrams, answered or discarded, whatever their addresses, times and reply rooms"
unfoldable pub LentDemand3 : Type 0
LentDemand3 = (l : Lent) → SoundLent l → (cs : List Call) → LentAfterList (run_lent l cs)

-- ---- demand 1: "For every datagram, clock, book and reply room", so any ledger, any number of records and any names
pub record LentAnswered (l : Lent) (c : Call) (a : LentAnswer) : Type 0 where
  -- "the server ends with a reply or a numbered discard"
  pub outcome : a.outcome ≤ 8
  pub reply : a.outcome ≡ 0 → IsReply a.reply
  -- the reader reads it back as one of document 01's
  pub reads : Narrow (lent_book l) → a.outcome ≡ 0 → ReadAs a.reply
  -- "A discard writes no reply octet"
  pub silent : (a.outcome ≡ 0 → ⊥) → a.reply ≡ []
  -- "and changes no lease live at the clock it leaves in the book"
  pub leases : (a.outcome ≡ 0 → ⊥) → (g : ℕ) (i : List ℕ)
      → live_under a.ledger.state.clock (table_from a.leases) g i ≡ live_under a.ledger.state.clock (table_from l.leases) g i
  -- "Discards 1 and 2 change nothing"
  pub untouched : a.outcome ≡ 1 → (a.ledger ≡ l.ledger) × (a.leases ≡ l.leases)
  pub untouched_too : a.outcome ≡ 2 → (a.ledger ≡ l.ledger) × (a.leases ≡ l.leases)
  -- the others set the clock and drop ended leases and lapsed holds; 3 to 8 do no more
  pub advances : 3 ≤ a.outcome → (a.ledger ≡ ledger_of (book_at (lent_book l) c)) × (a.leases ≡ records_of (book_at (lent_book l) c).table)
  -- "Discard 5 carries" the offset that the reader of options reports, "every other outcome 0" (document 02, W-206)
  pub carries : a.outcome ≡ 5 → a.offset ≡ (read_of c.datagram).fault
  pub carries_none : (a.outcome ≡ 5 → ⊥) → a.offset ≡ 0
  pub inside : (a.offset ≤ length c.datagram) × (a.offset ≤ longest_datagram)
  -- the count of records that were read is at most 32, and 0 with discards 1 to 7 (W-210)
  pub few_read : a.count ≤ 32
  pub none_read : 1 ≤ a.outcome → a.outcome ≤ 7 → a.count ≡ 0
  -- another number of records makes the book unsound
  pub other : (length l.leases ≡ 128 → ⊥) → a.outcome ≡ 1
  -- and so do bad names and bad releases (document 02, W-201 and W-202)
  pub bad_names : names_good (lent_book l) ≡ false → a.outcome ≡ 1
  pub bad_releases : memory_good (lent_book l) ≡ false → a.outcome ≡ 1
  -- "a book whose board disagrees is unsound, 1" (W-207)
  pub bad_board : board_good (lent_book l) ≡ false → a.outcome ≡ 1

unfoldable pub LentDemand1 : Type 0
LentDemand1 = (l : Lent) (c : Call) → LentAnswered l c (served l c)

-- ---- the occupancy board (document 02, W-207): "After any call on a sound book it equals what the leases say"
unfoldable pub LentBoardAgrees : Type 0
LentBoardAgrees = (l : Lent) → SoundLent l → (cs : List Call) → (run_lent l cs).ledger.memory.board ≡ board_of (leases_of (table_from (run_lent l cs).leases))

-- and a call alters no more of it than the entries and holdings of what it adds and removes
unfoldable pub LentBoardStays : Type 0
LentBoardStays = (l : Lent) → SoundLent l → (c : Call) → BoardKept (lent_book l) (answer_of l.names (served l c))

-- ---- the OFFER rule, on any ledger, any 128 records and any names
unfoldable pub LentOfferRule : Type 0
LentOfferRule =
    (l : Lent) (c : Call) → length l.leases ≡ 128 → Discovers c → NoHold (lent_book l) c
    → OfferedAs (lent_book l) c (answer_of l.names (served l c)) (answer_of l.names (served l (requested c)))

-- ---- the offer is held (document 02, W-205), its sentences in offer_guarantee's statement: d draws an OFFER, and r is "the same message as a REQUEST by the same house",
-- "within its thirty seconds", whatever other houses sent in between, and the house itself for other identifiers
unfoldable pub LentOfferHeld : Type 0
LentOfferHeld =
    (l : Lent) → SoundLent l → (d : Call) → Discovers d → Offered (answer_of l.names (served l d))
    → (cs : List Call) → All (Elsewhere l.ledger.state (tenant_for (lent_book l) d) (lease_id_in (says_of (lent_book l) d))) cs
    → (r : Call) → TakesUp (lent_book l) d (lent_book (run_lent l (d ∷ cs))) r
    → GrantedAsOffered (lent_book l) d (lent_book (run_lent l (d ∷ cs))) r (answer_of l.names (served l d)) (answer_of (run_lent l (d ∷ cs)).names (served (run_lent l (d ∷ cs)) r))

-- ---- document 02, W-210: finding an identifier among lent records compares "at most 16"
unfoldable pub FindsFew : Type 0
FindsFew = (h : ℕ) (i : List ℕ) (ls : List Lease) → (find_lent h i ls).compared ≤ 16

-- ---- the file: the ledger and the records that it is read into, with the names that stand in it
abbrev pub after_file : List ℕ → Ledger → List Lease → Lent
after_file f g ls = record { ledger = (read_lent f g ls).ledger; leases = (read_lent f g ls).leases; names = names_of f }

-- demand 2, of the file: "A campus file that is accepted, read and written again has the same octets"; read into any lent ledger and records. Of the call,
-- "what it reads, what it writes and the book afterwards" are `serve_of`'s, which `lent::serve` promises octet for octet (`ServesLent`)
unfoldable pub LentRoundTrip : Type 0
LentRoundTrip =
    (f : List ℕ) (g : Ledger) (ls : List Lease) (room : List ℕ) → Octets f → (read_lent f g ls).refusal ≡ 0 → length f ≤ length room
    → (lent_written (after_file f g ls) (length room) ≡ Ok (length f))
    × (lent_room (after_file f g ls) room ≡ f ++ drop (length f) room)

-- and the other way: what the writer writes of any ledger, records and names is read back as that ledger, those records and those names. `Typed` is what the types of
-- the records say of their numbers and arrays, `Octets` that of the names, as of all that code has
unfoldable pub LentWriteRead : Type 0
LentWriteRead =
    (l : Lent) (room : List ℕ) (g : Ledger) (ls : List Lease) → Typed l.ledger.state (table_from l.leases) l.ledger.memory → Octets l.names → length ls ≡ 128 → refusal_number (lent_written l (length room)) ≡ 0
    → (read_lent (take (length_written (lent_written l (length room))) (lent_room l room)) g ls ≡ record { refusal = 0; ledger = l.ledger; leases = l.leases })
    × (names_of (take (length_written (lent_written l (length room))) (lent_room l room)) ≡ l.names)

-- ---- after any list of calls on a sound book the writer refuses nothing in a room for the largest file: neither 22 nor 23 can occur
unfoldable pub LentWritten : Type 0
LentWritten = (l : Lent) → SoundLent l → (cs : List Call) (n : ℕ) → longest_file ≤ n → refusal_number (lent_written (run_lent l cs) n) ≡ 0

-- so after any list of calls on an accepted file, read into any lent ledger and records
unfoldable pub FileWritten : Type 0
FileWritten =
    (f : List ℕ) (g : Ledger) (ls : List Lease) (cs : List Call) (n : ℕ) → (read_lent f g ls).refusal ≡ 0 → longest_file ≤ n
    → refusal_number (lent_written (run_lent (after_file f g ls) cs) n) ≡ 0

-- ---- and every reply to such a call is read back as one of document 01's: an accepted file's leases are `Narrow`, and calls keep them so
unfoldable pub FileReads : Type 0
FileReads =
    (f : List ℕ) (g : Ledger) (ls : List Lease) (cs : List Call) (c : Call) → (read_lent f g ls).refusal ≡ 0
    → (served (run_lent (after_file f g ls) cs) c).outcome ≡ 0 → ReadAs (served (run_lent (after_file f g ls) cs) c).reply
