-- Definitions: what is stated of the call in two halves (document 02, W-208): "the first gives the verdict and the book afterwards" (`judge_of`), "the second writes
-- the reply from these" (`write_of`).
use Rattle.std.specs.Prelude.{ℕ, ◌≤◌, ◌<◌, ◌≡◌, List, ltb, drop, length}
use Rattle.lists.specs.Pick.{pick}
use Rattle.reply.specs.Reply.{least_room}
use Rattle.state.specs.declared.State.{State}
use Rattle.state.specs.Book.{Book}
use Rattle.releases.specs.Whole.{book_b}
use Rattle.server.specs.declared.Outcome.{Outcome}
use Rattle.server.specs.declared.Ruling.{Ruling}
use Rattle.server.specs.Serve.{Answer, Call, Tells, discarded, serve_of}
use Rattle.server.specs.Halves.{Judgement, both, judge_of, silent, write_of}

-- what the first half gives for a call
abbrev pub judged_for : Book → Call → Judgement
judged_for b c = judge_of b c.client c.time c.datagram

-- the second half after it, on the verdict and the book afterwards, with the names that were lent to both
abbrev pub in_halves : Book → Call → Answer
in_halves b c = both (judged_for b c) (write_of (judged_for b c).ruling (judged_for b c).book.state b.names c.room)

-- "The old call stays, made of the two after its own tests 1 and 2"
unfoldable pub ServeHalves : Type 0
ServeHalves = (b : Book) (c : Call) → serve_of b c ≡ pick (book_b b) (pick (ltb c.room least_room) (discarded 2 b) (in_halves b c)) (discarded 1 b)

-- "the first gives the verdict and the book afterwards": in room enough the call tells the verdict's number, offset and count, and leaves that book
unfoldable pub VerdictTold : Type 0
VerdictTold =
    (b : Book) (c : Call) → least_room ≤ c.room
    → ((serve_of b c).outcome ≡ (judged_for b c).ruling.verdict.outcome) × (((serve_of b c).offset ≡ (judged_for b c).ruling.offset)
    × (((serve_of b c).count ≡ (judged_for b c).ruling.count) × ((serve_of b c).book ≡ (judged_for b c).book)))

-- its number is one of the table's
unfoldable pub JudgesNumbered : Type 0
JudgesNumbered = (b : Book) (client time : ℕ) (s : List ℕ) → (judge_of b client time s).ruling.verdict.outcome ≤ 8

-- "The first never gives discard 2"
unfoldable pub NeverShort : Type 0
NeverShort = (b : Book) (client time : ℕ) (s : List ℕ) → (judge_of b client time s).ruling.verdict.outcome ≡ 2 → ⊥

-- ---- the second, of whatever verdict and book
-- "writing into room below 512 is 2, tested first", and no octet is written
unfoldable pub WritesShort : Type 0
WritesShort = (r : Ruling) (s : State) (names : List ℕ) (room : ℕ) → room < least_room → write_of r s names room ≡ silent 2 0 0

-- "writing a discard returns it", with its offset and its count; "neither writes"
unfoldable pub WritesDiscard : Type 0
WritesDiscard =
    (r : Ruling) (s : State) (names : List ℕ) (room : ℕ) → least_room ≤ room → (r.verdict.outcome ≡ 0 → ⊥) → r.verdict.outcome ≤ 8
    → write_of r s names room ≡ silent r.verdict.outcome r.offset r.count

-- "For a verdict and book that the first didn't give together the second may answer anything, without a fault" (`server::write` has no `requires`) "or an octet
-- past the 512th". Of a verdict there is asked only that its identifier is the array of 32 octets that its type has
unfoldable pub WritesWithin : Type 0
WritesWithin =
    (r : Ruling) → length r.id.octets ≡ 32 → (s : State) (names : List ℕ) (room : ℕ)
    → ((write_of r s names room).outcome ≤ 8) × (length (write_of r s names room).reply ≤ least_room)

-- so that, whatever is lent as the reply room, every octet past the 512th is as it was
unfoldable pub LeavesRest : Type 0
LeavesRest =
    (r : Ruling) → length r.id.octets ≡ 32 → (s : State) (names before after : List ℕ) (room : ℕ) (x : Outcome)
    → Tells (write_of r s names room) before after x → drop least_room after ≡ drop least_room before
