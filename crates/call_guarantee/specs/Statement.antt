-- Statement: demand 1, about each call: it ends in a reply or a numbered discard, and what it leaves. The buyer's sentences are quoted beside what says them; '"lease" in demands 1 and 3 ..
-- reads "lease or hold"' (document 02, W-205), so that each sentence on leases is one on records. What a call's book is stands in Statement.antt of `guarantee`.
use Rattle.std.specs.Prelude.{ℕ, ◌≤◌, ◌<◌, ◌^◌, ◌≡◌, true, false, not, List, [], ◌∷◌, eqb, get_or, length}
use Rattle.lists.specs.All.{All}
use Rattle.lists.specs.Filter.{filter_by, is_in}
use Rattle.message.specs.Read.{longest_datagram, read_of}
use Rattle.message.specs.Walk.{walk_of}
use Rattle.message.specs.declared.Stage.TheVariants.{Done}
use Rattle.reply.specs.Reply.{least_room}
use Rattle.state.specs.declared.Lease.{Lease}
use Rattle.state.specs.declared.LeaseTable.{LeaseTable}
use Rattle.state.specs.Book.{Book, live_of, named}
use Rattle.releases.specs.Whole.{board_good, memory_good, names_good}
use Rattle.admission.specs.Tests.{own_of}
use Rattle.server.specs.Serve.{Answer, Call, serve_of}
use Rattle.guarantee.specs.Statement.{run, book_at}

-- ---- demand 1
-- octets with the type of an OFFER, an ACK or a NAK, header and End at least, that fit any room that is not too short
pub record IsReply (r : List ℕ) : Type 0 where
  pub some : 12 ≤ length r
  pub short : length r ≤ least_room
  pub type : is_in (get_or r 1 0) (2 ∷ 5 ∷ 6 ∷ []) ≡ true

-- the codes of document 01's options, but for 12, which each reply has if the client sent it
abbrev pub option_codes : List ℕ
option_codes = 1 ∷ 2 ∷ 3 ∷ 4 ∷ 5 ∷ 6 ∷ 7 ∷ 8 ∷ 9 ∷ 10 ∷ 11 ∷ 13 ∷ 14 ∷ 15 ∷ 16 ∷ []

-- those of them that the message reader finds in some octets, rising
unfoldable pub codes_in : List ℕ → List ℕ
codes_in r = filter_by (λ c. not (eqb (get_or (walk_of r).places c 0) 0)) option_codes

-- the replies of document 01: type, then codes. OFFER; the ACK to REQUEST and RENEW; the ACK to RELEASE; that to GETINFO with 9, with 11, with both; NAK
abbrev pub replies : List (List ℕ)
replies =
    (2 ∷ 1 ∷ 2 ∷ 3 ∷ 4 ∷ 6 ∷ 10 ∷ 11 ∷ [])
    ∷ (5 ∷ 1 ∷ 2 ∷ 3 ∷ 4 ∷ 6 ∷ 10 ∷ 11 ∷ [])
    ∷ (5 ∷ 2 ∷ 3 ∷ [])
    ∷ (5 ∷ 2 ∷ 3 ∷ 9 ∷ [])
    ∷ (5 ∷ 2 ∷ 3 ∷ 11 ∷ [])
    ∷ (5 ∷ 2 ∷ 3 ∷ 9 ∷ 11 ∷ [])
    ∷ (6 ∷ 2 ∷ 3 ∷ 16 ∷ [])
    ∷ []

-- read back as one of them: what the reader of options finds (that test 4 refuses a server's types is of no matter here). The values are those of `serve_of`
pub record ReadAs (r : List ℕ) : Type 0 where
  -- the reader's walk over its options, each of a right length and none twice, comes to End in its last four octets
  pub whole : (walk_of r).stage ≡ Done
  pub one : (k : ℕ) × ((k < length replies) × ((get_or r 1 0 ∷ codes_in r) ≡ get_or replies k []))

-- a lease's addresses are a set of 64 bits, as its type says of every book that code has (a larger number may have none of the 64 offsets, so
-- that its Ranges would be empty)
unfoldable pub Narrow : Book → Type 0
Narrow b = (g : ℕ) → All (λ l. l.addresses < 2 ^ 64) (own_of b.table g)

-- tenant g's leases under identifier i that are live at a clock
abbrev pub live_under : ℕ → LeaseTable → ℕ → List ℕ → List Lease
live_under clock t g i = filter_by (named i) (live_of clock (own_of t g))

pub record Answered (b : Book) (c : Call) (a : Answer) : Type 0 where
  -- "the server ends with a reply or a numbered discard"
  pub outcome : a.outcome ≤ 8
  pub reply : a.outcome ≡ 0 → IsReply a.reply
  -- the reader reads it back as one of document 01's
  pub reads : Narrow b → a.outcome ≡ 0 → ReadAs a.reply
  -- "A discard writes no reply octet"
  pub silent : (a.outcome ≡ 0 → ⊥) → a.reply ≡ []
  -- "and changes no lease live at the clock it leaves in the book"
  pub leases : (a.outcome ≡ 0 → ⊥) → (g : ℕ) (i : List ℕ) → live_under a.book.state.clock a.book.table g i ≡ live_under a.book.state.clock b.table g i
  -- bad names and bad releases make the book unsound (document 02, W-201 and W-202): "bad names lent 1", "lent, both are 1"; and no call changes the names
  pub bad_names : names_good b ≡ false → a.outcome ≡ 1
  pub bad_releases : memory_good b ≡ false → a.outcome ≡ 1
  -- "a book whose board disagrees is unsound, 1" (W-207)
  pub bad_board : board_good b ≡ false → a.outcome ≡ 1
  pub names : a.book.names ≡ b.names
  -- "Discards 1 and 2 change nothing"
  pub untouched : a.outcome ≡ 1 → a.book ≡ b
  pub untouched_too : a.outcome ≡ 2 → a.book ≡ b
  -- "All other calls first set the book's clock .. and drop leases ..; 3 to 8 do no more"
  pub advances : 3 ≤ a.outcome → a.book ≡ book_at b c
  -- document 02, W-206, of the offset that the reader of options reports (which it is: `FaultsRight` of `message_laws`): "Discard 5 carries it"
  pub carries : a.outcome ≡ 5 → a.offset ≡ (read_of c.datagram).fault
  -- "every other outcome 0"
  pub carries_none : (a.outcome ≡ 5 → ⊥) → a.offset ≡ 0
  -- so it is "the offset in the datagram", or its length, and fits wherever a datagram's length does
  pub inside : (a.offset ≤ length c.datagram) × (a.offset ≤ longest_datagram)
  -- document 02, W-210: the count is "the sum over its lookups", of which there are at most two, each of "at most 16" records
  pub few_read : a.count ≤ 32
  -- and no test before the decision makes one: discards 1 to 7 count nothing
  pub none_read : 1 ≤ a.outcome → a.outcome ≤ 7 → a.count ≡ 0

-- "For every datagram, clock, book and reply room". "It faults on none and checks all it is handed": the call is proved safe and to end, and asks for nothing
-- (`lent::serve` has no `requires`)
unfoldable pub Demand1 : Type 0
Demand1 = (b : Book) (c : Call) → Answered b c (serve_of b c)

-- ---- over a list of calls
-- the names pass on unchanged through every list of calls
unfoldable pub NamesStay : Type 0
NamesStay = (b : Book) (cs : List Call) → (run b cs).names ≡ b.names

-- calls keep the 64 bits, whatever the book
unfoldable pub StaysNarrow : Type 0
StaysNarrow = (b : Book) → Narrow b → (cs : List Call) → Narrow (run b cs)
