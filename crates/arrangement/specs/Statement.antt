-- Statement: document 02, W-209: "From sound books equal but for that order, the new arrangement and the old are proved to give the same outcome and reply for
-- every datagram, address, time and room, and again such books". The old arrangement keeps records by identifier, the new by ending.
use Rattle.std.specs.Prelude.{ℕ, true, List, map, ◌≡◌, length}
use Rattle.lists.specs.Arranged.{arranged}
use Rattle.lists.specs.Reordered.{Reordered}
use Rattle.state.specs.Book.{Book, Order, by_ending, by_identifier, changed_to, leases_of, table_of}
use Rattle.admission.specs.Tests.{own_of}
use Rattle.server.specs.Serve.{Answer, Call, serve_of}
use Rattle.state_file.specs.StateFile.{octets_as, octets_of}
use Rattle.arrangement.specs.Arrangement.{book_by, run_by, serve_by, told_by}

-- a sound book by an order, with the eight tenants' records and releases that every book has
pub record SoundBy (o : Order) (b : Book) : Type 0 where
  pub tenants : length b.table.tenants ≡ 8
  pub memory : length b.memory.releases ≡ 8
  pub sound : book_by o b ≡ true

-- "equal but for that order": settings and clock, names, what is remembered with the board, and each tenant's records, the same ones in whichever order
pub record Alike (x y : Book) : Type 0 where
  pub state : x.state ≡ y.state
  pub names : x.names ≡ y.names
  pub memory : x.memory ≡ y.memory
  pub records : (g : ℕ) → Reordered (own_of x.table g) (own_of y.table g)

-- a book in the old arrangement and one in the new, equal but for that order
pub record Pair (x y : Book) : Type 0 where
  pub old : SoundBy by_identifier x
  pub new : SoundBy by_ending y
  pub alike : Alike x y

-- the book with each tenant's records arranged by an order
abbrev pub arranged_book : Order → Book → Book
arranged_book o b = changed_to b b.state (table_of (map (arranged o) (leases_of b.table))) b.memory

-- every sound book, of the new arrangement and of the old, is one of such a pair
pub record EveryBook (b : Book) : Type 0 where
  pub old : SoundBy by_ending b → Pair (arranged_book by_identifier b) b
  pub new : SoundBy by_identifier b → Pair b (arranged_book by_ending b)

-- "The campus file keeps its own order": both have one file, that of the old book's records as they stand
unfoldable pub SameFile : Type 0
SameFile = (x y : Book) → Pair x y → octets_as x ≡ octets_of y

-- by ending it is the call of the library
unfoldable pub NewIsTheCall : Type 0
NewIsTheCall = (b : Book) (c : Call) → serve_by by_ending b c ≡ serve_of b c

-- "the same outcome", its offset too, "and reply", "and again such books". Not the count of records that were read, which goes by the order: "W-209's equality leaves
-- it out" (W-210)
pub record SameAnswer (x y : Answer) : Type 0 where
  pub outcome : x.outcome ≡ y.outcome
  pub offset : x.offset ≡ y.offset
  pub reply : x.reply ≡ y.reply
  pub books : Pair x.book y.book

-- one call: "every datagram, address, time and room"
unfoldable pub SameService : Type 0
SameService = (x y : Book) → Pair x y → (c : Call) → SameAnswer (serve_by by_identifier x c) (serve_by by_ending y c)

-- so any list of calls: callers are told the same, and the books afterwards are such books
pub record SameRun (x y : Book) (cs : List Call) : Type 0 where
  pub told : told_by by_identifier x cs ≡ told_by by_ending y cs
  pub books : Pair (run_by by_identifier x cs) (run_by by_ending y cs)

unfoldable pub SameRuns : Type 0
SameRuns = (x y : Book) → Pair x y → (cs : List Call) → SameRun x y cs
