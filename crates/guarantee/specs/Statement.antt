-- Statement: what the server guarantees over any list of calls: demand 3 as a single claim about the list, and the occupancy board. What each call guarantees is `call_guarantee`'s, and of
-- an OFFER `offer_guarantee`'s. The buyer's sentences, and those of document 01's "Demand 3 in detail", are quoted beside what says them; '"lease" in demands 1 and 3 .. reads "lease or
-- hold"' (document 02, W-205), so that each sentence on leases is one on records. A house is a tenant here, its share a reserve; tenants count from 0, a
-- lease's scope from 1.
use Rattle.std.specs.Prelude.{ℕ, ◌+◌, ◌-◌, ◌≤◌, ◌<◌, min, ◌≡◌, true, false, List, [], ◌∷◌, map, length, Option}
use Rattle.lists.specs.Filter.{filter_by}
use Rattle.address_set.specs.AddressSet.{offsets}
use Rattle.occupancy.specs.Board.{entry_at, held_in, no_entry, scope_board_at}
use Rattle.message.specs.declared.Fields.{Fields}
use Rattle.message.specs.Read.{read_of}
use Rattle.message.specs.Values.{fields_of}
use Rattle.reply.specs.declared.Terms.{Terms}
use Rattle.reply.specs.Reply.{least_room, lease_ack_of}
use Rattle.reply.specs.Ranges.{addresses_in}
use Rattle.state.specs.declared.Lease.{Lease}
use Rattle.state.specs.declared.LeaseTable.{LeaseTable}
use Rattle.state.specs.declared.Scope.{Scope}
use Rattle.state.specs.declared.State.{State}
use Rattle.state.specs.declared.Release.{Release}
use Rattle.state.specs.Book.{Book, advanced, id_of, in_scope, insert_of, laid_releases, lease_with, leases_of, put_releases, releases_at, remembered, remove_of, scope_at, limit_at}
use Rattle.state.specs.Edit.{forget_of}
use Rattle.state.specs.Board.{board_of, is_on}
use Rattle.releases.specs.Whole.{book_b}
use Rattle.soundness.specs.Sound.{holding, tenants_in}
use Rattle.allocation.specs.declared.Ask.{Ask}
use Rattle.allocation.specs.declared.Grant.{Grant}
use Rattle.allocation.specs.Rule.{grant_of, unused_reserve}
use Rattle.proposal.specs.Proposals.{horizon, default_lease, length_of, meets, start_of, latest_end}
use Rattle.admission.specs.Tests.{error1_of, error2_of, is_held, own_of, recorded_of, resends, scope_in, scope_place, found_of}
use Rattle.server.specs.Serve.{Answer, Call, head_of, serve_of, tenant_of}

-- ---- the list of calls: "any number of server calls, or none: DISCOVER, REQUEST, RENEW, RELEASE, GETINFO and any other octets, from any address, with any
-- time and room" (`Call`)
-- "The first gets that book, each later one the book as the one before left it, and nobody else writes it meanwhile"; "Only the book passes on"; "that is the book the rules above give" (`serve_of`)
unfoldable pub run : Book → List Call → Book
run b [] = b
run b (c ∷ cs) = run (serve_of b c).book cs

-- ---- books
-- "Sound", its names, its releases and its board too (document 02, W-201, W-202 and W-207), with the eight tenants' records and releases that every book has
pub record SoundBook (b : Book) : Type 0 where
  pub tenants : length b.table.tenants ≡ 8
  pub memory : length b.memory.releases ≡ 8
  pub sound : book_b b ≡ true

-- "no house holds more addresses in a scope than its limit": tenant g, the scope at place k, counted from 0. "It counts holdings from the leases, never from
-- a kept total" (`holding`)
unfoldable pub WithinLimits : Book → Type 0
WithinLimits b = (k g : ℕ) → k < b.state.scope_count → g < b.state.tenant_count → holding b.table (k + 1) g ≤ limit_at (scope_at b.state k) g

-- ---- the next call c on a book b
-- "Its period, D and the records left are taken once its call has set the clock and dropped ended leases"
abbrev pub book_at : Book → Call → Book
book_at b c = advanced b c.time

abbrev pub state_at : Book → Call → State
state_at b c = (book_at b c).state

abbrev pub table_at : Book → Call → LeaseTable
table_at b c = (book_at b c).table

-- the tenant of the client's address, and its leases
abbrev pub tenant_for : Book → Call → ℕ
tenant_for b c = tenant_of (state_at b c) c.client

abbrev pub own_for : Book → Call → List Lease
own_for b c = own_of (table_at b c) (tenant_for b c)

-- what is remembered of its releases
abbrev pub releases_for : Book → Call → List Release
releases_for b c = remembered (releases_at b.memory (tenant_for b c))

-- what the datagram says
abbrev pub says_of : Book → Call → Fields
says_of b c = fields_of c.datagram (state_at b c).server (read_of c.datagram).message

-- the record of the datagram's identifier, where there is one, and an unused one where there is none; and that it is no hold
abbrev pub found_for : Book → Call → Option Lease
found_for b c = found_of (own_for b c) (says_of b c)

abbrev pub record_for : Book → Call → Lease
record_for b c = recorded_of (own_for b c) (says_of b c)

abbrev pub NoHold : Book → Call → Type 0
NoHold b c = is_held (found_for b c) ≡ false

-- the scope's place, and the scope
abbrev pub place_for : Book → Call → ℕ
place_for b c = scope_place (state_at b c) (scope_in (says_of b c))

abbrev pub scope_for : Book → Call → Scope
scope_for b c = scope_at (state_at b c) (place_for b c)

-- "Its period": "start is Start Time or else the clock, raised to the clock if earlier. Length is Lease Time or else 3,600, cut to the
-- longest lease"
abbrev pub start_for : Book → Call → ℕ
start_for b c = start_of (says_of b c) (state_at b c).clock (state_at b c).clock

abbrev pub end_for : Book → Call → ℕ
end_for b c = start_for b c + length_of (says_of b c) default_lease

abbrev pub ask_for : Book → Call → Ask
ask_for b c = record { scope = place_for b c + 1; tenant = tenant_for b c; from = start_for b c; to = end_for b c; desired = (says_of b c).counts.desired }

-- "unused share is share minus D, or 0"
abbrev pub unused_for : Book → Call → ℕ
unused_for b c = unused_reserve (scope_for b c) (leases_of (table_at b c)) (ask_for b c)

-- the grant rule's number k and addresses
abbrev pub grant_for : Book → Call → Grant
grant_for b c = grant_of (scope_for b c) (tenants_in (state_at b c)) (leases_of (table_at b c)) (ask_for b c)

-- ---- the calls that have to be granted
-- "a new REQUEST that passes every check before error 0, its period inside the horizon and the 32-bit clock, a lease record of its house's own left"
pub record NewRequest (b : Book) (c : Call) : Type 0 where
  -- "the checks before error 0 are discards 1 to 7 and errors 1 to 3". Discard 1 is no premise: the book is sound. Not discard 2, "reply room below 512"
  pub room : least_room ≤ c.room
  -- not discard 3, "client address in no house"
  pub house : tenant_for b c < tenants_in (state_at b c)
  -- not discards 4, 5 and 6
  pub read : (read_of c.datagram).discard ≡ 0
  -- a REQUEST, and not discard 7
  pub request : (says_of b c).kind ≡ 3
  pub ours : (says_of b c).ours ≡ true
  -- "A REQUEST is new if it is no Resend"
  pub new : resends (says_of b c) (record_for b c) ≡ false
  -- "The next REQUEST in demand 3 is one whose identifier has no hold" (document 02, W-205)
  pub free : NoHold b c
  -- not errors 1 and 2; error 3 is about RENEW and RELEASE
  pub error1 : error1_of (state_at b c) (says_of b c) (found_for b c) ≡ false
  pub error2 : error2_of (state_at b c) (says_of b c) ≡ false
  -- "Inside means start at most clock plus horizon, end at most 4,294,967,295"
  pub soon : start_for b c ≤ (state_at b c).clock + horizon
  pub fits : end_for b c ≤ latest_end
  -- "and its minimum and latest start can be met" (document 02, W-203)
  pub met : meets (says_of b c) (start_for b c) (length_of (says_of b c) default_lease) ≡ true
  -- of the house's 16 records, in which its holds stand too, one is left
  pub left : length (own_for b c) < 16
  -- "If the least number it accepts is no more than its house's unused share"
  pub least : (says_of b c).counts.least ≤ unused_for b c

-- ---- "Granted with k means"
-- "of that house, identifier, scope and period, on just these addresses", with a type and the transaction id
abbrev pub lease_of_type : ℕ → Book → Call → Lease
lease_of_type kind b c = lease_with (place_for b c + 1) (says_of b c).id.len (says_of b c).id.octets kind (says_of b c).xid (start_for b c) (end_for b c) (grant_for b c).addresses

-- "the lease that REQUEST records": "what it is granted is a lease, not a hold" (document 02, W-205)
abbrev pub lease_for : Book → Call → Lease
lease_for b c = lease_of_type 3 b c

-- what the ACK, or the OFFER, says: its Ranges are those of the grant's addresses
abbrev pub terms_for : Book → Call → Terms
terms_for b c = record {
  length = end_for b c - start_for b c;
  start = start_for b c;
  scope = (scope_for b c).lowest;
  addresses = (grant_for b c).addresses;
  clock = (state_at b c).clock;
}

pub record Granted (b : Book) (c : Call) (a : Answer) : Type 0 where
  -- "the outcome is 0"
  pub outcome : a.outcome ≡ 0
  -- "k is the grant": "with at least the smaller of the number desired and that unused share"
  pub enough : min (says_of b c).counts.desired (unused_for b c) ≤ (grant_for b c).number
  -- "its addresses are those of the grant rule" (`grant_for`): there are just k
  pub exact : length (offsets (grant_for b c).addresses) ≡ (grant_for b c).number
  -- "the reply is an ACK": this one, octet for octet
  pub reply : a.reply ≡ lease_ack_of (head_of (state_at b c) (says_of b c)) (terms_for b c)
  -- "whose Ranges name just these k addresses": option 10, decoded from the reply's octets, names the scope's lowest address + offset for each address
  -- granted, and no other (a sound pool never wraps)
  pub names : addresses_in a.reply ≡ map (λ o. (scope_for b c).lowest + o) (offsets (grant_for b c).addresses)
  -- "the book afterwards has every other live lease unchanged", and every hold: settings and clock, the other tenants' leases
  pub state : a.book.state ≡ state_at b c
  pub others : (g : ℕ) → (g ≡ tenant_for b c → ⊥) → own_of a.book.table g ≡ own_of (table_at b c) g
  -- and the names for the scopes (document 02, W-201)
  pub titles : a.book.names ≡ b.names
  -- "A new lease on the identifier forgets it" (document 02, W-202): no other release is forgotten, and no new one is remembered
  pub forgets : a.book.memory.releases ≡ (put_releases b.memory (tenant_for b c) (laid_releases (forget_of (id_of (lease_for b c)) (releases_for b c)))).releases
  -- and the board is what these leases say (document 02, W-207)
  pub board : a.book.memory.board ≡ board_of (leases_of a.book.table)
  -- "and the lease that REQUEST records": it now stands among the tenant's own
  pub own : own_of a.book.table (tenant_for b c) ≡ insert_of (lease_for b c) (own_for b c)
  -- and without it they are as they were
  pub unchanged : remove_of (id_of (lease_for b c)) (own_of a.book.table (tenant_for b c)) ≡ own_for b c

-- ---- demand 3
-- of the book after a list of calls
pub record AfterList (b : Book) : Type 0 where
  -- "After the list the book is sound"
  pub sound : SoundBook b
  -- "and no house holds more addresses in a scope than its limit"
  pub limits : WithinLimits b
  -- "Let the next datagram be a new REQUEST ..: it is granted, .., whatever the other houses sent"
  pub next : (c : Call) → NewRequest b c → Granted b c (serve_of b c)

-- "Take every sound book and every list of datagrams, answered or discarded, whatever their addresses, times and reply rooms"; "It is a single claim about the
-- list, not one for each call"
unfoldable pub Demand3 : Type 0
Demand3 = (b : Book) → SoundBook b → (cs : List Call) → AfterList (run b cs)

-- ---- the occupancy board (document 02, W-207)
-- "After any call on a sound book it equals what the leases say": after any list of them
unfoldable pub BoardAgrees : Type 0
BoardAgrees = (b : Book) → SoundBook b → (cs : List Call) → (run b cs).memory.board ≡ board_of (leases_of (run b cs).table)

-- "A lease added or removed may alter only the entries of its addresses and its house's holding in its scope": of scope k + 1
pub record BoardKept (b : Book) (a : Answer) : Type 0 where
  -- an offset on which no house's lease was added or removed keeps its entry
  pub entries : (k x : ℕ) → k < 4 → x < 64 → ((g : ℕ) → filter_by (is_on (k + 1) x) (own_of a.book.table g) ≡ filter_by (is_on (k + 1) x) (own_of b.table g))
      → entry_at (scope_board_at a.book.memory.board k) x ≡ entry_at (scope_board_at b.memory.board k) x
  -- and a house of which none was in the scope keeps its holding there
  pub holdings : (k g : ℕ) → k < 4 → g < 8 → filter_by (in_scope (k + 1)) (own_of a.book.table g) ≡ filter_by (in_scope (k + 1)) (own_of b.table g)
      → held_in (scope_board_at a.book.memory.board k) g ≡ held_in (scope_board_at b.memory.board k) g

-- of one lease, on any board, it is `AltersOnly` of `occupancy`
unfoldable pub BoardStays : Type 0
BoardStays = (b : Book) → SoundBook b → (c : Call) → BoardKept b (serve_of b c)

-- what is past a scope's size, and past the last scope, whose size is 0, has no owner and no lease, and nothing is held there
pub record ZeroPast (b : Book) : Type 0 where
  pub entries : (k x : ℕ) → k < 4 → x < 64 → (scope_at b.state k).size ≤ x → entry_at (scope_board_at b.memory.board k) x ≡ no_entry
  pub holdings : (k g : ℕ) → k < 4 → g < 8 → b.state.scope_count ≤ k → held_in (scope_board_at b.memory.board k) g ≡ 0

unfoldable pub BoardZero : Type 0
BoardZero = (b : Book) → SoundBook b → ZeroPast b
