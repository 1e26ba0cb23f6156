-- Definitions: the van's own server (document 02, W-211): its settings, the book that it starts from, the calls in its input, and what it prints. A house is a
-- tenant here, its share a reserve.
use Rattle.std.specs.Prelude.{ℕ, zero, suc, ◌+◌, ◌-◌, ◌≡◌, Bool, true, false, List, [], ◌∷◌, ◌++◌, Result, Ok, Err, eqb, ltb, drop, get_or, length, replicate, take}
use Rattle.lists.specs.Pick.{pick}
use Rattle.octets.specs.Octets.{at16, at32, Wrote}
use Rattle.reply.specs.Reply.{least_room}
use Rattle.state.specs.declared.ClientRange.{ClientRange}
use Rattle.state.specs.declared.Lease.{Lease}
use Rattle.state.specs.declared.Ledger.{Ledger}
use Rattle.state.specs.declared.Scope.{Scope}
use Rattle.state.specs.declared.State.{State}
use Rattle.state.specs.Book.{zero_lease, zero_scope}
use Rattle.releases.specs.Whole.{book_b}
use Rattle.server.specs.Serve.{Call}
use Rattle.state_file.specs.Records.{zero_range}
use Rattle.state_file.specs.StateFile.{zero_ledger, zero_memory}
use Rattle.records.specs.Lent.{LentReading, book_from, untouched}
use Rattle.record_call.specs.Call.{LentAnswer, serve_lent}
use Rattle.replay_text.specs.Replay.{outcome_line, refused_line}
use Rattle.owned.specs.declared.Owned.{Owned}
use Rattle.van_server.specs.declared.Refusal.{Refusal}
use Rattle.van_server.specs.declared.Refusal.TheVariants.{CutOff, Unsound}
use Rattle.van_server.specs.declared.Turn.{Turn}

-- ---- the settings: "server address, lowest and highest client address, lowest pool address, 4 octets each; size, TTL, 1 each"
abbrev pub settings_size : ℕ
settings_size = 18

-- "one house"
abbrev pub van_range : List ℕ → ClientRange
van_range o = record { low = at32 o 4; high = at32 o 8 }

-- "share and limit are the size"
unfoldable pub van_scope : List ℕ → Scope
van_scope o = record {
  lowest = at32 o 12;
  size = get_or o 16 0;
  ttl = get_or o 17 0;
  reserve = get_or o 16 0 ∷ replicate 7 0;
  limit = get_or o 16 0 ∷ replicate 7 0;
}

-- "and one scope", "at clock 0"
unfoldable pub van_state : List ℕ → State
van_state o = record {
  server = at32 o 0;
  clock = 0;
  tenant_count = 1;
  tenants = van_range o ∷ replicate 7 zero_range;
  scope_count = 1;
  scopes = van_scope o ∷ replicate 3 zero_scope;
}

-- ---- "an empty book": no lease, no release, nothing on the board
abbrev pub van_ledger : List ℕ → Ledger
van_ledger o = record { state = van_state o; memory = zero_memory }

abbrev pub no_records : List Lease
no_records = replicate 128 zero_lease

-- no names: of the one scope an empty list for the campus, and one for the house
abbrev pub van_names : List ℕ
van_names = 1 ∷ 0 ∷ 0 ∷ []

-- "`refused 21` for unsound settings; `refused 24` at cut-off settings", of which there is no book
unfoldable pub open_of : List ℕ → LentReading
open_of o =
    pick (ltb (length o) settings_size) (untouched 24 zero_ledger no_records)
    (pick (book_b (book_from (van_ledger o) no_records van_names)) (record { refusal = 0; ledger = van_ledger o; leases = no_records }) (untouched 21 zero_ledger no_records))

abbrev pub code_of : Refusal → ℕ
code_of CutOff = 24
code_of Unsound = 21

-- what is promised of the book that the van starts from: the refusal by its number, or the ledger and every lease record
abbrev pub Opens : LentReading → Result Owned Refusal → Type 0
Opens a (Ok o) = (a.refusal ≡ 0) × (o.ledger ≡ a.ledger) × (o.records.leases ≡ a.leases)
Opens a (Err e) = a.refusal ≡ code_of e

-- ---- the calls: "datagrams, each after its time(4), client address(4) and length(2)"
abbrev pub head_size : ℕ
head_size = 10

-- how many octets the first record of some takes: a head and, once that is there, the datagram that it tells of
unfoldable pub record_size : List ℕ → ℕ
record_size i = pick (ltb (length i) head_size) head_size (head_size + at16 i 8)

-- the call of a record of n octets. The room for the reply is no part of the input: it is enough
abbrev pub call_to : ℕ → List ℕ → Call
call_to n i = record { datagram = take (n - head_size) (drop head_size i); client = at32 i 4; time = at32 i 0; room = least_room }

abbrev pub call_in : List ℕ → Call
call_in i = call_to (record_size i) i

-- ---- what it prints: "a line for each: the outcome number and, for a reply, a blank and its octets in lower-case hex"
abbrev pub line_of : LentAnswer → List ℕ
line_of a = outcome_line a.outcome a.reply

-- of one record: whether there may be another, what is printed, and the book afterwards
pub record VanTurn : Type 0 where
  pub go : Bool
  pub line : List ℕ
  pub ledger : Ledger
  pub leases : List Lease

abbrev pub goes : LentAnswer → VanTurn
goes a = record { go = true; line = line_of a; ledger = a.ledger; leases = a.leases }

abbrev pub stops : List ℕ → Ledger → List Lease → VanTurn
stops xs g ls = record { go = false; line = xs; ledger = g; leases = ls }

-- on the octets that are still to come: none is the end; "`refused 24` at .. a cut-off record", in its head or in its datagram; else the call
unfoldable pub turn_of : Ledger → List Lease → List ℕ → VanTurn
turn_of g ls i =
    pick (eqb (length i) 0) (stops [] g ls)
    (pick (ltb (length i) (record_size i)) (stops (refused_line 24) g ls) (goes (serve_lent g ls van_names (call_in i))))

-- of all records, at most k: each on the book as the one before left it
unfoldable pub day_to : ℕ → Ledger → List Lease → List ℕ → List ℕ
day_to zero g ls i = []
day_to (suc k) g ls i =
    let t : VanTurn = turn_of g ls i in
    t.line ++ pick t.go (day_to k t.ledger t.leases (drop (record_size i) i)) []

-- each takes an octet at least, so that there are no more than octets
unfoldable pub day_of : Ledger → List Lease → List ℕ → List ℕ
day_of g ls i = day_to (suc (length i)) g ls i

-- of the whole input: the settings, and the records after them
unfoldable pub printed_of : List ℕ → List ℕ
printed_of i =
    let r : LentReading = open_of (take settings_size i) in
    pick (eqb r.refusal 0) (day_of r.ledger r.leases (drop settings_size i)) (refused_line r.refusal)

-- ---- what the function on one record promises: the line at the front of a buffer, the ledger and every lease record
pub record Turns (t : VanTurn) (before after : List ℕ) (r : Turn) : Type 0 where
  pub go : r.go ≡ t.go
  pub line : Wrote before 0 t.line after r.length
  pub ledger : r.owned.ledger ≡ t.ledger
  pub leases : r.owned.records.leases ≡ t.leases
