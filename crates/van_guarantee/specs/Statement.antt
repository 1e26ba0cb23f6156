-- Statement: the van's theorem (document 02, W-211), over any list of calls from its empty book; and that what it prints goes by its settings and then record by record.
use Rattle.std.specs.Prelude.{ℕ, ◌+◌, ◌≤◌, ◌<◌, ◌≡◌, List, [], ◌++◌, map, eqb, drop, length}
use Rattle.lists.specs.Pick.{pick}
use Rattle.address_set.specs.AddressSet.{difference_of, offsets}
use Rattle.reply.specs.Ranges.{addresses_in}
use Rattle.state.specs.declared.Lease.{Lease}
use Rattle.state.specs.declared.Ledger.{Ledger}
use Rattle.state.specs.Book.{Book, leases_of}
use Rattle.allocation.specs.Rule.{busy_in, pool_of}
use Rattle.server.specs.Serve.{Answer, Call}
use Rattle.guarantee.specs.Statement.{Granted, NewRequest, end_for, grant_for, place_for, says_of, scope_for, start_for, table_at}
use Rattle.lent_guarantee.specs.Statement.{Lent, answer_of, lent_book, run_lent, served}
use Rattle.replay_text.specs.Replay.{refused_line}
use Rattle.van_server.specs.Van.{day_of, no_records, open_of, printed_of, record_size, settings_size, turn_of, van_ledger, van_names}

-- "the addresses that no lease or hold overlaps in its period": of the scope that a call asks for, as offsets. The records of a book are its leases and its holds
abbrev pub open_for : Book → Call → ℕ
open_for b c = difference_of (pool_of (scope_for b c)) (busy_in (place_for b c + 1) (start_for b c) (end_for b c) (leases_of (table_at b c)))

-- "gets just" these
pub record GetsAll (b : Book) (c : Call) (a : Answer) : Type 0 where
  -- demand 3's "Granted with k"
  pub granted : Granted b c a
  -- the grant's addresses are these,
  pub addresses : (grant_for b c).addresses ≡ open_for b c
  -- and the reply's Ranges, decoded from its octets, name just these
  pub names : addresses_in a.reply ≡ map (λ o. (scope_for b c).lowest + o) (offsets (open_for b c))

-- the van's book, with its names, that some settings open
abbrev pub van_start : List ℕ → Lent
van_start o = record { ledger = van_ledger o; leases = no_records; names = van_names }

-- and after a list of calls
abbrev pub van_after : List ℕ → List Call → Lent
van_after o cs = run_lent (van_start o) cs

-- "For the van, show under demand 3's premises that a REQUEST desiring the size or more gets just the addresses that no lease or hold overlaps in its period": for settings
-- that are not refused, after any list of calls (demand 3's own list), and on the program's records in particular
unfoldable pub VanGets : Type 0
VanGets =
    (o : List ℕ) → (open_of o).refusal ≡ 0 → (cs : List Call) (c : Call) → NewRequest (lent_book (van_after o cs)) c
    → (scope_for (lent_book (van_after o cs)) c).size ≤ (says_of (lent_book (van_after o cs)) c).counts.desired
    → GetsAll (lent_book (van_after o cs)) c (answer_of (van_after o cs).names (served (van_after o cs) c))

-- ---- what is printed goes record by record, as the program reads: of a book and the octets that are still to come, the turn of the first record (`van_server::turn_of`), and
-- then, where it goes on, what is printed for the others on the book that it left
unfoldable pub PrintsByRecord : Type 0
PrintsByRecord =
    (g : Ledger) (ls : List Lease) (i : List ℕ)
    → day_of g ls i ≡ (turn_of g ls i).line ++ pick (turn_of g ls i).go (day_of (turn_of g ls i).ledger (turn_of g ls i).leases (drop (record_size i) i)) []

-- ---- and the whole by the settings, which are read first: settings that are cut off, and others with what follows them
unfoldable pub PrintsCut : Type 0
PrintsCut = (i : List ℕ) → length i < settings_size → printed_of i ≡ refused_line 24

unfoldable pub PrintsSettings : Type 0
PrintsSettings =
    (o i : List ℕ) → length o ≡ settings_size
    → printed_of (o ++ i) ≡ pick (eqb (open_of o).refusal 0) (day_of (open_of o).ledger (open_of o).leases i) (refused_line (open_of o).refusal)
