-- Definitions: the entry points on a lent ledger, document 01's record of clock and settings with what is remembered (document 02, W-202), and lent lease
-- records (document 01, "How it is to be built"): what each answers, and the ledger and the records afterwards; of the call this is in `record_verdict` and `record_call`. A house is a tenant here. A slice has "always 128" records; "another number makes the book unsound (1, 21 or 22)".
use Rattle.std.specs.Prelude.{ℕ, ◌≡◌, ⊤, Bool, List, Result, Ok, Err, eqb, ltb, length}
use Rattle.lists.specs.Pick.{pick}
use Rattle.state.specs.declared.Lease.{Lease}
use Rattle.state.specs.declared.LeaseTable.{LeaseTable}
use Rattle.state.specs.declared.Ledger.{Ledger}
use Rattle.state.specs.declared.Lookup.{Lookup}
use Rattle.state.specs.Book.{Book, insert_of, laid_out, lookup_of, no_lookup, put_at, remove_of}
use Rattle.admission.specs.Tests.{own_of}
use Rattle.server.specs.Serve.{book_of}
use Rattle.state_file.specs.declared.Loaded.{Loaded}
use Rattle.state_file.specs.declared.Refusal.{Refusal}
use Rattle.state_file.specs.declared.Refusal.TheVariants.{UnsoundBook, UnsoundFile}
use Rattle.state_file.specs.StateFile.{code_of, read_file, refusal_number, room_after, written_of}
use Rattle.records.specs.declared.ReadRecords.{ReadRecords}
use Rattle.records.specs.Records.{records_of, table_from}

-- whether there are 128
unfoldable pub is128 : ℕ → Bool
is128 n = eqb n 128

-- the book that a lent ledger (clock, settings and what is remembered), lent records and lent names are
abbrev pub book_from : Ledger → List Lease → List ℕ → Book
book_from g ls names = book_of g.state (table_from ls) g.memory names

-- ---- the reader
-- the number of a refusal or 0, and the ledger and the records afterwards
pub record LentReading : Type 0 where
  pub refusal : ℕ
  pub ledger : Ledger
  pub leases : List Lease

-- "either .. leaves the lent records untouched"
abbrev pub untouched : ℕ → Ledger → List Lease → LentReading
untouched n g ls = record { refusal = n; ledger = g; leases = ls }

-- the ledger of a file's book
abbrev pub ledger_from : Loaded → Ledger
ledger_from f = record { state = f.state; memory = f.memory }

-- what a file is for so many records: the form is tested before their number
unfoldable pub for_records : ℕ → Result Loaded Refusal → Result Loaded Refusal
for_records n (Ok f) = pick (is128 n) (Ok f) (Err UnsoundFile)
for_records n (Err e) = Err e

unfoldable pub read_over : Result Loaded Refusal → Ledger → List Lease → LentReading
read_over (Ok f) g ls = record { refusal = 0; ledger = ledger_from f; leases = records_of f.table }
read_over (Err e) g ls = untouched (code_of e) g ls

abbrev pub read_with : ℕ → Result Loaded Refusal → Ledger → List Lease → LentReading
read_with n r g ls = read_over (for_records n r) g ls

abbrev pub read_lent : List ℕ → Ledger → List Lease → LentReading
read_lent f g ls = read_with (length ls) (read_file f) g ls

-- what the reader by value promises: the refusal, or the ledger and 128 records
abbrev pub Reads : Result Loaded Refusal → Result ReadRecords Refusal → Type 0
Reads (Ok f) (Ok r) = (r.ledger ≡ ledger_from f) × (r.records.leases ≡ records_of f.table) × (length r.records.leases ≡ 128)
Reads (Err e) (Err k) = k ≡ e
Reads _ _ = ⊥

-- what the reader promises: the refusal, the ledger and every lease record, which a refusal leaves as they were
pub record ReadsLent (a : LentReading) (g : Ledger) (ls : List Lease) (r : Result ⊤ Refusal) : Type 0 where
  pub refusal : refusal_number r ≡ a.refusal
  pub ledger : g ≡ a.ledger
  pub leases : ls ≡ a.leases

-- ---- the writer
-- an unsound book, 22, before a short room, 23
unfoldable pub written_with : ℕ → Ledger → List Lease → List ℕ → ℕ → Result ℕ Refusal
written_with n g ls names room = pick (is128 n) (written_of (book_from g ls names) room) (Err UnsoundBook)

unfoldable pub room_with : ℕ → Ledger → List Lease → List ℕ → List ℕ → List ℕ
room_with n g ls names room = pick (is128 n) (room_after (book_from g ls names) room) room

abbrev pub written_lent : Ledger → List Lease → List ℕ → ℕ → Result ℕ Refusal
written_lent g ls names room = written_with (length ls) g ls names room

abbrev pub room_lent : Ledger → List Lease → List ℕ → List ℕ → List ℕ
room_lent g ls names room = room_with (length ls) g ls names room

-- ---- one record
-- the leases of tenant h, counted from 0, become p: records past them become unused
abbrev pub with_own : LeaseTable → ℕ → List Lease → List Lease
with_own t h p = records_of (put_at t h (laid_out p))

-- where an identifier stands among the leases of a tenant, counted from 0: at the first with that identifier, or not; and how many of the tenant's records were
-- compared (document 02, W-210). So it is not found of no tenant, none compared, nor of another number of records
unfoldable pub find_with : ℕ → ℕ → List ℕ → List Lease → Lookup
find_with n h i ls = pick (is128 n) (lookup_of i (own_of (table_from ls) h)) no_lookup

-- one lease more, after those before it in the order of records and ahead of the others, those of the same end and identifier too; a tenant whose
-- sixteen records are used, no tenant, and another number of records keep what they have
unfoldable pub insert_with : ℕ → ℕ → Lease → List Lease → List Lease
insert_with n h l ls =
    pick (is128 n) (pick (ltb h 8) (pick (ltb (length (own_of (table_from ls) h)) 16) (with_own (table_from ls) h (insert_of l (own_of (table_from ls) h))) ls) ls) ls

-- every lease of an identifier goes (a sound book has at most one), and those after it move up; no tenant, and another number of records, keep what
-- they have
unfoldable pub remove_with : ℕ → ℕ → List ℕ → List Lease → List Lease
remove_with n h i ls = pick (is128 n) (pick (ltb h 8) (with_own (table_from ls) h (remove_of i (own_of (table_from ls) h))) ls) ls

abbrev pub find_lent : ℕ → List ℕ → List Lease → Lookup
find_lent h i ls = find_with (length ls) h i ls

abbrev pub insert_lent : ℕ → Lease → List Lease → List Lease
insert_lent h l ls = insert_with (length ls) h l ls

abbrev pub remove_lent : ℕ → List ℕ → List Lease → List Lease
remove_lent h i ls = remove_with (length ls) h i ls
