-- Definitions: the first half of a call (document 02, W-208) on a lent ledger and lent lease records: the verdict, and the ledger and the records afterwards.
use Rattle.std.specs.Prelude.{ℕ, ◌≡◌, true, List, length}
use Rattle.lists.specs.Pick.{pick}
use Rattle.state.specs.declared.Lease.{Lease}
use Rattle.state.specs.declared.Ledger.{Ledger}
use Rattle.state.specs.declared.Memory.{Memory}
use Rattle.state.specs.declared.State.{State}
use Rattle.state.specs.Book.{Book}
use Rattle.soundness.specs.declared.HeldTable.{HeldTable}
use Rattle.soundness.specs.Sound.{sound_b}
use Rattle.soundness.specs.Parts.{holdings_of}
use Rattle.server.specs.declared.Ruling.{Ruling}
use Rattle.server.specs.Halves.{Judgement, discard_ruling, judge_clock, judge_of}
use Rattle.record_verdict.specs.declared.JudgedRecords.{JudgedRecords}
use Rattle.records.specs.Records.{records_of, table_from}
use Rattle.records.specs.Lent.{book_from, is128}
use Rattle.record_survey.specs.Survey.{SoundFrom}

-- what of a book stands in the ledger
abbrev pub ledger_of : Book → Ledger
ledger_of b = record { state = b.state; memory = b.memory }

-- what a call has gathered of the settings and the records once it knows that the book is sound: what the tenants hold
pub record Gathered (s : State) (ls : List Lease) (held : HeldTable) : Type 0 where
  pub sound : sound_b s (table_from ls) ≡ true
  pub holdings : held ≡ holdings_of (table_from ls)

-- what the first gives: the verdict, and the book afterwards as ledger and records
pub record LentJudgement : Type 0 where
  pub ruling : Ruling
  pub ledger : Ledger
  pub leases : List Lease

abbrev pub lent_judgement : Judgement → LentJudgement
lent_judgement j = record { ruling = j.ruling; ledger = ledger_of j.book; leases = records_of j.book.table }

-- on records of a slice that has n, on a datagram s; discard 1 changes nothing, and there is no room to test
unfoldable pub judge_with : ℕ → Ledger → List Lease → List ℕ → ℕ → ℕ → List ℕ → LentJudgement
judge_with n g ls names client time s =
    pick (is128 n) (lent_judgement (judge_of (book_from g ls names) client time s)) (record { ruling = discard_ruling 1 0; ledger = g; leases = ls })

abbrev pub judge_lent : Ledger → List Lease → List ℕ → ℕ → ℕ → List ℕ → LentJudgement
judge_lent g ls names client time s = judge_with (length ls) g ls names client time s

-- what a function on 128 records by value promises: the verdict, the clock, what is remembered and every record
pub record JudgesRecords (a : LentJudgement) (r : JudgedRecords) : Type 0 where
  pub ruling : r.ruling ≡ a.ruling
  pub clock : r.clock ≡ a.ledger.state.clock
  pub memory : r.memory ≡ a.ledger.memory
  pub leases : r.records.leases ≡ a.leases
  pub long : length r.records.leases ≡ 128

-- from test 3 on, whatever names were lent
abbrev pub JudgesClock : State → Memory → List Lease → ℕ → List ℕ → JudgedRecords → Type 0
JudgesClock s m ls client d r = (names : List ℕ) → JudgesRecords (lent_judgement (judge_clock (book_from (record { state = s; memory = m }) ls names) client d)) r

-- where the book is sound, whatever names made it so
abbrev pub JudgesSound : Ledger → List Lease → ℕ → ℕ → List ℕ → JudgedRecords → Type 0
JudgesSound g ls client time d r = (names : List ℕ) → SoundFrom g ls names → JudgesRecords (judge_lent g ls names client time d) r

-- what the first half promises: the verdict, the ledger and every lease record. The second is `write_of`, of any verdict and any ledger's state
pub record JudgesLent (a : LentJudgement) (g : Ledger) (ls : List Lease) (r : Ruling) : Type 0 where
  pub ruling : r ≡ a.ruling
  pub ledger : g ≡ a.ledger
  pub leases : ls ≡ a.leases
