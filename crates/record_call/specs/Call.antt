-- Definitions: the call on a lent ledger and lent lease records: what it answers, and the ledger and the records afterwards.
use Rattle.std.specs.Prelude.{ℕ, ◌<◌, ◌≡◌, List, [], length}
use Rattle.lists.specs.Pick.{pick}
use Rattle.reply.specs.Reply.{least_room}
use Rattle.state.specs.declared.Lease.{Lease}
use Rattle.state.specs.declared.Ledger.{Ledger}
use Rattle.server.specs.declared.Outcome.{Outcome}
use Rattle.server.specs.Serve.{Answer, Call, Said, Tells, serve_of}
use Rattle.record_call.specs.declared.ServedRecords.{ServedRecords}
use Rattle.records.specs.Records.{records_of}
use Rattle.records.specs.Lent.{book_from, is128}
use Rattle.record_verdict.specs.Verdict.{LentJudgement, ledger_of}

pub record LentAnswer : Type 0 where
  pub outcome : ℕ
  pub offset : ℕ
  pub count : ℕ
  pub reply : List ℕ
  pub ledger : Ledger
  pub leases : List Lease

-- what of it the caller is told
abbrev pub lent_said : LentAnswer → Said
lent_said a = record { outcome = a.outcome; offset = a.offset; count = a.count; reply = a.reply }

-- an answer with its book as ledger and records
abbrev pub lent_answer : Answer → LentAnswer
lent_answer a = record { outcome = a.outcome; offset = a.offset; count = a.count; reply = a.reply; ledger = ledger_of a.book; leases = records_of a.book.table }

-- on records of a slice that has n; discard 1 changes nothing
unfoldable pub serve_with : ℕ → Ledger → List Lease → List ℕ → Call → LentAnswer
serve_with n g ls names c = pick (is128 n) (lent_answer (serve_of (book_from g ls names) c)) (record { outcome = 1; offset = 0; count = 0; reply = []; ledger = g; leases = ls })

abbrev pub serve_lent : Ledger → List Lease → List ℕ → Call → LentAnswer
serve_lent g ls names c = serve_with (length ls) g ls names c

-- what a function on 128 records by value promises: what is told, the clock, what is remembered and every record
pub record ServesRecords (a : LentAnswer) (before after : List ℕ) (r : ServedRecords) : Type 0 where
  pub tells : Tells (lent_said a) before after r.outcome
  pub clock : r.clock ≡ a.ledger.state.clock
  pub memory : r.memory ≡ a.ledger.memory
  pub leases : r.records.leases ≡ a.leases
  pub long : length r.records.leases ≡ 128

-- where there is no room for a reply, which is left as it was
abbrev pub ServesShort : ℕ → Ledger → List Lease → List ℕ → ServedRecords → Type 0
ServesShort n g ls names r = (c : Call) (room : List ℕ) → c.room < least_room → ServesRecords (serve_with n g ls names c) room room r

-- what the call promises: what is told, the ledger and every lease record
pub record ServesLent (a : LentAnswer) (g : Ledger) (ls : List Lease) (before after : List ℕ) (r : Outcome) : Type 0 where
  pub tells : Tells (lent_said a) before after r
  pub ledger : g ≡ a.ledger
  pub leases : ls ≡ a.leases

-- the first half's ledger and records, and what the second tells
abbrev pub lent_both : LentJudgement → Said → LentAnswer
lent_both j w = record { outcome = w.outcome; offset = w.offset; count = w.count; reply = w.reply; ledger = j.ledger; leases = j.leases }
