-- Definitions: what is asked of the book that a call, a list of calls or the writer starts from, and what each function promises of its answer and of what was lent to it.
use Rattle.std.specs.Prelude.{ℕ, ◌≡◌, List, ◌++◌, drop, length}
use Rattle.octets.specs.Octets.{put}
use Rattle.owned.specs.declared.Owned.{Owned}
use Rattle.owned.specs.declared.OwnedCall.{OwnedCall}
use Rattle.record_call.specs.Call.{LentAnswer}
use Rattle.lent_guarantee.specs.Statement.{SoundLent}
use Rattle.call_list.specs.declared.Progress.{Progress}
use Rattle.call_list.specs.CallList.{answer_octets, Worked}

-- a book that is sound with the names lent beside it, as every call leaves it (demand 3)
abbrev pub OwnedSound : Owned → List ℕ → Type 0
OwnedSound o names = SoundLent (record { ledger = o.ledger; leases = o.records.leases; names = names })

-- a call's answer, written into a buffer from `to` on
pub record Answers (a : LentAnswer) (before : List ℕ) (to : ℕ) (after : List ℕ) (r : OwnedCall) : Type 0 where
  pub size : r.outcome.length ≡ length a.reply
  pub ledger : r.owned.ledger ≡ a.ledger
  pub leases : r.owned.records.leases ≡ a.leases
  pub buffer : after ≡ put before to (answer_octets a)

pub record Replays (a : Worked) (before after : List ℕ) (r : Progress) : Type 0 where
  pub number : r.number ≡ a.number
  pub used : r.used ≡ a.used
  pub filled : r.filled ≡ length a.out
  pub ledger : r.owned.ledger ≡ a.ledger
  pub leases : r.owned.records.leases ≡ a.leases
  pub buffer : after ≡ a.out ++ drop (length a.out) before
