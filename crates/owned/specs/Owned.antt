-- Definitions: what the entry points promise to a caller that holds its ledger and records by value and lends them for each call.
use Rattle.std.specs.Prelude.{ℕ, ◌≡◌, List, Result, Ok, Err}
use Rattle.server.specs.Serve.{Tells}
use Rattle.state_file.specs.declared.Loaded.{Loaded}
use Rattle.state_file.specs.declared.Refusal.{Refusal}
use Rattle.records.specs.Lent.{ledger_from}
use Rattle.records.specs.Records.{records_of}
use Rattle.record_call.specs.Call.{LentAnswer, lent_said}
use Rattle.record_verdict.specs.Verdict.{LentJudgement}
use Rattle.owned.specs.declared.Owned.{Owned}
use Rattle.owned.specs.declared.OwnedCall.{OwnedCall}
use Rattle.owned.specs.declared.OwnedJudged.{OwnedJudged}

-- what is told, the ledger and every lease record
pub record ServesOwned (a : LentAnswer) (before after : List ℕ) (r : OwnedCall) : Type 0 where
  pub tells : Tells (lent_said a) before after r.outcome
  pub ledger : r.owned.ledger ≡ a.ledger
  pub leases : r.owned.records.leases ≡ a.leases

-- of the first half the verdict, the ledger and every lease record
pub record JudgesOwned (a : LentJudgement) (r : OwnedJudged) : Type 0 where
  pub ruling : r.ruling ≡ a.ruling
  pub ledger : r.owned.ledger ≡ a.ledger
  pub leases : r.owned.records.leases ≡ a.leases

-- of a file the refusal, or the ledger and every lease record
abbrev pub Opens : Result Loaded Refusal → Result Owned Refusal → Type 0
Opens (Ok f) (Ok o) = (o.ledger ≡ ledger_from f) × (o.records.leases ≡ records_of f.table)
Opens (Err e) (Err k) = k ≡ e
Opens _ _ = ⊥
