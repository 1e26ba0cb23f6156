-- `drop_ended` meets its contract: tenant by tenant, the board with them.
use Rattle.std.proofs.Common.{rules}
use Rattle.lists.specs.laws.Part.{unmapped}
use Rattle.record_survey.specs.laws.Rows.{drops}
use borrow.Author.Tests.{not-false}
use Rattle.record_survey.proofs.drop_ended.Goals as goal
use Rattle.record_survey.proofs.drop_ended.Goals.{then-not-ends_after, else-not-ends_after}

pub loop-h-init : goal.loop-h-init
loop-h-init c = search (drops, unmapped, rules)

pub loop-h-preserved : goal.loop-h-preserved
loop-h-preserved c = elim c.if-not-ends_after.branch [
  | then-not-ends_after w ↦ rw w.now-is (rw w.sets-is (rw w.cleared-is (search (drops, unmapped, rules))))
  | else-not-ends_after w ↦ rw w.now-is (rw w.sets-is (rw w.cleared-is (search (drops, not-false, rules))))
]

pub returns : goal.returns
returns c = search (drops, rules)
