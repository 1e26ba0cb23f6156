-- `offer` meets its contract: by changed-is, entered-as.
use Rattle.decision.specs.laws.Code.{changed_is, entered_as}
use borrow.Author.Rules.{rules}
use Rattle.decision.proofs.offer.Goals as goal

pub returns : goal.returns
returns c = search (changed_is, entered_as, rules)
