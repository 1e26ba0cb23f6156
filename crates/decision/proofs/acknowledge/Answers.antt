-- `acknowledge` meets its contract: by changed-is.
use Rattle.decision.specs.laws.Code.{changed_is}
use borrow.Author.Rules.{rules}
use Rattle.decision.proofs.acknowledge.Goals as goal

pub returns : goal.returns
returns c = search (changed_is, rules)
