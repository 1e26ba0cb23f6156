-- `hold_from` meets its contract: by hold-from-is.
use Rattle.proposal.specs.laws.Code.{hold_from_is}
use borrow.Author.Rules.{rules}
use Rattle.proposal.proofs.hold_from.Goals as goal

pub returns : goal.returns
returns c = search (hold_from_is, rules)
