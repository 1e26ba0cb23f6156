-- `renewed` meets its contract: by renewed-is.
use Rattle.proposal.specs.laws.Code.{renewed_is}
use borrow.Author.Rules.{rules}
use Rattle.proposal.proofs.renewed.Goals as goal

pub returns : goal.returns
returns c = search (renewed_is, rules)
