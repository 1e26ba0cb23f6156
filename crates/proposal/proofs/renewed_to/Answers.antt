-- `renewed_to` meets its contract: by renewed-to-is.
use Rattle.proposal.specs.laws.Code.{renewed_to_is}
use borrow.Author.Rules.{rules}
use Rattle.proposal.proofs.renewed_to.Goals as goal

pub returns : goal.returns
returns c = search (renewed_to_is, rules)
