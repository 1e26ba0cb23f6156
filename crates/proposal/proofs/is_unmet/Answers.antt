-- `is_unmet` meets its contract: by unmet-is.
use Rattle.proposal.specs.laws.Code.{unmet_is}
use borrow.Author.Rules.{rules}
use Rattle.proposal.proofs.is_unmet.Goals as goal

pub returns : goal.returns
returns c = search (unmet_is, rules)
