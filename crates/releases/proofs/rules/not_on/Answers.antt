-- `not_on` meets its contract: by not_is.
use Rattle.releases.specs.laws.Code.{not_is}
use borrow.Author.Rules.{rules}
use Rattle.releases.proofs.rules.not_on.Goals as goal

pub returns : goal.returns
returns c = search (not_is, rules)
