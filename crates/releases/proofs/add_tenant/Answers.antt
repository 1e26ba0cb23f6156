-- `add_tenant` meets its contract: by added_is.
use Rattle.releases.specs.laws.Code.{added_is}
use borrow.Author.Rules.{rules}
use Rattle.releases.proofs.add_tenant.Goals as goal

pub returns : goal.returns
returns c = search (added_is, rules)
