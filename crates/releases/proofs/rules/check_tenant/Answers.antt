-- `check_tenant` meets its contract: by none-are.
use Rattle.releases.specs.laws.Code.{none_are}
use borrow.Author.Rules.{rules}
use Rattle.releases.proofs.rules.check_tenant.Goals as goal

pub returns-then-q-eq0 : goal.returns-then-q-eq0
returns-then-q-eq0 c = search (none_are, rules)
