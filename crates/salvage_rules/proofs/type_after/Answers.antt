-- `type_after` meets its contract: by `afters`.
use Rattle.salvage_rules.proofs.Rules.{afters}
use borrow.Author.Rules.{rules}
use borrow.Author.Tests.{not-false, not-true}
use Rattle.salvage_rules.proofs.type_after.Goals as goal

pub returns-then-not-holds : goal.returns-then-not-holds
returns-then-not-holds c = search (afters, not-true, not-false, rules)

pub returns-then-r-ne0 : goal.returns-then-r-ne0
returns-then-r-ne0 c = search (afters, not-true, not-false, rules)

pub returns-then-kind-ne-DISCOVER : goal.returns-then-kind-ne-DISCOVER
returns-then-kind-ne-DISCOVER c = search (afters, not-true, not-false, rules)

pub returns : goal.returns
returns c = search (afters, not-true, not-false, rules)
