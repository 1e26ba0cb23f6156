-- `keep_release` meets its contract: by `release_fits`.
use Rattle.lists.specs.laws.Pick.{picks}
use Rattle.salvage_rules.specs.laws.Rules.{release_fits}
use borrow.Author.Rules.{rules}
use Rattle.salvage_rules.proofs.keep_release.Goals as goal

pub with_release-requires : goal.with_release-requires
with_release-requires c = search (release_fits, picks, rules)

pub returns-then-rule-eq0 : goal.returns-then-rule-eq0
returns-then-rule-eq0 c = search (picks, rules)

pub returns : goal.returns
returns c = search (picks, rules)
