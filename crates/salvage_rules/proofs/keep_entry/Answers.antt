-- `keep_entry` meets its contract: by `entry_fits`.
use Rattle.lists.specs.laws.Pick.{picks}
use Rattle.salvage_rules.specs.laws.Rules.{entry_fits}
use borrow.Author.Rules.{rules}
use Rattle.salvage_rules.proofs.keep_entry.Goals as goal

pub with_entry-requires : goal.with_entry-requires
with_entry-requires c = search (entry_fits, picks, rules)

pub returns-then-rule-eq0 : goal.returns-then-rule-eq0
returns-then-rule-eq0 c = search (picks, rules)

pub returns : goal.returns
returns c = search (picks, rules)
