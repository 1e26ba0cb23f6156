-- `all_below` meets its contract: its loop keeps `BelowInv`; by `belows`.
use Rattle.salvage_rules.specs.laws.Rules.{belows}
use borrow.Author.Rules.{rules}
use Rattle.salvage_rules.proofs.all_below.Goals as goal

pub loop-i-init : goal.loop-i-init
loop-i-init c = search (belows, rules)

pub returns-then-bound-s : goal.returns-then-bound-s
returns-then-bound-s c = search (belows, rules)

pub loop-i-preserved : goal.loop-i-preserved
loop-i-preserved c = search (belows, rules)

pub returns : goal.returns
returns c = search (belows, rules)
