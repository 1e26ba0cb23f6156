-- `put_dropped` meets its contract: its loop keeps `DroppedInv`; by `drops`.
use Rattle.salvage_list.specs.laws.List.{drops}
use borrow.Author.Rules.{rules}
use Rattle.salvage_list.proofs.put_dropped.Goals as goal

pub loop-i-init : goal.loop-i-init
loop-i-init c = search (drops, rules)

pub put_if-to-requires : goal.put_if-to-requires
put_if-to-requires c = search (drops, rules)

pub loop-i-preserved : goal.loop-i-preserved
loop-i-preserved c = search (drops, rules)

pub returns : goal.returns
returns c = search (drops, rules)
