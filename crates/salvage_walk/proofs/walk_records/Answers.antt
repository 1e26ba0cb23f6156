-- `walk_records` meets its contract: its loop keeps `RecordsInv`; by `record_walk`.
use Rattle.salvage_walk.proofs.Steps.{record_walk}
use borrow.Author.Rules.{rules}
use Rattle.salvage_walk.proofs.walk_records.Goals as goal

pub loop-i-init : goal.loop-i-init
loop-i-init c = search (record_walk, rules)

pub entry_rule-r-requires : goal.entry_rule-r-requires
entry_rule-r-requires c = search (record_walk, rules)

pub keep_entry-table-requires : goal.keep_entry-table-requires
keep_entry-table-requires c = search (record_walk, rules)

pub entry_next-here-requires : goal.entry_next-here-requires
entry_next-here-requires c = search (record_walk, rules)

pub loop-i-preserved : goal.loop-i-preserved
loop-i-preserved c = search (record_walk, rules)

pub returns : goal.returns
returns c = search (record_walk, rules)
