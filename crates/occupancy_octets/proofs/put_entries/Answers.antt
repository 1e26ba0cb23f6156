-- `put_entries` meets its contract: entry by entry.
use Rattle.occupancy_octets.specs.laws.Octets.{entry_rows}
use borrow.Author.Rules.{rules}
use Rattle.occupancy_octets.proofs.put_entries.Goals as goal

pub loop-e-init : goal.loop-e-init
loop-e-init c = search (entry_rows, rules)

pub put_entry-to-requires : goal.put_entry-to-requires
put_entry-to-requires c = search (entry_rows, rules)

pub loop-e-preserved : goal.loop-e-preserved
loop-e-preserved c = search (entry_rows, rules)

pub returns : goal.returns
returns c = search (entry_rows, rules)
