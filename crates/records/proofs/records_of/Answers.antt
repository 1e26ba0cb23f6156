-- `records_of` meets its contract: tenant by tenant.
use Rattle.std.proofs.Common.{rules}
use Rattle.lists.specs.laws.Part.{unmapped}
use Rattle.records.specs.laws.Table.{laid_records, laid_size, laid_start, lay_next}
use Rattle.records.proofs.records_of.Goals as goal

pub loop-h-init : goal.loop-h-init
loop-h-init c = search (laid_start, unmapped, rules)

pub loop-h-preserved : goal.loop-h-preserved
loop-h-preserved c = search (lay_next, unmapped, rules)

pub returns : goal.returns
returns c = search (laid_records, laid_size, rules)
