-- `no_records` meets its contract: by `empty_records`.
use Rattle.records.specs.laws.Table.{empty_records}
use Rattle.std.proofs.Common.{rules}
use Rattle.records.proofs.no_records.Goals as goal

pub returns : goal.returns
returns c = search (empty_records, rules)
