-- `load` meets its contract: by `leases_held`, `holds_held`, `table_is`.
use Rattle.lease_file.specs.laws.Load.{holds_held, leases_held, table_is}
use Rattle.std.proofs.Common.{rules}
use Rattle.lease_file.proofs.load.Goals as goal

pub all_records-requires : goal.all_records-requires
all_records-requires c = search (leases_held, holds_held, rules)

pub returns : goal.returns
returns c = search (table_is, rules)
