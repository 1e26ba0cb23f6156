-- `lapse_at` meets its contract: its test.
use Rattle.lease_file.specs.laws.Form.{tail_four}
use Rattle.lists.specs.laws.Pick.{tests}
use Rattle.std.proofs.Common.{rules}
use Rattle.lease_file.proofs.reader.lapse_at.Goals as goal

pub read_u32-requires : goal.read_u32-requires
read_u32-requires c = let e = tail_four _ c.if-holds.true in search rules

pub returns-then-holds : goal.returns-then-holds
returns-then-holds c = search (tests, rules)

pub returns-else-holds : goal.returns-else-holds
returns-else-holds c = search (tests, rules)
