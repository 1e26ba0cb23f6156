-- `put_lapse` meets its contract: by `lapse_wrote`, `lapse_none`.
use Rattle.lease_file.specs.laws.Rows.{lapse_four, lapse_none, lapse_wrote}
use Rattle.octets.specs.Octets.{octets32}
use Rattle.octets.specs.laws.Octets.{wrote_as}
use Rattle.std.proofs.Common.{ap, rules}
use Rattle.lease_file.proofs.writer.put_lapse.Goals as goal

pub put_u32-requires : goal.put_u32-requires
put_u32-requires c = let e = lapse_four _ c.args.lapse c.if-holds.true in search rules

pub returns-then-holds : goal.returns-then-holds
returns-then-holds c = lapse_wrote _ _ c.if-holds.true (wrote_as (ap octets32 c.from.ensures) c.put_u32.ensures)

pub returns-else-holds : goal.returns-else-holds
returns-else-holds c = search (lapse_wrote, lapse_none, rules)
