-- `put_middle` meets its contract: by `middle_wrote`.
use Rattle.lease_file.specs.laws.Rows.{middle_wrote}
use Rattle.octets.specs.Octets.{octets32}
use Rattle.octets.specs.laws.Octets.{wrote_as}
use Rattle.std.proofs.Common.{ap, rules}
use Rattle.lease_file.proofs.writer.put_middle.Goals as goal

pub returns : goal.returns
returns c = let l = c.args.l in middle_wrote l.xid l.start l.end (search rules) c.put_u8-a.ensures (wrote_as (ap octets32 c.from.ensures) c.put_u32-b.ensures) (wrote_as (ap octets32 c.from-2.ensures) c.put_u32-c.ensures) (wrote_as (ap octets32 c.from-3.ensures) c.put_u32.ensures)
