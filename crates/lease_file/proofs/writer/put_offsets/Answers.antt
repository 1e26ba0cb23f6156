-- `put_offsets` meets its contract: its loop keeps `OffsetsInv`; by `offset_loop`.
use Rattle.lease_file.specs.laws.Sets.{offset_loop}
use Rattle.std.proofs.Common.{rules}
use Rattle.lease_file.proofs.writer.put_offsets.Goals as goal

pub loop-left-init : goal.loop-left-init
loop-left-init c = search (offset_loop, rules)

pub put_u8-to-requires : goal.put_u8-to-requires
put_u8-to-requires c = search (offset_loop, rules)

pub loop-left-smaller : goal.loop-left-smaller
loop-left-smaller c = search (offset_loop, rules)

pub loop-left-preserved : goal.loop-left-preserved
loop-left-preserved c = search (offset_loop, rules)

pub returns : goal.returns
returns c = search (offset_loop, rules)
