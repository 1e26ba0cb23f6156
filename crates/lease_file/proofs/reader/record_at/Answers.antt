-- `record_at` meets its contract: by `lease_room`, `record_stored`.
use Rattle.lease_file.specs.laws.Load.{lease_room, record_stored}
use Rattle.std.proofs.Common.{arith}
use Rattle.lease_file.proofs.reader.record_at.Goals as goal

pub lapse_at-requires : goal.lapse_at-requires
lapse_at-requires c = let r = lease_room c.from-n.ensures c.from-k.ensures c.requires in omega arith

pub returns : goal.returns
returns c = record_stored c.from-n.ensures c.from-k.ensures c.requires _ _ _ _ _ _ c.read_run.ensures c.read_u32.ensures c.read_u32-2.ensures c.read_u32-3.ensures c.from_offsets.ensures c.lapse_at.ensures
