-- `put` meets its contract: what is copied into a part of a buffer is `put` there.
use Rattle.std.proofs.Common.{arith, refl}
use Rattle.octets.specs.laws.Octets.{put_part}
use Rattle.octets.proofs.put.Goals as goal

pub returns : goal.returns
returns c = record { next = refl; buffer = put_part _ _ _ (omega arith) c.copy_from_slice.ensures.after }
