-- `read_u32` meets its contract: by the definition.
use Rattle.octets.specs.Octets.{at32}
use Rattle.std.proofs.Common.{arith}
use Rattle.octets.proofs.read_u32.Goals as goal

pub returns : goal.returns
unfolding at32
returns c = omega arith
