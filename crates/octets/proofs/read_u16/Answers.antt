-- `read_u16` meets its contract: by the definition.
use Rattle.octets.specs.Octets.{at16}
use Rattle.std.proofs.Common.{arith}
use Rattle.octets.proofs.read_u16.Goals as goal

pub returns : goal.returns
unfolding at16
returns c = omega arith
