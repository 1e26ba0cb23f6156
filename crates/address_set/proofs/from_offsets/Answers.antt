-- `from_offsets` meets its contract: a fold over the octets.
use Rattle.std.proofs.Common.{rules}
use Rattle.address_set.specs.laws.Offsets.{read_is}
use Rattle.address_set.proofs.from_offsets.Goals as goal

pub returns : goal.returns
returns c = rw (← read_is) (search rules)
