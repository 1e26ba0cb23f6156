-- `id_length` meets its contract: the array has 32 octets.
use Rattle.reply.proofs.Writes.{id_cut}
use Rattle.lists.specs.laws.Part.{unmapped}
use Rattle.std.proofs.Common.{rules}
use Rattle.reply.proofs.id_length.Goals as goal

pub returns : goal.returns
returns c = (id_cut _ _ _ (search (unmapped, rules)) (search rules), search rules)
