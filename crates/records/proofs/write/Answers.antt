-- `write` meets its contract: each branch of `written_with` and `room_with`.
use Rattle.records.specs.laws.Steps.{room_in, room_out, write_in, write_out}
use Rattle.std.proofs.Common.{rules}
use Rattle.records.proofs.write.Goals as goal

pub returns-then-n-ne128 : goal.returns-then-n-ne128
returns-then-n-ne128 c = search (write_out, room_out, rules)

pub returns : goal.returns
returns c = search (write_in, room_in, rules)
