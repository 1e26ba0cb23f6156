-- `put_server` meets its contract: code and length, and then the value (`option_put`).
use Rattle.octets.specs.laws.Octets.{wrote_joined}
use Rattle.octets.specs.Octets.{octets16, octets32}
use Rattle.reply.proofs.Writes.{option_put}
use borrow.Author.Rules.{rules}
use mathlib.Core.List.{◌++◌}
use mathlib.Core.Path.{refl}
use native.Mathlib.Omega.{arith}
use Rattle.reply.proofs.put_server.Goals as goal

pub returns : goal.returns
returns c = option_put _ 6 10 (octets16 1 ++ octets32 c.args.head.server) refl (omega arith) (search rules) c.put_code-a.ensures (wrote_joined (search rules) c.put_u16-b.ensures (rw c.from.ensures at c.put_u32.ensures))
