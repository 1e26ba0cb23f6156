-- `put_error` meets its contract: code and length, and then the value (`option_put`).
use Rattle.octets.specs.Octets.{octets16}
use Rattle.reply.proofs.Writes.{option_put}
use borrow.Author.Rules.{rules}
use mathlib.Core.Path.{refl}
use native.Mathlib.Omega.{arith}
use Rattle.reply.proofs.put_error.Goals as goal

pub returns : goal.returns
returns c = option_put _ 2 6 (octets16 c.args.error) refl (omega arith) (search rules) c.put_code-a.ensures c.put_u16.ensures
