-- `put_range` meets its contract: two numbers, one after the other.
use Prim.Native.Nat.{◌%◌}
use Rattle.octets.specs.laws.Octets.{wrote_joined}
use borrow.Author.Rules.{rules}
use mathlib.Core.Path.{◌≡◌}
use native.Mathlib.Omega.{arith}
use Rattle.reply.proofs.put_range.Goals as goal

pub returns : goal.returns
returns c = let e : c.args.r.count % 65536 ≡ c.args.r.count = omega arith in wrote_joined (search rules) (rw (c.from.ensures, c.from-2.ensures) at c.put_u32-a.ensures) (rw e at c.put_u16.ensures)
