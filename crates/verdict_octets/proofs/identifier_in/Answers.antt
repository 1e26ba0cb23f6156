-- `identifier_in` meets its contract: field by field.
use Rattle.verdict_octets.specs.laws.Octets.{identifier_is}
use borrow.Author.Rules.{rules}
use lib.ListN.{length}
use mathlib.Core.Path.{◌≡◌}
use native.Mathlib.Omega.{arith}
use Rattle.verdict_octets.proofs.identifier_in.Goals as goal

pub returns : goal.returns
returns c = let g : length c.args.s.now ≡ 75 = search rules in identifier_is c.args.s.now (omega arith) c.read_run.ensures
