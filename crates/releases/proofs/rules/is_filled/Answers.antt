-- `is_filled` meets its contract: a test of every octet past the identifier.
use Rattle.std.proofs.Common.{rules}
use Rattle.std.specs.Prelude.{eqb}
use Rattle.releases.specs.laws.Code.{filled_is}
use Rattle.releases.proofs.rules.is_filled.Goals as goal

pub returns : goal.returns
returns c = filled_is c.args.r c.min-n.result (search rules) (search rules) (c.every.ensures (λ x. eqb x 0) (λ x r h. search rules))
