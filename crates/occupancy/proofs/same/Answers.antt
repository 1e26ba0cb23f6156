-- `same` meets its contract: std's equality of two boards is the definition's.
use Rattle.std.proofs.Common.{◌∙◌}
use Rattle.occupancy.specs.laws.Same.{board_equal}
use Rattle.occupancy.proofs.same.Goals as goal

pub returns : goal.returns
returns c = c.eq.ensures ∙ board_equal c.args.a c.args.b
