-- `raise_held` meets its contract: std's sum that stays at 255.
use Rattle.std.proofs.Common.{◌∙◌, rules}
use Rattle.occupancy.specs.laws.Loop.{raise_is}
use Rattle.occupancy.proofs.raise_held.Goals as goal

pub returns : goal.returns
returns c = c.saturating_add.ensures ∙ raise_is c.args.held c.args.by (search rules)
