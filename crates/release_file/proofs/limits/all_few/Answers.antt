-- `all_few` meets its contract: what was counted decides (`all_four`).
use Rattle.release_file.specs.laws.Limits.{all_four}
use Rattle.std.proofs.Common.{rules}
use Rattle.release_file.proofs.limits.all_few.Goals as goal

pub returns : goal.returns
returns c = all_four _ c.tally.ensures (search rules) (search rules)
