-- `fits` meets its contract: by `limits_fit`.
use Rattle.std.proofs.Common.{rules}
use Rattle.state_file.proofs.Loads.{limits_fit}
use Rattle.state_file.proofs.limits.fits.Goals as goal

pub returns-then-fits : goal.returns-then-fits
returns-then-fits c = search (limits_fit, rules)

pub returns-else-fits : goal.returns-else-fits
returns-else-fits c = search (limits_fit, rules)
