-- `fits` meets its contract: by `sections_fit`.
use Rattle.lease_file.specs.laws.Limits.{sections_fit}
use Rattle.std.proofs.Common.{rules}
use Rattle.lease_file.proofs.fits.Goals.{then-not-all_fit-via-then-not-all_fit, then-not-all_fit-via-else-not-all_fit+then-not-all_fit-2}
use Rattle.lease_file.proofs.fits.Goals as goal

pub tally-requires : goal.tally-requires
tally-requires c = search (sections_fit, rules)

pub tally-requires-2 : goal.tally-requires-2
tally-requires-2 c = search (sections_fit, rules)

pub returns-then-not-all_fit : goal.returns-then-not-all_fit
returns-then-not-all_fit c = elim c.then-not-all_fit.branch [ then-not-all_fit-via-then-not-all_fit w ↦ search (sections_fit, rules) | then-not-all_fit-via-else-not-all_fit+then-not-all_fit-2 w ↦ search (sections_fit, rules) ]

pub returns : goal.returns
returns c = search (sections_fit, rules)
