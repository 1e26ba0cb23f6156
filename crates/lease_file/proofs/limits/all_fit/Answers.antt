-- `all_fit` meets its contract: its loop keeps `FitInv`; by `entries_fit`.
use Rattle.lease_file.specs.laws.Limits.{entries_fit}
use Rattle.std.proofs.Common.{rules}
use Rattle.lease_file.proofs.limits.all_fit.Goals as goal

pub loop-init : goal.loop-init
loop-init c = search (entries_fit, rules)

pub fits_at-requires : goal.fits_at-requires
fits_at-requires c = search (entries_fit, rules)

pub entry_next-here-requires : goal.entry_next-here-requires
entry_next-here-requires c = search (entries_fit, rules)

pub loop-preserved : goal.loop-preserved
loop-preserved c = search (entries_fit, rules)

pub returns-then-not-fits_at : goal.returns-then-not-fits_at
returns-then-not-fits_at c = search (entries_fit, rules)

pub returns : goal.returns
returns c = search (entries_fit, rules)
