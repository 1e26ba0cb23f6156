-- `fits_at` meets its contract: by `fit_yes`, `fit_not`.
use Rattle.lease_file.specs.laws.Limits.{fit_not, fit_yes}
use Rattle.std.proofs.Common.{◌∙◌, rules}
use Rattle.lease_file.proofs.limits.fits_at.Goals as goal

pub returns-then-of_kind : goal.returns-then-of_kind
returns-then-of_kind c = search (fit_yes, rules)

pub returns-else-of_kind : goal.returns-else-of_kind
returns-else-of_kind c = c.if-of_kind.false ∙ fit_not c.args.holds c.args.s.now c.args.at _ c.from-n.ensures c.of_kind.ensures c.if-of_kind.false
