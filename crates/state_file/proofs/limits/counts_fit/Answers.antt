-- `counts_fit` meets its contract: by `picks`.
use Rattle.lists.specs.laws.Pick.{picks}
use Rattle.std.proofs.Common.{rules}
use Rattle.state_file.specs.Records.{counts_fit}
use Rattle.state_file.proofs.limits.counts_fit.Goals as goal

pub returns-then-tenants-le8 : goal.returns-then-tenants-le8
unfolding counts_fit
returns-then-tenants-le8 c = search (picks, rules)

pub returns-else-tenants-le8 : goal.returns-else-tenants-le8
unfolding counts_fit
returns-else-tenants-le8 c = search (picks, rules)
