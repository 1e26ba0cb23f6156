-- `periods_ok` meets its contract: by fresh-compatible.
use Rattle.std.proofs.Common.{rules}
use Rattle.soundness.specs.laws.Gathered.{fresh_compatible}
use Rattle.soundness.proofs.tenants.periods_ok.Goals as goal

pub returns-then-apart : goal.returns-then-apart
returns-then-apart c = search (fresh_compatible, rules)
