-- `entry_next` meets its contract: by `entry_next`.
use Rattle.lease_file.specs.laws.Form.{entry_next}
use Rattle.std.proofs.Common.{rules}
use Rattle.lease_file.proofs.limits.entry_next.Goals as goal

pub returns : goal.returns
returns c = search (entry_next, rules)
