-- `one_of` meets its contract: by `one_in`, `one_out`.
use Rattle.lease_file.specs.laws.Rows.{one_in, one_out}
use Rattle.std.proofs.Common.{rules}
use Rattle.lease_file.proofs.sizes.one_of.Goals as goal

pub returns-then-of_kind : goal.returns-then-of_kind
returns-then-of_kind c = search (one_in, rules)

pub returns-else-of_kind : goal.returns-else-of_kind
returns-else-of_kind c = search (one_out, rules)
