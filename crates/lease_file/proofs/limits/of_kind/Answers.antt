-- `of_kind` meets its contract: by `kind_told`.
use Rattle.lease_file.specs.laws.Limits.{kind_told}
use Rattle.lease_file.proofs.limits.of_kind.Goals as goal

pub returns : goal.returns
returns c = kind_told c.args.holds c.args.kind
