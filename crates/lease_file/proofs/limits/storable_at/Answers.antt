-- `limits::storable_at` meets its contract: by `limits`, `picks`.
use Rattle.lists.specs.laws.Pick.{picks}
use Rattle.lease_file.specs.laws.Limits.{limits}
use Rattle.lease_file.specs.Place.{file_lease_at}
use Rattle.lease_file.specs.Records.{storable_b}
use Rattle.std.proofs.Common.{rules}
use Rattle.lease_file.proofs.limits.storable_at.Goals.{then-t-lt1-via-then-t-lt1, then-t-lt1-via-else-t-lt1+then-t-gt8}
use Rattle.lease_file.proofs.limits.storable_at.Goals as goal

pub returns-then-t-lt1 : goal.returns-then-t-lt1
unfolding storable_b file_lease_at
returns-then-t-lt1 c = elim c.then-t-lt1.branch [ then-t-lt1-via-then-t-lt1 w ↦ search (picks, rules) | then-t-lt1-via-else-t-lt1+then-t-gt8 w ↦ search (picks, rules) ]

pub returns-then-n-gt32 : goal.returns-then-n-gt32
unfolding storable_b file_lease_at
returns-then-n-gt32 c = search (picks, limits, rules)

pub returns : goal.returns
unfolding storable_b file_lease_at
returns c = search (picks, limits, rules)
