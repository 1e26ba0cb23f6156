-- `add_lease` meets its contract: by lease-added.
use Rattle.soundness.specs.laws.Gathered.{lease_added}
use borrow.Author.Rules.{rules}
use Rattle.soundness.proofs.gather.add_lease.Goals as goal

pub returns : goal.returns
returns c = search (lease_added, rules)
