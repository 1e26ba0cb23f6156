-- `within` meets its contract: by pool-in.
use Rattle.lists.specs.laws.Part.{unmapped}
use Rattle.soundness.specs.laws.Gathered.{pool_in_law}
use borrow.Author.Rules.{rules}
use Rattle.soundness.proofs.leases.within.Goals as goal

pub returns : goal.returns
returns c = search (pool_in_law, unmapped, rules)
