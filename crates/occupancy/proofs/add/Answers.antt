-- `add` meets its contract: by its tests.
use Rattle.occupancy.specs.laws.Loop.{alterations, placed_tenant}
use borrow.Author.Rules.{rules}
use Rattle.occupancy.proofs.add.Goals as goal

pub lay-requires : goal.lay-requires
lay-requires c = search (alterations, placed_tenant, rules)

pub returns-then-k-lt4 : goal.returns-then-k-lt4
returns-then-k-lt4 c = search (alterations, rules)

pub returns : goal.returns
returns c = search (alterations, rules)
