-- `committed_other` meets its contract: a tenant of the sum, a small number.
use Rattle.allocation.specs.laws.Loops.{other_committed_is, other_committed_small}
use Rattle.lists.specs.laws.Pick.{picks}
use Rattle.std.proofs.Common.{rules}
use Rattle.allocation.proofs.committed_other.Goals as goal

pub returns-then-g-h : goal.returns-then-g-h
returns-then-g-h c = search (picks, rules)

pub returns : goal.returns
returns c = search (picks, other_committed_is, other_committed_small, rules)
