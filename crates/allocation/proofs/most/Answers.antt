-- `most` meets its contract: the closed form of the largest allowed number.
use Rattle.allocation.specs.laws.Closed.{closes}
use Rattle.std.proofs.Common.{rules}
use Rattle.allocation.proofs.most.Goals as goal

pub returns-then-l : goal.returns-then-l
returns-then-l c = search (closes, rules)

pub returns-then-l-own : goal.returns-then-l-own
returns-then-l-own c = search (closes, rules)

pub returns : goal.returns
returns c = search (closes, rules)
