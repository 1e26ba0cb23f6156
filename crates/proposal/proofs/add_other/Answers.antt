-- `add_other` meets its contract: its tests, one arm a law.
use Rattle.proposal.specs.laws.Others.{others}
use borrow.Author.Rules.{rules}
use Rattle.proposal.proofs.add_other.Goals as goal

pub returns-then-overlapping : goal.returns-then-overlapping
returns-then-overlapping c = search (others, rules)

pub returns : goal.returns
returns c = search (others, rules)
