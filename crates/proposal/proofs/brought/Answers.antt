-- `brought` meets its contract: its test, which is a call, an arm a law.
use Rattle.proposal.specs.laws.Code.{brought_all, brought_less}
use borrow.Author.Rules.{rules}
use Rattle.proposal.proofs.brought.Goals as goal

pub returns-then-drops_hold : goal.returns-then-drops_hold
returns-then-drops_hold c = search (brought_less, rules)

pub returns : goal.returns
returns c = search (brought_less, brought_all, rules)
