-- `propose` meets its contract: its test, which is a call.
use Rattle.proposal.specs.Gather.{proposal_in}
use Rattle.lists.specs.laws.Pick.{calls}
use borrow.Author.Rules.{rules}
use Rattle.proposal.proofs.propose.Goals as goal

pub returns-then-is_new : goal.returns-then-is_new
unfolding proposal_in
returns-then-is_new c = search (calls, rules)

pub returns : goal.returns
unfolding proposal_in
returns c = search (calls, rules)
