-- `refusal` meets its contract: its tests in order.
use Rattle.decision.specs.Verdicts.{refusal_of}
use Rattle.lists.specs.laws.Pick.{picks}
use borrow.Author.Rules.{rules}
use Rattle.decision.proofs.refusal.Goals as goal

pub discard-requires : goal.discard-requires
unfolding refusal_of
discard-requires c = search (picks, rules)

pub returns-then-m-eq-DISCOVER : goal.returns-then-m-eq-DISCOVER
unfolding refusal_of
returns-then-m-eq-DISCOVER c = search (picks, rules)

pub discard-requires-then-m-eq-GETINFO : goal.discard-requires-then-m-eq-GETINFO
unfolding refusal_of
discard-requires-then-m-eq-GETINFO c = search (picks, rules)

pub returns-then-m-eq-GETINFO : goal.returns-then-m-eq-GETINFO
unfolding refusal_of
returns-then-m-eq-GETINFO c = search (picks, rules)

pub nak-requires : goal.nak-requires
unfolding refusal_of
nak-requires c = search (picks, rules)

pub returns : goal.returns
unfolding refusal_of
returns c = search (picks, rules)
