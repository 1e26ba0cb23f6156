-- `put_outcome` meets its contract: part by part, by the outcome's number.
use Rattle.lists.specs.Pick.{pick}
use Rattle.octets.specs.laws.Octets.{wrote_joined}
use Rattle.replay_text.specs.Replay.{outcome_text}
use borrow.Author.Rules.{rules}
use borrow.Author.Tests.{eq-eqb, ne_eqb}
use native.Mathlib.Omega.{arith}
use Rattle.replay_text.proofs.put_outcome.Goals as goal

pub returns-then-outcome-eq5 : goal.returns-then-outcome-eq5
unfolding outcome_text pick
returns-then-outcome-eq5 c = (
  rw (eq-eqb _ _ c.if-outcome-eq5.true) (wrote_joined (search rules) c.put-a.ensures c.put_number.ensures.wrote),
  omega (arith, c.put_number.ensures.small, c.put-a.ensures.next),
)

pub returns : goal.returns
unfolding outcome_text pick
returns c = (
  rw (ne_eqb _ _ c.if-outcome-eq5.false) c.put_outcome_number.ensures.0,
  omega (arith, c.put_outcome_number.ensures.1),
)
