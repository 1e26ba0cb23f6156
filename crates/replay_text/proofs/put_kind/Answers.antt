-- `put_kind` meets its contract: by the kind.
use Rattle.lists.specs.Pick.{pick}
use Rattle.replay_text.specs.Replay.{kind_text}
use borrow.Author.Tests.{eq-eqb, ne_eqb}
use native.Mathlib.Omega.{arith}
use Rattle.replay_text.proofs.put_kind.Goals as goal

pub returns-then-kind-eq1 : goal.returns-then-kind-eq1
unfolding kind_text pick
returns-then-kind-eq1 c = (rw (eq-eqb _ _ c.if-kind-eq1.true) c.put.ensures, omega (arith, c.put.ensures.next))

pub returns-then-kind-eq2 : goal.returns-then-kind-eq2
unfolding kind_text pick
returns-then-kind-eq2 c = (rw (ne_eqb _ _ c.if-kind-eq1.false) (rw (eq-eqb _ _ c.if-kind-eq2.true) c.put-then-kind-eq2.ensures), omega (arith, c.put-then-kind-eq2.ensures.next))

pub returns : goal.returns
unfolding kind_text pick
returns c = (rw (ne_eqb _ _ c.if-kind-eq1.false) (rw (ne_eqb _ _ c.if-kind-eq2.false) c.put-2.ensures), omega (arith, c.put-2.ensures.next))
