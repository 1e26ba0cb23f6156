-- `put_outcome_number` meets its contract: part by part, by the outcome's number.
use Rattle.lists.specs.Pick.{pick}
use Rattle.octets.specs.laws.Octets.{wrote_joined}
use Rattle.replay_text.specs.Replay.{number_text}
use Rattle.std.proofs.Common.{length-take-le}
use borrow.Author.Rules.{rules}
use borrow.Author.Tests.{eq-eqb, ne_eqb}
use native.Mathlib.Omega.{arith}
use Rattle.replay_text.proofs.put_outcome_number.Goals as goal

pub returns-then-outcome-eq0 : goal.returns-then-outcome-eq0
unfolding number_text pick
returns-then-outcome-eq0 c = (
  rw (eq-eqb _ _ c.if-outcome-eq0.true) (wrote_joined (search rules) (wrote_joined (search rules) c.put_u8-a.ensures c.put_u8-b.ensures) c.put_hex.ensures.0),
  omega (arith, c.put_hex.ensures.1, length-take-le c.args.n c.args.reply.now (search rules), c.put_u8-b.ensures.next, c.put_u8-a.ensures.next),
)

pub returns : goal.returns
unfolding number_text pick
returns c = (
  rw (ne_eqb _ _ c.if-outcome-eq0.false) c.put_u8.ensures,
  omega (arith, c.put_u8.ensures.next),
)
