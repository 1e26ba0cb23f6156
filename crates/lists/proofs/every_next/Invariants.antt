use Rattle.std.proofs.Common.{◌≡◌, ◌-◌, drop}
use Rattle.lists.specs.Next.{next_by}
use Rattle.lists.specs.Calls.{AnswersPairs}
use Rattle.lists.proofs.every_next.Given as goal

abbrev pub invariant-loop-i : goal.invariant-loop-i
invariant-loop-i g l = (t : _) → AnswersPairs g.F.Fn t l.holds → next_by t (drop (l.i - 1) l.xs) ≡ next_by t l.xs
