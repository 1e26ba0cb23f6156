use Rattle.std.proofs.Common.{◌≡◌, false, ◌+◌, drop}
use Rattle.lists.specs.Pick.{pick}
use Rattle.lists.specs.All.{all_by, pairs_by}
use Rattle.lists.specs.Calls.{AnswersPairs}
use Rattle.lists.proofs.every_pair.Given as goal

abbrev pub invariant-loop-i : goal.invariant-loop-i
invariant-loop-i g l = (t : _) → AnswersPairs g.F.Fn t l.holds → pairs_by t (drop l.i l.xs) ≡ pairs_by t l.xs

abbrev pub invariant-loop-y : goal.invariant-loop-y
invariant-loop-y g l = (t : _) → AnswersPairs g.F.Fn t l.holds → pick (all_by (t l.x) (drop l.y-index l.y-items)) (pairs_by t (drop (l.i + 1) l.xs)) false ≡ pairs_by t l.xs
