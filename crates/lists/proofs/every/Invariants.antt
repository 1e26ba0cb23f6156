use Rattle.std.proofs.Common.{◌≡◌, drop}
use Rattle.lists.specs.All.{all_by}
use Rattle.lists.specs.Calls.{Answers}
use Rattle.lists.proofs.every.Given as goal

abbrev pub invariant-loop-x : goal.invariant-loop-x
invariant-loop-x g l = (t : _) → Answers g.F.Fn t l.holds → all_by t (drop l.x-index l.xs) ≡ all_by t l.xs
