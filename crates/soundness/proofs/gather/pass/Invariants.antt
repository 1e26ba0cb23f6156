use Rattle.std.proofs.Common.{◌≡◌, drop}
use Rattle.lists.specs.Fold.{fold}
use Rattle.soundness.specs.Parts.{added_lease, gathered_of}
use Rattle.soundness.proofs.gather.pass.Given as goal

abbrev pub invariant-loop-l : goal.invariant-loop-l
invariant-loop-l l = fold (added_lease l.s) l.gathered (drop l.l-index l.l-items) ≡ gathered_of l.s l.fn.t
