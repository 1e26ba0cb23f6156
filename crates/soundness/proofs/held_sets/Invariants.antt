use Rattle.std.proofs.Common.{◌≡◌, drop}
use Rattle.lists.specs.Fold.{fold}
use Rattle.soundness.specs.Parts.{added_sets, held_sets}
use Rattle.soundness.proofs.held_sets.Given as goal

abbrev pub invariant-loop-l : goal.invariant-loop-l
invariant-loop-l l = fold added_sets l.held (drop l.l-index l.l-items) ≡ held_sets l.fn.t
