-- `words_of` meets its contract: an array written, a number a turn.
use Rattle.std.proofs.Common.{rules}
use Rattle.lists.specs.laws.Each.{each_next}
use Rattle.soundness.proofs.tenants.words_of.Goals as goal

pub loop-i-preserved : goal.loop-i-preserved
loop-i-preserved c = each_next c.loop-i.invariant (search rules) (search rules)
