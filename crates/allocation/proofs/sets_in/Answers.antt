-- `sets_in` meets its contract: an array written, a set a turn.
use Rattle.allocation.specs.Loops.{sets_in}
use Rattle.lists.specs.laws.Each.{eachs}
use Rattle.std.proofs.Common.{rules}
use Rattle.allocation.proofs.sets_in.Goals as goal

pub loop-i-preserved : goal.loop-i-preserved
loop-i-preserved c = search (eachs, rules)

pub returns : goal.returns
unfolding sets_in
returns c = search (eachs, rules)
