-- `capped` meets its contract: as std has it.
use Rattle.usage.specs.Report.{capped_sum, cut}
use Rattle.std.proofs.Common.{rules}
use Rattle.usage.proofs.sums.capped.Goals as goal

pub returns : goal.returns
unfolding capped_sum cut
returns c = search rules
