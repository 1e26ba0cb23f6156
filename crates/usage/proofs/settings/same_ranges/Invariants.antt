use Rattle.lists.specs.laws.Same.{SameInv}
use Rattle.state_file.specs.Records.{zero_range}
use Rattle.usage.specs.Usage.{same_range}
use Rattle.usage.proofs.settings.same_ranges.Given as goal

abbrev pub invariant-loop-i : goal.invariant-loop-i
invariant-loop-i l = SameInv same_range zero_range l.a.tenants l.b.tenants 8 l.i
