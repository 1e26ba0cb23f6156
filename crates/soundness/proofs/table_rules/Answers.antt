-- `table_rules` meets its contract: a loop over the tenants.
use Rattle.std.proofs.Common.{rules}
use Rattle.lists.specs.laws.Part.{unmapped}
use Rattle.soundness.specs.laws.Survey.{surveys}
use Rattle.soundness.proofs.table_rules.Goals as goal

pub loop-i-init : goal.loop-i-init
loop-i-init c = search (surveys, unmapped, rules)

pub loop-i-preserved : goal.loop-i-preserved
loop-i-preserved c = search (surveys, unmapped, rules)

pub returns : goal.returns
returns c = search (surveys, unmapped, rules)
