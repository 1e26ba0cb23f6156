-- `id_length_ok` meets its contract: by `id_short`, `id_long`.
use Rattle.std.proofs.Common.{rules}
use Rattle.salvage_rules.specs.laws.Rules.{id_long, id_short}
use Rattle.salvage_rules.proofs.id_length_ok.Goals as goal

pub returns-then-n-ge2 : goal.returns-then-n-ge2
returns-then-n-ge2 c = search (id_long, rules)

pub returns-else-n-ge2 : goal.returns-else-n-ge2
returns-else-n-ge2 c = search (id_short, rules)
