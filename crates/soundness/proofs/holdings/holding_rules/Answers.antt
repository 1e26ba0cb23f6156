-- `holding_rules` meets its contract: by holding-are.
use Rattle.std.proofs.Common.{rules}
use Rattle.soundness.specs.laws.Code.{holding_are}
use Rattle.soundness.proofs.holdings.holding_rules.Goals as goal

pub returns : goal.returns
returns c =
    holding_are c.args.s c.min-n.result c.min-m.result c.args.h c.load_rules-load.result (search rules) (search rules) c.rest_none.ensures c.all_held_apart.ensures c.load_rules-load.ensures.0 c.load_rules-load.ensures.1
