-- `offsets_kept` meets its contract: by `offsets_over`, `offsets_unknown`, `offsets_known`.
use Rattle.salvage_rules.specs.laws.Rules.{offsets_known, offsets_over, offsets_room, offsets_unknown}
use borrow.Author.Rules.{rules}
use Rattle.salvage_rules.proofs.offsets_kept.Goals as goal

pub returns-then-k-gt64 : goal.returns-then-k-gt64
returns-then-k-gt64 c = search (offsets_over, offsets_known, rules)

pub all_below-requires : goal.all_below-requires
all_below-requires c = search (offsets_room, rules)

pub returns-then-scope_known : goal.returns-then-scope_known
returns-then-scope_known c = search (offsets_known, rules)

pub returns : goal.returns
returns c = search (offsets_unknown, offsets_known, rules)
