-- `judged_at` meets its contract: by `judged_is`.
use Rattle.salvage_rules.specs.laws.Rules.{judged_is}
use borrow.Author.Rules.{rules}
use Rattle.salvage_rules.proofs.judged_at.Goals as goal

pub returns : goal.returns
returns c = search (judged_is, rules)
