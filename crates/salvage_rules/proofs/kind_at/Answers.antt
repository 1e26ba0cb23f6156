-- `kind_at` meets its contract: by `kind_octet`.
use Rattle.salvage_rules.specs.laws.Rules.{kind_octet}
use borrow.Author.Rules.{rules}
use Rattle.salvage_rules.proofs.kind_at.Goals as goal

pub returns : goal.returns
returns c = search (kind_octet, rules)
