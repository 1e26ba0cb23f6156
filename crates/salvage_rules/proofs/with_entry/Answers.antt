-- `with_entry` meets its contract: by `with_entry_is`.
use Rattle.salvage_rules.specs.laws.Rules.{with_entry_is}
use borrow.Author.Rules.{rules}
use Rattle.salvage_rules.proofs.with_entry.Goals as goal

pub returns : goal.returns
returns c = search (with_entry_is, rules)
