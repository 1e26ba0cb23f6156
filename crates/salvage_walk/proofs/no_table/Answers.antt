-- `no_table` meets its contract: by `no_table_is`.
use Rattle.salvage_walk.specs.laws.File.{no_table_is}
use borrow.Author.Rules.{rules}
use Rattle.salvage_walk.proofs.no_table.Goals as goal

pub returns : goal.returns
returns c = search (no_table_is, rules)
