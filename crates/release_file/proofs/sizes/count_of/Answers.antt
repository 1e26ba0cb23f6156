-- `count_of` meets its contract: by `count_is`.
use Rattle.format.specs.laws.Rows.{count_is}
use Rattle.lists.specs.laws.Part.{unmapped}
use borrow.Author.Rules.{rules}
use Rattle.release_file.proofs.sizes.count_of.Goals as goal

pub returns : goal.returns
returns c = search (count_is, unmapped, rules)
