-- `with_file` meets its contract: by `with_is`.
use Rattle.usage.specs.laws.Steps.{with_is}
use borrow.Author.Rules.{rules}
use Rattle.usage.proofs.with_file.Goals as goal

pub returns : goal.returns
returns c = search (with_is, rules)
