-- `counted_end` meets its contract: by `counted_ends`.
use Rattle.format.specs.laws.Fixed.{counted_ends}
use borrow.Author.Rules.{rules}
use Rattle.state_file.proofs.form.counted_end.Goals as goal

pub returns-then-s-at : goal.returns-then-s-at
returns-then-s-at c = search (counted_ends, rules)

pub returns-then-s-end : goal.returns-then-s-end
returns-then-s-end c = search (counted_ends, rules)

pub returns : goal.returns
returns c = search (counted_ends, rules)
