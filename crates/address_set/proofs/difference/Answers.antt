-- `difference` meets its contract: by and-not.
use Rattle.address_set.specs.laws.Offsets.{difference_by}
use borrow.Author.Rules.{rules}
use Rattle.address_set.proofs.difference.Goals as goal

pub returns : goal.returns
returns c = search (difference_by, rules)
