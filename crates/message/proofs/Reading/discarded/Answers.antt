-- `Reading::discarded` meets its contract: the type's number is the one that its constructor was given.
use Rattle.message.proofs.Steps.{discarded_is}
use borrow.Author.Rules.{rules}
use Rattle.message.proofs.Reading.discarded.Goals as goal

pub returns : goal.returns
returns c = search (discarded_is, rules)
