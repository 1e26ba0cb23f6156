-- `record_size` meets its contract: the octets at a place are those of what is left from there on.
use Rattle.call_list.proofs.Answered.{size_in}
use borrow.Author.Rules.{rules}
use Rattle.call_list.proofs.record_size.Goals as goal

pub returns : goal.returns
returns c = search (size_in, rules)
