-- `Walk::taken_in` meets its contract: the two numbers are those of the option at the walk's place.
use Rattle.message.proofs.Steps.{taken_got}
use borrow.Author.Rules.{rules}
use Rattle.message.proofs.Walk.taken_in.Goals as goal

pub read_u16-code-requires : goal.read_u16-code-requires
read_u16-code-requires c = search (taken_got, rules)

pub read_u16-requires : goal.read_u16-requires
read_u16-requires c = search (taken_got, rules)

pub taken-requires : goal.taken-requires
taken-requires c = search (taken_got, rules)

pub returns : goal.returns
returns c = search (taken_got, rules)
