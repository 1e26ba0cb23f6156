-- `options::exactly_filled` meets its contract: three lists, one after the other (`filled_is`).
use Rattle.message.proofs.Steps.{filled_is}
use borrow.Author.Rules.{rules}
use Rattle.message.proofs.options.exactly_filled.Goals as goal

pub past_list-a-requires : goal.past_list-a-requires
past_list-a-requires c = search (filled_is, rules)

pub past_list-b-requires : goal.past_list-b-requires
past_list-b-requires c = search (filled_is, rules)

pub past_list-requires : goal.past_list-requires
past_list-requires c = search (filled_is, rules)

pub returns : goal.returns
returns c = search (filled_is, rules)
