-- `state_of` meets its contract: the settings over zeros.
use Rattle.van_server.proofs.Opened.{state_is}
use borrow.Author.Rules.{rules}
use Rattle.van_server.proofs.state_of.Goals as goal

pub returns : goal.returns
returns c = search (state_is, rules)
