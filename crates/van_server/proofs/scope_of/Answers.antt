-- `scope_of` meets its contract: the settings' octets, one by one.
use Rattle.van_server.proofs.Opened.{scope_is}
use borrow.Author.Rules.{rules}
use Rattle.van_server.proofs.scope_of.Goals as goal

pub returns : goal.returns
returns c = search (scope_is, rules)
