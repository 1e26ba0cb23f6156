-- `book_of` meets its contract: the settings' state, and what is zero.
use Rattle.van_server.proofs.Opened.{ledger_is}
use borrow.Author.Rules.{rules}
use Rattle.van_server.proofs.book_of.Goals as goal

pub returns : goal.returns
returns c = search (ledger_is, rules)
