-- `take` meets its contract: a lease of its scope and addresses.
use Rattle.state.specs.Book.{board_without}
use borrow.Author.Rules.{rules}
use Rattle.agreement.proofs.take.Goals as goal

pub returns : goal.returns
unfolding board_without
returns c = search rules
