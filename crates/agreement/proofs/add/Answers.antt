-- `add` meets its contract: a lease of its scope and addresses.
use Rattle.state.specs.Book.{board_with}
use borrow.Author.Rules.{rules}
use Rattle.agreement.proofs.add.Goals as goal

pub returns : goal.returns
unfolding board_with
returns c = search rules
