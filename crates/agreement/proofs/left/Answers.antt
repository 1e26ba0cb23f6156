-- `left` meets its contract: what leaves, if anything does.
use Rattle.state.specs.Edit.{board_left}
use Rattle.agreement.proofs.left.Goals as goal

pub returns-in-Some : goal.returns-in-Some
unfolding board_left
returns-in-Some c = rw c.in-Some.is c.take.ensures

pub returns-in-None : goal.returns-in-None
unfolding board_left
returns-in-None c = rw c.in-None.is
