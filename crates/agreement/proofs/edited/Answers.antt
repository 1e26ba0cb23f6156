-- `edited` meets its contract: what enters, if anything does, on the board that is left.
use Rattle.agreement.specs.laws.Code.{board_rest, board_some}
use Rattle.agreement.proofs.edited.Goals as goal

pub returns-in-Some : goal.returns-in-Some
returns-in-Some c = board_some _ _ _ c.left-rest.ensures c.in-Some.is c.add.ensures

pub returns-in-None : goal.returns-in-None
returns-in-None c = board_rest _ _ _ c.left-rest.ensures c.in-None.is
