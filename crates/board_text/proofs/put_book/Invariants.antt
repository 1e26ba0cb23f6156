use Rattle.number_text.specs.laws.Text.{LinesInv}
use Rattle.board_text.specs.Board.{scope_on}
use Rattle.board_text.proofs.put_book.Given as goal

abbrev pub invariant-loop-k : goal.invariant-loop-k
invariant-loop-k l = LinesInv (scope_on l.state l.board) 256 l.k-end l.initial.buffer l.at l.buffer l.to l.k
