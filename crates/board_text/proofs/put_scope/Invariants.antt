use Rattle.number_text.specs.laws.Text.{LinesInv}
use Rattle.board_text.specs.Board.{line_on}
use Rattle.board_text.proofs.put_scope.Given as goal

abbrev pub invariant-loop-g : goal.invariant-loop-g
invariant-loop-g l = LinesInv (line_on l.state l.board l.k) 32 l.g-end l.initial.buffer l.at l.buffer l.to l.g
