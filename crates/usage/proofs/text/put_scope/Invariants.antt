use Rattle.number_text.specs.laws.Text.{LinesInv}
use Rattle.usage.specs.Report.{total_in}
use Rattle.usage.specs.Usage.{total_line}
use Rattle.usage.proofs.text.put_scope.Given as goal

abbrev pub invariant-loop-g : goal.invariant-loop-g
invariant-loop-g l = LinesInv (total_line l.state (total_in l.totals) l.k) 58 l.g-end l.initial.buffer l.at l.buffer l.to l.g
