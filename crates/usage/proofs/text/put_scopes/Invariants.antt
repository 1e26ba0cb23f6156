use Rattle.number_text.specs.laws.Text.{LinesInv}
use Rattle.usage.specs.Report.{total_in}
use Rattle.usage.specs.Usage.{scope_lines}
use Rattle.usage.proofs.text.put_scopes.Given as goal

abbrev pub invariant-loop-k : goal.invariant-loop-k
invariant-loop-k l = LinesInv (scope_lines l.state (total_in l.totals)) 464 l.k-end l.initial.buffer l.at l.buffer l.to l.k
