-- `row_end` meets its contract: what the rest of the steps lead to, all of them do (`On`).
use Rattle.std.proofs.Common.{rules}
use Rattle.names.proofs.Rows.{on_broken, on_done, on_next, on_start}
use Rattle.names.proofs.row_end.Goals as goal

pub loop-init : goal.loop-init
loop-init g c = (c.requires.first, on_start)

pub returns-in_err-here : goal.returns-in_err-here
returns-in_err-here g c = rw c.from_residual.ensures (on_broken c.loop.invariant.1 c.loop-test.true c.in_err-here.ensures)

pub loop-preserved : goal.loop-preserved
loop-preserved g c = (c.requires.next _ _ c.loop.invariant.0 c.in_ok-here.ensures, on_next c.loop.invariant.1 c.loop-test.true c.in_ok-here.ensures)

pub returns : goal.returns
returns g c = on_done c.loop.invariant.1 (search rules)
