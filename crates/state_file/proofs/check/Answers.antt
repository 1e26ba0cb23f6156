-- `check` meets its contract: by `layout_right`, `check_yes`, `check_not`.
use Rattle.std.proofs.Common.{arith}
use Rattle.std.proofs.lemmas.Result.{err_from_is_err_and}
use Rattle.state_file.proofs.Loads.{check_not, check_yes, layout_right}
use Rattle.state_file.specs.StateFile.{refusal_number}
use Rattle.state_file.proofs.check.Goals as goal

pub check_at-requires : goal.check_at-requires
check_at-requires c = layout_right _ c.form_of.ensures (grind arith)

pub returns : goal.returns
returns c = check_yes _ c.form_of.ensures _ (grind arith) c.check_at.ensures

pub returns-in_err-ok_or : goal.returns-in_err-ok_or
unfolding refusal_number
returns-in_err-ok_or c = let p = err_from_is_err_and c.from_residual.result c.from_residual.ensures.1 in rw (p.1, p.2) (check_not _ c.form_of.ensures _ (grind arith) (grind arith))
