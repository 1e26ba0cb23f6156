-- `read` meets its contract: by `layout_right`, `read_yes`, `read_not`.
use Rattle.std.proofs.Common.{arith}
use Rattle.std.proofs.lemmas.Result.{err_from_is_err_and}
use Rattle.state_file.proofs.Loads.{layout_right, read_not, read_yes}
use Rattle.state_file.proofs.read.Goals as goal

pub book_at-requires : goal.book_at-requires
book_at-requires c = layout_right _ c.form_of.ensures (grind arith)

pub returns : goal.returns
returns c = read_yes _ c.form_of.ensures _ (grind arith) c.book_at.ensures

pub returns-in_err-ok_or : goal.returns-in_err-ok_or
returns-in_err-ok_or c = let p = err_from_is_err_and c.from_residual.result c.from_residual.ensures.1 in rw (p.1, p.2) (read_not _ c.form_of.ensures _ (grind arith) (grind arith))
