-- `read` meets its contract: the file's refusal, then the number of records.
use Rattle.std.proofs.Common.{sym}
use Rattle.std.proofs.lemmas.Result.{err_from_is_err_and}
use Rattle.records.specs.laws.Steps.{read_in, read_out, read_refused}
use Rattle.records.proofs.read.Goals as goal

pub returns-in_err-book : goal.returns-in_err-book
returns-in_err-book c = let p = err_from_is_err_and c.from_residual.result c.from_residual.ensures.1 in rw (p.1, p.2) (read_refused c.args.n (sym c.in_err-book.ensures))

pub returns-then-n-ne128 : goal.returns-then-n-ne128
returns-then-n-ne128 c = read_out c.args.n (sym c.in_ok-book.ensures) c.if-n-ne128.true

pub returns : goal.returns
returns c = read_in c.args.n (sym c.in_ok-book.ensures) c.if-n-ne128.false c.records_of.ensures
