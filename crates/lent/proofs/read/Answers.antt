-- `read` meets its contract: what `records::read` gives is laid over ledger and records, and a refusal leaves them.
use Rattle.std.proofs.Common.{refl}
use Rattle.std.proofs.lemmas.Result.{err_from_is_err_and}
use Rattle.state_file.specs.StateFile.{read_file}
use Rattle.records.specs.Lent.{for_records}
use Rattle.records.specs.laws.Lent.{read_kept, read_laid}
use Rattle.lent.proofs.read.Goals as goal

pub returns : goal.returns
returns c = read_laid (read_file c.args.file.now) c.args.ledger.now c.args.leases.now c.in_ok-book.book c.in_ok-book.ensures refl c.store.ensures

pub returns-in_err-book : goal.returns-in_err-book
returns-in_err-book c = let p = err_from_is_err_and c.from_residual.result c.from_residual.ensures.1 in
    rw (p.1, p.2) (read_kept (for_records _ (read_file c.args.file.now)) c.args.ledger.now c.args.leases.now c.in_err-book.ensures)
