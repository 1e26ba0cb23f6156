-- `find` meets its contract: what `records::find` says of the copy that `load` made.
use Rattle.records.specs.laws.Lent.{found_lent}
use Rattle.lent.proofs.find.Goals as goal

pub returns : goal.returns
returns c = found_lent c.args.h _ c.args.leases.now c.load-all.ensures c.find.ensures
