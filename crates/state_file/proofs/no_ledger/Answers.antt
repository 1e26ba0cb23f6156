-- `no_ledger` meets its contract: by `no_ledger_is`.
use Rattle.state_file.proofs.Loads.{no_ledger_is}
use borrow.Author.Rules.{rules}
use Rattle.state_file.proofs.no_ledger.Goals as goal

pub returns : goal.returns
returns c = search (no_ledger_is, rules)
