-- `no_state` meets its contract: by `no_state_is`.
use Rattle.state_file.proofs.Loads.{no_state_is}
use borrow.Author.Rules.{rules}
use Rattle.state_file.proofs.no_state.Goals as goal

pub returns : goal.returns
returns c = search (no_state_is, rules)
