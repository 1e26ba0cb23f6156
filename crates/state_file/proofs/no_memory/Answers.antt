-- `no_memory` meets its contract: by `no_memory_is`.
use Rattle.state_file.proofs.Loads.{no_memory_is}
use borrow.Author.Rules.{rules}
use Rattle.state_file.proofs.no_memory.Goals as goal

pub returns : goal.returns
returns c = search (no_memory_is, rules)
