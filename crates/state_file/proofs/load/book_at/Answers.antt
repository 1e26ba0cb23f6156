-- `book_at` meets its contract: by `loaded_yes`, `loaded_not`, `file_parts`.
use Rattle.std.proofs.Common.{rules}
use Rattle.state_file.proofs.Loads.{file_parts, loaded_not, loaded_yes}
use Rattle.state_file.proofs.load.book_at.Goals as goal

pub returns-then-not-fits : goal.returns-then-not-fits
returns-then-not-fits c = search (loaded_not, rules)

pub state_at-state-requires : goal.state_at-state-requires
state_at-state-requires c = search (file_parts, rules)

pub load-table-requires : goal.load-table-requires
load-table-requires c = search (file_parts, rules)

pub load-memory-requires : goal.load-memory-requires
load-memory-requires c = search (file_parts, rules)

pub returns : goal.returns
returns c = search (loaded_yes, rules)
