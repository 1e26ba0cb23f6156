-- `load::scope_at` meets its contract: by `scope_of`.
use borrow.Author.Rules.{rules}
use Rattle.state_file.proofs.Pad.{scope_of}
use Rattle.state_file.proofs.load.scope_at.Goals as goal

pub column_at-requires : goal.column_at-requires
column_at-requires c = search (scope_of, rules)

pub column_at-requires-2 : goal.column_at-requires-2
column_at-requires-2 c = search (scope_of, rules)

pub read_u32-requires : goal.read_u32-requires
read_u32-requires c = search (scope_of, rules)

pub returns : goal.returns
returns c = search (scope_of, rules)
