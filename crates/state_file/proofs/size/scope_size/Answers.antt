-- `size::scope_size` meets its contract: by `scope_length`.
use borrow.Author.Rules.{rules}
use Rattle.state_file.proofs.RowLaws.{wide_cut}
use Rattle.state_file.proofs.Writes.{scope_length}
use Rattle.state_file.proofs.size.scope_size.Goals as goal

pub returns : goal.returns
returns c = scope_length c.args.c c.args.h _ (search rules) (search rules) (wide_cut 8 c.from.ensures c.min.ensures)
