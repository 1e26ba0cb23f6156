-- `file_size` meets its contract: by `file_sum`.
use Rattle.state_file.proofs.Writes.{file_sum}
use Rattle.state_file.proofs.size.file_size.Goals as goal

pub returns : goal.returns
returns c = file_sum c.args.state c.args.table c.args.memory c.args.names.now _ _ _ c.sections_size.ensures.0 c.size.ensures.0 c.size-2.ensures.0
