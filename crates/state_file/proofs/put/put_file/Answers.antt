-- `put_file` meets its contract: by `file_length`, `file_wrote`.
use Rattle.state_file.proofs.Writes.{file_last, file_length, file_rest, file_wrote}
use borrow.Author.Rules.{rules}
use mathlib.Core.Path.{refl}
use native.Mathlib.Omega.{arith}
use Rattle.state_file.proofs.put.put_file.Goals as goal

pub put_sections-a-requires : goal.put_sections-a-requires
put_sections-a-requires c = let f = file_length c.args.state c.args.table c.args.memory c.args.names.now in omega arith

pub put_run-b-requires : goal.put_run-b-requires
put_run-b-requires c = let f = file_length c.args.state c.args.table c.args.memory c.args.names.now in let g = c.put_sections-a.ensures.next in search rules

pub put-c-requires : goal.put-c-requires
put-c-requires c = file_rest c.args.state c.args.table c.args.memory c.args.names.now (search rules) c.put_sections-a.ensures refl c.put_run-b.ensures (search rules)

pub put-requires : goal.put-requires
put-requires c = file_last c.args.state c.args.table c.args.memory c.args.names.now (search rules) c.put_sections-a.ensures refl c.put_run-b.ensures c.put-c.ensures (search rules)

pub returns : goal.returns
returns c = file_wrote c.args.state c.args.table c.args.memory c.args.names.now c.put_sections-a.ensures refl c.put_run-b.ensures c.put-c.ensures c.put.ensures
