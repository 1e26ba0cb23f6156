-- `put_sections` meets its contract: by `sections_length`, `sections_wrote`.
use Rattle.state_file.proofs.Writes.{sections_length, sections_wrote}
use native.Mathlib.Omega.{arith}
use Rattle.state_file.proofs.put.put_sections.Goals as goal

pub put_server-a-requires : goal.put_server-a-requires
put_server-a-requires c = let f = sections_length c.args.state c.args.table in omega arith

pub put_range_section-b-requires : goal.put_range_section-b-requires
put_range_section-b-requires c = let f = sections_length c.args.state c.args.table in omega (arith, c.put_server-a.ensures.next)

pub put_scope_section-c-requires : goal.put_scope_section-c-requires
put_scope_section-c-requires c = let f = sections_length c.args.state c.args.table in omega (arith, c.put_server-a.ensures.next, c.put_range_section-b.ensures.next)

pub put-requires : goal.put-requires
put-requires c = let f = sections_length c.args.state c.args.table in omega (arith, c.put_server-a.ensures.next, c.put_range_section-b.ensures.next, c.put_scope_section-c.ensures.next)

pub returns : goal.returns
returns c = sections_wrote c.args.state c.args.table c.put_server-a.ensures c.put_range_section-b.ensures c.put_scope_section-c.ensures c.put.ensures
