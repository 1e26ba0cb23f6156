-- `put` meets its contract: by `memory_wrote`.
use Rattle.lists.specs.laws.Part.{unmapped}
use Rattle.release_file.specs.laws.Rows.{memory_wrote, section_length}
use borrow.Author.Rules.{rules}
use native.Mathlib.Omega.{arith}
use Rattle.release_file.proofs.put.Goals as goal

pub put_u8-a-requires : goal.put_u8-a-requires
put_u8-a-requires c = let l = section_length c.args.m (search (unmapped, rules)) in omega arith

pub put_releases-requires : goal.put_releases-requires
put_releases-requires c = let l = section_length c.args.m (search (unmapped, rules)) in omega (arith, c.put_u8-a.ensures.next)

pub returns : goal.returns
returns c = memory_wrote c.args.m (search (unmapped, rules)) (search rules) c.total.ensures.0 c.put_u8-a.ensures c.put_releases.ensures
