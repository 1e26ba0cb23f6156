-- `put_release` meets its contract: by `release_wrote`, `release_size`.
use Rattle.release_file.specs.laws.Rows.{release_size, release_wrote}
use borrow.Author.Rules.{rules}
use native.Mathlib.Omega.{arith}
use Rattle.release_file.proofs.writer.put_release.Goals as goal

pub put_head-a-requires : goal.put_head-a-requires
put_head-a-requires c = let s = release_size c.args.tenant c.args.e in omega arith

pub put_u32-b-requires : goal.put_u32-b-requires
put_u32-b-requires c = let s = release_size c.args.tenant c.args.e in omega (arith, c.put_head-a.ensures.next)

pub put_u32-requires : goal.put_u32-requires
put_u32-requires c = let s = release_size c.args.tenant c.args.e in omega (arith, c.put_head-a.ensures.next, c.put_u32-b.ensures.next)

pub returns : goal.returns
returns c = release_wrote c.args.tenant c.args.e (search rules) c.put_head-a.ensures c.put_u32-b.ensures c.put_u32.ensures
