-- `put::put_scope` meets its contract: by `scope_least`, `scope_wrote`.
use native.Mathlib.Omega.{arith}
use borrow.Author.Rules.{rules}
use Rattle.state_file.proofs.Writes.{scope_least, scope_wrote}
use Rattle.state_file.proofs.put.put_scope.Goals as goal

pub put_number-x-requires : goal.put_number-x-requires
put_number-x-requires c = let e = scope_least c.args.h c.args.c in omega arith

pub put_u8-y-requires : goal.put_u8-y-requires
put_u8-y-requires c = let e = scope_least c.args.h c.args.c in omega (arith, c.put_number-x.ensures.next)

pub put_u8-z-requires : goal.put_u8-z-requires
put_u8-z-requires c = let e = scope_least c.args.h c.args.c in omega (arith, c.put_number-x.ensures.next, c.put_u8-y.ensures.next)

pub put_parts-requires : goal.put_parts-requires
put_parts-requires c = let e = scope_least c.args.h c.args.c in omega (arith, c.put_number-x.ensures.next, c.put_u8-y.ensures.next, c.put_u8-z.ensures.next)

pub returns : goal.returns
returns c = scope_wrote c.args.h c.args.c (search rules) c.put_number-x.ensures c.put_u8-y.ensures c.put_u8-z.ensures c.put_parts.ensures
