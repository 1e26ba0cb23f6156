-- `load::scopes_at` meets its contract: its loop keeps `PadInv`; by `row_in`, `scope_pads`.
use Prim.Native.Nat.{◌*◌, ◌+◌}
use native.Mathlib.Omega.{arith}
use lib.ListN.{length}
use borrow.Author.Rules.{rules}
use Rattle.state_file.proofs.Pad.{row_in, scope_pads}
use Rattle.state_file.proofs.load.scopes_at.Goals as goal

pub no_scope-out-requires : goal.no_scope-out-requires
no_scope-out-requires c = search (scope_pads, rules)

pub loop-i-init : goal.loop-i-init
loop-i-init c = search (scope_pads, rules)

pub overflow_mul-i : goal.overflow_mul-i
overflow_mul-i c = let a = c.args in omega (arith, row_in (length a.s.now) a.at c.loop-i.i a.k (6 + a.h * 2) (omega arith) c.requires.2)

pub overflow_add-at : goal.overflow_add-at
overflow_add-at c = let a = c.args in omega (arith, row_in (length a.s.now) a.at c.loop-i.i a.k (6 + a.h * 2) (omega arith) c.requires.2)

pub scope_at-requires : goal.scope_at-requires
scope_at-requires c = let a = c.args in (search rules, omega (arith, row_in (length a.s.now) a.at c.loop-i.i a.k (6 + a.h * 2) (omega arith) c.requires.2))

pub loop-i-preserved : goal.loop-i-preserved
loop-i-preserved c = search (scope_pads, rules)

pub returns : goal.returns
returns c = search (scope_pads, rules)
