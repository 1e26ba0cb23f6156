-- `put_features` meets its contract: the option, or nothing.
use Rattle.reply.proofs.Writes.{option_put, put_none}
use borrow.Author.Rules.{rules}
use mathlib.Core.List.{[], ◌∷◌}
use mathlib.Core.Path.{refl}
use native.Mathlib.Omega.{arith}
use Rattle.reply.proofs.put_features.Goals as goal

pub returns-then-head : goal.returns-then-head
returns-then-head c = rw c.if-head.true (option_put _ 6 10 (0 ∷ 0 ∷ 0 ∷ 0 ∷ 0 ∷ 0 ∷ []) refl (omega arith) (search rules) c.put_code-a.ensures c.put_run.ensures)

pub returns : goal.returns
returns c = rw c.if-head.false (put_none _ _ _)
