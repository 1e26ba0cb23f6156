-- `put_scope` meets its contract: the name that is found, and the scope with it.
use Rattle.reply.proofs.Writes.{name_short, scope_put, sendable_good, sendable_place}
use borrow.Author.Rules.{rules}
use mathlib.Core.Path.{refl}
use Rattle.reply.proofs.put_scope.Goals as goal

pub for_scope-name-requires : goal.for_scope-name-requires
for_scope-name-requires c = search (sendable_good, sendable_place, rules)

pub put_run-requires : goal.put_run-requires
put_run-requires c = let a = c.args in let m = name_short a.info a.names.now a.place c.for_scope-name.ensures in search rules

pub returns : goal.returns
returns c = let a = c.args in scope_put a.info a.names.now a.place a.e _ _ c.for_scope-name.ensures refl c.name_count.ensures (search rules) c.put_entry-a.ensures c.put_run.ensures
