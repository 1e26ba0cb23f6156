-- `put_scopes` meets its contract: the loop writes one scope a turn (`ScopesInv`).
use Rattle.lists.specs.laws.Part.{unmapped}
use Rattle.names.specs.laws.Names.{sent_most}
use Rattle.reply.proofs.Writes.{scopes_end, scopes_long, scopes_next, scopes_start}
use borrow.Author.Rules.{rules}
use Rattle.reply.proofs.put_scopes.Goals as goal

pub loop-i-init : goal.loop-i-init
loop-i-init c = search (scopes_start, scopes_long, unmapped, rules)

pub put_scope-to-requires : goal.put_scope-to-requires
put_scope-to-requires c = (let v = c.loop-i.invariant in let a = v.near in let b = v.kept in search rules, (c.requires.1.0, search rules))

pub loop-i-preserved : goal.loop-i-preserved
loop-i-preserved c = scopes_next c.loop-i.invariant _ (search rules) (search rules) (sent_most _ _ _ _ _) c.put_scope-to.ensures c.put_scope-to.auto.buffer

pub returns : goal.returns
returns c = search (scopes_end, rules)
