-- `put_scope_list` meets its contract: the scopes, and then what stands before them (`scopes_put`).
use Rattle.lists.specs.laws.Part.{unmapped}
use Rattle.names.specs.laws.Names.{sent_most}
use Rattle.reply.proofs.Writes.{list_fits, scopes_put}
use Rattle.reply.specs.Reply.{name_for}
use borrow.Author.Rules.{rules}
use mathlib.Core.Path.{refl}
use Rattle.reply.proofs.put_scope_list.Goals as goal

pub put_scopes-end-requires : goal.put_scopes-end-requires
put_scopes-end-requires c = (search rules, (c.requires.1, search rules))

pub overflow_cast-end : goal.overflow_cast-end
overflow_cast-end c = let a = c.args in let f = list_fits (name_for a.info a.names.now) a.info.scopes c.min-n.result a.at (λ place. sent_most _ _ _ place _) (search rules) c.put_scopes-end.ensures in search rules

pub returns : goal.returns
returns c = let a = c.args in scopes_put (name_for a.info a.names.now) _ a.info.count _ _ (λ place. sent_most _ _ _ place _) (search (unmapped, c.well_formed.1.1.0, rules)) (search rules) (search rules) (search rules) c.put_scopes-end.ensures refl c.put_code-a.ensures c.put_u8-b.ensures
