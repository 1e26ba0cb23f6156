-- `put_identifier` meets its contract: code and length, and then the value (`option_put`).
use Rattle.reply.proofs.Writes.{id_fits, id_put}
use borrow.Author.Rules.{rules}
use Rattle.reply.proofs.put_identifier.Goals as goal

pub put_run-requires : goal.put_run-requires
put_run-requires c = (search rules, id_fits c.args.head.id.octets c.args.head.id.len _ c.id_length-n.ensures.0)

pub returns : goal.returns
returns c = id_put _ c.args.head.id.len _ c.id_length-n.ensures.0 c.id_length-n.ensures.1 (search rules) c.put_code-a.ensures c.put_run.ensures
