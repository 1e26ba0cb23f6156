use Rattle.reply.proofs.Writes.{ScopesInv}
use Rattle.reply.specs.Reply.{name_for}
use Rattle.reply.proofs.put_scopes.Given as goal

abbrev pub invariant-loop-i : goal.invariant-loop-i
invariant-loop-i l = ScopesInv l.initial.buffer l.at (name_for l.info l.names) l.info.scopes l.n l.buffer l.i l.to
