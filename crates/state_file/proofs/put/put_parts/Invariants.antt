use Rattle.state_file.proofs.RowLaws.{PairInv}
use Rattle.state_file.proofs.put.put_parts.Given as goal

abbrev pub invariant-loop-i : goal.invariant-loop-i
invariant-loop-i l = PairInv l.c.reserve l.c.limit l.h l.n l.initial.buffer l.at l.buffer l.to l.i
