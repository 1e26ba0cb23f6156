use Rattle.replay_text.proofs.Hex.{HexInv}
use Rattle.replay_text.proofs.put_hex.Given as goal

abbrev pub invariant-loop-x : goal.invariant-loop-x
invariant-loop-x l = HexInv l.initial.out l.at l.s l.out l.x-index l.to
