use Rattle.soundness.specs.Parts.{committed_in, limits_in}
use Rattle.soundness.specs.laws.Code.{FlagInv}
use Rattle.soundness.proofs.holdings.load_rules.Given as goal

abbrev pub invariant-loop-k : goal.invariant-loop-k
invariant-loop-k l = FlagInv (limits_in l.s l.h l.n) l.m l.holdings l.k × FlagInv (committed_in l.s l.h l.n) l.m l.commitments l.k
