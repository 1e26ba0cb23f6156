use Rattle.lists.specs.laws.Each.{BuildInv}
use Rattle.soundness.specs.Parts.{word_of}
use Rattle.state.specs.laws.Layout.{no_lease}
use Rattle.std.proofs.Common.{replicate}
use Rattle.soundness.proofs.tenants.words_of.Given as goal

abbrev pub invariant-loop-i : goal.invariant-loop-i
invariant-loop-i l = BuildInv word_of no_lease l.fn.t.leases (replicate 16 0) 16 l.words l.i
