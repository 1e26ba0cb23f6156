use Rattle.proposal.specs.Gather.{other_in}
use Rattle.lists.specs.laws.Part.{PartInv}
use Rattle.state.specs.Book.{added_if, busy_of, in_use, remove_of}
use Rattle.state.specs.laws.Layout.{no_lease}
use lib.ListN.{take}
use Rattle.proposal.proofs.others_busy.Given as goal

abbrev pub invariant-loop-i : goal.invariant-loop-i
invariant-loop-i l = PartInv (added_if (other_in (take l.len l.id) l.scope l.from l.to)) no_lease l.own.leases l.n (busy_of l.scope l.from l.to (remove_of (take l.len l.id) (in_use l.own))) l.sum l.i
