use Prim.Native.Nat.{◌-◌}
use Rattle.call_list.proofs.Replayed.{ReplayInv}
use Rattle.call_list.specs.CallList.{replayed}
use Rattle.call_list.specs.Promises.{OwnedSound}
use lib.ListN.{length}
use Rattle.call_list.proofs.replay.Given as goal

abbrev pub invariant-loop-at : goal.invariant-loop-at
invariant-loop-at l = ReplayInv l.names l.calls l.initial.answers (replayed (length l.calls) l.initial.o.ledger l.initial.o.records.leases l.names l.calls (length l.initial.answers)) l.o.ledger l.o.records.leases l.answers l.at l.to × OwnedSound l.o l.names

abbrev pub decreases-loop-at : goal.decreases-loop-at
decreases-loop-at l = length l.calls - l.at
