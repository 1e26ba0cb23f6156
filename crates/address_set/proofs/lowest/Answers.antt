-- `lowest` meets its contract: what was taken and what is left to take make the answer.
use Rattle.std.proofs.Common.{arith, rules}
use Rattle.address_set.specs.AddressSet.{bit}
use Rattle.address_set.specs.laws.Bits.{low_inv_none, low_inv_skip, low_inv_take, lows, low_of_zero, low_to_zero}
use Rattle.address_set.proofs.lowest.Goals as goal
use Rattle.address_set.proofs.lowest.Goals.{then-set-eq0-via-then-set-eq0, then-set-eq0-via-else-set-eq0+then-n-eq0, then-set-at-eq1+then-left-gt0, else-set-at-eq1, else-set-at-eq1-via-then-set-at-eq1+else-left-gt0, else-set-at-eq1-via-else-set-at-eq1}

pub returns-then-set-eq0 : goal.returns-then-set-eq0
returns-then-set-eq0 c =
    elim c.then-set-eq0.branch [
      | then-set-eq0-via-then-set-eq0 w ↦ search (low_of_zero, rules)
      | then-set-eq0-via-else-set-eq0+then-n-eq0 w ↦ search (low_to_zero, rules)
    ]

pub loop-at-init : goal.loop-at-init
loop-at-init c = search (lows, rules)

pub loop-at-preserved : goal.loop-at-preserved
unfolding bit
loop-at-preserved c =
    elim c.if-set-at-eq1.branch [
      | then-set-at-eq1+then-left-gt0 w ↦ rw (w.out-is, w.left-is) (low_inv_take c.loop-at.invariant (omega arith) (omega arith) (omega arith))
      | else-set-at-eq1 w ↦
          rw (w.out-is, w.left-is)
          (elim w.else-set-at-eq1.branch [
            | else-set-at-eq1-via-then-set-at-eq1+else-left-gt0 w' ↦ low_inv_none c.loop-at.invariant (omega arith) (omega arith)
            | else-set-at-eq1-via-else-set-at-eq1 w' ↦ low_inv_skip c.loop-at.invariant (omega arith) (omega arith)
          ])
    ]

pub returns : goal.returns
returns c = search (lows, rules)
