-- `range_count` meets its contract: the loop takes one range a turn (`CountInv`).
use Rattle.reply.proofs.Writes.{count_end, count_less, count_more, count_next, count_start}
use borrow.Author.Rules.{rules}
use native.Mathlib.Omega.{arith}
use Rattle.reply.proofs.range_count.Goals as goal

pub loop-left-init : goal.loop-left-init
loop-left-init c = count_start c.ranges.set.fits

pub overflow_add-n : goal.overflow_add-n
overflow_add-n c = omega (arith, count_more c.loop-left.invariant (omega arith) c.first_range-r.ensures)

pub loop-left-smaller : goal.loop-left-smaller
loop-left-smaller c = count_less c.loop-left.invariant (omega arith) c.first_range-r.ensures c.rest-left.ensures

pub loop-left-preserved : goal.loop-left-preserved
loop-left-preserved c = count_next c.loop-left.invariant (omega arith) c.first_range-r.ensures c.rest-left.ensures

pub returns : goal.returns
returns c = search (count_end, rules)
