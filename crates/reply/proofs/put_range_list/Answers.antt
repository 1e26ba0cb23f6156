-- `put_range_list` meets its contract: the loop writes one range a turn (`RangesInv`).
use Rattle.reply.proofs.Writes.{range_short, ranges_end, ranges_fall, ranges_room, ranges_start, ranges_turn}
use borrow.Author.Rules.{rules}
use native.Mathlib.Omega.{arith}
use Rattle.reply.proofs.put_range_list.Goals as goal

pub loop-left-init : goal.loop-left-init
loop-left-init c = ranges_start c.ranges.set.fits

pub put_range-to-requires : goal.put_range-to-requires
put_range-to-requires c = (omega (arith, ranges_room c.loop-left.invariant (omega arith) c.first_range-r.ensures, c.loop-left.invariant.kept), range_short c.loop-left.invariant (omega arith) c.first_range-r.ensures)

pub loop-left-smaller : goal.loop-left-smaller
loop-left-smaller c = ranges_fall c.loop-left.invariant (omega arith) c.first_range-r.ensures c.rest-left.ensures

pub loop-left-preserved : goal.loop-left-preserved
loop-left-preserved c = ranges_turn c.loop-left.invariant (omega arith) c.first_range-r.ensures (search rules) c.put_range-to.ensures c.put_range-to.auto.buffer c.rest-left.ensures

pub returns : goal.returns
returns c = search (ranges_end, rules)
