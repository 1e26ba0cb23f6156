-- `replay` meets its contract. The loop keeps that to go on from what is done gives the whole, and that the book is sound; the measure is what is left of the calls. Neither
use Rattle.call_list.proofs.Replayed.{answer_inside, answer_room_law, record_head, record_inside, replay_ended, replay_next, replay_start, replay_stopped}
use Rattle.call_list.proofs.Sound.{still_sound}
use borrow.Author.Rules.{rules}
use native.Mathlib.Omega.{arith}
use Rattle.call_list.proofs.replay.Goals as goal

pub loop-at-init : goal.loop-at-init
loop-at-init c = search (replay_start, rules)

pub returns-then-k-ne0 : goal.returns-then-k-ne0
returns-then-k-ne0 c = search (replay_stopped, rules)

pub answer_record-r-requires : goal.answer_record-r-requires
answer_record-r-requires c = search (record_inside, answer_room_law, rules)

pub record_size-at-requires : goal.record_size-at-requires
record_size-at-requires c = search (record_head, rules)

pub overflow_add-at : goal.overflow_add-at
overflow_add-at c = omega (arith, record_inside _ c.loop-at.invariant.0 c.stop_number-k.ensures c.if-k-ne0.false)

pub overflow_add-to : goal.overflow_add-to
overflow_add-to c = omega (arith, answer_room_law _ c.loop-at.invariant.0 c.stop_number-k.ensures c.if-k-ne0.false, c.loop-at.invariant.0.long, c.well_formed.1.1.1.0.0)

pub overflow_add-to-in-loop-at : goal.overflow_add-to-in-loop-at
overflow_add-to-in-loop-at c = omega (arith, answer_inside _ c.loop-at.invariant.0 c.stop_number-k.ensures c.if-k-ne0.false c.answer_record-r.ensures (search rules), c.well_formed.1.1.1.0.0)

pub loop-at-preserved : goal.loop-at-preserved
loop-at-preserved c = search (replay_next, still_sound, rules)

pub returns : goal.returns
returns c = search (replay_ended, rules)
