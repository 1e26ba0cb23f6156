-- `answer_call` meets its contract. The search does not come to `answered` by itself: its premises are named here, from what is required to the four
use Rattle.call_list.proofs.Answered.{answered}
use native.Mathlib.Omega.{arith}
use Rattle.call_list.proofs.answer_call.Goals as goal

pub put_u16-requires-2 : goal.put_u16-requires-2
put_u16-requires-2 c = omega (arith, c.requires.0)

pub returns : goal.returns
returns c = let a = c.args in
    answered a.o.ledger a.o.records.leases a.names.now a.datagram.now a.client a.time a.room _ _
    (c.requires.0, c.requires.1) c.serve_sound-r.ensures c.answers-1.given.0 c.put_u8.ensures c.put_u16.ensures c.put_u8-2.ensures c.put_u16-2.ensures
