-- `write` meets its contract: room, then the discard's number, then the reply.
use Rattle.server.proofs.Steps.{write_discard, write_replied, write_short}
use Rattle.std.proofs.Common.{arith}
use Rattle.server.proofs.write.Goals as goal

pub returns-then-reply-lt-LEAST_ROOM : goal.returns-then-reply-lt-LEAST_ROOM
returns-then-reply-lt-LEAST_ROOM c = write_short _ _ _ _ _ (omega (arith, c.if-reply-lt-LEAST_ROOM.true)) c.told.ensures

pub returns-then-v-eq0 : goal.returns-then-v-eq0
returns-then-v-eq0 c = write_replied _ _ _ _ (omega (arith, c.if-reply-lt-LEAST_ROOM.false)) c.if-v-eq0.true c.write_reply.ensures

pub returns : goal.returns
returns c = write_discard _ _ _ _ _ (omega (arith, c.if-reply-lt-LEAST_ROOM.false)) c.if-v-eq0.false c.min.ensures c.told-2.ensures
