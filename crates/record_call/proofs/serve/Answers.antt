-- `serve` meets its contract: tests 1 and 2 where the room is short, else the two halves.
use Rattle.record_call.specs.laws.Call.{serve_joined}
use Rattle.record_call.proofs.serve.Goals as goal

pub returns-then-reply-lt-LEAST_ROOM : goal.returns-then-reply-lt-LEAST_ROOM
returns-then-reply-lt-LEAST_ROOM c = c.short_room.ensures _ _ c.if-reply-lt-LEAST_ROOM.true

pub returns : goal.returns
returns c = serve_joined _ _ _ _ _ c.if-reply-lt-LEAST_ROOM.false c.judge-j.ensures c.raise-s.ensures c.write-o.ensures
