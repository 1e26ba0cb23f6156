-- `write_refused` meets its contract: one test.
use Rattle.usage.specs.laws.Text.{room_short, room_wrote}
use borrow.Author.Rules.{rules}
use Rattle.usage.specs.Usage.{refused_text}
use Rattle.usage.proofs.write_refused.Goals as goal

pub returns-then-room-lt-TEXT_LIMIT : goal.returns-then-room-lt-TEXT_LIMIT
returns-then-room-lt-TEXT_LIMIT c =
    let w = room_short (refused_text c.args.number c.args.place) c.args.room.now (search rules) in record { length = w.0; octets = w.1 }

pub returns : goal.returns
returns c = let w = room_wrote (refused_text c.args.number c.args.place) c.args.room.now _ _ (search rules) c.put_refused.ensures in record { length = w.0; octets = w.1 }
