-- `banshorra_occupancy` meets its contract: a short room, a board that is written, and a refused file.
use Rattle.std.proofs.Common.{sym, ◌∙◌}
use Rattle.embed.proofs.Occupancy.{board_put, board_refused, board_short}
use Rattle.embed.proofs.banshorra_occupancy.Goals as goal

pub returns-then-board-lt-BOARD_ROOM : goal.returns-then-board-lt-BOARD_ROOM
returns-then-board-lt-BOARD_ROOM c =
    let w = board_short c.args.file.now c.args.board.now (sym c.in-Ok.is ∙ c.read.ensures) c.if-board-lt-BOARD_ROOM.true in
    record { number = w.0; octets = w.1 }

pub returns-else-board-lt-BOARD_ROOM : goal.returns-else-board-lt-BOARD_ROOM
returns-else-board-lt-BOARD_ROOM c =
    let w = board_put c.args.file.now c.args.board.now (sym c.in-Ok.is ∙ c.read.ensures) c.if-board-lt-BOARD_ROOM.false c.put.ensures in
    record { number = w.0; octets = w.1 }

pub returns-in-Err : goal.returns-in-Err
returns-in-Err c =
    let w = board_refused c.args.file.now c.args.board.now (sym c.in-Err.is ∙ c.read.ensures) in
    record { number = c.number.ensures ∙ w.0; octets = w.1 }
