-- `write_board` meets its contract: by `board_answer`, `board_none`, `refused_answer`.
use Rattle.std.proofs.Common.{sym, ◌∙◌}
use Rattle.board_text.proofs.Lines.{board_answer, board_none, refused_answer}
use Rattle.state_file.specs.StateFile.{read_file}
use Rattle.board_text.proofs.write_board.Goals as goal

pub returns-then-room-lt1100 : goal.returns-then-room-lt1100
returns-then-room-lt1100 c = let w = board_none (read_file c.args.file.now) c.args.room.now c.if-room-lt1100.true in record { length = w.0; octets = w.1 }

pub returns-in-Ok : goal.returns-in-Ok
returns-in-Ok c =
    let w = board_answer c.args.file.now c.args.room.now _ _ c.if-room-lt1100.false c.in-Ok.book (sym c.in-Ok.is ∙ c.read_book.ensures) c.put_board.ensures in
    record { length = w.0; octets = w.1 }

pub returns-in-Err : goal.returns-in-Err
returns-in-Err c =
    let w = refused_answer c.args.file.now c.args.room.now _ _ c.if-room-lt1100.false c.in-Err.refusal c.number.result (sym c.in-Err.is ∙ c.read_book.ensures) c.number.ensures c.put_refused.ensures in
    record { length = w.0; octets = w.1 }
