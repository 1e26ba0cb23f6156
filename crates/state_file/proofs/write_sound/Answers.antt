-- `write_sound` meets its contract: by `write_done`, `write_short`.
use Rattle.state_file.proofs.Writes.{write_done, write_short}
use borrow.Author.Rules.{rules}
use Rattle.state_file.proofs.write_sound.Goals as goal

pub returns-then-room-n : goal.returns-then-room-n
returns-then-room-n c =
    let w = write_short _ (search rules) _ c.args.room.now c.in_file_order-filed.ensures c.file_size-n.ensures c.if-room-n.true in
    record { answer = w.0; octets = w.1 }

pub returns : goal.returns
returns c =
    let w =
    write_done _ (search rules) _ c.args.room.now c.in_file_order-filed.ensures c.file_size-n.ensures _ _ c.if-room-n.false
    c.put_file.ensures
    in
    record { answer = w.0; octets = w.1 }
