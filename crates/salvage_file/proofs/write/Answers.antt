-- `write` meets its contract: by `room_short`, `list_short`, `both_written`.
use Rattle.salvage_file.specs.laws.File.{both_written, list_short, names_part, room_short}
use Rattle.std.proofs.Common.{rules}
use Rattle.salvage_file.proofs.write.Goals as goal

pub returns-then-room-length : goal.returns-then-room-length
returns-then-room-length c = search (room_short, names_part, rules)

pub returns-then-list-listed : goal.returns-then-list-listed
returns-then-list-listed c = search (list_short, names_part, rules)

pub returns : goal.returns
returns c = both_written c.requires.2 c.requires.1 _ _ _ _ _ _ c.in_file_order-filed.ensures (names_part _ _) c.file_size-length.ensures c.list_size-listed.ensures _ _ _ _ c.if-room-length.false c.if-list-listed.false c.put_file.ensures c.put_list.ensures
