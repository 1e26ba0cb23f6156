-- `put_list` meets its contract: by `list_wrote`.
use Rattle.salvage_list.specs.laws.List.{count_room, first_room, list_wrote, second_room, third_room}
use borrow.Author.Rules.{rules}
use Rattle.salvage_list.proofs.put_list.Goals as goal

pub put_u16-a-requires : goal.put_u16-a-requires
put_u16-a-requires c = count_room _ _ _ c.args.list.now c.requires

pub put_dropped-b-requires : goal.put_dropped-b-requires
put_dropped-b-requires c = first_room _ _ _ _ c.requires _ c.put_u16-a.ensures (search rules)

pub put_dropped-c-requires : goal.put_dropped-c-requires
put_dropped-c-requires c = second_room _ _ _ _ c.requires _ c.put_u16-a.ensures c.put_dropped-b.ensures (search rules)

pub put_dropped-requires : goal.put_dropped-requires
put_dropped-requires c = third_room _ _ _ _ c.requires _ c.put_u16-a.ensures c.put_dropped-b.ensures c.put_dropped-c.ensures (search rules)

pub returns : goal.returns
returns c = list_wrote _ _ _ _ c.requires _ c.put_u16-a.ensures c.put_dropped-b.ensures c.put_dropped-c.ensures c.dropped_count-n.ensures.0 c.put_dropped.ensures
