-- `write_sound` meets its contract: the table of the records is sound, and what is written of it is what is written of them.
use Rattle.call_list.proofs.Sound.{sound_answer, sound_room, table_sound}
use borrow.Author.Rules.{rules}
use Rattle.call_list.proofs.write_sound.Goals as goal

pub write_sound-requires : goal.write_sound-requires
write_sound-requires c = search (table_sound, rules)

pub returns : goal.returns
returns c = search (sound_answer, sound_room, rules)
