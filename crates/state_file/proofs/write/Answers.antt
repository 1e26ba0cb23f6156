-- `write` meets its contract: the test, and `write_unsound` where it fails.
use Rattle.std.proofs.Common.{rules}
use Rattle.state_file.proofs.Writes.{book_known, write_unsound}
use Rattle.state_file.proofs.write.Goals as goal

pub write_sound-requires : goal.write_sound-requires
write_sound-requires c = search (book_known, rules)

pub returns-then-not-sound_book : goal.returns-then-not-sound_book
returns-then-not-sound_book c = let w = write_unsound _ c.sound_book.ensures c.args.room.now (search rules) in record { answer = w.0; octets = w.1 }
