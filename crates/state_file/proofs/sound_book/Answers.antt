-- `sound_book` meets its contract: by `book_yes`, `book_not`, `book_memory`, `book_board`.
use Rattle.lists.specs.laws.Part.{unmapped}
use Rattle.std.proofs.Common.{rules}
use Rattle.state_file.proofs.Writes.{book_board, book_memory, book_not, book_yes}
use Rattle.state_file.proofs.sound_book.Goals as goal

pub returns-then-agrees : goal.returns-then-agrees
returns-then-agrees c = search (book_yes, unmapped, rules)

pub returns-else-agrees : goal.returns-else-agrees
returns-else-agrees c = search (book_yes, book_not, book_memory, book_board, unmapped, rules)
