-- `open_in` meets its contract: a law for each of its three answers.
use Rattle.embed.proofs.Files.{opened_book, opened_past, opened_short}
use borrow.Author.Rules.{rules}
use Rattle.embed.proofs.open_in.Goals as goal

pub returns-then-file-lt-FILE_LIMIT : goal.returns-then-file-lt-FILE_LIMIT
returns-then-file-lt-FILE_LIMIT c = search (opened_short, rules)

pub returns-then-file-n : goal.returns-then-file-n
returns-then-file-n c = search (opened_past, rules)

pub returns : goal.returns
returns c = search (opened_book, rules)
