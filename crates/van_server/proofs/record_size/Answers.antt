-- `record_size` meets its contract: a head, and what it tells.
use Rattle.van_server.proofs.Answered.{size_cut, size_told}
use borrow.Author.Rules.{rules}
use Rattle.van_server.proofs.record_size.Goals as goal

pub returns-then-input-lt-HEAD : goal.returns-then-input-lt-HEAD
returns-then-input-lt-HEAD c = search (size_cut, rules)

pub returns : goal.returns
returns c = search (size_told, rules)
