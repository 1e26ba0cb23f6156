-- `release_at` meets its contract: by `release_stored`.
use Rattle.release_file.specs.laws.Load.{release_stored}
use borrow.Author.Rules.{rules}
use Rattle.release_file.proofs.reader.release_at.Goals as goal

pub returns : goal.returns
returns c = search (release_stored, rules)
