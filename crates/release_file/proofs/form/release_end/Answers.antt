-- `release_end` meets its contract: by `release_ends`.
use Rattle.release_file.specs.laws.Form.{release_ends}
use borrow.Author.Rules.{rules}
use Rattle.release_file.proofs.form.release_end.Goals as goal

pub returns-then-left-lt2 : goal.returns-then-left-lt2
returns-then-left-lt2 c = search (release_ends, rules)

pub returns-then-left-n : goal.returns-then-left-n
returns-then-left-n c = search (release_ends, rules)

pub returns : goal.returns
returns c = search (release_ends, rules)
