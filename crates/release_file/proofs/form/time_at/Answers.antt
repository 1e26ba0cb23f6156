-- `time_at` meets its contract: the number at its place.
use Rattle.release_file.specs.laws.Form.{time_is}
use borrow.Author.Rules.{rules}
use Rattle.release_file.proofs.form.time_at.Goals as goal

pub returns : goal.returns
returns c = search (time_is, rules)
