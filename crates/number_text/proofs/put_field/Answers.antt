-- `put_field` meets its contract: a blank and a number.
use Rattle.number_text.specs.laws.Text.{field_wrote}
use borrow.Author.Rules.{rules}
use Rattle.number_text.proofs.put_field.Goals as goal

pub returns : goal.returns
returns c = field_wrote c.args.n (search rules) c.put_char-a.ensures c.put_number.ensures
