-- `put_octet_field` meets its contract: a blank and an octet.
use Rattle.number_text.specs.laws.Text.{field_wrote}
use borrow.Author.Rules.{rules}
use Rattle.number_text.proofs.put_octet_field.Goals as goal

pub returns : goal.returns
returns c = field_wrote c.args.n (search rules) c.put_char-a.ensures c.put_octet.ensures
