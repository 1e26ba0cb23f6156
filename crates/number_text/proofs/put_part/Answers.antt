-- `put_part` meets its contract: an octet and a point.
use Rattle.number_text.specs.laws.Text.{line_join}
use borrow.Author.Rules.{rules}
use Rattle.number_text.proofs.put_part.Goals as goal

pub returns : goal.returns
returns c = line_join (search rules) c.put_octet-a.ensures c.put_char.ensures
