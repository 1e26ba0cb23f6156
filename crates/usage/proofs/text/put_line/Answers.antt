-- `put_line` meets its contract: by `line_wrote`.
use Rattle.usage.specs.laws.Text.{line_wrote}
use Rattle.std.proofs.Common.{rules}
use Rattle.usage.proofs.text.put_line.Goals as goal

pub returns : goal.returns
returns c = line_wrote _ _ _ (search rules) c.put_dotted-x.ensures c.put_field-y.ensures c.put_field-z.ensures c.put_char.ensures
