-- `put_line` meets its contract: by `line_wrote`.
use Rattle.std.proofs.Common.{rules}
use Rattle.board_text.proofs.Lines.{line_wrote}
use Rattle.board_text.proofs.put_line.Goals as goal

pub returns : goal.returns
returns c = let x = c.args in line_wrote x.a x.g x.reserve x.limit x.held (search rules) c.put_dotted-x.ensures c.put_octet_field-y.ensures c.put_octet_field-z.ensures c.put_octet_field-v.ensures c.put_octet_field-w.ensures c.put_char.ensures
