-- `put_refused` meets its contract: by `refused_wrote`.
use Rattle.board_text.proofs.Lines.{refused_wrote}
use Rattle.board_text.proofs.put_refused.Goals as goal

pub returns : goal.returns
returns c = refused_wrote c.args.n c.put-a.ensures c.put_octet_field-b.ensures c.put_char.ensures
