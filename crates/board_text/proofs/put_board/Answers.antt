-- `put_board` meets its contract: by `board_wrote`.
use Rattle.board_text.proofs.Lines.{board_wrote}
use Rattle.board_text.proofs.put_board.Goals as goal

pub returns : goal.returns
returns c = board_wrote c.args.state c.args.board c.put-a.ensures c.put_book.ensures
