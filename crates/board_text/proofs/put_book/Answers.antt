-- `put_book` meets its contract: its loop keeps `LinesInv`; by `line_loops`, `book_done`.
use Rattle.number_text.specs.laws.Text.{line_loops, lines_start}
use Rattle.board_text.proofs.Lines.{book_done}
use Rattle.std.proofs.Common.{◌∙◌, ℕ, min, ap, arith, rules}
use Rattle.board_text.proofs.put_book.Goals as goal

pub loop-k-init : goal.loop-k-init
loop-k-init c = lines_start (omega (arith, c.min-k-end.ensures, c.from.ensures))

pub put_scope-to-requires : goal.put_scope-to-requires
put_scope-to-requires c = search (line_loops, rules)

pub loop-k-preserved : goal.loop-k-preserved
loop-k-preserved c = search (line_loops, rules)

pub returns : goal.returns
returns c = book_done c.args.state c.args.board c.loop-k.invariant (c.min-k-end.ensures ∙ ap (λ (k : ℕ). min k 4) c.from.ensures) c.loop-k-test.false
