use Rattle.format.specs.laws.Rows.{RowInv}
use Rattle.release_file.specs.Rows.{tenant_row}
use Rattle.state.specs.Book.{no_releases}
use Rattle.release_file.proofs.writer.put_releases.Given as goal

abbrev pub invariant-loop-i : goal.invariant-loop-i
invariant-loop-i l = RowInv tenant_row no_releases l.q-items 8 8 8 l.initial.buffer l.at l.buffer l.to l.i
