use Rattle.std.proofs.Common.{length}
use Rattle.format.specs.laws.Rows.{RowInv}
use Rattle.release_file.specs.Rows.{release_octets}
use Rattle.state.specs.laws.Layout.{no_release}
use Rattle.release_file.proofs.writer.put_tenant.Given as goal

abbrev pub invariant-loop-e : goal.invariant-loop-e
invariant-loop-e l = RowInv (release_octets l.tenant) no_release l.e-items (length l.e-items) (length l.e-items) (length l.e-items) l.initial.buffer l.at l.buffer l.to l.e-index
