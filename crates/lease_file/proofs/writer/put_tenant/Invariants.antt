use Rattle.format.specs.laws.Rows.{RowInv}
use Rattle.lease_file.specs.Rows.{entry_octets}
use Rattle.state.specs.laws.Layout.{no_lease}
use Rattle.std.proofs.Common.{length}
use Rattle.lease_file.proofs.writer.put_tenant.Given as goal

abbrev pub invariant-loop-l : goal.invariant-loop-l
invariant-loop-l l = RowInv (entry_octets l.holds l.tenant) no_lease l.leases (length l.leases) (length l.leases) (length l.leases) l.initial.buffer l.at l.buffer l.to l.l-index
