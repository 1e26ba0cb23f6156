-- `fill` meets its contract: its loop keeps `FillInv`; by `fills`.
use Rattle.lease_file.specs.laws.Load.{fills}
use Rattle.std.proofs.Common.{rules}
use Rattle.lease_file.proofs.reader.fill.Goals.{then-t-lt16, else-t-lt16}
use Rattle.lease_file.proofs.reader.fill.Goals as goal

pub loop-init : goal.loop-init
loop-init c = search (fills, rules)

pub record_at-l-requires : goal.record_at-l-requires
record_at-l-requires c = search (fills, rules)

pub tenant_place-requires : goal.tenant_place-requires
tenant_place-requires c = search (fills, rules)

pub entry_next-here-requires : goal.entry_next-here-requires
entry_next-here-requires c = search (fills, rules)

pub loop-preserved : goal.loop-preserved
loop-preserved c = elim c.if-t-lt16.branch [ then-t-lt16 w ↦ rw w.tenants-is (search (fills, rules)) | else-t-lt16 w ↦ rw w.tenants-is (search (fills, rules)) ]

pub returns : goal.returns
returns c = search (fills, rules)
