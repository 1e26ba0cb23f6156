-- `tally` meets its contract: its loop keeps `TallyInv`; by `tallies`.
use Rattle.lease_file.specs.laws.Limits.{tallies, tally_small}
use Rattle.std.proofs.Common.{arith, rules}
use Rattle.lease_file.proofs.limits.tally.Goals as goal

pub loop-init : goal.loop-init
loop-init c = search (tallies, rules)

pub tenant_place-requires : goal.tenant_place-requires
tenant_place-requires c = search (tallies, rules)

pub overflow_add-n : goal.overflow_add-n
overflow_add-n c = let p = tally_small c.loop.invariant _ (omega (arith, c.type_inv.s c.args.at, c.from-end.ensures)) c.tenant_place.ensures.1 in search rules

pub entry_next-here-requires : goal.entry_next-here-requires
entry_next-here-requires c = search (tallies, rules)

pub loop-preserved : goal.loop-preserved
loop-preserved c = search (tallies, rules)

pub returns : goal.returns
returns c = search (tallies, rules)
