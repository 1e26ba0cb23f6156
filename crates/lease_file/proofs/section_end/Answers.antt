-- `section_end` meets its contract: its loop keeps `EntriesInv`; by `entry_walk`.
use Rattle.lease_file.specs.laws.Form.{entries_after, entries_broken, entries_next, entry_walk, lease_in_law}
use Rattle.std.proofs.Common.{rules}
use Rattle.lease_file.proofs.section_end.Goals as goal

pub returns-then-s-at : goal.returns-then-s-at
returns-then-s-at c = search (entry_walk, rules)

pub loop-init : goal.loop-init
loop-init c = search (entry_walk, rules)

pub entry_end-requires : goal.entry_end-requires
entry_end-requires c = search (entry_walk, rules)

pub returns-in_err-next : goal.returns-in_err-next
returns-in_err-next c = rw c.from_residual.ensures (entries_broken c.loop.invariant c.loop-test.true c.entry_end.ensures c.in_err-next.was)

pub is_after-requires : goal.is_after-requires
is_after-requires c = search (entry_walk, rules)

pub returns-then-is_after : goal.returns-then-is_after
returns-then-is_after c = entries_after c.loop.invariant c.loop-test.true c.entry_end.ensures c.in_ok-next.was c.is_after.ensures c.if-is_after.true

pub bounds-s-here : goal.bounds-s-here
bounds-s-here c = let p = lease_in_law c.entry_end.ensures c.in_ok-next.was in search rules

pub id_at-id-requires : goal.id_at-id-requires
id_at-id-requires c = search (entry_walk, rules)

pub loop-preserved : goal.loop-preserved
loop-preserved c = entries_next c.loop.invariant c.loop-test.true c.entry_end.ensures c.in_ok-next.was c.is_after.ensures c.if-is_after.false c.id_at-id.ensures

pub returns : goal.returns
returns c = search (entry_walk, rules)
