-- `tally` meets its contract: its loop keeps `TallyInv`; by `tallies`.
use Rattle.format.specs.laws.Entries.{count_small}
use Rattle.release_file.specs.laws.Limits.{tallies}
use borrow.Author.Rules.{rules}
use Rattle.release_file.proofs.limits.tally.Goals as goal

pub loop-init : goal.loop-init
loop-init c = search (tallies, rules)

pub tenant_place-requires : goal.tenant_place-requires
tenant_place-requires c = search (tallies, rules)

pub overflow_add-n : goal.overflow_add-n
overflow_add-n c = let p = count_small c.loop.invariant _ (search rules) c.tenant_place.ensures.1 in search rules

pub release_next-here-requires : goal.release_next-here-requires
release_next-here-requires c = search (tallies, rules)

pub loop-preserved : goal.loop-preserved
loop-preserved c = search (tallies, rules)

pub returns : goal.returns
returns c = search (tallies, rules)
