-- `first_name` meets its contract: the names that are left, and the first wanted among them is the first of all (`FirstInv`).
use Rattle.std.proofs.Common.{arith, refl, rules}
use Rattle.names.proofs.First.{first_broken_law, first_found, first_next, first_none, first_some, first_start, named_in, named_tag}
use Rattle.names.proofs.first_name.Goals as goal

pub bounds-list-0 : goal.bounds-list-0
bounds-list-0 g c = first_some c.requires.list

pub loop-init : goal.loop-init
loop-init g c = first_start c.requires.list refl

pub name_end-requires : goal.name_end-requires
name_end-requires g c = c.loop.invariant.inside

pub returns-in_err-next : goal.returns-in_err-next
returns-in_err-next g c = first_broken_law c.loop.invariant c.loop-test.true c.in_err-next.ensures

pub wanted-requires : goal.wanted-requires
wanted-requires g c = c.requires.wanted _ (named_tag c.in_ok-next.ensures)

pub slice_bounds-result-count : goal.slice_bounds-result-count
slice_bounds-result-count g c = let w = named_in c.in_ok-next.ensures in search rules

pub slice_bounds-result-start : goal.slice_bounds-result-start
slice_bounds-result-start g c = let w = named_in c.in_ok-next.ensures in search rules

pub slice_bounds-result-end : goal.slice_bounds-result-end
slice_bounds-result-end g c = let w = named_in c.in_ok-next.ensures in search rules

pub returns-then-wanted : goal.returns-then-wanted
returns-then-wanted g c = first_found c.loop.invariant c.loop-test.true (λ j. omega (arith, c.type_inv.list j)) c.in_ok-next.ensures c.if-wanted.ensures

pub loop-preserved : goal.loop-preserved
loop-preserved g c = first_next c.loop.invariant c.loop-test.true c.in_ok-next.ensures c.if-wanted.ensures

pub returns : goal.returns
returns g c = first_none c.loop.invariant (search rules)
