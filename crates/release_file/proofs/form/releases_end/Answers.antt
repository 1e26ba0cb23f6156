-- `releases_end` meets its contract: its loop keeps `ReleasesInv`; by `release_walk`.
use Rattle.release_file.specs.laws.Form.{release_in, release_walk, releases_broken, releases_later, releases_next}
use Rattle.std.proofs.Common.{arith, refl, rules}
use Rattle.release_file.proofs.form.releases_end.Goals as goal

pub loop-init : goal.loop-init
loop-init c = search (release_walk, rules)

pub release_end-requires : goal.release_end-requires
release_end-requires c = c.loop.invariant.inside

pub returns-in_err-next : goal.returns-in_err-next
returns-in_err-next c = rw c.from_residual.ensures (releases_broken c.loop.invariant c.loop-test.true c.in_err-next.ensures)

pub bounds-s-here : goal.bounds-s-here
bounds-s-here c = let p = release_in c.in_ok-next.ensures in omega (arith, p.room)

pub time_at-released-requires : goal.time_at-released-requires
time_at-released-requires c = release_in c.in_ok-next.ensures

pub returns-then-is_later : goal.returns-then-is_later
returns-then-is_later c = releases_later c.loop.invariant c.loop-test.true c.in_ok-next.ensures refl c.time_at-released.ensures c.is_later.ensures c.if-is_later.true

pub loop-preserved : goal.loop-preserved
loop-preserved c = releases_next c.loop.invariant c.loop-test.true c.in_ok-next.ensures refl c.time_at-released.ensures c.is_later.ensures c.if-is_later.false

pub returns : goal.returns
returns c = search (release_walk, rules)
