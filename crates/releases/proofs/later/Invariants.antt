use Rattle.std.proofs.Common.{◌≡◌, drop}
use Rattle.lists.specs.Fold.{fold}
use Rattle.state.specs.Book.{laid_releases, pushed_release, remembered}
use Rattle.releases.proofs.later.Given as goal

abbrev pub invariant-loop-r : goal.invariant-loop-r
invariant-loop-r l = fold pushed_release l.now (drop l.r-index l.r-items) ≡ laid_releases (drop l.fn.from (remembered l.fn.q))
