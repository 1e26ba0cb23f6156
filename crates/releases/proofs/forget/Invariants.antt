use Rattle.std.proofs.Common.{◌≡◌, drop, take}
use Rattle.lists.specs.Fold.{fold}
use Rattle.lists.specs.Filter.{filter_by}
use Rattle.state.specs.Book.{laid_releases, other_release, remembered}
use Rattle.releases.specs.laws.Code.{kept_r}
use Rattle.releases.proofs.forget.Given as goal

abbrev pub invariant-loop-r : goal.invariant-loop-r
invariant-loop-r l =
    fold (kept_r (other_release (take l.len l.fn.id))) l.now (drop l.r-index l.r-items) ≡ laid_releases (filter_by (other_release (take l.len l.fn.id)) (remembered l.fn.q))
