use Rattle.std.proofs.Common.{◌≡◌, drop, take}
use Rattle.releases.specs.Again.{is_again}
use Rattle.releases.specs.laws.Code.{found}
use Rattle.state.specs.Book.{remembered}
use Rattle.releases.proofs.any_again.Given as goal

abbrev pub invariant-loop-r : goal.invariant-loop-r
invariant-loop-r l =
    found (is_again l.clock (take l.len l.fn.id) l.xid) (drop l.r-index l.r-items) ≡ found (is_again l.clock (take l.len l.fn.id) l.xid) (remembered l.fn.q)
