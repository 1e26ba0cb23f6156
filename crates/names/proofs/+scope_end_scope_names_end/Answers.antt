-- `scope_end` and `scope_names_end`, which call each other, meet their contracts: the octets left fall.
use Rattle.std.proofs.Common.{rules}
use Rattle.format.specs.laws.Place.{ends_in}
use Rattle.names.proofs.Ends.{scope_done, scope_broken, scope_more, falls_in, falls_back}
use Rattle.names.proofs.+scope_end_scope_names_end.Goals as goal

pub scope_end-returns-then-k-eq0 : goal.scope_end-returns-then-k-eq0
scope_end-returns-then-k-eq0 t c = scope_done _ _ _ _ c.if-k-eq0.true c.requires.0

pub scope_end-scope_names_end-requires : goal.scope_end-scope_names_end-requires
scope_end-scope_names_end-requires t c = (falls_in _ _ t c.decreases, (c.requires, search rules))

pub scope_names_end-returns-in_err-next : goal.scope_names_end-returns-in_err-next
scope_names_end-returns-in_err-next t c = rw c.from_residual.ensures (scope_broken _ _ _ _ c.requires.1 c.in_err-next.ensures)

pub scope_names_end-scope_end-requires : goal.scope_names_end-scope_end-requires
scope_names_end-scope_end-requires t c =
    let w = ends_in c.in_ok-next.ensures in
    (falls_back _ _ _ _ t c.decreases c.requires.0.1 w.0 w.1, (w.1, c.requires.0.1))

pub scope_names_end-returns : goal.scope_names_end-returns
scope_names_end-returns t c = scope_more _ _ _ _ c.requires.1 c.in_ok-next.ensures c.scope_end.ensures
