-- `list_start` meets its contract: past the scopes before it, and past the lists before it (`scope_past`, `list_past`).
use Rattle.std.proofs.Common.{ap, rules, ℕ, ◌+◌}
use Rattle.names.proofs.Ends.{list_within, lists_within}
use Rattle.names.proofs.Lists.{list_past, past_at, past_some, scope_past}
use Rattle.names.proofs.list_start.Goals as goal

pub row_end-requires-clause-next : goal.row_end-requires-clause-next
row_end-requires-clause-next c = search (lists_within, rules)

pub unwrap-scope-requires : goal.unwrap-scope-requires
unwrap-scope-requires c = past_some (scope_past c.args.tenants c.args.names.now (ap (λ (k : ℕ). k + 1) c.from.ensures) c.requires.0 c.requires.1.0 (λ here r h p. search rules) c.row_end.ensures)

pub row_end-requires-2-clause-first : goal.row_end-requires-2-clause-first
row_end-requires-2-clause-first c =
    let w = past_at (scope_past c.args.tenants c.args.names.now (ap (λ (k : ℕ). k + 1) c.from.ensures) c.requires.0 c.requires.1.0 (λ here r h p. search rules) c.row_end.ensures) c.unwrap-scope.ensures in
    λ _ _ _ _ _ _ _. w.inside

pub row_end-requires-2-clause-next : goal.row_end-requires-2-clause-next
row_end-requires-2-clause-next c = search (list_within, rules)

pub unwrap-requires : goal.unwrap-requires
unwrap-requires c =
    let w = past_at (scope_past c.args.tenants c.args.names.now (ap (λ (k : ℕ). k + 1) c.from.ensures) c.requires.0 c.requires.1.0 (λ here r h p. search rules) c.row_end.ensures) c.unwrap-scope.ensures in
    past_some (list_past c.args.tenants c.args.names.now c.requires.1.1 w (λ here r h p. search rules) c.row_end-2.ensures)

pub returns : goal.returns
returns c =
    let w = past_at (scope_past c.args.tenants c.args.names.now (ap (λ (k : ℕ). k + 1) c.from.ensures) c.requires.0 c.requires.1.0 (λ here r h p. search rules) c.row_end.ensures) c.unwrap-scope.ensures in
    past_at (list_past c.args.tenants c.args.names.now c.requires.1.1 w (λ here r h p. search rules) c.row_end-2.ensures) c.unwrap.ensures
