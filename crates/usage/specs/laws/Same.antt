-- Laws: settings that are found the same are the same, but for the clock.
use Rattle.std.specs.Prelude.{Bool, ℕ, ◌≡◌, refl, true, ◌&&◌, List, [], ◌∷◌, eqb}
use Rattle.std.specs.Cmp.Lexicographic.{pointwise}
use Rattle.std.proofs.Common.{sym, ap, ap₂, ◌∙◌, eqb-true}
use Rattle.lists.specs.Same.{same_by}
use Rattle.lists.specs.laws.Both.{and_parts}
use Rattle.lists.specs.laws.Same.{same_is}
use Rattle.state.specs.declared.ClientRange.{ClientRange}
use Rattle.state.specs.declared.Scope.{Scope}
use Rattle.state.specs.declared.State.{State}
use Rattle.state.specs.Book.{with_clock}
use Rattle.usage.specs.Usage.{same_counts, same_pool, same_range, same_scope, same_settings}

-- std's test of two lists, and the definition's
pub numbers_told : (x y : List ℕ) → pointwise eqb x y ≡ same_by eqb x y
unfolding same_by
numbers_told [] [] = refl
numbers_told [] (b ∷ y) = refl
numbers_told (a ∷ x) [] = refl
numbers_told (a ∷ x) (b ∷ y) = ap (λ (p : Bool). eqb a b && p) (numbers_told x y)

range_is : (a b : ClientRange) → same_range a b ≡ true → a ≡ b
unfolding same_range
range_is a b e = let p = and_parts (eqb a.low b.low) (eqb a.high b.high) e in
    ap₂ {C = ClientRange} (λ (x y : ℕ). record { low = x; high = y }) (eqb-true a.low b.low p.0) (eqb-true a.high b.high p.1)

scope_is : (a b : Scope) → same_scope a b ≡ true → a ≡ b
unfolding same_scope same_pool
scope_is a b e =
    let p = and_parts (eqb a.lowest b.lowest && (eqb a.size b.size && eqb a.ttl b.ttl)) (same_by eqb a.reserve b.reserve && same_by eqb a.limit b.limit) e in
    let q = and_parts (eqb a.lowest b.lowest) (eqb a.size b.size && eqb a.ttl b.ttl) p.0 in
    let r = and_parts (eqb a.size b.size) (eqb a.ttl b.ttl) q.1 in
    let t = and_parts (same_by eqb a.reserve b.reserve) (same_by eqb a.limit b.limit) p.1 in
    let u = eqb-true a.lowest b.lowest q.0 in
    let v = eqb-true a.size b.size r.0 in
    let w = eqb-true a.ttl b.ttl r.1 in
    let x = same_is eqb eqb-true a.reserve b.reserve t.0 in
    let y = same_is eqb eqb-true a.limit b.limit t.1 in
    ap₂ {C = Scope} (λ (m n : ℕ). record { lowest = m; size = n; ttl = a.ttl; reserve = a.reserve; limit = a.limit }) u v
    ∙ ap₂ {C = Scope} (λ (n : ℕ) (l : List ℕ). record { lowest = b.lowest; size = b.size; ttl = n; reserve = l; limit = a.limit }) w x
    ∙ ap {B = Scope} (λ (l : List ℕ). record { lowest = b.lowest; size = b.size; ttl = b.ttl; reserve = b.reserve; limit = l }) y

pub settings_same : (a b : State) → same_settings a b ≡ true → b ≡ with_clock a b.clock
unfolding same_settings same_counts
settings_same a b e =
    let p = and_parts (eqb a.server b.server && (eqb a.tenant_count b.tenant_count && eqb a.scope_count b.scope_count)) (same_by same_range a.tenants b.tenants && same_by same_scope a.scopes b.scopes) e in
    let q = and_parts (eqb a.server b.server) (eqb a.tenant_count b.tenant_count && eqb a.scope_count b.scope_count) p.0 in
    let r = and_parts (eqb a.tenant_count b.tenant_count) (eqb a.scope_count b.scope_count) q.1 in
    let t = and_parts (same_by same_range a.tenants b.tenants) (same_by same_scope a.scopes b.scopes) p.1 in
    let u = eqb-true a.server b.server q.0 in
    let v = eqb-true a.tenant_count b.tenant_count r.0 in
    let w = eqb-true a.scope_count b.scope_count r.1 in
    let x = same_is same_range range_is a.tenants b.tenants t.0 in
    let y = same_is same_scope scope_is a.scopes b.scopes t.1 in
    sym
    (ap₂ {C = State} (λ (m n : ℕ). record { server = m; clock = b.clock; tenant_count = n; tenants = a.tenants; scope_count = a.scope_count; scopes = a.scopes }) u v
    ∙ ap₂ {C = State} (λ (n : ℕ) (l : List ClientRange). record { server = b.server; clock = b.clock; tenant_count = b.tenant_count; tenants = l; scope_count = n; scopes = a.scopes }) w x
    ∙ ap {B = State} (λ (l : List Scope). record { server = b.server; clock = b.clock; tenant_count = b.tenant_count; tenants = b.tenants; scope_count = b.scope_count; scopes = l }) y)
