-- Definitions: the rules as the code gathers them: scope by scope, tenant by tenant, and from the address sets of all tenants.
use Rattle.std.specs.Prelude.{ℕ, ◌-◌, min, Bool, true, not, ◌&&◌, List, [], ◌∷◌, map, ◌≡◌, leb, eqb, length, drop, take, get_or, replicate, set}
use Rattle.lists.specs.All.{all_by, pairs_by, all_to}
use Rattle.lists.specs.Pick.{pick}
use Rattle.identifier.specs.Order.{number_from}
use Rattle.address_set.specs.AddressSet.{offsets, set_of, up_to}
use Rattle.state.specs.declared.Lease.{Lease}
use Rattle.state.specs.declared.TenantLeases.{TenantLeases}
use Rattle.state.specs.declared.LeaseTable.{LeaseTable}
use Rattle.state.specs.declared.Scope.{Scope}
use Rattle.state.specs.declared.State.{State}
use Rattle.state.specs.Book.{differ, id_of, ordered, until, in_use, leases_of, in_scope, held_of, added_if, scope_at, limit_at, committed_sum}
use Rattle.soundness.specs.declared.ScopeRules.{ScopeRules}
use Rattle.soundness.specs.declared.TenantRules.{TenantRules}
use Rattle.soundness.specs.declared.TableRules.{TableRules}
use Rattle.soundness.specs.declared.Rules.{Rules}
use Rattle.soundness.specs.declared.SettingsRules.{SettingsRules}
use Rattle.soundness.specs.declared.HoldingRules.{HoldingRules}
use Rattle.soundness.specs.declared.Held.{Held}
use Rattle.soundness.specs.declared.Gathered.{Gathered}
use Rattle.soundness.specs.declared.Checked.{Checked}
use Rattle.soundness.specs.declared.Pass.{Pass}
use Rattle.soundness.specs.declared.HeldTable.{HeldTable}
use Rattle.soundness.specs.Sound.{tenants_in, scopes_in, size_b, counts_b, id_b, records_b, offsets_b, rule3, pool_b, rule4, ttl_b, rule5, reserves_b, rule6, lease_b, hold_b, disjoint, compatible, layout_b, padded_b, tail_b, settings_b, first_broken, one_to, unused_b}

-- ---- scopes
unfoldable pub scope_rules_of : ℕ → Scope → ScopeRules
scope_rules_of n c = record { sizes = size_b c; pools = pool_b c; ttls = ttl_b c; reserves = reserves_b n c; tails = tail_b n c }

unfoldable pub and_scopes : ℕ → ScopeRules → Scope → ScopeRules
and_scopes n a c = record { sizes = a.sizes && size_b c; pools = a.pools && pool_b c; ttls = a.ttls && ttl_b c; reserves = a.reserves && reserves_b n c; tails = a.tails && tail_b n c }

unfoldable pub scopes_all : ℕ → List Scope → ScopeRules
scopes_all n l = record { sizes = all_by size_b l; pools = all_by pool_b l; ttls = all_by ttl_b l; reserves = all_by (reserves_b n) l; tails = all_by (tail_b n) l }

-- ---- tenants
unfoldable pub tenant_rules_of : State → TenantLeases → TenantRules
tenant_rules_of s t = record {
  records = records_b t;
  offsets = all_by (offsets_b s) (in_use t);
  leases = all_by (lease_b s) (in_use t);
  holds = all_by (hold_b s.clock) (in_use t);
  identifiers = pairs_by differ (in_use t);
  periods = pairs_by compatible (in_use t);
  layout = layout_b t;
}

unfoldable pub tenants_all : State → LeaseTable → TenantRules
tenants_all s b = record {
  records = all_by records_b b.tenants;
  offsets = all_by (all_by (offsets_b s)) (leases_of b);
  leases = all_by (all_by (lease_b s)) (leases_of b);
  holds = all_by (all_by (hold_b s.clock)) (leases_of b);
  identifiers = all_by (pairs_by differ) (leases_of b);
  periods = all_by (pairs_by compatible) (leases_of b);
  layout = all_by layout_b b.tenants;
}

unfoldable pub both_tenants : TenantRules → TenantRules → TenantRules
both_tenants a x = record {
  records = a.records && x.records;
  offsets = a.offsets && x.offsets;
  leases = a.leases && x.leases;
  holds = a.holds && x.holds;
  identifiers = a.identifiers && x.identifiers;
  periods = a.periods && x.periods;
  layout = a.layout && x.layout;
}

-- ---- address sets
abbrev pub no_held : Held
no_held = record { sets = []; count = 0; first_end = 0 }

-- the earliest end, of a hold its lapse; of no record, the largest that an end can be
unfoldable pub first_end_in : List Lease → ℕ
first_end_in [] = 4294967295
first_end_in (l ∷ ls) = min (until l) (first_end_in ls)

unfoldable pub held_sets : TenantLeases → Held
held_sets t = record {
  sets = held_of 1 (in_use t) ∷ held_of 2 (in_use t) ∷ held_of 3 (in_use t) ∷ held_of 4 (in_use t) ∷ [];
  count = t.count;
  first_end = first_end_in (in_use t);
}

unfoldable pub holdings_of : LeaseTable → HeldTable
holdings_of b = record { tenants = map held_sets b.tenants }

abbrev pub set_at : Held → ℕ → ℕ
set_at a k = get_or a.sets k 0

-- one turn: the sets with one more lease
unfoldable pub added_sets : Held → Lease → Held
added_sets h l = record {
  sets = added_if (in_scope 1) (set_at h 0) l ∷ added_if (in_scope 2) (set_at h 1) l ∷ added_if (in_scope 3) (set_at h 2) l ∷ added_if (in_scope 4) (set_at h 3) l ∷ [];
  count = h.count;
  first_end = min h.first_end (until l);
}

-- ---- one tenant's rules and sets, gathered together
-- a lease in a scope that there can be, on no address that is held already
unfoldable pub fresh_in : Held → Lease → Bool
fresh_in h l = one_to 4 l.scope && disjoint (set_at h (l.scope - 1)) l.addresses

-- each lease on no address that is held already, or that one before it has
unfoldable pub fresh_all : Held → List Lease → Bool
fresh_all h [] = true
fresh_all h (l ∷ ls) = fresh_in h l && fresh_all (added_sets h l) ls

-- one turn: with one more lease
unfoldable pub added_lease : State → Gathered → Lease → Gathered
added_lease s g l = record {
  ids = g.ids && id_b l;
  offsets = g.offsets && offsets_b s l;
  leases = g.leases && lease_b s l;
  holds = g.holds && hold_b s.clock l;
  padded = g.padded && padded_b l;
  held = added_sets g.held l;
  apart = g.apart && fresh_in g.held l;
}

abbrev pub empty_sets : ℕ → Held
empty_sets n = record { sets = 0 ∷ 0 ∷ 0 ∷ 0 ∷ []; count = n; first_end = 4294967295 }

unfoldable pub none_gathered : ℕ → Gathered
none_gathered n = record { ids = true; offsets = true; leases = true; holds = true; padded = true; held = empty_sets n; apart = true }

unfoldable pub gathered_of : State → TenantLeases → Gathered
gathered_of s t = record {
  ids = all_by id_b (in_use t);
  offsets = all_by (offsets_b s) (in_use t);
  leases = all_by (lease_b s) (in_use t);
  holds = all_by (hold_b s.clock) (in_use t);
  padded = all_by padded_b (in_use t);
  held = held_sets t;
  apart = fresh_all (empty_sets t.count) (in_use t);
}

-- what one pass over a tenant's records gives: where `swift`, their ends rise
pub record Passed (s : State) (t : TenantLeases) (p : Pass) : Type 0 where
  pub gathers : p.gathered ≡ gathered_of s t
  pub rises : p.swift ≡ true → true ≡ pairs_by ordered (in_use t)
  pub rest : p.unused ≡ all_by unused_b (drop t.count t.leases)

-- the first eight octets of an identifier as one number, 0 of a shorter one, by which most differ
unfoldable pub word_of : Lease → ℕ
word_of l = pick (leb 8 (length (id_of l))) (number_from 0 (take 8 (id_of l))) 0

unfoldable pub unlike : ℕ → ℕ → Bool
unlike x y = not (eqb x y)

unfoldable pub checked_of : State → TenantLeases → Checked
checked_of s t = record { rules = tenant_rules_of s t; held = held_sets t }

unfoldable pub apart_sets : Held → Held → Bool
apart_sets a b = disjoint (set_at a 0) (set_at b 0) && (disjoint (set_at a 1) (set_at b 1) && (disjoint (set_at a 2) (set_at b 2) && disjoint (set_at a 3) (set_at b 3)))

-- how many addresses a tenant has in scope k + 1, and tenant g of all
abbrev pub size_in : Held → ℕ → ℕ
size_in a k = length (offsets (set_at a k))

unfoldable pub count_in : HeldTable → ℕ → ℕ → ℕ
count_in h k g = size_in (get_or h.tenants g no_held) k

unfoldable pub limit_in : HeldTable → Scope → ℕ → ℕ → Bool
limit_in h c k g = leb (count_in h k g) (limit_at c g)

unfoldable pub limits_in : State → HeldTable → ℕ → ℕ → Bool
limits_in s h n k = all_to (limit_in h (scope_at s k) k) n

unfoldable pub committed_in : State → HeldTable → ℕ → ℕ → Bool
committed_in s h n k = leb (committed_sum (scope_at s k) n (count_in h k)) (scope_at s k).size

-- ---- the three parts of all rules
unfoldable pub settings_rules_of : State → SettingsRules
settings_rules_of s = record { counts = counts_b s; ranges = rule3 s; pools = rule4 s; ttls = rule5 s; reserves = rule6 s; unused = settings_b s }

unfoldable pub none_h : Held → Bool
none_h h = eqb h.count 0

unfoldable pub holding_rules_in : State → HeldTable → HoldingRules
holding_rules_in s h = record {
  tenants = all_by none_h (drop (tenants_in s) h.tenants);
  owners = pairs_by apart_sets h.tenants;
  holdings = all_to (limits_in s h (tenants_in s)) (scopes_in s);
  commitments = all_to (committed_in s h (tenants_in s)) (scopes_in s);
}

unfoldable pub table_rules_of : State → LeaseTable → TableRules
table_rules_of s t = record { rules = tenants_all s t; held = holdings_of t }

-- ---- the same gathered tenant by tenant
abbrev pub pool_in : State → ℕ → ℕ
pool_in s k = set_of (up_to (min (scope_at s k).size 64))

-- each scope's whole pool as a set
unfoldable pub pools_of : State → List ℕ
pools_of s = pool_in s 0 ∷ pool_in s 1 ∷ pool_in s 2 ∷ pool_in s 3 ∷ []

-- of no tenant
abbrev pub no_rules : TenantRules
no_rules = record { records = true; offsets = true; leases = true; holds = true; identifiers = true; periods = true; layout = true }

abbrev pub no_sets : List Held
no_sets = replicate 8 (record { sets = replicate 4 0; count = 0; first_end = 4294967295 })

unfoldable pub no_tenants : TableRules
no_tenants = record { rules = no_rules; held = record { tenants = no_sets } }

-- with tenant i, counted from 0
unfoldable pub added_tenant : State → TableRules → ℕ → TenantLeases → TableRules
added_tenant s c i t = record { rules = both_tenants c.rules (tenant_rules_of s t); held = record { tenants = set c.held.tenants i (held_sets t) } }

unfoldable pub joined_rules : SettingsRules → TenantRules → HoldingRules → Rules
joined_rules a b c = record {
  limits = a.counts && b.records;
  offsets = b.offsets;
  ranges = a.ranges;
  pools = a.pools;
  ttls = a.ttls;
  reserves = a.reserves;
  leases = c.tenants && b.leases;
  identifiers = b.identifiers;
  owners = c.owners;
  periods = b.periods;
  holdings = c.holdings;
  commitments = c.commitments;
  holds = b.holds;
  layout = a.unused && b.layout;
}

-- all rules, and whether a book is sound, from the rules of its tenants and what they hold
unfoldable pub rules_from : State → TableRules → Rules
rules_from s c = joined_rules (settings_rules_of s) c.rules (holding_rules_in s c.held)

unfoldable pub sound_from : State → TableRules → Bool
sound_from s c = eqb (first_broken (rules_from s c)) 0
