-- Laws: the rules of a table gathered tenant by tenant, and what the earliest end says.
use Rattle.std.specs.Prelude.{ℕ, zero, suc, ◌+◌, ◌≤◌, ◌<◌, ◌≡◌, true, length, get_or, set}
use Rattle.std.proofs.Math.Path.{refl, ap, subst}
use Rattle.std.proofs.Common.{sym, ◌∙◌, arith, lt-ltb}
use mathlib.Core.List.{List, [], ◌∷◌, map}
use Rattle.std.proofs.lemmas.List.{length-map}
use Rattle.std.proofs.Math.ListN.{get_or-map}
use Rattle.lists.specs.All.{all_by}
use Rattle.lists.specs.laws.All.{all_cons}
use Rattle.lists.specs.laws.Each.{BuildInv, build_start, each_next, each_end}
use Rattle.lists.specs.laws.Filter.{filter_none_out}
use Rattle.lists.specs.laws.Fold.{FoldInv, fold_start, fold_next, fold_end}
use Rattle.state.specs.declared.Lease.{Lease}
use Rattle.state.specs.declared.TenantLeases.{TenantLeases}
use Rattle.state.specs.declared.LeaseTable.{LeaseTable}
use Rattle.state.specs.declared.State.{State}
use Rattle.state.specs.Book.{live, live_of, no_leases, tenant_at, laid_out, until}
use Rattle.soundness.specs.declared.Held.{Held}
use Rattle.soundness.specs.declared.Checked.{Checked}
use Rattle.soundness.specs.declared.TableRules.{TableRules}
use Rattle.soundness.specs.declared.TenantRules.{TenantRules}
use Rattle.soundness.specs.Parts.{no_held, no_sets, first_end_in, held_sets, holdings_of, tenants_all, tenant_rules_of, both_tenants, table_rules_of, no_tenants, added_tenant, checked_of}
use Rattle.soundness.specs.laws.Code.{and_tenants, tenants_are, tenant_and, table_is}

in_range : {A : Type 0} (l : List A) (i : ℕ) (d e : A) → i < length l → get_or l i d ≡ get_or l i e
in_range [] i d e h = absurd (omega arith)
in_range (x ∷ l) zero d e h = refl
in_range (x ∷ l) (suc i) d e h = in_range l i d e (omega arith)

-- ---- a loop over the eight tenants of table b, with c gathered of the first i
pub record SurveyInv (s : State) (b : LeaseTable) (c : TableRules) (i : ℕ) : Type 0 where
  pub folded : FoldInv (and_tenants s) no_leases b.tenants 8 (tenants_all s b) c.rules i
  pub built : BuildInv held_sets no_leases b.tenants no_sets 8 c.held.tenants i

pub survey_start : {s : State} {b : LeaseTable} {c : TableRules} → length b.tenants ≡ 8 → c ≡ no_tenants → SurveyInv s b c 0
unfolding no_tenants
survey_start {s = s} {b = b} e p = subst (λ (x : TableRules). SurveyInv s b x 0) (sym p) (record { folded = fold_start e (tenants_are s b); built = build_start e refl })

module _ {s : State} {b : LeaseTable} {c : TableRules} {i : ℕ} (v : SurveyInv s b c i) where
  -- a turn, with tenant i of the table
  pub survey_next : {r : TableRules} {t : TenantLeases} → i < 8 → t ≡ get_or b.tenants i no_leases → r ≡ added_tenant s c i t → SurveyInv s b r (i + 1)
  unfolding added_tenant
  survey_next {r = r} {t = t} h e p = record {
    folded = fold_next v.folded h (tenant_and s c.rules (tenant_rules_of s t) r.rules t refl (ap (λ (x : TableRules). x.rules) p) ∙ ap (and_tenants s c.rules) e);
    built =
        subst (λ (x : List Held). BuildInv held_sets no_leases b.tenants no_sets 8 x (i + 1)) (sym (ap (λ (x : TableRules). x.held.tenants) p))
        (each_next v.built h (ap held_sets e));
  }

  pub survey_end : 8 ≤ i → c ≡ table_rules_of s b
  survey_end h = table_is s b c.rules c.held (fold_end v.folded h) (each_end v.built h)

pub ruleset surveys = (survey_start, survey_next, survey_end)

-- what the loop gathered of what tenants hold
pub held_from_law : (s : State) (t : LeaseTable) (c : TableRules) → c ≡ table_rules_of s t → c.held ≡ holdings_of t
unfolding table_rules_of
held_from_law s t c e = ap (λ (x : TableRules). x.held) e

-- the sets of tenant h
pub held_at : (b : LeaseTable) (h : ℕ) → length b.tenants ≡ 8 → h < 8 → get_or (holdings_of b).tenants h no_held ≡ held_sets (tenant_at b h)
unfolding holdings_of
held_at b h e p =
    in_range (map held_sets b.tenants) h no_held (held_sets (laid_out [])) (let n = length-map b.tenants held_sets in omega arith)
    ∙ get_or-map held_sets b.tenants h (laid_out [])

-- ---- before the earliest end every lease is live
all_live : (clock : ℕ) (ls : List Lease) → clock < first_end_in ls → all_by (live clock) ls ≡ true
unfolding first_end_in all_by
all_live clock [] h = refl
all_live clock (l ∷ ls) h = all_cons (live clock) l ls (lt-ltb clock (until l) (omega arith)) (all_live clock ls (omega arith))

pub none_ended : (clock : ℕ) (ls : List Lease) → clock < first_end_in ls → live_of clock ls ≡ ls
unfolding live_of
none_ended clock ls h = filter_none_out (live clock) ls (all_live clock ls h)

-- ---- the turns of the code
pub tenant_added : (s : State) (c : TableRules) (i : ℕ) (t : TenantLeases) (y : Checked) {r : TenantRules} → y ≡ checked_of s t → r ≡ both_tenants c.rules y.rules
    → ◌≡◌ {A = TableRules} (record { rules = r; held = record { tenants = set c.held.tenants i y.held } }) (added_tenant s c i t)
unfolding added_tenant checked_of
tenant_added s c i t y e er = cc (er ∙ ap (λ (x : Checked). both_tenants c.rules x.rules) e, ap (λ (x : Checked). x.held) e)
