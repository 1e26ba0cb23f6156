-- Laws: a book's holdings by what the loop gathered, and that a sound book has sound lists and sound lists a sound book.
use Prim.Native.Nat.{ℕ, ◌+◌, ◌<◌, max}
use Rattle.std.specs.Prelude.{Bool, List, map, length, ◌≡◌, true, eqb, refl, leb}
use Rattle.std.proofs.Common.{◌∙◌, ap₂, arith, ap, le-leb, leb-true}
use Rattle.lists.specs.All.{all_by, pairs_by, all_to}
use Rattle.address_set.specs.AddressSet.{offsets}
use Rattle.state.specs.declared.Lease.{Lease}
use Rattle.state.specs.declared.LeaseTable.{LeaseTable}
use Rattle.state.specs.declared.State.{State}
use Rattle.state.specs.Book.{differ, scope_at, limit_at, committed_sum, ordered, reserve_at, committed, live_of, Order, leases_of, table_of, held_at, Book, with_clock, raised, dropped, advanced}
use Rattle.soundness.specs.declared.TableRules.{TableRules}
use Rattle.soundness.specs.declared.Rules.{Rules}
use Rattle.soundness.specs.declared.SettingsRules.{SettingsRules}
use Rattle.soundness.specs.declared.HoldingRules.{HoldingRules}
use Rattle.soundness.specs.declared.HeldTable.{HeldTable}
use Rattle.soundness.specs.Sound.{tenants_in, scopes_in, offsets_b, rule3, rule4, rule6, lease_b, rule9, compatible, rule11, rule12, settings_b, rule1, rule2, rule7, rule8, rule10, rules_of, first_broken, sound_b, apart, holding, limit_b, limits_b, committed_b, hold_b, rule13, broken_by, rule19_by, rules_by, sound_by}
use Rattle.lists.specs.laws.All.{to_same, to_each, each_to}
use Rattle.lists.specs.laws.Sums.{sum_same}
use Rattle.soundness.specs.Parts.{holding_rules_in, table_rules_of, joined_rules, holdings_of, count_in, limit_in, limits_in, committed_in, settings_rules_of, rules_from, sound_from}
use Rattle.soundness.specs.laws.Code.{holding_rules_of, set_at_law, holding_same, known_are, owners_are, joined_all}
use Rattle.lists.specs.laws.Both.{and_parts, and_both}
use Rattle.soundness.specs.laws.Book.{Sound, each_is, rises_by, pairs_is, settings_front, settings_from, few_from, ids_from, padded_from, known, tenants_from_law, records_to, offsets_to, tenants_to, back, leases_to, pair_parts, marks_to, layout_to, settings_back, by_rules, rules_by_law, AllRules}
use Rattle.soundness.specs.laws.Kept.{sound_advanced, live_rises}
use Rattle.soundness.specs.Across.{join_all}
use Rattle.soundness.specs.laws.Across.{lists_compatible}

-- ---- the count of a set is the holding that the leases give
count_is : (b : LeaseTable) (k g : ℕ) → k < 4 → count_in (holdings_of b) k g ≡ holding b (k + 1) g
unfolding count_in holdings_of
count_is b k g h = ap (λ (x : ℕ). length (offsets x)) (set_at_law b.tenants k g h)

module _ (s : State) (b : LeaseTable) (h : HeldTable) (e : h ≡ holdings_of b) where
  counts : (k g : ℕ) → k < 4 → count_in h k g ≡ holding b (k + 1) g
  counts k g p = ap (λ (x : HeldTable). count_in x k g) e ∙ count_is b k g p

  limits_are : {n m : ℕ} {r : Bool} → n ≡ tenants_in s → m ≡ scopes_in s → r ≡ all_to (limits_in s h n) m → r ≡ rule11 s b
  unfolding limits_in limit_in rule11 limits_b limit_b
  limits_are {n} {m} p q u =
      u ∙ ap₂ (λ (x y : ℕ). all_to (limits_in s h x) y) p q
      ∙ to_same (limits_in s h (tenants_in s)) (limits_b s b) (scopes_in s) (λ k a.
      to_same (limit_in h (scope_at s k) k) (limit_b b (scope_at s k) (k + 1)) (tenants_in s) (λ g c. ap (λ (x : ℕ). leb x (limit_at (scope_at s k) g)) (counts k g (omega arith))))

  commitments_are : {n m : ℕ} {r : Bool} → n ≡ tenants_in s → m ≡ scopes_in s → r ≡ all_to (committed_in s h n) m → r ≡ rule12 s b
  unfolding committed_in rule12 committed_b committed
  commitments_are {n} {m} p q u =
      u ∙ ap₂ (λ (x y : ℕ). all_to (committed_in s h x) y) p q
      ∙ to_same (committed_in s h (tenants_in s)) (committed_b s b) (scopes_in s) (λ k a.
      ap (λ (x : ℕ). leb x (scope_at s k).size)
      (sum_same (committed (scope_at s k) (count_in h k)) (committed (scope_at s k) (holding b (k + 1))) (tenants_in s) (λ g c. ap (λ (x : ℕ). max x (reserve_at (scope_at s k) g)) (counts k g (omega arith)))))

holdings_in : (s : State) (b : LeaseTable) → holding_rules_in s (holdings_of b) ≡ holding_rules_of s b
unfolding holding_rules_in holding_rules_of
holdings_in s b =
    holding_same (known_are s b) (owners_are b (holdings_of b) refl refl) (limits_are s b (holdings_of b) refl refl refl refl) (commitments_are s b (holdings_of b) refl refl refl refl)

pub rules_are : (s : State) (t : LeaseTable) (a : SettingsRules) (b : TableRules) (c : HoldingRules) {r : Rules}
    → a ≡ settings_rules_of s → b ≡ table_rules_of s t → c ≡ holding_rules_in s b.held → r ≡ joined_rules a b.rules c → r ≡ rules_of s t
unfolding table_rules_of
rules_are s t a b c ea eb ec e =
    let h : c ≡ holding_rules_of s t = ec ∙ ap (λ (x : TableRules). holding_rules_in s x.held) eb ∙ holdings_in s t in
    e ∙ ap (λ (x : SettingsRules). joined_rules x b.rules c) ea ∙ ap₂ (λ (x : TableRules) (y : HoldingRules). joined_rules (settings_rules_of s) x.rules y) eb h ∙ joined_all s t

-- ---- whether a book is sound, from what the loop gathered
pub sound_from_law : (s : State) (t : LeaseTable) (c : TableRules) → c ≡ table_rules_of s t → sound_from s c ≡ sound_b s t
unfolding sound_from sound_by broken_by rules_from
sound_from_law s t c e = ap (λ (x : Rules). eqb (first_broken x) 0) (rules_are s t (settings_rules_of s) c (holding_rules_in s c.held) refl e refl refl)

pub rules_gathered : (s : State) (t : LeaseTable) (c : TableRules) {r : Rules} → c ≡ table_rules_of s t → r ≡ rules_from s c → r ≡ rules_of s t
unfolding rules_from
rules_gathered s t c e p = rules_are s t (settings_rules_of s) c (holding_rules_in s c.held) refl e refl p

-- ---- a sound book has sound lists
module _ (o : Order) (s : State) (t : LeaseTable) (a : AllRules (rules_by o s t)) where
  lists_of : Sound s (leases_of t)
  unfolding rules_by rule2 rule8 rule9 rule10 rule11 limits_b limit_b rule12 committed_b rule13
  lists_of = record {
    settings = (settings_from o s t a);
    few = (few_from o s t a);
    each = each_is s (leases_of t) ∙ and_both (and_both (ids_from o s t a) a.offsets) (and_both (known o s t a).1 (and_both (padded_from o s t a) a.holds));
    pairs = pairs_is (leases_of t) ∙ and_both a.identifiers a.periods;
    tenants = (tenants_from_law o s t a);
    owners = a.owners;
    holdings = λ k g p q. leb-true _ _ (to_each (limit_b t (scope_at s k) (k + 1)) (tenants_in s) (to_each (limits_b s t) (scopes_in s) a.holdings k p) g q);
    commitments = λ k p. leb-true _ _ (to_each (committed_b s t) (scopes_in s) a.commitments k p);
  }

pub lists_by : (o : Order) (s : State) (t : LeaseTable) → sound_by o s t ≡ true → Sound s (leases_of t)
lists_by o s t e = lists_of o s t (rules_by_law o s t e)

pub sound_lists : (s : State) (t : LeaseTable) → sound_b s t ≡ true → Sound s (leases_of t)
sound_lists s t e = lists_by ordered s t e

-- ---- sound lists, laid out, are a sound book
module _ (s : State) (ls : List (List Lease)) (v : Sound s ls) where
  rules_to_law : (o : Order) → all_by (pairs_by o) ls ≡ true → AllRules (rules_by o s (table_of ls))
  unfolding rules_by rule1 rule2 rule7 rule8 rule9 rule10 rule11 limits_b limit_b rule12 committed_b rule13 rule19_by
  rules_to_law o rises = record {
    limits = and_both (settings_front s ls v).0 (records_to s ls v);
    offsets = ap (all_by (all_by (offsets_b s))) (back s ls v) ∙ (offsets_to s ls v);
    ranges = (and_parts (rule3 s) (rule4 s) (settings_front s ls v).1).0;
    pools = (and_parts (rule3 s) (rule4 s) (settings_front s ls v).1).1;
    ttls = (settings_back s ls v).0;
    reserves = (and_parts (rule6 s) (settings_b s) (settings_back s ls v).1).0;
    leases = and_both (tenants_to s ls v) (ap (all_by (all_by (lease_b s))) (back s ls v) ∙ (leases_to s ls v));
    identifiers = ap (all_by (pairs_by differ)) (back s ls v) ∙ (pair_parts s ls v).0;
    owners = ap (pairs_by apart) (back s ls v) ∙ v.owners;
    periods = ap (all_by (pairs_by compatible)) (back s ls v) ∙ (pair_parts s ls v).1;
    holdings = each_to (limits_b s (table_of ls)) (scopes_in s) (λ k p. each_to (limit_b (table_of ls) (scope_at s k) (k + 1)) (tenants_in s) (λ g q.
        ap (λ (x : List (List Lease)). leb (held_at x (k + 1) g) (limit_at (scope_at s k) g)) (back s ls v) ∙ le-leb _ _ (v.holdings k g p q)));
    commitments = each_to (committed_b s (table_of ls)) (scopes_in s) (λ k p.
        ap (λ (x : List (List Lease)). leb (committed_sum (scope_at s k) (tenants_in s) (held_at x (k + 1))) (scope_at s k).size) (back s ls v) ∙ le-leb _ _ (v.commitments k p));
    holds = ap (all_by (all_by (hold_b s.clock))) (back s ls v) ∙ (marks_to s ls v).1;
    layout = and_both (and_parts (rule6 s) (settings_b s) (settings_back s ls v).1).1 ((layout_to s ls v) o rises);
  }

pub by_lists : (o : Order) (s : State) (ls : List (List Lease)) → Sound s ls → all_by (pairs_by o) ls ≡ true → sound_by o s (table_of ls) ≡ true
by_lists o s ls v rises = by_rules o s (table_of ls) (rules_to_law s ls v o rises)

pub lists_sound : (s : State) (ls : List (List Lease)) → Sound s ls → all_by (pairs_by ordered) ls ≡ true → sound_b s (table_of ls) ≡ true
lists_sound s ls v rises = by_lists ordered s ls v rises

-- ---- the clock is raised and the ended leases are dropped
-- so `advance` keeps a book sound
pub advanced_by : (o : Order) (b : Book) (time : ℕ) → sound_by o b.state b.table ≡ true → sound_by o (advanced b time).state (advanced b time).table ≡ true
unfolding advanced raised dropped
advanced_by o b time e =
    let c : ℕ = max b.state.clock time in
    by_lists o (with_clock b.state c) (map (live_of c) (leases_of b.table)) (sound_advanced b.state c (leases_of b.table) (omega arith) (lists_by o b.state b.table e))
    (live_rises o c (leases_of b.table) (rises_by o b.state b.table e))

pub advanced_sound : (b : Book) (time : ℕ) → sound_b b.state b.table ≡ true → sound_b (advanced b time).state (advanced b time).table ≡ true
advanced_sound b time e = advanced_by ordered b time e

-- ---- no two leases on one address overlap
pub sound_compatible : (s : State) (t : LeaseTable) → sound_b s t ≡ true → pairs_by compatible (join_all (leases_of t)) ≡ true
sound_compatible s t e = lists_compatible s (leases_of t) (sound_lists s t e)
