-- Laws: soundness as facts over the lists of leases, tenant by tenant, which proofs go by. It is the same as that of the records that lay the
-- lists out, and a sound book's records are laid out so.
use Rattle.std.specs.Prelude.{ℕ, zero, suc, ◌+◌, ◌-◌, ◌≤◌, ◌<◌, ◌≡◌, refl, Bool, true, false, ◌&&◌, eqb, length, drop, replicate}
use Rattle.std.proofs.Common.{sym, ap₂, ◌∙◌, arith, drop_at}
use Rattle.std.proofs.Math.Path.{ap}
use mathlib.Core.List.{List, ◌++◌, map}
use Rattle.std.proofs.Math.Dec.{leb}
use Rattle.std.proofs.Math.ListN.{length-take}
use borrow.Author.Tests.{eq-eqb, eqb-true, le-leb, leb-true}
use Rattle.lists.specs.Pick.{pick}
use Rattle.lists.specs.laws.Pick.{pick_zero, pick_zero_last}
use Rattle.lists.specs.All.{all_by, pairs_by}
use Rattle.lists.specs.laws.All.{all_map, all_same, all_both, all_cons}
use Rattle.lists.specs.laws.Both.{and_parts, and_both, all_and, pairs_and}
use Rattle.state.specs.declared.Lease.{Lease}
use Rattle.state.specs.declared.LeaseTable.{LeaseTable}
use Rattle.state.specs.declared.State.{State}
use Rattle.state.specs.Book.{Order, differ, zero_lease, in_use, laid_out, leases_of, table_of, ordered, scope_at, limit_at, held_at, committed_sum}
use Rattle.state.specs.laws.Layout.{read_back, table_back}
use Rattle.soundness.specs.declared.Rules.{Rules}
use Rattle.soundness.specs.Sound.{tenants_in, scopes_in, id_b, records_b, counts_b, rule1, offsets_b, rule3, rule4, rule5, rule6, lease_b, none_b, tenants_b, rule7, apart, compatible, zero_from, padded_b, blank_b, unused_b, settings_b, rules_of, first_late, first_rule, first_broken, sound_b, hold_b, broken_by, layout_by, rule19_by, rules_by, sound_by}
use Rattle.soundness.specs.laws.Code.{drop_map, first_none}

-- ---- the facts
-- every rule on the settings alone
unfoldable pub settings_ok : State → Bool
settings_ok s = (counts_b s && (rule3 s && rule4 s)) && (rule5 s && (rule6 s && settings_b s))

-- every rule on one lease or hold: 1, 2, 7, 13 and 19
unfoldable pub lease_ok : State → Lease → Bool
lease_ok s l = (id_b l && offsets_b s l) && (lease_b s l && (padded_b l && hold_b s.clock l))

-- every rule on two leases of a tenant that does not go by their order: 8 and 10
unfoldable pub pair_ok : Lease → Lease → Bool
pair_ok a b = differ a b && compatible a b

abbrev pub few_leases : List Lease → Bool
few_leases l = leb (length l) 16

abbrev pub no_leases_b : List Lease → Bool
no_leases_b l = eqb (length l) 0

-- all but the order of the records
pub record Sound (s : State) (ls : List (List Lease)) : Type 0 where
  pub settings : settings_ok s ≡ true
  pub few : all_by few_leases ls ≡ true
  pub each : all_by (all_by (lease_ok s)) ls ≡ true
  pub pairs : all_by (pairs_by pair_ok) ls ≡ true
  pub tenants : all_by no_leases_b (drop (tenants_in s) ls) ≡ true
  pub owners : pairs_by apart ls ≡ true
  pub holdings : (k g : ℕ) → k < scopes_in s → g < tenants_in s → held_at ls (k + 1) g ≤ limit_at (scope_at s k) g
  pub commitments : (k : ℕ) → k < scopes_in s → committed_sum (scope_at s k) (tenants_in s) (held_at ls (k + 1)) ≤ (scope_at s k).size

-- ---- all rules hold where none is broken
pub record AllRules (r : Rules) : Type 0 where
  pub limits : r.limits ≡ true
  pub offsets : r.offsets ≡ true
  pub ranges : r.ranges ≡ true
  pub pools : r.pools ≡ true
  pub ttls : r.ttls ≡ true
  pub reserves : r.reserves ≡ true
  pub leases : r.leases ≡ true
  pub identifiers : r.identifiers ≡ true
  pub owners : r.owners ≡ true
  pub periods : r.periods ≡ true
  pub holdings : r.holdings ≡ true
  pub commitments : r.commitments ≡ true
  pub holds : r.holds ≡ true
  pub layout : r.layout ≡ true

none_broken : (r : Rules) → first_broken r ≡ 0 → AllRules r
unfolding first_broken first_rule first_late
none_broken r e =
    let n = pick_zero_last (first_rule r) 19 r.layout (omega arith) e in
    let a = pick_zero r.limits _ 1 (omega arith) n.0 in
    let b = pick_zero r.offsets _ 2 (omega arith) a.1 in
    let c = pick_zero r.ranges _ 3 (omega arith) b.1 in
    let d = pick_zero r.pools _ 4 (omega arith) c.1 in
    let f = pick_zero r.ttls _ 5 (omega arith) d.1 in
    let g = pick_zero r.reserves _ 6 (omega arith) f.1 in
    let h = pick_zero r.leases _ 7 (omega arith) g.1 in
    let i = pick_zero r.identifiers _ 8 (omega arith) h.1 in
    let j = pick_zero r.owners _ 9 (omega arith) i.1 in
    let k = pick_zero r.periods _ 10 (omega arith) j.1 in
    let l = pick_zero r.holdings _ 11 (omega arith) k.1 in
    let m = pick_zero r.commitments _ 12 (omega arith) l.1 in
    let o = pick_zero r.holds _ 13 (omega arith) m.1 in
    record {
      limits = a.0;
      offsets = b.0;
      ranges = c.0;
      pools = d.0;
      ttls = f.0;
      reserves = g.0;
      leases = h.0;
      identifiers = i.0;
      owners = j.0;
      periods = k.0;
      holdings = l.0;
      commitments = m.0;
      holds = o.0;
      layout = n.1;
    }

wrap : {b : Bool} {x : ℕ} (n : ℕ) → b ≡ true → x ≡ 0 → pick b x n ≡ 0
unfolding pick
wrap {b} {x} n e h = ap (λ (t : Bool). pick t x n) e ∙ h

rules_hold : (r : Rules) → AllRules r → first_rule r ≡ 0
unfolding first_rule first_late
rules_hold r a =
    wrap 1 a.limits (wrap 2 a.offsets (wrap 3 a.ranges (wrap 4 a.pools (wrap 5 a.ttls (wrap 6 a.reserves
    (wrap 7 a.leases (wrap 8 a.identifiers (wrap 9 a.owners (wrap 10 a.periods (wrap 11 a.holdings (wrap 12 a.commitments (wrap 13 a.holds refl))))))))))))

all_hold : (r : Rules) → AllRules r → first_broken r ≡ 0
all_hold r a = sym (first_none r (sym (rules_hold r a)) refl a.layout)

pub rules_by_law : (o : Order) (s : State) (t : LeaseTable) → sound_by o s t ≡ true → AllRules (rules_by o s t)
unfolding sound_by broken_by
rules_by_law o s t e = none_broken (rules_by o s t) (eqb-true _ _ e)

pub by_rules : (o : Order) (s : State) (t : LeaseTable) → AllRules (rules_by o s t) → sound_by o s t ≡ true
unfolding sound_by broken_by
by_rules o s t a = eq-eqb _ _ (all_hold (rules_by o s t) a)

pub rules_of_law : (s : State) (t : LeaseTable) → sound_b s t ≡ true → AllRules (rules_of s t)
rules_of_law s t e = rules_by_law ordered s t e

-- ---- laid out records
unused_zeros : (k : ℕ) → all_by unused_b (replicate k zero_lease) ≡ true
unfolding all_by unused_b blank_b zero_from pick
unused_zeros zero = refl
unused_zeros (suc k) = all_cons unused_b zero_lease (replicate k zero_lease) blank (unused_zeros k)
  where
    blank : unused_b zero_lease ≡ true
    blank = refl

records_laid : (l : List Lease) → records_b (laid_out l) ≡ (few_leases l && all_by id_b l)
unfolding records_b laid_out
records_laid l = ap (λ (x : List Lease). leb (length l) 16 && all_by id_b x) (read_back l)

layout_laid : (o : Order) (l : List Lease) → layout_by o (laid_out l) ≡ (pairs_by o l && all_by padded_b l)
unfolding layout_by laid_out
layout_laid o l =
    ap (λ (x : List Lease). pairs_by o x && (all_by padded_b x && all_by unused_b (drop (length l) (l ++ replicate (16 - length l) zero_lease)))) (read_back l)
    ∙ ap (λ (b : Bool). pairs_by o l && (all_by padded_b l && b)) (ap (all_by unused_b) (drop_at l (replicate (16 - length l) zero_lease) (length l) refl) ∙ unused_zeros (16 - length l))
    ∙ ap (λ (b : Bool). pairs_by o l && b) (true_r (all_by padded_b l))
  where
    true_r : (b : Bool) → (b && true) ≡ b
    true_r true = refl
    true_r false = refl

-- ---- from all tests to all tests
imply : {A : Type 0} {t u : A → Bool} (l : List A) → ((x : A) → t x ≡ true → u x ≡ true) → all_by t l ≡ true → all_by u l ≡ true
imply {t = t} {u = u} l f h = all_both t t u l (λ x p q. f x p) h h

through : {A B : Type 0} (t : A → Bool) (u : B → Bool) (g : A → B) (l : List A) → ((x : A) → t x ≡ true → u (g x) ≡ true) → all_by t l ≡ true → all_by u (map g l) ≡ true
through t u g l f h = all_map u g l ∙ imply {t = t} {u = λ x. u (g x)} l f h

all_all : {A : Type 0} (t u : A → Bool) (ls : List (List A)) → all_by (all_by (λ x. t x && u x)) ls ≡ (all_by (all_by t) ls && all_by (all_by u) ls)
all_all t u ls = all_same (all_by (λ x. t x && u x)) (λ l. all_by t l && all_by u l) ls (all_and t u) ∙ all_and (all_by t) (all_by u) ls

pub each_is : (s : State) (ls : List (List Lease)) → all_by (all_by (lease_ok s)) ls
    ≡ ((all_by (all_by id_b) ls && all_by (all_by (offsets_b s)) ls) && (all_by (all_by (lease_b s)) ls && (all_by (all_by padded_b) ls && all_by (all_by (hold_b s.clock)) ls)))
unfolding lease_ok
each_is s ls =
    all_all (λ l. id_b l && offsets_b s l) (λ l. lease_b s l && (padded_b l && hold_b s.clock l)) ls
    ∙ ap₂ (λ (a b : Bool). a && b) (all_all id_b (offsets_b s) ls)
    (all_all (lease_b s) (λ l. padded_b l && hold_b s.clock l) ls ∙ ap (λ (a : Bool). all_by (all_by (lease_b s)) ls && a) (all_all padded_b (hold_b s.clock) ls))

pub pairs_is : (ls : List (List Lease)) → all_by (pairs_by pair_ok) ls ≡ (all_by (pairs_by differ) ls && all_by (pairs_by compatible) ls)
unfolding pair_ok
pairs_is ls = all_same (pairs_by (λ a b. differ a b && compatible a b)) (λ l. pairs_by differ l && pairs_by compatible l) ls (pairs_and differ compatible) ∙ all_and (pairs_by differ) (pairs_by compatible) ls

-- ---- a sound book has sound lists
module _ (o : Order) (s : State) (t : LeaseTable) (a : AllRules (rules_by o s t)) where
  counted : (counts_b s ≡ true) × (all_by records_b t.tenants ≡ true)
  unfolding rules_by rule1
  counted = and_parts _ _ a.limits

  pub known : (tenants_b s t ≡ true) × (all_by (all_by (lease_b s)) (leases_of t) ≡ true)
  unfolding rules_by rule7
  known = and_parts _ _ a.leases

  laid : (settings_b s ≡ true) × (all_by (layout_by o) t.tenants ≡ true)
  unfolding rules_by rule19_by
  laid = and_parts _ _ a.layout

  pub few_from : all_by few_leases (leases_of t) ≡ true
  unfolding records_b
  few_from = through records_b few_leases in_use t.tenants (λ x p. let h = leb-true x.count 16 (and_parts _ _ p).0 in le-leb (length (in_use x)) 16 (let k = length-take x.count x.leases in omega arith)) counted.1

  pub ids_from : all_by (all_by id_b) (leases_of t) ≡ true
  unfolding records_b
  ids_from = through records_b (all_by id_b) in_use t.tenants (λ x p. (and_parts (leb x.count 16) (all_by id_b (in_use x)) p).1) counted.1

  ordered_from_law : all_by (pairs_by o) (leases_of t) ≡ true
  unfolding layout_by
  ordered_from_law = through (layout_by o) (pairs_by o) in_use t.tenants (λ x p. (and_parts (pairs_by o (in_use x)) _ p).0) laid.1

  pub padded_from : all_by (all_by padded_b) (leases_of t) ≡ true
  unfolding layout_by
  padded_from = through (layout_by o) (all_by padded_b) in_use t.tenants (λ x p. (and_parts (all_by padded_b (in_use x)) _ (and_parts (pairs_by o (in_use x)) _ p).1).0) laid.1

  pub tenants_from_law : all_by no_leases_b (drop (tenants_in s) (leases_of t)) ≡ true
  unfolding tenants_b none_b
  tenants_from_law =
      ap (all_by no_leases_b) (drop_map in_use (tenants_in s) t.tenants)
      ∙ through none_b no_leases_b in_use (drop (tenants_in s) t.tenants) (λ x p. let h = eqb-true x.count 0 p in eq-eqb (length (in_use x)) 0 (let k = length-take x.count x.leases in omega arith)) known.0

  pub settings_from : settings_ok s ≡ true
  unfolding rules_by settings_ok
  settings_from = and_both (and_both counted.0 (and_both a.ranges a.pools)) (and_both a.ttls (and_both a.reserves laid.0))

-- and its records rise
pub rises_by : (o : Order) (s : State) (t : LeaseTable) → sound_by o s t ≡ true → all_by (pairs_by o) (leases_of t) ≡ true
rises_by o s t e = ordered_from_law o s t (rules_by_law o s t e)

pub sound_rises : (s : State) (t : LeaseTable) → sound_b s t ≡ true → all_by (pairs_by ordered) (leases_of t) ≡ true
sound_rises s t e = rises_by ordered s t e

-- ---- sound lists, laid out, are a sound book
module _ (s : State) (ls : List (List Lease)) (v : Sound s ls) where
  pub settings_front : (counts_b s ≡ true) × ((rule3 s && rule4 s) ≡ true)
  unfolding settings_ok
  settings_front = and_parts (counts_b s) (rule3 s && rule4 s) (and_parts (counts_b s && (rule3 s && rule4 s)) (rule5 s && (rule6 s && settings_b s)) v.settings).0

  pub settings_back : (rule5 s ≡ true) × ((rule6 s && settings_b s) ≡ true)
  unfolding settings_ok
  settings_back = and_parts (rule5 s) (rule6 s && settings_b s) (and_parts (counts_b s && (rule3 s && rule4 s)) (rule5 s && (rule6 s && settings_b s)) v.settings).1

  each_parts : ((all_by (all_by id_b) ls && all_by (all_by (offsets_b s)) ls) ≡ true) × ((all_by (all_by (lease_b s)) ls && (all_by (all_by padded_b) ls && all_by (all_by (hold_b s.clock)) ls)) ≡ true)
  each_parts = and_parts _ _ (sym (each_is s ls) ∙ v.each)

  pub pair_parts : (all_by (pairs_by differ) ls ≡ true) × (all_by (pairs_by compatible) ls ≡ true)
  pair_parts = and_parts _ _ (sym (pairs_is ls) ∙ v.pairs)

  ids_to : all_by (all_by id_b) ls ≡ true
  ids_to = (and_parts (all_by (all_by id_b) ls) (all_by (all_by (offsets_b s)) ls) each_parts.0).0

  pub offsets_to : all_by (all_by (offsets_b s)) ls ≡ true
  offsets_to = (and_parts (all_by (all_by id_b) ls) (all_by (all_by (offsets_b s)) ls) each_parts.0).1

  pub leases_to : all_by (all_by (lease_b s)) ls ≡ true
  leases_to = (and_parts (all_by (all_by (lease_b s)) ls) (all_by (all_by padded_b) ls && all_by (all_by (hold_b s.clock)) ls) each_parts.1).0

  pub marks_to : (all_by (all_by padded_b) ls ≡ true) × (all_by (all_by (hold_b s.clock)) ls ≡ true)
  marks_to = and_parts _ _ (and_parts (all_by (all_by (lease_b s)) ls) (all_by (all_by padded_b) ls && all_by (all_by (hold_b s.clock)) ls) each_parts.1).1

  pub back : leases_of (table_of ls) ≡ ls
  back = table_back ls

  pub records_to : all_by records_b (table_of ls).tenants ≡ true
  unfolding table_of
  records_to =
      all_map records_b laid_out ls ∙ all_same (λ l. records_b (laid_out l)) (λ l. few_leases l && all_by id_b l) ls records_laid ∙ all_and few_leases (all_by id_b) ls
      ∙ and_both v.few ids_to

  pub layout_to : (o : Order) → all_by (pairs_by o) ls ≡ true → all_by (layout_by o) (table_of ls).tenants ≡ true
  unfolding table_of
  layout_to o rises =
      all_map (layout_by o) laid_out ls ∙ all_same (λ l. layout_by o (laid_out l)) (λ l. pairs_by o l && all_by padded_b l) ls (layout_laid o) ∙ all_and (pairs_by o) (all_by padded_b) ls
      ∙ and_both rises marks_to.0

  pub tenants_to : tenants_b s (table_of ls) ≡ true
  unfolding tenants_b table_of none_b laid_out
  tenants_to = ap (all_by none_b) (drop_map laid_out (tenants_in s) ls) ∙ all_map none_b laid_out (drop (tenants_in s) ls) ∙ v.tenants
