-- Laws: the records that the walk keeps are those of the entries that break no rule, and they are sound.
use mathlib.Core.Bool.{Bool, false, not, true, ◌&&◌, ◌||◌}
use mathlib.Core.List.{List, [], ◌++◌, ◌∷◌, map}
use mathlib.Core.Path.{◌∙◌, ◌≡◌, ap, ap₂, refl, sym}
use Prim.Native.Nat.{◌+◌, ◌-◌, ◌<◌, ◌≤◌, suc, zero, ℕ}
use native.Mathlib.Omega.{arith}
use lib.Dec.{eqb, leb, ltb}
use lib.ListN.{get_or, length, replicate, take}
use lib.Seq.{drop_at}
use borrow.Author.Tests.{eq-eqb, eqb-true, leb-true, lt-ltb, ltb-true, not-true}
use Rattle.lists.specs.All.{all_by, pairs_by}
use Rattle.lists.specs.Arranged.{arranged}
use Rattle.lists.specs.Filter.{filter_by}
use Rattle.lists.specs.Pick.{pick}
use Rattle.lists.specs.laws.All.{all_any, all_append, all_both, all_cons, all_head, all_map}
use Rattle.lists.specs.laws.Arranged.{arranged_reordered, arranged_sorted}
use Rattle.lists.specs.laws.Both.{and_both, and_parts}
use Rattle.lists.specs.laws.Filter.{filter_all}
use Rattle.lists.specs.laws.Pick.{pick_not_lt, both, pick_zero}
use Rattle.lists.specs.laws.Reordered.{reordered_all}
use Rattle.format.specs.Tenants.{own}
use Rattle.state.specs.Book.{differ, in_use, is_hold, laid_out, leases_of, ordered, scope_at, scopes_of, table_of, tenant_at, zero_lease, zero_scope}
use Rattle.state.specs.declared.Lease.{Lease}
use Rattle.state.specs.declared.LeaseTable.{LeaseTable}
use Rattle.state.specs.declared.Scope.{Scope}
use Rattle.state.specs.declared.State.{State}
use Rattle.state.specs.laws.Layout.{read_back, table_back}
use Rattle.state.proofs.Sorted.{rising}
use Rattle.soundness.specs.Sound.{blank_b, broken_by, counts_b, first_broken, first_late, first_rule, id_length_b, layout_b, layout_by, one_to, padded_b, rule1, rule19_by, rule8, rules_by, rules_of, settings_b, size_b, sound_b, sound_by, unused_b, zero_from}
use Rattle.soundness.specs.declared.Rules.{Rules}
use Rattle.soundness.specs.laws.Book.{rules_of_law}
use Rattle.lease_file.specs.Records.{hold_fit_b, hold_tenant, is_offset, lease_fit_b, lease_tenant, merged_from, storable_b, stored, stored_hold}
use Rattle.lease_file.specs.Section.{FileHold, FileLease}
use Rattle.lease_file.specs.laws.Merge.{arranged_differ}
use Rattle.state_file.specs.File.{File}
use Rattle.state_file.specs.Records.{settings_fit_b, stored_state}
use Rattle.state_file.specs.StateFile.{zero_table}
use Rattle.salvage_rules.specs.Rules.{hold_rule, known_scope, known_tenant, lease_rule, limits_kept, names_known, offsets_kept, record_rule, type_after, typed_hold, with_hold, with_lease, with_record}
use Rattle.salvage_rules.specs.laws.Rules.{record_zero, tenant_facts}
use Rattle.salvage_rules.proofs.Rules.{type_zero}
use Rattle.salvage_walk.specs.Walk.{hold_rules, lease_rules, leases_kept, records_kept, settings_sound}
use Rattle.salvage_laws.specs.Statement.{kept_ones}
use Rattle.salvage_laws.proofs.Chosen.{walk_holds}
use Rattle.salvage_laws.proofs.Table.{hold_others, hold_row, lease_others, lease_row, row_of, table_more}

-- ---- no rule is broken
pub first_limits : (r : Rules) → first_rule r ≡ 0 → r.limits ≡ true
unfolding first_rule
first_limits r e = (pick_zero r.limits _ 1 (omega arith) e).0

pub first_identifiers : (r : Rules) → first_rule r ≡ 0 → r.identifiers ≡ true
unfolding first_rule first_late
first_identifiers r e =
    let a = pick_zero r.limits _ 1 (omega arith) e in
    let b = pick_zero r.offsets _ 2 (omega arith) a.1 in
    let c = pick_zero r.ranges _ 3 (omega arith) b.1 in
    let d = pick_zero r.pools _ 4 (omega arith) c.1 in
    let f = pick_zero r.ttls _ 5 (omega arith) d.1 in
    let g = pick_zero r.reserves _ 6 (omega arith) f.1 in
    let h = pick_zero r.leases _ 7 (omega arith) g.1 in
    (pick_zero r.identifiers _ 8 (omega arith) h.1).0

pub sound_first : (st : State) (b : LeaseTable) → sound_b st b ≡ true → first_rule (rules_of st b) ≡ 0
unfolding sound_by broken_by first_broken pick
sound_first st b e = go (eqb (first_rule (rules_of st b)) 0) refl (eqb-true _ 0 e)
  where
    go : (t : Bool) → eqb (first_rule (rules_of st b)) 0 ≡ t → pick t (pick (rules_of st b).layout 0 19) (first_rule (rules_of st b)) ≡ 0 → first_rule (rules_of st b) ≡ 0
    go true q p = eqb-true _ 0 q
    go false q p = p

pub first_sound : (st : State) (b : LeaseTable) → first_rule (rules_of st b) ≡ 0 → (rules_of st b).layout ≡ true → sound_b st b ≡ true
unfolding sound_by broken_by first_broken pick
first_sound st b e l =
    eq-eqb _ 0 (ap₂ (λ (p q : Bool). pick p (pick {A = ℕ} q 0 19) (first_rule (rules_of st b))) (eq-eqb (first_rule (rules_of st b)) 0 e) l)

-- ---- an entry that breaks no rule fits a record
size_at : (l : List Scope) (n k : ℕ) → k < n → all_by size_b (take n l) ≡ true → (get_or l k zero_scope).size ≤ 64
unfolding size_b one_to
size_at [] n k h e = omega arith
size_at (c ∷ l) zero k h e = absurd (omega arith)
size_at (c ∷ l) (suc n) zero h e = leb-true c.size 64 (and_parts (leb 1 c.size) (leb c.size 64) (all_head size_b c (take n l) e).0).1
size_at (c ∷ l) (suc n) (suc k) h e = size_at l n k (omega arith) (all_head size_b c (take n l) e).1

-- the sizes of scopes are at most 64
pub sizes_of : (st : State) (b : LeaseTable) → first_rule (rules_of st b) ≡ 0 → all_by size_b (scopes_of st) ≡ true
unfolding rules_by rule1 counts_b
sizes_of st b e = (and_parts (one_to 4 st.scope_count) (all_by size_b (scopes_of st)) (and_parts (one_to 8 st.tenant_count) _ (and_parts (counts_b st) _ (first_limits (rules_of st b) e)).0).1).1

pub names_parts : (st : State) (x : FileLease) (typed : Bool) → names_known st x typed ≡ true → (known_tenant st x.tenant ≡ true) × (known_scope st x.scope ≡ true) × (typed ≡ true)
unfolding names_known
names_parts st x typed e = let p = and_parts (known_tenant st x.tenant) (known_scope st x.scope && typed) e in let q = and_parts (known_scope st x.scope) typed p.1 in (p.0, q.0, q.1)

-- by the tests on its octets
module _ (st : State) (b : LeaseTable) (x : FileLease) (typed : Bool) (sizes : all_by size_b (scopes_of st) ≡ true) (kept : limits_kept st b x ≡ true) (offs : offsets_kept st x ≡ true) (named : names_known st x typed ≡ true) where
  known : (known_tenant st x.tenant ≡ true) × (known_scope st x.scope ≡ true) × (typed ≡ true)
  known = names_parts st x typed named

  limits : (id_length_b (length x.id) ≡ true) × (ltb (length (in_use (tenant_at b (x.tenant - 1)))) 16 ≡ true)
  unfolding limits_kept pick
  limits =
      let p = and_parts (id_length_b (length x.id)) (pick (known_tenant st x.tenant) (ltb (length (in_use (tenant_at b (x.tenant - 1)))) 16) true) kept in
      (p.0, ap (λ (z : Bool). pick z (ltb (length (in_use (tenant_at b (x.tenant - 1)))) 16) true) (sym known.0) ∙ p.1)

  pub tests_few : length (in_use (tenant_at b (x.tenant - 1))) < 16
  tests_few = ltb-true (length (in_use (tenant_at b (x.tenant - 1)))) 16 limits.1

  id_few : length x.id ≤ 32
  id_few = leb-true (length x.id) 32 (and_parts (leb 2 (length x.id)) (leb (length x.id) 32) limits.0).1

  low : all_by is_offset x.offsets ≡ true
  unfolding offsets_kept pick known_scope one_to
  low =
      let p = and_parts (leb (length x.offsets) 64) (pick (known_scope st x.scope) (all_by (λ a. ltb a (scope_at st (x.scope - 1)).size) x.offsets) true) offs in
      let k = and_parts (leb 1 x.scope) (leb x.scope st.scope_count) known.1 in
      let f = leb-true 1 x.scope k.0 in
      let g = leb-true x.scope st.scope_count k.1 in
      let m : (scope_at st (x.scope - 1)).size ≤ 64 = size_at st.scopes st.scope_count (x.scope - 1) (omega arith) sizes in
      let q : all_by (λ a. ltb a (scope_at st (x.scope - 1)).size) x.offsets ≡ true = ap (λ (z : Bool). pick z (all_by (λ a. ltb a (scope_at st (x.scope - 1)).size) x.offsets) true) (sym known.1) ∙ p.1 in
      all_both (λ a. ltb a (scope_at st (x.scope - 1)).size) (λ a. ltb a (scope_at st (x.scope - 1)).size) is_offset x.offsets
      (λ a u v. lt-ltb a 64 (let w = ltb-true a (scope_at st (x.scope - 1)).size u in omega arith)) q q

  pub tests_storable : storable_b x ≡ true
  unfolding storable_b
  tests_storable =
      let t = tenant_facts st x.tenant known.0 in
      sym (pick_not_lt false _ true x.tenant 1 t.0 (pick_not_lt false _ true 8 x.tenant t.1 (pick_not_lt false _ true 32 (length x.id) id_few (sym low))))

-- by its rule
module _ (st : State) (b : LeaseTable) (x : FileLease) (typed : Bool) (l : Lease) (e : record_rule st b x typed l ≡ 0) where
  parts : (limits_kept st b x ≡ true) × (offsets_kept st x ≡ true) × (names_known st x typed ≡ true) × (first_rule (rules_of st (with_record b x.tenant l)) ≡ 0)
  parts = record_zero st b x typed l e

  pub zero_rules : first_rule (rules_of st (with_record b x.tenant l)) ≡ 0
  zero_rules = parts.3

  pub zero_typed : typed ≡ true
  zero_typed = (names_parts st x typed parts.2).2

  pub zero_tenant : (1 ≤ x.tenant) × (x.tenant ≤ 8)
  zero_tenant = tenant_facts st x.tenant (names_parts st x typed parts.2).0

  sizes : all_by size_b (scopes_of st) ≡ true
  sizes = sizes_of st (with_record b x.tenant l) zero_rules

  pub zero_few : length (in_use (tenant_at b (x.tenant - 1))) < 16
  zero_few = tests_few st b x typed sizes parts.0 parts.1 parts.2

  pub zero_storable : storable_b x ≡ true
  zero_storable = tests_storable st b x typed sizes parts.0 parts.1 parts.2

-- ---- what the walk keeps
pub record Holds (st : State) (ks : List FileLease) (hs : List FileHold) (b : LeaseTable) : Type 0 where
  pub table : b ≡ table_of (merged_from 1 8 ks hs)
  pub rules : first_rule (rules_of st b) ≡ 0
  pub leases : all_by lease_fit_b ks ≡ true
  pub holds : all_by hold_fit_b hs ≡ true

pub all_more : {A : Type 0} (t : A → Bool) (l : List A) (x : A) → all_by t l ≡ true → t x ≡ true → all_by t (l ++ x ∷ []) ≡ true
unfolding all_by
all_more t l x h e = all_append t l (x ∷ []) h (all_cons t x [] e refl)

-- identifiers differ
apart_by : (st : State) (b : LeaseTable) → first_rule (rules_of st b) ≡ 0 → all_by (pairs_by differ) (leases_of b) ≡ true
unfolding rules_by rule8
apart_by st b e = first_identifiers (rules_of st b) e

pub lease_kept : (st : State) (ks : List FileLease) (hs : List FileHold) (b : LeaseTable) (x : FileLease) → Holds st ks hs b → lease_rule st b x ≡ 0 → Holds st (ks ++ x ∷ []) hs (with_lease b x)
unfolding lease_rule lease_fit_b pick
lease_kept st ks hs b x v e =
    let typed : Bool = not (eqb x.kind 1) in
    let z = zero_tenant st b x (not (eqb x.kind 1)) (stored x) e in
    let f : 1 ≤ x.tenant = z.0 in
    let g : x.tenant ≤ 8 = z.1 in
    let q : x.tenant ≡ x.tenant - 1 + 1 = omega arith in
    let r = zero_rules st b x (not (eqb x.kind 1)) (stored x) e in
    record {
      table =
          table_more ks (ks ++ x ∷ []) hs hs (x.tenant - 1) (omega arith) (stored x) (lease_row (x.tenant - 1 + 1) ks hs x q) (λ u n. lease_others u ks hs x (λ y. n (sym y ∙ q)))
          b v.table x.tenant refl (zero_few st b x (not (eqb x.kind 1)) (stored x) e) (apart_by st (with_lease b x) r);
      rules = r;
      leases =
          all_more lease_fit_b ks x v.leases
          (ap (λ (c : Bool). pick c false (storable_b x)) (not-true (eqb x.kind 1) (zero_typed st b x (not (eqb x.kind 1)) (stored x) e)) ∙ zero_storable st b x (not (eqb x.kind 1)) (stored x) e);
      holds = v.holds;
    }

-- a hold's type is 1, so that it is judged as it is kept
typed_one : (kind r : ℕ) → type_after kind r ≡ 0 → eqb kind 1 ≡ true
unfolding type_after pick
typed_one kind r e = (pick_zero (eqb kind 1) 0 13 (omega arith) (ap (λ (c : Bool). pick c (pick {A = ℕ} (eqb kind 1) 0 13) r) (sym (eq-eqb r 0 (type_zero kind r e))) ∙ e)).0

pub typed_same : (l : Lease) → l.kind ≡ 1 → typed_hold l ≡ l
typed_same l e =
    ap {B = Lease} (λ (k : ℕ). record { scope = l.scope; id_len = l.id_len; id = l.id; kind = k; xid = l.xid; start = l.start; end = l.end; addresses = l.addresses; lapse = l.lapse }) (sym e)

pub hold_kind : (y : FileHold) → (stored_hold y).kind ≡ y.lease.kind
unfolding stored_hold stored
hold_kind y = refl

pub hold_kept : (st : State) (ks : List FileLease) (hs : List FileHold) (b : LeaseTable) (y : FileHold) → Holds st ks hs b → hold_rule st b y ≡ 0 → Holds st ks (hs ++ y ∷ []) (with_hold b y)
unfolding hold_rule hold_fit_b pick
hold_kept st ks hs b y v e =
    let one : eqb y.lease.kind 1 ≡ true = typed_one y.lease.kind _ e in
    let same : typed_hold (stored_hold y) ≡ stored_hold y = typed_same (stored_hold y) (hold_kind y ∙ eqb-true y.lease.kind 1 one) in
    let e' : record_rule st b y.lease true (typed_hold (stored_hold y)) ≡ 0 = type_zero y.lease.kind _ e in
    let z = zero_tenant st b y.lease true (typed_hold (stored_hold y)) e' in
    let f : 1 ≤ y.lease.tenant = z.0 in
    let g : y.lease.tenant ≤ 8 = z.1 in
    let q : y.lease.tenant ≡ y.lease.tenant - 1 + 1 = omega arith in
    let r : first_rule (rules_of st (with_hold b y)) ≡ 0 = ap (λ (l : Lease). first_rule (rules_of st (with_record b y.lease.tenant l))) (sym same) ∙ zero_rules st b y.lease true (typed_hold (stored_hold y)) e' in
    record {
      table =
          table_more ks ks hs (hs ++ y ∷ []) (y.lease.tenant - 1) (omega arith) (stored_hold y) (hold_row (y.lease.tenant - 1 + 1) ks hs y q) (λ u n. hold_others u ks hs y (λ w. n (sym w ∙ q)))
          b v.table y.lease.tenant refl (zero_few st b y.lease true (typed_hold (stored_hold y)) e') (apart_by st (with_hold b y) r);
      rules = r;
      leases = v.leases;
      holds = all_more hold_fit_b hs y v.holds (ap (λ (c : Bool). pick c (storable_b y.lease) false) one ∙ zero_storable st b y.lease true (typed_hold (stored_hold y)) e');
    }

pub none_kept : (st : State) → sound_b st zero_table ≡ true → Holds st [] [] zero_table
unfolding zero_table merged_from arranged filter_by all_by
none_kept st e = record { table = refl; rules = sound_first st zero_table e; leases = refl; holds = refl }

module _ (f : File) (e : settings_sound f ≡ true) where
  pub settings_alone : sound_b (stored_state f) zero_table ≡ true
  unfolding settings_sound
  settings_alone = (both (settings_fit_b f) (sound_b (stored_state f) zero_table) e).1

  pub leases_hold : Holds (stored_state f) (kept_ones (lease_rules f) f.leases) [] (leases_kept f)
  leases_hold =
      walk_holds (lease_rule (stored_state f)) with_lease (λ b ks. Holds (stored_state f) ks [] b) (λ _. Unit {0}) (λ b ks x k p z. lease_kept (stored_state f) ks [] b x k z)
      zero_table [] f.leases (none_kept (stored_state f) settings_alone) (all_any (λ (_ : FileLease). Unit {0}) (λ x. tt) f.leases)

  pub records_hold : Holds (stored_state f) (kept_ones (lease_rules f) f.leases) (kept_ones (hold_rules f) f.holds) (records_kept f)
  records_hold =
      walk_holds (hold_rule (stored_state f)) with_hold (λ b hs. Holds (stored_state f) (kept_ones (lease_rules f) f.leases) hs b) (λ _. Unit {0})
      (λ b hs y k p z. hold_kept (stored_state f) (kept_ones (lease_rules f) f.leases) hs b y k z)
      (leases_kept f) [] f.holds leases_hold (all_any (λ (_ : FileHold). Unit {0}) (λ x. tt) f.holds)

-- ---- and they are laid out as a sound book's
unused_zeros : (k : ℕ) → all_by unused_b (replicate k zero_lease) ≡ true
unfolding all_by unused_b blank_b zero_from pick
unused_zeros zero = refl
unused_zeros (suc k) = all_cons unused_b zero_lease (replicate k zero_lease) blank (unused_zeros k)
  where
    blank : unused_b zero_lease ≡ true
    blank = refl

layout_row : (l : List Lease) → pairs_by ordered l ≡ true → all_by padded_b l ≡ true → layout_b (laid_out l) ≡ true
unfolding layout_by laid_out
layout_row l p q =
    and_both (ap (pairs_by ordered) (read_back l) ∙ p)
    (and_both (ap (all_by padded_b) (read_back l) ∙ q) (ap (all_by unused_b) (drop_at l (replicate (16 - length l) zero_lease) (length l) refl) ∙ unused_zeros (16 - length l)))

pub zeros_past : (k : ℕ) (id : List ℕ) → zero_from (length id) (id ++ replicate k 0) ≡ true
unfolding zero_from all_by
zeros_past k id = ap (all_by (λ x. eqb x 0)) (drop_at id (replicate k 0) (length id) refl) ∙ all k
  where
    all : (k : ℕ) → all_by (λ x. eqb x 0) (replicate k 0) ≡ true
    all zero = refl
    all (suc k) = all_cons (λ x. eqb x 0) 0 (replicate k 0) refl (all k)

pub or_last : (b : Bool) → (b || true) ≡ true
or_last true = refl
or_last false = refl

lease_padded : (x : FileLease) → lease_fit_b x ≡ true → padded_b (stored x) ≡ true
unfolding padded_b stored
lease_padded x e = and_both (or_last (is_hold (stored x))) (zeros_past (32 - length x.id) x.id)

hold_padded : (y : FileHold) → hold_fit_b y ≡ true → padded_b (stored_hold y) ≡ true
unfolding padded_b stored_hold stored is_hold hold_fit_b
hold_padded y e = and_both (ap (λ (b : Bool). b || eqb y.lapse 0) (both (eqb y.lease.kind 1) (storable_b y.lease) e).0) (zeros_past (32 - length y.lease.id) y.lease.id)

layout_is : (st : State) (b : LeaseTable) → settings_b st ≡ true → all_by layout_b b.tenants ≡ true → (rules_of st b).layout ≡ true
unfolding rules_by rule19_by
layout_is st b s e = and_both s e

table_laid : (ls : List (List Lease)) → all_by (λ l. layout_b (laid_out l)) ls ≡ true → all_by layout_b (table_of ls).tenants ≡ true
unfolding table_of
table_laid ls e = all_map layout_b laid_out ls ∙ e

module _ (st : State) (ks : List FileLease) (hs : List FileHold) (b : LeaseTable) (v : Holds st ks hs b) where
  row_padded : (u : ℕ) → all_by padded_b (row_of u ks hs) ≡ true
  row_padded u =
      all_append padded_b (map stored_hold (own hold_tenant u hs)) (map stored (own lease_tenant u ks))
      (all_map padded_b stored_hold (own hold_tenant u hs) ∙ all_both hold_fit_b hold_fit_b (λ y. padded_b (stored_hold y)) (own hold_tenant u hs) (λ y p q. hold_padded y p) (holds_own u) (holds_own u))
      (all_map padded_b stored (own lease_tenant u ks) ∙ all_both lease_fit_b lease_fit_b (λ x. padded_b (stored x)) (own lease_tenant u ks) (λ x p q. lease_padded x p) (leases_own u) (leases_own u))
    where
      holds_own : (u : ℕ) → all_by hold_fit_b (own hold_tenant u hs) ≡ true
      holds_own u = filter_all hold_fit_b (λ y. eqb (hold_tenant y) u) hs v.holds

      leases_own : (u : ℕ) → all_by lease_fit_b (own lease_tenant u ks) ≡ true
      leases_own u = filter_all lease_fit_b (λ x. eqb (lease_tenant x) u) ks v.leases

  rows_laid : (n t : ℕ) → all_by (pairs_by differ) (merged_from t n ks hs) ≡ true → all_by (λ l. layout_b (laid_out l)) (merged_from t n ks hs) ≡ true
  unfolding merged_from all_by
  rows_laid zero t d = refl
  rows_laid (suc n) t d =
      let p = all_head (pairs_by differ) (arranged ordered (row_of t ks hs)) (merged_from (suc t) n ks hs) d in
      all_cons (λ l. layout_b (laid_out l)) (arranged ordered (row_of t ks hs)) (merged_from (suc t) n ks hs)
      (layout_row (arranged ordered (row_of t ks hs)) (arranged_sorted differ ordered rising (row_of t ks hs) (sym (arranged_differ ordered (row_of t ks hs)) ∙ p.0))
      (reordered_all padded_b (arranged_reordered ordered (row_of t ks hs)) ∙ row_padded t))
      (rows_laid n (suc t) p.1)

  pub lists_apart : all_by (pairs_by differ) (merged_from 1 8 ks hs) ≡ true
  lists_apart = ap (all_by (pairs_by differ)) (sym (table_back (merged_from 1 8 ks hs)) ∙ ap leases_of (sym v.table)) ∙ apart_by st b v.rules

  pub holds_sound : settings_b st ≡ true → sound_b st b ≡ true
  holds_sound s =
      first_sound st b v.rules (layout_is st b s (ap (λ (t : LeaseTable). all_by layout_b t.tenants) v.table ∙ table_laid (merged_from 1 8 ks hs) (rows_laid 8 1 lists_apart)))

pub settings_laid : (st : State) (b : LeaseTable) → sound_b st b ≡ true → settings_b st ≡ true
unfolding rules_by rule19_by
settings_laid st b e = (and_parts (settings_b st) (all_by layout_b b.tenants) (rules_of_law st b e).layout).0
