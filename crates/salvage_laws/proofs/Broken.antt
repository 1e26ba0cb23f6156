-- Laws: which rule the records break with one more, where they broke none without it.
use mathlib.Core.Bool.{Bool, false, true, ◌&&◌}
use mathlib.Core.List.{List, [], ◌∷◌, map}
use mathlib.Core.Path.{◌∙◌, ◌≡◌, ap, ap₂, refl, sym}
use Prim.Native.Nat.{◌-◌, ◌<◌, ◌≤◌, suc, zero, ℕ}
use native.Mathlib.Omega.{arith}
use lib.Dec.{leb, ltb}
use lib.ListN.{drop, get_or, length, length-map, length-set, set, take, get_or-map}
use lib.Seq.{get_or-set_same}
use borrow.Author.Tests.{eqb-true, le-leb, leb-false, lt-ltb, ne_eqb}
use Rattle.address_set.specs.AddressSet.{offsets}
use Rattle.address_set.specs.laws.Bits.{length_offsets}
use Rattle.lists.specs.All.{all_by, all_to}
use Rattle.lists.specs.Pick.{pick}
use Rattle.lists.specs.laws.All.{all_cons, all_head, to_each}
use Rattle.lists.specs.laws.Both.{and_both, and_parts}
use Rattle.lists.specs.laws.Each.{map_set}
use Rattle.lists.specs.laws.Pick.{pick_lt, pick_zero}
use Rattle.lists.specs.laws.Reordered.{reordered_all, reordered_length}
use Rattle.state.specs.Book.{in_use, insert_of, inserted_by, inserted_in, laid_out, leases_of, scope_at, tenant_at}
use Rattle.state.specs.declared.Lease.{Lease}
use Rattle.state.specs.declared.LeaseTable.{LeaseTable}
use Rattle.state.specs.declared.State.{State}
use Rattle.state.specs.declared.TenantLeases.{TenantLeases}
use Rattle.state.specs.laws.Layout.{read_back}
use Rattle.state.specs.laws.Sorted.{insert_same}
use Rattle.soundness.specs.Sound.{below_b, counts_b, first_late, first_rule, id_b, id_length_b, kind_b, lease_b, none_b, offsets_b, one_to, period_b, records_b, rule1, rule2, rule7, rules_by, rules_of, tenants_b, tenants_in}
use Rattle.soundness.specs.declared.Rules.{Rules}
use Rattle.soundness.specs.laws.Added.{all_set, sound_at}
use Rattle.lease_file.specs.Section.{FileLease}
use Rattle.salvage_rules.specs.Rules.{known_scope, known_tenant, limits_kept, names_known, offsets_kept, record_rule, with_record}

pub no : {R : Type 0} → true ≡ false → R
no e = absurd (let z : ◌≡◌ {A = ℕ} 0 1 = cc in omega arith)

-- ---- the number of the first test that fails
pub kept_on : {p : Bool} {x k : ℕ} (n : ℕ) → p ≡ true → x ≡ k → pick p x n ≡ k
unfolding pick
kept_on {p} {x} {k} n e h = ap (λ (t : Bool). pick t x n) e ∙ h

pub broken_at : {p : Bool} (x n : ℕ) → p ≡ false → pick p x n ≡ n
unfolding pick
broken_at {p} x n e = ap (λ (t : Bool). pick t x n) e

pub and_fails : (p q : Bool) → q ≡ false → (p && q) ≡ false
and_fails true q e = e
and_fails false q e = refl

-- ---- a test that one fails is not passed by all
all_at : {A : Type 0} (t : A → Bool) (l : List A) (h : ℕ) (d : A) → h < length l → all_by t l ≡ true → t (get_or l h d) ≡ true
all_at t [] h d p a = absurd (omega arith)
all_at t (x ∷ l) zero d p a = (all_head t x l a).0
all_at t (x ∷ l) (suc h) d p a = all_at t l h d (omega arith) (all_head t x l a).1

drop_passes : {A : Type 0} (t : A → Bool) (l : List A) (k h : ℕ) (d : A) → k ≤ h → h < length l → all_by t (drop k l) ≡ true → t (get_or l h d) ≡ true
drop_passes t l zero h d p q e = all_at t l h d q e
drop_passes t [] (suc k) h d p q e = absurd (omega arith)
drop_passes t (x ∷ l) (suc k) zero d p q e = absurd (omega arith)
drop_passes t (x ∷ l) (suc k) (suc h) d p q e = drop_passes t l k h d (omega arith) (omega arith) e

drop_fails : {A : Type 0} (t : A → Bool) (l : List A) (k h : ℕ) (d : A) → k ≤ h → h < length l → t (get_or l h d) ≡ false → all_by t (drop k l) ≡ false
drop_fails t l k h d p q e = go (all_by t (drop k l)) refl
  where
    go : (b : Bool) → all_by t (drop k l) ≡ b → b ≡ false
    go true a = no (sym (drop_passes t l k h d p q a) ∙ e)
    go false a = refl

all_fails : {A : Type 0} (t : A → Bool) (l : List A) (h : ℕ) (d : A) → h < length l → t (get_or l h d) ≡ false → all_by t l ≡ false
all_fails t l h d p e = drop_fails t l 0 h d (omega arith) p e

pub to_fails : (t : ℕ → Bool) (n h : ℕ) → h < n → t h ≡ false → all_to t n ≡ false
to_fails t n h p e = go (all_to t n) refl
  where
    go : (b : Bool) → all_to t n ≡ b → b ≡ false
    go true a = no (sym (to_each t n a h p) ∙ e)
    go false a = refl

-- past the last
pub past_last : (n t : ℕ) → 1 ≤ t → one_to n t ≡ false → n ≤ t - 1
unfolding one_to
past_last n t f e = let h = leb-false t n (ap (λ (b : Bool). b && leb t n) (sym (le-leb 1 t f)) ∙ e) in omega arith

-- ---- records that break no rule
first_seven : (r : Rules) → first_rule r ≡ 0 → (r.limits ≡ true) × (r.offsets ≡ true) × (r.ranges ≡ true) × (r.pools ≡ true) × (r.ttls ≡ true) × (r.reserves ≡ true) × (r.leases ≡ true)
unfolding first_rule first_late
first_seven r e =
    let a = pick_zero r.limits _ 1 (omega arith) e in
    let b = pick_zero r.offsets _ 2 (omega arith) a.1 in
    let c = pick_zero r.ranges _ 3 (omega arith) b.1 in
    let d = pick_zero r.pools _ 4 (omega arith) c.1 in
    let f = pick_zero r.ttls _ 5 (omega arith) d.1 in
    let g = pick_zero r.reserves _ 6 (omega arith) f.1 in
    let h = pick_zero r.leases _ 7 (omega arith) g.1 in
    (a.0, b.0, c.0, d.0, f.0, g.0, h.0)

module _ (st : State) (b : LeaseTable) (long : length b.tenants ≡ 8) (sound : first_rule (rules_of st b) ≡ 0) where
  old_tenants : all_by none_b (drop (tenants_in st) b.tenants) ≡ true
  unfolding rules_by rule7 tenants_b
  old_tenants = (and_parts (tenants_b st b) (all_by (all_by (lease_b st)) (leases_of b)) (first_seven (rules_of st b) sound).6).0

  -- an unknown tenant has no record
  none_past : (h : ℕ) → h < 8 → tenants_in st ≤ h → length (in_use (tenant_at b h)) ≡ 0
  unfolding none_b
  none_past h small e =
      let n = eqb-true (tenant_at b h).count 0 (drop_passes none_b b.tenants (tenants_in st) h (laid_out []) e (omega arith) old_tenants) in
      empty (tenant_at b h) n
    where
      empty : (t : TenantLeases) → t.count ≡ 0 → length (in_use t) ≡ 0
      empty t e = ap (λ (k : ℕ). length (take k t.leases)) e

  pub full_known : (t : ℕ) → 1 ≤ t → t ≤ 8 → 16 ≤ length (in_use (tenant_at b (t - 1))) → known_tenant st t ≡ true
  unfolding known_tenant
  full_known t from to h = go (one_to (tenants_in st) t) refl
    where
      go : (c : Bool) → one_to (tenants_in st) t ≡ c → c ≡ true
      go true e = refl
      go false e = let n = none_past (t - 1) (omega arith) (past_last (tenants_in st) t from e) in absurd (omega arith)

-- ---- a record more, where its tenant has room
module _ (st : State) (b : LeaseTable) (long : length b.tenants ≡ 8) (sound : first_rule (rules_of st b) ≡ 0) (t : ℕ) (from : 1 ≤ t) (to : t ≤ 8) (l : Lease) (room : length (in_use (tenant_at b (t - 1))) < 16) where
  abbrev own : List Lease
  own = in_use (tenant_at b (t - 1))

  abbrev more : TenantLeases
  more = laid_out (insert_of l (in_use (tenant_at b (t - 1))))

  more_is : inserted_in l (tenant_at b (t - 1)) ≡ more
  unfolding inserted_by
  more_is = sym (pick_lt more (tenant_at b (t - 1)) more (length own) 16 room refl)

  tenants_with : (with_record b t l).tenants ≡ set b.tenants (t - 1) more
  unfolding with_record
  tenants_with = ap (set b.tenants (t - 1)) more_is

  lists_with : leases_of (with_record b t l) ≡ set (leases_of b) (t - 1) (insert_of l own)
  lists_with = ap (map in_use) tenants_with ∙ sym (map_set in_use b.tenants (t - 1) more) ∙ ap (set (leases_of b) (t - 1)) (read_back (insert_of l own))

  tenant_more : get_or (set b.tenants (t - 1) more) (t - 1) more ≡ more
  tenant_more = get_or-set_same b.tenants (t - 1) more more (omega arith)

  tenants_long : t - 1 < length (set b.tenants (t - 1) more)
  tenants_long = let n = length-set b.tenants (t - 1) more in omega arith

  old : ((rules_of st b).limits ≡ true) × ((rules_of st b).offsets ≡ true) × ((rules_of st b).ranges ≡ true) × ((rules_of st b).pools ≡ true) × ((rules_of st b).ttls ≡ true) × ((rules_of st b).reserves ≡ true) × ((rules_of st b).leases ≡ true)
  old = first_seven (rules_of st b) sound

  inserted_all : (u : Lease → Bool) → u l ≡ true → all_by u own ≡ true → all_by u (insert_of l own) ≡ true
  inserted_all u e p = reordered_all u (insert_same l own) ∙ all_cons u l own e p

  inserted_fails : (u : Lease → Bool) → u l ≡ false → all_by u (insert_of l own) ≡ false
  inserted_fails u e = reordered_all u (insert_same l own) ∙ all_fails u (l ∷ own) 0 l (omega arith) e

  -- a test on the records of each tenant
  lists_pass : (u : Lease → Bool) → u l ≡ true → all_by (all_by u) (leases_of b) ≡ true → all_by (all_by u) (leases_of (with_record b t l)) ≡ true
  unfolding all_by
  lists_pass u e h =
      ap (all_by (all_by u)) lists_with
      ∙ all_set (all_by u) (leases_of b) (t - 1) (insert_of l own) (inserted_all u e (ap (all_by u) (sym own_is) ∙ sound_at (all_by u) (leases_of b) (t - 1) refl h)) h
    where
      own_is : get_or (leases_of b) (t - 1) [] ≡ own
      own_is = ap (get_or (leases_of b) (t - 1)) (sym (read_back [])) ∙ get_or-map in_use b.tenants (t - 1) (laid_out [])

  lists_fail : (u : Lease → Bool) → u l ≡ false → all_by (all_by u) (leases_of (with_record b t l)) ≡ false
  lists_fail u e =
      let m = length-map b.tenants in_use in
      let n = length-set (leases_of b) (t - 1) (insert_of l own) in
      ap (all_by (all_by u)) lists_with
      ∙ all_fails (all_by u) (set (leases_of b) (t - 1) (insert_of l own)) (t - 1) [] (omega arith)
      (ap (all_by u) (get_or-set_same (leases_of b) (t - 1) (insert_of l own) [] (omega arith)) ∙ inserted_fails u e)

  -- 1
  old_records : (counts_b st ≡ true) × (all_by records_b b.tenants ≡ true)
  unfolding rules_by rule1
  old_records = and_parts (counts_b st) (all_by records_b b.tenants) old.0

  own_ids : all_by id_b own ≡ true
  unfolding records_b
  own_ids = (and_parts (leb (tenant_at b (t - 1)).count 16) (all_by id_b own) (all_at records_b b.tenants (t - 1) (laid_out []) (omega arith) old_records.1)).1

  records_more : records_b more ≡ all_by id_b (insert_of l own)
  unfolding records_b laid_out
  records_more =
      ap₂ (λ (p : Bool) (x : List Lease). p && all_by id_b x) (le-leb (length (insert_of l own)) 16 (let e = reordered_length (insert_same l own) in omega arith)) (read_back (insert_of l own))

  limits_hold : id_b l ≡ true → (rules_of st (with_record b t l)).limits ≡ true
  unfolding rules_by rule1
  limits_hold e =
      and_both old_records.0 (ap (all_by records_b) tenants_with ∙ all_set records_b b.tenants (t - 1) more (records_more ∙ inserted_all id_b e own_ids) old_records.1)

  limits_broken : id_b l ≡ false → (rules_of st (with_record b t l)).limits ≡ false
  unfolding rules_by rule1
  limits_broken e =
      and_fails (counts_b st) (all_by records_b (with_record b t l).tenants)
      (ap (all_by records_b) tenants_with
      ∙ all_fails records_b (set b.tenants (t - 1) more) (t - 1) more tenants_long (ap records_b tenant_more ∙ records_more ∙ inserted_fails id_b e))

  -- 2
  offsets_hold : offsets_b st l ≡ true → (rules_of st (with_record b t l)).offsets ≡ true
  unfolding rules_by rule2
  offsets_hold e = lists_pass (offsets_b st) e old.1

  offsets_broken : offsets_b st l ≡ false → (rules_of st (with_record b t l)).offsets ≡ false
  unfolding rules_by rule2
  offsets_broken e = lists_fail (offsets_b st) e

  -- 7: in an unknown scope, and of an unknown tenant
  pub scope_broken : lease_b st l ≡ false → (rules_of st (with_record b t l)).leases ≡ false
  unfolding rules_by rule7
  scope_broken e = and_fails (tenants_b st (with_record b t l)) (all_by (all_by (lease_b st)) (leases_of (with_record b t l))) (lists_fail (lease_b st) e)

  more_some : none_b more ≡ false
  unfolding none_b laid_out
  more_some = ne_eqb (length (insert_of l own)) 0 (λ z. let e = reordered_length (insert_same l own) in absurd (omega arith))

  pub tenant_broken : tenants_in st ≤ t - 1 → (rules_of st (with_record b t l)).leases ≡ false
  unfolding rules_by rule7 tenants_b
  tenant_broken h =
      ap (λ (q : Bool). q && all_by (all_by (lease_b st)) (leases_of (with_record b t l)))
      (ap (λ (ts : List TenantLeases). all_by none_b (drop (tenants_in st) ts)) tenants_with
      ∙ drop_fails none_b (set b.tenants (t - 1) more) (tenants_in st) (t - 1) more h tenants_long (ap none_b tenant_more ∙ more_some))

  -- the number; 3 to 6 go by the settings
  pub first_1 : id_b l ≡ false → first_rule (rules_of st (with_record b t l)) ≡ 1
  unfolding first_rule
  first_1 e = broken_at _ 1 (limits_broken e)

  pub first_2 : id_b l ≡ true → offsets_b st l ≡ false → first_rule (rules_of st (with_record b t l)) ≡ 2
  unfolding first_rule
  first_2 e o = kept_on 1 (limits_hold e) (broken_at _ 2 (offsets_broken o))

  settings_hold : ((rules_of st (with_record b t l)).ranges ≡ true) × ((rules_of st (with_record b t l)).pools ≡ true) × ((rules_of st (with_record b t l)).ttls ≡ true) × ((rules_of st (with_record b t l)).reserves ≡ true)
  unfolding rules_by
  settings_hold = (old.2, old.3, old.4, old.5)

  pub first_7 : id_b l ≡ true → offsets_b st l ≡ true → (rules_of st (with_record b t l)).leases ≡ false → first_rule (rules_of st (with_record b t l)) ≡ 7
  unfolding first_rule first_late
  first_7 e o k =
      let s = settings_hold in
      kept_on 1 (limits_hold e) (kept_on 2 (offsets_hold o) (kept_on 3 s.0 (kept_on 4 s.1 (kept_on 5 s.2 (kept_on 6 s.3 (broken_at _ 7 k))))))

-- ---- an entry that a record can hold, of a tenant that has room: x in the file, l in the records
module _ (st : State) (b : LeaseTable) (long : length b.tenants ≡ 8) (sound : first_rule (rules_of st b) ≡ 0) (x : FileLease) (typed : Bool) (l : Lease) (ei : l.id_len ≡ length x.id) (es : l.scope ≡ x.scope)
    (eo : offsets l.addresses ≡ x.offsets) (ty : typed ≡ true) (from : 1 ≤ x.tenant) (to : x.tenant ≤ 8) (room : length (in_use (tenant_at b (x.tenant - 1))) < 16) where
  limits_as : limits_kept st b x ≡ id_b l
  unfolding limits_kept id_b pick
  limits_as = ap₂ (λ (p q : Bool). p && q) (ap id_length_b (sym ei)) (go (known_tenant st x.tenant)) ∙ and_last (id_length_b l.id_len)
    where
      go : (k : Bool) → pick k (ltb (length (in_use (tenant_at b (x.tenant - 1)))) 16) true ≡ true
      go true = lt-ltb _ 16 room
      go false = refl

      and_last : (p : Bool) → (p && true) ≡ p
      and_last true = refl
      and_last false = refl

  offsets_as : offsets_kept st x ≡ offsets_b st l
  unfolding offsets_kept offsets_b below_b known_scope
  offsets_as =
      ap (λ (p : Bool). p && pick (one_to st.scope_count x.scope) (all_by (λ a. ltb a (scope_at st (x.scope - 1)).size) x.offsets) true)
      (le-leb (length x.offsets) 64 (let k = length_offsets l.addresses in let z = ap length eo in omega arith))
      ∙ sym (ap₂ (λ (c : ℕ) (o : List ℕ). pick (one_to st.scope_count c) (all_by (λ a. ltb a (scope_at st (c - 1)).size) o) true) es eo)

  unnamed : names_known st x typed ≡ false → (rules_of st (with_record b x.tenant l)).leases ≡ false
  unfolding names_known known_tenant known_scope lease_b
  unnamed e = go (one_to (tenants_in st) x.tenant) refl (one_to st.scope_count x.scope) refl e
    where
      go : (p : Bool) → one_to (tenants_in st) x.tenant ≡ p → (q : Bool) → one_to st.scope_count x.scope ≡ q → (p && (q && typed)) ≡ false → (rules_of st (with_record b x.tenant l)).leases ≡ false
      go false p q r e = tenant_broken st b long sound x.tenant from to l room (past_last (tenants_in st) x.tenant from p)
      go true p false r e = scope_broken st b long sound x.tenant from to l room (ap (λ (z : Bool). z && (kind_b l && period_b st.clock l)) (ap (one_to st.scope_count) es ∙ r))
      go true p true r e = no (sym ty ∙ e)

  pub record_first : record_rule st b x typed l ≡ first_rule (rules_of st (with_record b x.tenant l))
  unfolding record_rule
  record_first = go (id_b l) refl (offsets_b st l) refl (names_known st x typed) refl
    where
      go : (p : Bool) → id_b l ≡ p → (q : Bool) → offsets_b st l ≡ q → (r : Bool) → names_known st x typed ≡ r → record_rule st b x typed l ≡ first_rule (rules_of st (with_record b x.tenant l))
      go false p q f r g = broken_at _ 1 (limits_as ∙ p) ∙ sym (first_1 st b long sound x.tenant from to l room p)
      go true p false f r g = kept_on 1 (limits_as ∙ p) (broken_at _ 2 (offsets_as ∙ f)) ∙ sym (first_2 st b long sound x.tenant from to l room p f)
      go true p true f false g = kept_on 1 (limits_as ∙ p) (kept_on 2 (offsets_as ∙ f) (broken_at _ 7 g)) ∙ sym (first_7 st b long sound x.tenant from to l room p f (unnamed g))
      go true p true f true g = kept_on 1 (limits_as ∙ p) (kept_on 2 (offsets_as ∙ f) (kept_on 7 g refl))
