-- Laws: the first rule that an entry breaks, as the code finds it, test by test.
use Rattle.std.specs.Prelude.{Bool, not, ◌&&◌, ◌≡◌, refl, ◌+◌, ◌-◌, ◌<◌, ◌≤◌, min, ℕ, eqb, drop, get_or, set}
use Rattle.std.proofs.Math.Bool.{false, true}
use mathlib.Core.List.{List}
use Rattle.std.proofs.Common.{◌∙◌, arith, drop_of_length-le, le-leb, le-ltb, leb-false, leb-true, lt-ltb}
use Rattle.std.proofs.Math.Path.{ap, ap₂, sym}
use Rattle.std.proofs.Math.Dec.{leb, ltb}
use Rattle.std.proofs.Math.ListN.{length, take}
use Rattle.std.proofs.lemmas.Bool.{lt-leb}
use Rattle.lists.specs.All.{all_by}
use Rattle.lists.specs.Pick.{pick}
use Rattle.lists.specs.laws.Pick.{pick_zero}
use Rattle.lists.specs.laws.Both.{and_parts}
use Rattle.lists.specs.laws.Row.{at_in}
use Rattle.octets.specs.laws.Run.{part_length, part_next}
use Rattle.format.specs.Section.{Inside}
use Rattle.state.specs.Book.{in_use, inserted_in, pushed_release, releases_at, scope_at, tenant_at}
use Rattle.state.specs.declared.Lease.{Lease}
use Rattle.state.specs.declared.LeaseTable.{LeaseTable}
use Rattle.state.specs.declared.Memory.{Memory}
use Rattle.state.specs.declared.Release.{Release}
use Rattle.state.specs.declared.Scope.{Scope}
use Rattle.state.specs.declared.State.{State}
use Rattle.state.specs.declared.TenantLeases.{TenantLeases}
use Rattle.state.specs.declared.TenantReleases.{TenantReleases}
use Rattle.soundness.specs.Sound.{first_rule, id_length_b, one_to, rules_of, tenants_in}
use Rattle.releases.specs.Rules.{first_release, release_rules_of}
use Rattle.releases.specs.declared.ReleaseRules.{ReleaseRules}
use Rattle.lease_file.specs.Place.{StorableAt, after_entry, after_lease, entry_at, file_lease_at}
use Rattle.lease_file.specs.laws.Limits.{lease_inside}
use Rattle.lease_file.specs.Records.{stored_entry}
use Rattle.lease_file.specs.Section.{FileLease}
use Rattle.release_file.specs.Place.{KeepableAt, after_release, file_release_at}
use Rattle.release_file.specs.Section.{stored_release}
use Rattle.salvage_rules.specs.Rules.{KeptWhole, known_scope, known_tenant, limits_kept, lower_than, names_known, offsets_kept, record_rule, release_rule, typed_hold, with_entry, with_record, with_release}

-- ---- what is known
one_none : (most n : ℕ) → n < 1 → false ≡ one_to most n
unfolding one_to
one_none most n h = sym (ap (λ (b : Bool). b && leb n most) (lt-leb 1 n h))

one_some : (most n : ℕ) → 1 ≤ n → leb n most ≡ one_to most n
unfolding one_to
one_some most n h = sym (ap (λ (b : Bool). b && leb n most) (le-leb 1 n h))

one_facts : (most n : ℕ) → one_to most n ≡ true → (1 ≤ n) × (n ≤ most)
unfolding one_to
one_facts most n e = let p = and_parts (leb 1 n) (leb n most) e in (leb-true 1 n p.0, leb-true n most p.1)

module _ (s : State) (t : ℕ) where
  pub tenant_none : t < 1 → false ≡ known_tenant s t
  unfolding known_tenant
  tenant_none h = one_none (tenants_in s) t h

  pub tenant_some : (w n : ℕ) → 1 ≤ t → w ≡ t → n ≡ min s.tenant_count 8 → leb w n ≡ known_tenant s t
  unfolding known_tenant
  tenant_some w n h ew en = ap₂ leb ew en ∙ one_some (tenants_in s) t h

  pub tenant_facts : known_tenant s t ≡ true → (1 ≤ t) × (t ≤ 8)
  unfolding known_tenant
  tenant_facts e = let p = one_facts (tenants_in s) t e in let f = p.0 in let g = p.1 in (f, omega arith)

  pub scope_none : t < 1 → false ≡ known_scope s t
  unfolding known_scope
  scope_none h = one_none s.scope_count t h

  pub scope_some : 1 ≤ t → leb t s.scope_count ≡ known_scope s t
  unfolding known_scope
  scope_some h = one_some s.scope_count t h

  -- a tenant that the code found
  module _ {q : Bool} (e : q ≡ known_tenant s t) (y : q ≡ true) where
    pub tenant_from_law : 1 ≤ t
    tenant_from_law = (tenant_facts (sym e ∙ y)).0

    pub tenant_to : t ≤ 8
    tenant_to = (tenant_facts (sym e ∙ y)).1

    pub tenant_place : (p : ℕ) → p ≡ t - 1 → p < 8
    tenant_place p ep = let f = tenant_facts (sym e ∙ y) in let a = f.0 in let b = f.1 in omega arith

pub id_short : (n : ℕ) → n < 2 → false ≡ id_length_b n
id_short n h = sym (ap (λ (b : Bool). b && leb n 32) (lt-leb 2 n h))

pub id_long : (n : ℕ) → 2 ≤ n → leb n 32 ≡ id_length_b n
id_long n h = sym (ap (λ (b : Bool). b && leb n 32) (le-leb 2 n h))

-- ---- rule 1
module _ {s : List ℕ} {at : ℕ} (v : Inside after_lease s at) where
  pub id_octets : length (file_lease_at s at).id ≡ get_or s (at + 2) 0
  unfolding file_lease_at
  id_octets = part_length s (at + 3) (get_or s (at + 2) 0) (let r = v.room in omega arith)

  module _ (st : State) (b : LeaseTable) {q : Bool} (eq : q ≡ id_length_b (get_or s (at + 2) 0)) where
    limits_open : (y : Bool) → q ≡ y → (y && pick (known_tenant st (get_or s at 0)) (ltb (length (in_use (tenant_at b (get_or s at 0 - 1)))) 16) true) ≡ limits_kept st b (file_lease_at s at)
    unfolding limits_kept file_lease_at
    limits_open y e =
        ap (λ (z : Bool). z && pick (known_tenant st (get_or s at 0)) (ltb (length (in_use (tenant_at b (get_or s at 0 - 1)))) 16) true)
        (sym e ∙ eq ∙ ap id_length_b (sym id_octets))

    pub limits_bad : q ≡ false → false ≡ limits_kept st b (file_lease_at s at)
    limits_bad e = limits_open false e

    module _ {k : Bool} (ek : k ≡ known_tenant st (get_or s at 0)) where
      pub limits_unknown : q ≡ true → k ≡ false → true ≡ limits_kept st b (file_lease_at s at)
      unfolding pick
      limits_unknown e f = sym (ap (λ (z : Bool). pick z (ltb (length (in_use (tenant_at b (get_or s at 0 - 1)))) 16) true) (sym ek ∙ f)) ∙ limits_open true e

      pub limits_known : (d : TenantLeases) (p n : ℕ) → q ≡ true → k ≡ true → length b.tenants ≡ 8 → p ≡ get_or s at 0 - 1 → n ≡ length (in_use (get_or b.tenants p d)) → ltb n 16 ≡ limits_kept st b (file_lease_at s at)
      unfolding pick
      limits_known d p n e f l ep en =
          let small : p < 8 = tenant_place st (get_or s at 0) ek f p ep in
          ap (λ (z : ℕ). ltb z 16) (en ∙ ap (λ (t : TenantLeases). length (in_use t)) (at_in b.tenants 8 p d _ l small ∙ ap (tenant_at b) ep))
          ∙ sym (ap (λ (z : Bool). pick z (ltb (length (in_use (tenant_at b (get_or s at 0 - 1)))) 16) true) (sym ek ∙ f)) ∙ limits_open true e

-- ---- rule 2
pub record BelowInv (s : List ℕ) (at k bound i : ℕ) : Type 0 where
  pub fits : at + k ≤ length s
  pub within : i ≤ k
  pub whole : lower_than bound (drop i (take k (drop at s))) ≡ lower_than bound (take k (drop at s))

pub below_start : {s : List ℕ} {at k bound : ℕ} → at + k ≤ length s → BelowInv s at k bound 0
below_start h = record { fits = h; within = omega arith; whole = refl }

module _ {s : List ℕ} {at k bound i : ℕ} (v : BelowInv s at k bound i) where
  open_below : i < k → lower_than bound (take k (drop at s)) ≡ pick (ltb (get_or s (at + i) 0) bound) (lower_than bound (drop (i + 1) (take k (drop at s)))) false
  unfolding lower_than all_by
  open_below h = sym v.whole ∙ ap (lower_than bound) (part_next s at k i v.fits h)

  pub below_not : i < k → bound ≤ get_or s (at + i) 0 → false ≡ lower_than bound (take k (drop at s))
  unfolding pick
  below_not h g = sym (open_below h ∙ ap (λ (b : Bool). pick b (lower_than bound (drop (i + 1) (take k (drop at s)))) false) (le-ltb _ _ g))

  pub below_next : i < k → get_or s (at + i) 0 < bound → BelowInv s at k bound (i + 1)
  unfolding pick
  below_next h g = record {
    fits = v.fits;
    within = omega arith;
    whole = sym (open_below h ∙ ap (λ (b : Bool). pick b (lower_than bound (drop (i + 1) (take k (drop at s)))) false) (lt-ltb _ _ g));
  }

  pub below_end : k ≤ i → true ≡ lower_than bound (take k (drop at s))
  unfolding lower_than all_by
  below_end h = sym (sym v.whole ∙ ap (lower_than bound) (drop_of_length-le (take k (drop at s)) {i = i} (let e = part_length s at k v.fits in omega arith)))

pub ruleset belows = (below_start, below_not, below_next, below_end)

module _ {s : List ℕ} {at n k : ℕ} (v : Inside after_lease s at) (en : n ≡ get_or s (at + 2) 0) (ek : k ≡ get_or s (at + (n + 16)) 0) where
  many : k ≡ get_or s (at + (get_or s (at + 2) 0 + 16)) 0
  many = ek ∙ ap (λ (z : ℕ). get_or s (at + (z + 16)) 0) en

  pub offsets_room : at + (n + 17) + k ≤ length s
  offsets_room = let e = many in omega (arith, v.room)

  offsets_are : take k (drop (at + (n + 17)) s) ≡ (file_lease_at s at).offsets
  unfolding file_lease_at
  offsets_are = ap₂ (λ (x y : ℕ). take x (drop (at + (y + 17)) s)) many en

  offsets_many : length (file_lease_at s at).offsets ≡ k
  offsets_many = sym (ap length offsets_are) ∙ part_length s (at + (n + 17)) k offsets_room

  module _ (st : State) where
    offsets_open : (y : Bool) → leb k 64 ≡ y
        → (y && pick (known_scope st (get_or s (at + 1) 0)) (all_by (λ a. ltb a (scope_at st (get_or s (at + 1) 0 - 1)).size) (file_lease_at s at).offsets) true) ≡ offsets_kept st (file_lease_at s at)
    unfolding offsets_kept file_lease_at
    offsets_open y e =
        ap (λ (z : Bool). z && pick (known_scope st (get_or s (at + 1) 0)) (all_by (λ a. ltb a (scope_at st (get_or s (at + 1) 0 - 1)).size) (file_lease_at s at).offsets) true)
        (sym e ∙ ap (λ (z : ℕ). leb z 64) (sym offsets_many))

    pub offsets_over : 64 < k → false ≡ offsets_kept st (file_lease_at s at)
    offsets_over h = offsets_open false (lt-leb k 64 h)

    module _ {q : Bool} (eq : q ≡ known_scope st (get_or s (at + 1) 0)) where
      pub offsets_unknown : k ≤ 64 → q ≡ false → true ≡ offsets_kept st (file_lease_at s at)
      unfolding pick
      offsets_unknown h f =
          sym (ap (λ (z : Bool). pick z (all_by (λ a. ltb a (scope_at st (get_or s (at + 1) 0 - 1)).size) (file_lease_at s at).offsets) true) (sym eq ∙ f)) ∙ offsets_open true (le-leb k 64 h)

      pub offsets_known : (p : ℕ) (c : Scope) (r : Bool) → k ≤ 64 → q ≡ true → p ≡ get_or s (at + 1) 0 - 1 → c ≡ scope_at st p → r ≡ lower_than c.size (take k (drop (at + (n + 17)) s))
          → r ≡ offsets_kept st (file_lease_at s at)
      unfolding pick lower_than
      offsets_known p c r h f ep ec er =
          er
          ∙ ap₂ (λ (z : ℕ) (l : List ℕ). all_by (λ a. ltb a z) l) (ap (λ (z : Scope). z.size) (ec ∙ ap (scope_at st) ep)) offsets_are
          ∙ sym (ap (λ (z : Bool). pick z (all_by (λ a. ltb a (scope_at st (get_or s (at + 1) 0 - 1)).size) (file_lease_at s at).offsets) true) (sym eq ∙ f)) ∙ offsets_open true (le-leb k 64 h)

-- ---- rule 7, as far as it goes by the octets
pub may_hold : (kind : ℕ) (holds : Bool) → holds ≡ true → true ≡ pick holds true (not (eqb kind 1))
unfolding pick
may_hold kind holds e = sym (ap (λ (z : Bool). pick z true (not (eqb kind 1))) e)

pub may_lease : (kind : ℕ) (holds : Bool) (r : Bool) → holds ≡ false → r ≡ not (eqb kind 1) → r ≡ pick holds true (not (eqb kind 1))
unfolding pick
may_lease kind holds r e p = p ∙ sym (ap (λ (z : Bool). pick z true (not (eqb kind 1))) e)

abbrev pub typed_in : Bool → List ℕ → ℕ → Bool
typed_in holds s at = pick holds true (not (eqb (file_lease_at s at).kind 1))

module _ (holds : Bool) (s : List ℕ) (at : ℕ) (st : State) {q : Bool} (eq : q ≡ known_tenant st (get_or s at 0)) where
  pub named_none : q ≡ false → false ≡ names_known st (file_lease_at s at) (typed_in holds s at)
  unfolding names_known file_lease_at
  named_none e = sym (ap (λ (z : Bool). z && (known_scope st (get_or s (at + 1) 0) && typed_in holds s at)) (sym eq ∙ e))

  module _ {p : Bool} (ep : p ≡ known_scope st (get_or s (at + 1) 0)) where
    pub named_nowhere : q ≡ true → p ≡ false → false ≡ names_known st (file_lease_at s at) (typed_in holds s at)
    unfolding names_known file_lease_at
    named_nowhere e f = sym (ap₂ (λ (y z : Bool). y && (z && typed_in holds s at)) (sym eq ∙ e) (sym ep ∙ f))

    pub named_there : (k : ℕ) (r : Bool) → q ≡ true → p ≡ true → k ≡ (file_lease_at s at).kind → r ≡ pick holds true (not (eqb k 1)) → r ≡ names_known st (file_lease_at s at) (typed_in holds s at)
    unfolding names_known file_lease_at
    named_there k r e f ek er =
        er ∙ ap (λ (z : ℕ). pick holds true (not (eqb z 1))) ek
        ∙ sym (ap₂ (λ (y z : Bool). y && (z && typed_in holds s at)) (sym eq ∙ e) (sym ep ∙ f))

pub kind_octet : (s : List ℕ) (at n : ℕ) → n ≡ get_or s (at + 2) 0 → get_or s (at + (n + 3)) 0 ≡ (file_lease_at s at).kind
unfolding file_lease_at
kind_octet s at n e = ap (λ (z : ℕ). get_or s (at + (z + 3)) 0) e

pub named_facts : (holds : Bool) (s : List ℕ) (at : ℕ) (st : State) {q : Bool} → q ≡ names_known st (file_lease_at s at) (typed_in holds s at) → q ≡ true → (1 ≤ get_or s at 0) × (get_or s at 0 ≤ 8)
unfolding names_known file_lease_at
named_facts holds s at st e y = tenant_facts st (get_or s at 0) (and_parts _ _ (sym e ∙ y)).0

pub limits_facts : {s : List ℕ} {at : ℕ} → Inside after_lease s at → (st : State) (b : LeaseTable) {q : Bool} → q ≡ limits_kept st b (file_lease_at s at) → q ≡ true → get_or s (at + 2) 0 ≤ 32
unfolding limits_kept
limits_facts {s} {at} v st b e y =
    let p = (and_parts (id_length_b (length (file_lease_at s at).id)) _ (sym e ∙ y)).0 in
    let h = leb-true (length (file_lease_at s at).id) 32 (and_parts (leb 2 (length (file_lease_at s at).id)) _ p).1 in
    let i = id_octets v in
    omega arith

pub storable_here : (holds : Bool) (s : List ℕ) (at : ℕ) (st : State) (b : LeaseTable) {p q : Bool} → Inside (after_entry holds) s at → p ≡ limits_kept st b (file_lease_at s at) → p ≡ true
    → q ≡ names_known st (file_lease_at s at) (typed_in holds s at) → q ≡ true → StorableAt holds s at
storable_here holds s at st b v ep yp eq yq =
    let f = named_facts holds s at st eq yq in
    record { from = f.0; to = f.1; ids = limits_facts (lease_inside holds s at v) st b ep yp; room = v.room }

-- ---- the records with one more
pub with_record_law : (b : LeaseTable) (t h : ℕ) (l : Lease) (d more : TenantLeases) → length b.tenants ≡ 8 → 1 ≤ t → t ≤ 8 → h ≡ t - 1 → more ≡ inserted_in l (get_or b.tenants h d)
    → ◌≡◌ {A = LeaseTable} (record { tenants = set b.tenants h more }) (with_record b t l)
unfolding with_record
with_record_law b t h l d more e from to eh em =
    ap₂ {C = LeaseTable} (λ (k : ℕ) (m : TenantLeases). record { tenants = set b.tenants k m }) eh
    (em ∙ ap (inserted_in l) (at_in b.tenants 8 h d _ e (omega arith) ∙ ap (tenant_at b) eh))

pub typed_as : (l : Lease) (holds : Bool) (r : Lease) → holds ≡ true → r ≡ typed_hold l → r ≡ pick holds (typed_hold l) l
unfolding pick
typed_as l holds r e p = p ∙ sym (ap (λ (z : Bool). pick z (typed_hold l) l) e)

pub typed_left : (l : Lease) (holds : Bool) → holds ≡ false → l ≡ pick holds (typed_hold l) l
unfolding pick
typed_left l holds e = sym (ap (λ (z : Bool). pick z (typed_hold l) l) e)

pub judged_is : (holds : Bool) {l r : Lease} (m : Lease) → l ≡ m → r ≡ pick holds (typed_hold l) l → r ≡ pick holds (typed_hold m) m
judged_is holds m e p = p ∙ ap (λ (x : Lease). pick holds (typed_hold x) x) e

-- ---- an entry
abbrev pub judged_entry : Bool → List ℕ → ℕ → Lease
judged_entry holds s at = pick holds (typed_hold (stored_entry holds (entry_at holds s at))) (stored_entry holds (entry_at holds s at))

-- what breaks no rule can be kept
pub record_zero : (st : State) (b : LeaseTable) (x : FileLease) (typed : Bool) (l : Lease) → record_rule st b x typed l ≡ 0
    → (limits_kept st b x ≡ true) × (offsets_kept st x ≡ true) × (names_known st x typed ≡ true) × (first_rule (rules_of st (with_record b x.tenant l)) ≡ 0)
unfolding record_rule
record_zero st b x typed l e =
    let p = pick_zero (limits_kept st b x) _ 1 (omega arith) e in
    let q = pick_zero (offsets_kept st x) _ 2 (omega arith) p.1 in
    let r = pick_zero (names_known st x typed) _ 7 (omega arith) q.1 in
    (p.0, q.0, r.0, r.1)

pub entry_fits : {holds : Bool} {s : List ℕ} {at : ℕ} (r : ℕ) → KeptWhole (StorableAt holds s at) r → r ≡ 0 → StorableAt holds s at
entry_fits r k e = k.fits e

entry_put : (holds : Bool) (s : List ℕ) (at : ℕ) (b : LeaseTable) → with_record b (get_or s at 0) (stored_entry holds (entry_at holds s at)) ≡ with_entry holds b (entry_at holds s at)
unfolding with_entry stored_entry entry_at file_lease_at
entry_put true s at b = refl
entry_put false s at b = refl

pub with_entry_is : (holds : Bool) (s : List ℕ) (at : ℕ) (b : LeaseTable) (l : Lease) {r : LeaseTable} → l ≡ stored_entry holds (entry_at holds s at) → r ≡ with_record b (get_or s at 0) l → r ≡ with_entry holds b (entry_at holds s at)
with_entry_is holds s at b l el er = er ∙ ap (with_record b (get_or s at 0)) el ∙ entry_put holds s at b

-- ---- a release
pub with_release_is : (m : Memory) (s : List ℕ) (at h : ℕ) (d more : TenantReleases) {x : Release} → length m.releases ≡ 8 → 1 ≤ get_or s at 0 → get_or s at 0 ≤ 8 → h ≡ get_or s at 0 - 1 → x ≡ stored_release (file_release_at s at)
    → more ≡ pushed_release (get_or m.releases h d) x → ◌≡◌ {A = Memory} (record { releases = set m.releases h more; board = m.board }) (with_release m (file_release_at s at))
unfolding with_release file_release_at
with_release_is m s at h d more e from to eh ex em =
    ap₂ {C = Memory} (λ (k : ℕ) (q : TenantReleases). record { releases = set m.releases k q; board = m.board }) eh
    (em ∙ ap₂ pushed_release (at_in m.releases 8 h d _ e (omega arith) ∙ ap (releases_at m) eh) ex)

pub full_is : (m : Memory) (t h : ℕ) (d : TenantReleases) → length m.releases ≡ 8 → h ≡ t - 1 → h < 8 → leb 4 (get_or m.releases h d).count ≡ leb 4 (releases_at m (t - 1)).count
full_is m t h d e eh small = ap (λ (q : TenantReleases). leb 4 q.count) (at_in m.releases 8 h d _ e small ∙ ap (releases_at m) eh)

pub release_fits : {s : List ℕ} {at : ℕ} (r : ℕ) → KeptWhole (KeepableAt s at) r → r ≡ 0 → KeepableAt s at
release_fits r k e = k.fits e

module _ {s : List ℕ} {at : ℕ} (v : Inside after_release s at) (st : State) (b : LeaseTable) (m : Memory) where
  release_id_law : length (file_release_at s at).id ≡ get_or s (at + 1) 0
  unfolding file_release_at
  release_id_law = part_length s (at + 2) (get_or s (at + 1) 0) (let r = v.room in omega arith)

  abbrev Judged : ℕ
  Judged = first_release (release_rules_of st b (with_release m (file_release_at s at)))

  module _ {p : Bool} (ep : p ≡ known_tenant st (get_or s at 0)) where
    known_open : (y : Bool) → p ≡ y → pick y (pick (ltb (releases_at m (get_or s at 0 - 1)).count 4) (pick (id_length_b (length (file_release_at s at).id)) Judged 16) 15) 14 ≡ release_rule st b m (file_release_at s at)
    unfolding release_rule file_release_at
    known_open y e = ap (λ (z : Bool). pick z (pick (ltb (releases_at m (get_or s at 0 - 1)).count 4) (pick (id_length_b (length (file_release_at s at).id)) Judged 16) 15) 14) (sym e ∙ ep)

    pub release_unknown : p ≡ false → 14 ≡ release_rule st b m (file_release_at s at)
    unfolding pick
    release_unknown e = known_open false e

    module _ (y : p ≡ true) {f : Bool} (ef : f ≡ leb 4 (releases_at m (get_or s at 0 - 1)).count) where
      few_open : (z : Bool) → ltb (releases_at m (get_or s at 0 - 1)).count 4 ≡ z → pick z (pick (id_length_b (length (file_release_at s at).id)) Judged 16) 15 ≡ release_rule st b m (file_release_at s at)
      unfolding pick
      few_open z e = ap (λ (z : Bool). pick z (pick (id_length_b (length (file_release_at s at).id)) Judged 16) 15) (sym e) ∙ known_open true y

      pub release_fifth : f ≡ true → 15 ≡ release_rule st b m (file_release_at s at)
      unfolding pick
      release_fifth g = few_open false (le-ltb (releases_at m (get_or s at 0 - 1)).count 4 (leb-true 4 (releases_at m (get_or s at 0 - 1)).count (sym ef ∙ g)))

      module _ (few : f ≡ false) {q : Bool} (eq : q ≡ id_length_b (get_or s (at + 1) 0)) where
        id_open : (z : Bool) → q ≡ z → pick z Judged 16 ≡ release_rule st b m (file_release_at s at)
        unfolding pick
        id_open z e = ap (λ (z : Bool). pick z Judged 16) (sym e ∙ eq ∙ ap id_length_b (sym release_id_law)) ∙ few_open true (lt-ltb (releases_at m (get_or s at 0 - 1)).count 4 (leb-false 4 (releases_at m (get_or s at 0 - 1)).count (sym ef ∙ few)))

        pub release_misnamed : q ≡ false → 16 ≡ release_rule st b m (file_release_at s at)
        unfolding pick
        release_misnamed e = id_open false e

        pub release_judged : (n : Memory) (all : ReleaseRules) (r : ℕ) → q ≡ true → n ≡ with_release m (file_release_at s at) → all ≡ release_rules_of st b n → r ≡ first_release all → r ≡ release_rule st b m (file_release_at s at)
        unfolding pick
        release_judged n all r e en ea er = er ∙ ap first_release (ea ∙ ap (release_rules_of st b) en) ∙ id_open true e

pub keepable_here : {s : List ℕ} {at : ℕ} (st : State) {p q : Bool} → Inside after_release s at → p ≡ known_tenant st (get_or s at 0) → p ≡ true → q ≡ id_length_b (get_or s (at + 1) 0) → q ≡ true → KeepableAt s at
keepable_here {s} {at} st v ep yp eq yq =
    let f = tenant_facts st (get_or s at 0) (sym ep ∙ yp) in
    record { from = f.0; to = f.1; ids = leb-true _ 32 (and_parts (leb 2 (get_or s (at + 1) 0)) _ (sym eq ∙ yq)).1; room = v.room }

pub release_kept : {s : List ℕ} {at : ℕ} (st : State) (b : LeaseTable) (m : Memory) {r : ℕ} → Inside after_release s at → r ≡ release_rule st b m (file_release_at s at) → KeptWhole (KeepableAt s at) r
unfolding release_rule file_release_at
release_kept {s} {at} st b m {r} v e = record {
  fits = λ z.
      let p = pick_zero (known_tenant st (get_or s at 0)) _ 14 (omega arith) (sym e ∙ z) in
      let q = pick_zero (ltb (releases_at m (get_or s at 0 - 1)).count 4) _ 15 (omega arith) p.1 in
      let i = pick_zero (id_length_b (length (take (get_or s (at + 1) 0) (drop (at + 2) s)))) _ 16 (omega arith) q.1 in
      let l : length (take (get_or s (at + 1) 0) (drop (at + 2) s)) ≡ get_or s (at + 1) 0 = part_length s (at + 2) (get_or s (at + 1) 0) (let r = v.room in omega arith) in
      keepable_here st v (sym p.0) refl (ap id_length_b l) i.0;
}
