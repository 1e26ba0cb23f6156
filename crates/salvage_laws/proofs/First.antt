-- Laws: the rule that is named is the first that the book breaks with the entry and those kept before it.
use mathlib.Core.Bool.{Bool, false, not, true, ◌||◌}
use mathlib.Core.List.{List, [], ◌++◌, ◌∷◌, map, map-append}
use mathlib.Core.Path.{◌∙◌, ◌≡◌, ap, ap₂, refl, subst, sym}
use Prim.Native.Nat.{◌+◌, ◌-◌, ◌<◌, ◌≤◌, ℕ}
use native.Mathlib.Omega.{arith}
use lib.Dec.{eqb, leb, ltb}
use lib.ListN.{length, length-append, length-map}
use borrow.Author.Tests.{eqb-false, eqb-true, le-leb, le-ltb, leb-true, lt-ltb, ltb-false, ne_eqb, not-true}
use Rattle.address_set.specs.AddressSet.{offsets, rises}
use Rattle.lists.specs.All.{All, all_by}
use Rattle.lists.specs.Pick.{pick}
use Rattle.lists.specs.laws.All.{all_any, each_to, to_each}
use Rattle.lists.specs.laws.Both.{and_both, and_parts}
use Rattle.lists.specs.laws.Pick.{both, neither, pick_not_lt}
use Rattle.format.specs.Tenants.{own}
use Rattle.state.specs.Book.{in_use, laid_out, laid_releases, releases_at, remembered, table_of, tenant_at}
use Rattle.state.specs.declared.Lease.{Lease}
use Rattle.state.specs.declared.LeaseTable.{LeaseTable}
use Rattle.state.specs.declared.Memory.{Memory}
use Rattle.state.specs.declared.State.{State}
use Rattle.state.specs.declared.TenantReleases.{TenantReleases}
use Rattle.state.specs.laws.Layout.{releases_back}
use Rattle.soundness.specs.Sound.{first_rule, id_length_b, one_to, rules_of, tenants_in}
use Rattle.releases.specs.Rules.{few_b, first_release, tenant_b, length_b, release_rules_of, rules_to}
use Rattle.release_file.specs.Section.{FileRelease, keepable_b, release_tenant, stored_memory, stored_release}
use Rattle.lease_file.specs.Records.{hold_fit_b, lease_fit_b, merged_from, storable_b, stored, stored_hold}
use Rattle.lease_file.specs.Section.{FileHold, FileLease, hold_format, lease_format}
use Rattle.lease_file.specs.laws.Records.{Storable}
use Rattle.state_file.specs.File.{File, file_format}
use Rattle.state_file.specs.Records.{stored_state}
use Rattle.state_file.specs.StateFile.{zero_memory, zero_table}
use Rattle.state_file.specs.laws.File.{file_reads}
use Rattle.salvage_rules.specs.Rules.{hold_rule, known_tenant, lease_rule, limits_kept, names_known, offsets_kept, record_rule, release_rule, type_after, typed_hold, with_hold, with_lease, with_record, with_release}
use Rattle.salvage_rules.specs.laws.Rules.{tenant_facts}
use Rattle.salvage_walk.specs.Walk.{kept_after, lease_rules, leases_kept, records_kept, settings_sound}
use Rattle.salvage_laws.specs.Statement.{FirstBroken, FirstOfHold, FirstOfLease, FirstOfRelease, kept_ones, unheld_rule, untyped_rule}
use Rattle.salvage_laws.proofs.Broken.{and_fails, broken_at, full_known, kept_on, no, past_last, record_first, to_fails}
use Rattle.salvage_laws.proofs.Chosen.{walk_holds}
use Rattle.salvage_laws.proofs.Memory.{Remembers, memory_more, nothing_kept, release_kept_on}
use Rattle.salvage_laws.proofs.Records.{Holds, hold_kept, hold_kind, lease_kept, leases_hold, names_parts, none_kept, settings_alone, sizes_of, tests_storable, typed_same}
use Rattle.salvage_laws.proofs.Same.{hold_id, hold_offsets, hold_scope, known_from, laid_count, lease_offsets, middle_fact, middle_test, rules_five, stored_id, stored_scope_law, tenant_row_law}
use Rattle.salvage_laws.proofs.Table.{merged_long, own_less, own_more}

-- ---- leases and holds
storable_as : (x : FileLease) → rises x.offsets ≡ true → storable_b x ≡ true → Storable x
unfolding storable_b
storable_as x r e =
    let a = neither (ltb x.tenant 1) _ e in
    let b = neither (ltb 8 x.tenant) _ a.1 in
    let c = neither (ltb 32 (length x.id)) _ b.1 in
    let q = ltb-false 8 x.tenant b.0 in
    record { from = ltb-false x.tenant 1 a.0; to = omega arith; short = ltb-false 32 (length x.id) c.0; rising = r; low = c.1 }

-- records that break no rule
module _ (st : State) (b : LeaseTable) (long : length b.tenants ≡ 8) (sound : first_rule (rules_of st b) ≡ 0) where
  record_held : (x : FileLease) (typed : Bool) (l : Lease) → l.id_len ≡ length x.id → l.scope ≡ x.scope → (Storable x → offsets l.addresses ≡ x.offsets) → typed ≡ true → Storable x
      → length (in_use (tenant_at b (x.tenant - 1))) < 16 → record_rule st b x typed l ≡ first_rule (rules_of st (with_record b x.tenant l))
  record_held x typed l ei es eo ty s room = record_first st b long sound x typed l ei es (eo s) ty s.from (let t = s.to in omega arith) room

  record_full : (x : FileLease) (typed : Bool) (l : Lease) → Storable x → 16 ≤ length (in_use (tenant_at b (x.tenant - 1))) → record_rule st b x typed l ≡ 1
  unfolding record_rule limits_kept pick
  record_full x typed l s h =
      let t = s.to in
      broken_at _ 1
      (and_fails (id_length_b (length x.id)) (pick (known_tenant st x.tenant) (ltb (length (in_use (tenant_at b (x.tenant - 1)))) 16) true)
      (ap₂ (λ (p q : Bool). pick p q true) (full_known st b long sound x.tenant s.from (omega arith) h) (le-ltb (length (in_use (tenant_at b (x.tenant - 1)))) 16 h)))

  -- what passes the tests of 1, 2 and 7 fits a record
  record_other : (x : FileLease) (typed : Bool) (l : Lease) → (storable_b x ≡ true → typed ≡ true → ⊥) → record_rule st b x typed l ≡ unheld_rule st b x
  unfolding record_rule unheld_rule pick
  record_other x typed l n = go (limits_kept st b x) refl (offsets_kept st x) refl (names_known st x typed) refl
    where
      go : (p : Bool) → limits_kept st b x ≡ p → (q : Bool) → offsets_kept st x ≡ q → (r : Bool) → names_known st x typed ≡ r
          → pick p (pick q (pick r (first_rule (rules_of st (with_record b x.tenant l))) 7) 2) 1 ≡ pick {A = ℕ} p (pick q 7 2) 1
      go false e q f r g = refl
      go true e false f r g = refl
      go true e true f false g = refl
      go true e true f true g = absurd (n (tests_storable st b x typed (sizes_of st b sound) e f g) (names_parts st x typed g).2)

  pub first_of_lease : (x : FileLease) → rises x.offsets ≡ true → FirstOfLease st b x
  unfolding lease_rule lease_fit_b pick
  first_of_lease x rise = record {
    held = λ e room.
        let p = neither (eqb x.kind 1) (storable_b x) e in
        record_held x (not (eqb x.kind 1)) (stored x) (stored_id x) (stored_scope_law x) (lease_offsets x) (ap not p.0) (storable_as x rise p.1) room;
    full = λ e h. record_full x (not (eqb x.kind 1)) (stored x) (storable_as x rise (neither (eqb x.kind 1) (storable_b x) e).1) h;
    other = λ e. record_other x (not (eqb x.kind 1)) (stored x) (λ s t. no (sym (ap (λ (c : Bool). pick c false (storable_b x)) (not-true (eqb x.kind 1) t) ∙ s) ∙ e));
  }

-- ---- a hold's type comes last
type_one : (kind r : ℕ) → eqb kind 1 ≡ true → type_after kind r ≡ r
unfolding type_after pick
type_one kind r e = ap (λ (c : Bool). pick (eqb r 0) (pick {A = ℕ} c 0 13) r) e ∙ go (eqb r 0) refl
  where
    go : (c : Bool) → eqb r 0 ≡ c → pick c 0 r ≡ r
    go true q = sym (eqb-true r 0 q)
    go false q = refl

type_other : (kind r : ℕ) → eqb kind 1 ≡ false → type_after kind r ≡ pick (eqb r 0) 13 r
unfolding type_after pick
type_other kind r e = ap (λ (c : Bool). pick (eqb r 0) (pick {A = ℕ} c 0 13) r) e

type_broken : (kind r : ℕ) → (r ≡ 0 → ⊥) → type_after kind r ≡ r
unfolding type_after pick
type_broken kind r h = ap (λ (c : Bool). pick c (pick {A = ℕ} (eqb kind 1) 0 13) r) (ne_eqb r 0 h)

unheld_some : (st : State) (b : LeaseTable) (x : FileLease) → unheld_rule st b x ≡ 0 → ⊥
unfolding unheld_rule pick
unheld_some st b x e = go (limits_kept st b x) (offsets_kept st x) e
  where
    go : (p q : Bool) → pick {A = ℕ} p (pick q 7 2) 1 ≡ 0 → ⊥
    go true true e = omega arith
    go true false e = omega arith
    go false q e = omega arith

module _ (st : State) (b : LeaseTable) (long : length b.tenants ≡ 8) (sound : first_rule (rules_of st b) ≡ 0) (x : FileHold) (rise : rises x.lease.offsets ≡ true) where
  hold_held : storable_b x.lease ≡ true → length (in_use (tenant_at b (x.lease.tenant - 1))) < 16 → record_rule st b x.lease true (typed_hold (stored_hold x)) ≡ untyped_rule st b x
  hold_held e room = record_held st b long sound x.lease true (typed_hold (stored_hold x)) (hold_id x) (hold_scope x) (hold_offsets x) refl (storable_as x.lease rise e) room

  pub first_of_hold : FirstOfHold st b x
  unfolding hold_rule hold_fit_b
  first_of_hold = record {
    held = λ e room.
        let p = both (eqb x.lease.kind 1) (storable_b x.lease) e in
        type_one x.lease.kind (record_rule st b x.lease true (typed_hold (stored_hold x))) p.0 ∙ hold_held p.1 room
        ∙ ap (λ (l : Lease). first_rule (rules_of st (with_record b x.lease.tenant l))) (typed_same (stored_hold x) (hold_kind x ∙ eqb-true x.lease.kind 1 p.0));
    typed = λ e k room. type_other x.lease.kind (record_rule st b x.lease true (typed_hold (stored_hold x))) k ∙ ap (λ (r : ℕ). pick (eqb r 0) 13 r) (hold_held e room);
    full = λ e h.
        ap (type_after x.lease.kind) (record_full st b long sound x.lease true (typed_hold (stored_hold x)) (storable_as x.lease rise e) h) ∙ type_broken x.lease.kind 1 (λ z. omega arith);
    other = λ e.
        ap (type_after x.lease.kind) (record_other st b long sound x.lease true (typed_hold (stored_hold x)) (λ s t. no (sym s ∙ e)))
        ∙ type_broken x.lease.kind (unheld_rule st b x.lease) (unheld_some st b x.lease);
  }

-- ---- releases
known_is : (st : State) (t : ℕ) → 1 ≤ t → t - 1 < tenants_in st → known_tenant st t ≡ true
unfolding known_tenant one_to
known_is st t from h = and_both (le-leb 1 t from) (le-leb t (tenants_in st) (omega arith))

keepable_parts : (x : FileRelease) → keepable_b x ≡ true → (1 ≤ x.tenant) × (x.tenant ≤ 8)
unfolding keepable_b
keepable_parts x e =
    let a = neither (ltb x.tenant 1) _ e in
    (ltb-false x.tenant 1 a.0, ltb-false 8 x.tenant (neither (ltb 8 x.tenant) (leb (length x.id) 32) a.1).0)

module _ (st : State) (b : LeaseTable) (rs : List FileRelease) (sound : first_release (release_rules_of st b (stored_memory rs)) ≡ 0) (x : FileRelease) where
  tenant_at_law : (h : ℕ) → h < 8 → tenant_b (tenants_in st) h (releases_at (stored_memory rs) h) ≡ true
  unfolding release_rules_of rules_to
  tenant_at_law h p = to_each (λ g. tenant_b (tenants_in st) g (releases_at (stored_memory rs) g)) 8 (rules_five (release_rules_of st b (stored_memory rs)) sound).0 h p

  few_at : (h : ℕ) → h < 8 → few_b (releases_at (stored_memory rs) h) ≡ true
  unfolding release_rules_of rules_to
  few_at h p = to_each (λ g. few_b (releases_at (stored_memory rs) g)) 8 (rules_five (release_rules_of st b (stored_memory rs)) sound).1 h p

  -- with x, of one of eight tenants that has room
  module _ (from : 1 ≤ x.tenant) (to : x.tenant ≤ 8) (room : (releases_at (stored_memory rs) (x.tenant - 1)).count < 4) where
    abbrev at : ℕ
    at = x.tenant - 1

    abbrev now : Memory
    now = stored_memory (rs ++ x ∷ [])

    small : at < 8
    small = omega arith

    place : x.tenant ≡ at + 1
    place = omega arith

    with_is : with_release (stored_memory rs) x ≡ now
    with_is = memory_more rs x at small place room

    row_now : releases_at now at ≡ laid_releases (map stored_release (own release_tenant (at + 1) rs) ++ stored_release x ∷ [])
    row_now =
        tenant_row_law (rs ++ x ∷ []) at small
        ∙ ap laid_releases (ap (map stored_release) (own_more release_tenant (at + 1) rs x place) ∙ map-append stored_release (own release_tenant (at + 1) rs) (x ∷ []))

    count_now : (releases_at now at).count ≡ (releases_at (stored_memory rs) at).count + 1
    count_now =
        let c = ap (λ (q : TenantReleases). q.count) (tenant_row_law rs at small) ∙ laid_count (own release_tenant (at + 1) rs) in
        let d = ap (λ (q : TenantReleases). q.count) (tenant_row_law (rs ++ x ∷ []) at small) ∙ laid_count (own release_tenant (at + 1) (rs ++ x ∷ [])) in
        let e = ap length (own_more release_tenant (at + 1) rs x place) ∙ length-append (own release_tenant (at + 1) rs) (x ∷ []) in
        omega arith

    row_same : (h : ℕ) → h < 8 → (h ≡ at → ⊥) → releases_at now h ≡ releases_at (stored_memory rs) h
    row_same h p n =
        tenant_row_law (rs ++ x ∷ []) h p
        ∙ ap (λ (l : List FileRelease). laid_releases (map stored_release l)) (own_less release_tenant (h + 1) rs x (λ z. n (let y : h ≡ at = omega arith in y)))
        ∙ sym (tenant_row_law rs h p)

    -- a test that each tenant's releases pass
    each_passes : (t : ℕ → TenantReleases → Bool) → t at (releases_at now at) ≡ true → ((h : ℕ) → h < 8 → t h (releases_at (stored_memory rs) h) ≡ true) → (h : ℕ) → h < 8 → t h (releases_at now h) ≡ true
    each_passes t e old h p = go (eqb h at) refl
      where
        go : (c : Bool) → eqb h at ≡ c → t h (releases_at now h) ≡ true
        go true q = ap (λ (k : ℕ). t k (releases_at now k)) (eqb-true h at q) ∙ e
        go false q = ap (t h) (row_same h p (eqb-false h at q)) ∙ old h p

    -- 14
    tenant_known : at < tenants_in st → tenant_b (tenants_in st) at (releases_at now at) ≡ true
    unfolding tenant_b
    tenant_known k = ap (λ (c : Bool). c || eqb (releases_at now at).count 0) (lt-ltb at (tenants_in st) k)

    tenant_unknown : tenants_in st ≤ at → tenant_b (tenants_in st) at (releases_at now at) ≡ false
    unfolding tenant_b
    tenant_unknown k = ap₂ (λ (c d : Bool). c || d) (le-ltb at (tenants_in st) k) (ne_eqb (releases_at now at).count 0 (λ z. let c = count_now in absurd (omega arith)))

    tenants_hold : at < tenants_in st → (release_rules_of st b now).tenants ≡ true
    unfolding release_rules_of rules_to
    tenants_hold k = each_to (λ h. tenant_b (tenants_in st) h (releases_at now h)) 8 (each_passes (tenant_b (tenants_in st)) (tenant_known k) tenant_at_law)

    tenants_broken : tenants_in st ≤ at → (release_rules_of st b now).tenants ≡ false
    unfolding release_rules_of rules_to
    tenants_broken k = to_fails (λ h. tenant_b (tenants_in st) h (releases_at now h)) 8 at small (tenant_unknown k)

    -- 15
    few_now : few_b (releases_at now at) ≡ true
    unfolding few_b
    few_now = le-leb (releases_at now at).count 4 (let c = count_now in omega arith)

    few_holds : (release_rules_of st b now).few ≡ true
    unfolding release_rules_of rules_to
    few_holds = each_to (λ h. few_b (releases_at now h)) 8 (each_passes (λ h. few_b) few_now few_at)

    -- 16
    length_is : length_b (stored_release x) ≡ id_length_b (length x.id)
    unfolding length_b stored_release
    length_is = refl

    lengths_broken : id_length_b (length x.id) ≡ false → (release_rules_of st b now).lengths ≡ false
    unfolding release_rules_of rules_to
    lengths_broken k = to_fails (λ h. all_by length_b (remembered (releases_at now h))) 8 at small (here (all_by length_b (remembered (releases_at now at))) refl)
      where
        here : (c : Bool) → all_by length_b (remembered (releases_at now at)) ≡ c → c ≡ false
        here true e =
            let r : remembered (releases_at now at) ≡ map stored_release (own release_tenant (at + 1) rs) ++ stored_release x ∷ [] = ap remembered row_now ∙ releases_back (map stored_release (own release_tenant (at + 1) rs) ++ stored_release x ∷ []) in
            no (sym (middle_test length_b (map stored_release (own release_tenant (at + 1) rs)) (stored_release x) [] (ap (all_by length_b) (sym r) ∙ e)) ∙ length_is ∙ k)
        here false e = refl

    place_below : known_tenant st x.tenant ≡ true → at < tenants_in st
    unfolding known_tenant one_to
    place_below e = let k = leb-true x.tenant (tenants_in st) (and_parts (leb 1 x.tenant) (leb x.tenant (tenants_in st)) e).1 in omega arith

    place_past : known_tenant st x.tenant ≡ false → tenants_in st ≤ at
    unfolding known_tenant
    place_past e = past_last (tenants_in st) x.tenant from e

    release_held : release_rule st b (stored_memory rs) x ≡ first_release (release_rules_of st b (with_release (stored_memory rs) x))
    unfolding release_rule first_release
    release_held = go (known_tenant st x.tenant) refl (id_length_b (length x.id)) refl ∙ sym same
      where
        same : first_release (release_rules_of st b (with_release (stored_memory rs) x)) ≡ first_release (release_rules_of st b now)
        same = ap (λ (y : Memory). first_release (release_rules_of st b y)) with_is

        few : ltb (releases_at (stored_memory rs) (x.tenant - 1)).count 4 ≡ true
        few = lt-ltb (releases_at (stored_memory rs) (x.tenant - 1)).count 4 room

        go : (p : Bool) → known_tenant st x.tenant ≡ p → (q : Bool) → id_length_b (length x.id) ≡ q → release_rule st b (stored_memory rs) x ≡ first_release (release_rules_of st b now)
        go false p q f = broken_at _ 14 p ∙ sym (broken_at _ 14 (tenants_broken (place_past p)))
        go true p false f = kept_on 14 p (kept_on 15 few (broken_at _ 16 f)) ∙ sym (kept_on 14 (tenants_hold (place_below p)) (kept_on 15 few_holds (broken_at _ 16 (lengths_broken f))))
        go true p true f = kept_on 14 p (kept_on 15 few (kept_on 16 f same))

  release_full : (1 ≤ x.tenant) → (x.tenant ≤ 8) → 4 ≤ (releases_at (stored_memory rs) (x.tenant - 1)).count → release_rule st b (stored_memory rs) x ≡ 15
  unfolding release_rule
  release_full from to h =
      kept_on 14
      (known_is st x.tenant from (known_from (tenants_in st) (x.tenant - 1) (releases_at (stored_memory rs) (x.tenant - 1)) (omega arith) (tenant_at_law (x.tenant - 1) (omega arith))))
      (broken_at _ 15 (le-ltb (releases_at (stored_memory rs) (x.tenant - 1)).count 4 h))

  release_other : (m : Memory) → keepable_b x ≡ false → release_rule st b m x ≡ pick (known_tenant st x.tenant) (pick (ltb (releases_at m (x.tenant - 1)).count 4) 16 15) 14
  unfolding release_rule keepable_b pick
  release_other m e = go (known_tenant st x.tenant) refl (ltb (releases_at m (x.tenant - 1)).count 4) (id_length_b (length x.id)) refl
    where
      go : (p : Bool) → known_tenant st x.tenant ≡ p → (q : Bool) (r : Bool) → id_length_b (length x.id) ≡ r
          → pick p (pick q (pick r (first_release (release_rules_of st b (with_release m x))) 16) 15) 14 ≡ pick {A = ℕ} p (pick q 16 15) 14
      go false p q r f = refl
      go true p false r f = refl
      go true p true false f = refl
      go true p true true f =
          let t = tenant_facts st x.tenant p in
          no
          (pick_not_lt false _ true x.tenant 1 t.0 (pick_not_lt false _ true 8 x.tenant t.1 (sym (and_parts (leb 2 (length x.id)) (leb (length x.id) 32) f).1))
          ∙ e)

  first_of_stored : FirstOfRelease st b (stored_memory rs) x
  first_of_stored = record {
    held = λ e room. let p = keepable_parts x e in release_held p.0 p.1 room;
    full = λ e h. let p = keepable_parts x e in release_full p.0 p.1 h;
    other = λ e. release_other (stored_memory rs) e;
  }

first_of_release : (st : State) (b : LeaseTable) (rs : List FileRelease) (m : Memory) (x : FileRelease) → Remembers st b rs m → FirstOfRelease st b m x
first_of_release st b rs m x v =
    subst (λ (y : Memory). FirstOfRelease st b y x) (sym v.memory) (first_of_stored st b rs (ap (λ (y : Memory). first_release (release_rules_of st b y)) (sym v.memory) ∙ v.rules) x)

-- ---- in a file
table_long : (st : State) (ks : List FileLease) (hs : List FileHold) (b : LeaseTable) → Holds st ks hs b → length b.tenants ≡ 8
unfolding table_of
table_long st ks hs b v = ap (λ (y : LeaseTable). length y.tenants) v.table ∙ length-map (merged_from 1 8 ks hs) laid_out ∙ merged_long 8 1 ks hs

module _ (f : File) (ok : file_format.ok f) (e : settings_sound f ≡ true) where
  abbrev st : State
  st = stored_state f

  first_lease : (before : List FileLease) (x : FileLease) (after : List FileLease) → f.leases ≡ before ++ x ∷ after → FirstOfLease st (kept_after (lease_rule st) with_lease zero_table before) x
  first_lease before x after q =
      let v =
      walk_holds (lease_rule st) with_lease (λ b ks. Holds st ks [] b) (λ _. Unit {0}) (λ b ks y k p z. lease_kept st ks [] b y k z)
      zero_table [] before (none_kept st (settings_alone f e)) (all_any (λ (_ : FileLease). Unit {0}) (λ y. tt) before) in
      let o = middle_fact lease_format.ok before x after (subst (All lease_format.ok) q ok.1.1.1.0.0.1) in
      first_of_lease st (kept_after (lease_rule st) with_lease zero_table before) (table_long st _ [] _ v) v.rules x o.1.1.1.1.1.1.1.1

  first_hold : (before : List FileHold) (x : FileHold) (after : List FileHold) → f.holds ≡ before ++ x ∷ after → FirstOfHold st (kept_after (hold_rule st) with_hold (leases_kept f) before) x
  first_hold before x after q =
      let v =
      walk_holds (hold_rule st) with_hold (λ b hs. Holds st (kept_ones (lease_rules f) f.leases) hs b) (λ _. Unit {0}) (λ b hs y k p z. hold_kept st (kept_ones (lease_rules f) f.leases) hs b y k z)
      (leases_kept f) [] before (leases_hold f e) (all_any (λ (_ : FileHold). Unit {0}) (λ y. tt) before) in
      let o = middle_fact hold_format.ok before x after (subst (All hold_format.ok) q ok.1.1.1.1.1.1.0.1) in
      first_of_hold st (kept_after (hold_rule st) with_hold (leases_kept f) before) (table_long st (kept_ones (lease_rules f) f.leases) _ _ v) v.rules x o.0.1.1.1.1.1.1.1.1

  first_release_law : (before : List FileRelease) (x : FileRelease) (after : List FileRelease) → f.releases ≡ before ++ x ∷ after
      → FirstOfRelease st (records_kept f) (kept_after (release_rule st (records_kept f)) with_release zero_memory before) x
  first_release_law before x after q =
      first_of_release st (records_kept f) _ (kept_after (release_rule st (records_kept f)) with_release zero_memory before) x
      (walk_holds (release_rule st (records_kept f)) with_release (λ m rs. Remembers st (records_kept f) rs m) (λ _. Unit {0}) (λ m rs y k p z. release_kept_on st (records_kept f) rs m y k z)
      zero_memory [] before (nothing_kept st (records_kept f)) (all_any (λ (_ : FileRelease). Unit {0}) (λ y. tt) before))

pub first_broken_law : FirstBroken
unfolding FirstBroken
first_broken_law s f o e c = let ok = (file_reads s f o e).0 in (first_lease f ok c, first_hold f ok c, first_release_law f ok c)
