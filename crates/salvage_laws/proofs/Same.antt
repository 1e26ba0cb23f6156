-- Laws: "a sound one comes back unchanged with count 0".
use mathlib.Core.Bool.{Bool, false, not, true, ◌&&◌, ◌||◌}
use mathlib.Core.List.{List, [], ◌++◌, ◌∷◌, append_assoc, append-nil, map, map-append}
use mathlib.Core.Path.{◌∙◌, ◌≡◌, ap, ap₂, refl, subst, sym}
use Prim.Native.Nat.{◌+◌, ◌-◌, ◌<◌, ◌≤◌, ℕ}
use native.Mathlib.Omega.{arith}
use lib.Dec.{eqb, leb, ltb}
use lib.ListN.{length, length-append, length-map}
use borrow.Author.Tests.{eq-eqb, eqb-true, le-leb, le-ltb, leb-true, lt-ltb, ltb-false, ltb-true}
use Rattle.address_set.specs.AddressSet.{offsets}
use Rattle.lists.specs.All.{All, all_by, pairs_by}
use Rattle.lists.specs.Arranged.{arranged}
use Rattle.lists.specs.Filter.{filter_by}
use Rattle.lists.specs.Pick.{pick}
use Rattle.lists.specs.laws.All.{all_cons, all_head, each_to, pairs_cons, pairs_head, to_each}
use Rattle.lists.specs.laws.Both.{and_both, and_parts}
use Rattle.lists.specs.laws.Filter.{filter_append}
use Rattle.lists.specs.laws.Pick.{both, neither, pick_zero}
use Rattle.format.specs.Format.{Got, bad, got}
use Rattle.format.specs.Tenants.{own}
use Rattle.format.specs.laws.Tenants.{apart_at}
use Rattle.state.specs.Book.{laid_releases, releases_at, remembered, table_of}
use Rattle.state.specs.declared.LeaseTable.{LeaseTable}
use Rattle.state.specs.declared.Memory.{Memory}
use Rattle.state.specs.declared.Release.{Release}
use Rattle.state.specs.declared.State.{State}
use Rattle.state.specs.declared.TenantReleases.{TenantReleases}
use Rattle.state.specs.laws.Layout.{releases_back, table_back}
use Rattle.soundness.specs.Sound.{id_length_b, one_to, sound_b, tenants_in}
use Rattle.soundness.specs.laws.Book.{Sound}
use Rattle.soundness.proofs.Lists.{sound_lists}
use Rattle.releases.specs.Rules.{broken_memory, broken_release, differs, few_b, first_release, tenant_b, length_b, memory_b, not_leased, once_b, own_leases, past_b, release_rules_of, rules_to}
use Rattle.releases.specs.declared.ReleaseRules.{ReleaseRules}
use Rattle.release_file.specs.Section.{FileRelease, keepable_b, release_tenant, releases_fit_b, stored_memory, stored_release}
use Rattle.lease_file.specs.Records.{entry_fit_b, filed_entry, filed_lease, hold_fit_b, lease_fit_b, merged_from, records_fit_b, storable_b, stored, stored_entry, stored_hold}
use Rattle.lease_file.specs.Section.{FileHold, FileLease, entry_format, hold_format, lease_format, lease_in}
use Rattle.lease_file.specs.laws.Records.{Storable, entry_again, entry_storable}
use Rattle.state_file.specs.File.{File, file_format, file_of}
use Rattle.state_file.specs.Records.{fits_b, settings_fit_b, stored_state, stored_table}
use Rattle.std.specs.Prelude.{Err}
use Rattle.state_file.specs.declared.Refusal.TheVariants.{UnsoundFile}
use Rattle.state_file.specs.StateFile.{accepted, code_of, judged, loaded, loaded_got, read_file, refusal_number, with_board, zero_memory, zero_table}
use Rattle.state_file.specs.laws.File.{file_reads}
use Rattle.salvage_rules.specs.Rules.{hold_rule, known_tenant, lease_rule, record_rule, release_rule, type_after, typed_hold, with_hold, with_lease, with_release}
use Rattle.salvage_list.specs.List.{Dropped, dropped_from, dropped_list, dropped_octets}
use Rattle.salvage_walk.specs.Walk.{hold_rules, kept_with, lease_rules, leases_kept, records_kept, release_rules, rules_in, settings_sound}
use Rattle.salvage_walk.specs.laws.Walk.{rules_length}
use Rattle.salvage_file.specs.Salvage.{dropped_of, kept_file, refusing, salvage_file, salvage_got, salvage_of}
use Rattle.salvage_laws.specs.Statement.{SoundUnchanged, kept_in, kept_ones}
use Rattle.salvage_laws.proofs.Accepted.{file_closed}
use Rattle.salvage_laws.proofs.Altered.{octets_kept}
use Rattle.salvage_laws.proofs.Memory.{Remembers, memory_more, nothing_kept, release_kept_on, tenant_releases}
use Rattle.salvage_laws.proofs.Records.{Holds, hold_kept, hold_kind, lease_kept, leases_hold, none_kept, records_hold, typed_same}
use Rattle.salvage_laws.proofs.Table.{hold_others, hold_row, lease_others, lease_row, own_more, row_of}
use Rattle.salvage_laws.proofs.Unchanged.{more_facts, more_first, more_known, more_room, no_rule, prefix_sound}

with_zero : {A B : Type 0} (rule : B → A → ℕ) (add : B → A → B) (b : B) (x : A) → rule b x ≡ 0 → kept_with rule add b x ≡ add b x
unfolding kept_with pick
with_zero rule add b x z = ap (λ (p : Bool). pick p (add b x) b) (eq-eqb (rule b x) 0 z)

-- ---- no rule is broken where none is by the next with those before it
module _ {A B : Type 0} (rule : B → A → ℕ) (add : B → A → B) (K : B → List A → Type 0) (whole : List A)
    (next-zero : (b : B) (ks : List A) (x : A) (rest : List A) → K b ks → whole ≡ ks ++ x ∷ rest → rule b x ≡ 0) (step : (b : B) (ks : List A) (x : A) → K b ks → rule b x ≡ 0 → K (add b x) (ks ++ x ∷ [])) where
  zeros_in : (b : B) (ks xs : List A) → K b ks → whole ≡ ks ++ xs → all_by (λ r. eqb r 0) (rules_in rule add b xs) ≡ true
  unfolding rules_in all_by
  zeros_in b ks [] k e = refl
  zeros_in b ks (x ∷ xs) k e =
      let z : rule b x ≡ 0 = next-zero b ks x xs k e in
      all_cons (λ r. eqb r 0) (rule b x) (rules_in rule add (kept_with rule add b x) xs) (eq-eqb (rule b x) 0 z)
      (subst (λ (c : B). all_by (λ r. eqb r 0) (rules_in rule add c xs) ≡ true) (sym (with_zero rule add b x z)) (zeros_in (add b x) (ks ++ x ∷ []) xs (step b ks x k z) (e ∙ sym (append_assoc ks (x ∷ []) xs))))

all_kept : {A : Type 0} (rs : List ℕ) (xs : List A) → length rs ≡ length xs → all_by (λ r. eqb r 0) rs ≡ true → kept_ones rs xs ≡ xs
unfolding kept_ones pick
all_kept [] [] e z = refl
all_kept [] (x ∷ xs) e z = absurd (omega arith)
all_kept (r ∷ rs) [] e z = absurd (omega arith)
all_kept {A} (r ∷ rs) (x ∷ xs) e z =
    let p = all_head (λ r. eqb r 0) r rs z in
    ap (λ (b : Bool). pick b (x ∷ kept_ones rs xs) (kept_ones rs xs)) p.0 ∙ ap {B = List A} (λ (l : List A). x ∷ l) (all_kept rs xs (let q : length rs ≡ length xs = omega arith in q) p.1)

none_listed : (kind n : ℕ) (rs : List ℕ) → all_by (λ r. eqb r 0) rs ≡ true → dropped_from kind n rs ≡ []
unfolding dropped_from pick
none_listed kind n [] z = refl
none_listed kind n (r ∷ rs) z =
    let p = all_head (λ r. eqb r 0) r rs z in
    ap (λ (b : Bool). pick b (dropped_from kind (n + 1) rs) (record { kind = kind; place = n; rule = r } ∷ dropped_from kind (n + 1) rs)) p.0 ∙ none_listed kind (n + 1) rs p.1

-- one in the middle
pub middle_test : {A : Type 0} (t : A → Bool) (ks : List A) (x : A) (rest : List A) → all_by t (ks ++ x ∷ rest) ≡ true → t x ≡ true
middle_test t [] x rest e = (all_head t x rest e).0
middle_test t (k ∷ ks) x rest e = middle_test t ks x rest (all_head t k (ks ++ x ∷ rest) e).1

pub middle_fact : {A : Type 0} (P : A → Type 0) (ks : List A) (x : A) (rest : List A) → All P (ks ++ x ∷ rest) → P x
unfolding All
middle_fact P [] x rest h = h.0
middle_fact P (k ∷ ks) x rest h = middle_fact P ks x rest h.1

front_test : {A : Type 0} (t : A → Bool) (x y : List A) → all_by t (x ++ y) ≡ true → all_by t x ≡ true
unfolding all_by
front_test t [] y e = refl
front_test t (a ∷ x) y e = let p = all_head t a (x ++ y) e in all_cons t a x p.0 (front_test t x y p.1)

front_two : {A : Type 0} (t : A → A → Bool) (x y : List A) → pairs_by t (x ++ y) ≡ true → pairs_by t x ≡ true
unfolding pairs_by
front_two t [] y e = refl
front_two t (a ∷ x) y e = let p = pairs_head t a (x ++ y) e in pairs_cons t a x (front_test (t a) x y p.0) (front_two t x y p.1)

-- ---- leases and holds
pub lease_offsets : (x : FileLease) → Storable x → offsets (stored x).addresses ≡ x.offsets
unfolding filed_entry filed_lease stored_entry lease_in
lease_offsets x s = ap (λ (y : FileLease). y.offsets) (entry_again false x s)

pub stored_id : (x : FileLease) → (stored x).id_len ≡ length x.id
unfolding stored
stored_id x = refl

pub stored_scope_law : (x : FileLease) → (stored x).scope ≡ x.scope
unfolding stored
stored_scope_law x = refl

pub hold_offsets : (y : FileHold) → Storable y.lease → offsets (stored_hold y).addresses ≡ y.lease.offsets
unfolding stored_hold
hold_offsets y s = lease_offsets y.lease s

pub hold_id : (y : FileHold) → (stored_hold y).id_len ≡ length y.lease.id
unfolding stored_hold stored
hold_id y = refl

pub hold_scope : (y : FileHold) → (stored_hold y).scope ≡ y.lease.scope
unfolding stored_hold stored
hold_scope y = refl

module _ (st : State) (xs : List FileLease) (ys : List FileHold) (full : Sound st (merged_from 1 8 xs ys)) where
  lease_zero : (ks : List FileLease) (b : LeaseTable) (x : FileLease) (rest : List FileLease) → Holds st ks [] b → xs ≡ ks ++ x ∷ rest → lease_fit_b x ≡ true → Storable x → lease_rule st b x ≡ 0
  unfolding lease_rule lease_fit_b
  lease_zero ks b x rest v e fit s =
      let f : 1 ≤ x.tenant = s.from in
      let g : x.tenant < 9 = s.to in
      let q : x.tenant ≡ x.tenant - 1 + 1 = omega arith in
      let ex : xs ≡ (ks ++ x ∷ []) ++ rest = e ∙ sym (append_assoc ks (x ∷ []) rest) in
      let small : x.tenant - 1 < 8 = omega arith in
      let more = lease_row (x.tenant - 1 + 1) ks [] x q in
      let others : (u : ℕ) → (u ≡ x.tenant - 1 + 1 → ⊥) → row_of u (ks ++ x ∷ []) [] ≡ row_of u ks [] = λ u n. lease_others u ks [] x (λ y. n (sym y ∙ q)) in
      no_rule st b x (not (eqb x.kind 1)) (stored x)
      (more_facts st xs ys full ks (ks ++ x ∷ []) rest [] [] ys ex refl (x.tenant - 1) small (stored x) more others b v.table) (stored_id x) (stored_scope_law x) (lease_offsets x s)
      (more_known st xs ys full ks (ks ++ x ∷ []) rest [] [] ys ex refl (x.tenant - 1) small (stored x) more others b v.table x.tenant q)
      (more_room st xs ys full ks (ks ++ x ∷ []) rest [] [] ys ex refl (x.tenant - 1) small (stored x) more others b v.table)
      (ap not (neither (eqb x.kind 1) (storable_b x) fit).0)
      (more_first st xs ys full ks (ks ++ x ∷ []) rest [] [] ys ex refl (x.tenant - 1) small (stored x) more others b v.table x.tenant refl)

  hold_zero : (hs : List FileHold) (b : LeaseTable) (y : FileHold) (rest : List FileHold) → Holds st xs hs b → ys ≡ hs ++ y ∷ rest → hold_fit_b y ≡ true → Storable y.lease → hold_rule st b y ≡ 0
  unfolding hold_rule hold_fit_b type_after pick
  hold_zero hs b y rest v e fit s =
      let f : 1 ≤ y.lease.tenant = s.from in
      let g : y.lease.tenant < 9 = s.to in
      let q : y.lease.tenant ≡ y.lease.tenant - 1 + 1 = omega arith in
      let ey : ys ≡ (hs ++ y ∷ []) ++ rest = e ∙ sym (append_assoc hs (y ∷ []) rest) in
      let small : y.lease.tenant - 1 < 8 = omega arith in
      let more = hold_row (y.lease.tenant - 1 + 1) xs hs y q in
      let others : (u : ℕ) → (u ≡ y.lease.tenant - 1 + 1 → ⊥) → row_of u xs (hs ++ y ∷ []) ≡ row_of u xs hs = λ u n. hold_others u xs hs y (λ w. n (sym w ∙ q)) in
      let one : eqb y.lease.kind 1 ≡ true = (both (eqb y.lease.kind 1) (storable_b y.lease) fit).0 in
      let z : record_rule st b y.lease true (stored_hold y) ≡ 0 =
      no_rule st b y.lease true (stored_hold y)
      (more_facts st xs ys full xs xs [] hs (hs ++ y ∷ []) rest (sym (append-nil xs)) ey (y.lease.tenant - 1) small (stored_hold y) more others b v.table) (hold_id y) (hold_scope y) (hold_offsets y s)
      (more_known st xs ys full xs xs [] hs (hs ++ y ∷ []) rest (sym (append-nil xs)) ey (y.lease.tenant - 1) small (stored_hold y) more others b v.table y.lease.tenant q)
      (more_room st xs ys full xs xs [] hs (hs ++ y ∷ []) rest (sym (append-nil xs)) ey (y.lease.tenant - 1) small (stored_hold y) more others b v.table) refl
      (more_first st xs ys full xs xs [] hs (hs ++ y ∷ []) rest (sym (append-nil xs)) ey (y.lease.tenant - 1) small (stored_hold y) more others b v.table y.lease.tenant refl) in
      let w : record_rule st b y.lease true (typed_hold (stored_hold y)) ≡ 0 = ap (record_rule st b y.lease true) (typed_same (stored_hold y) (hold_kind y ∙ eqb-true y.lease.kind 1 one)) ∙ z in
      ap₂ (λ (p q : Bool). pick p (pick {A = ℕ} q 0 13) (record_rule st b y.lease true (typed_hold (stored_hold y)))) (eq-eqb _ 0 w) one

-- ---- releases
pub rules_five : (r : ReleaseRules) → first_release r ≡ 0 → (r.tenants ≡ true) × (r.few ≡ true) × (r.lengths ≡ true) × (r.once ≡ true) × (r.times ≡ true)
unfolding first_release
rules_five r e =
    let a = pick_zero r.tenants _ 14 (omega arith) e in
    let b = pick_zero r.few _ 15 (omega arith) a.1 in
    let c = pick_zero r.lengths _ 16 (omega arith) b.1 in
    let d = pick_zero r.once _ 17 (omega arith) c.1 in
    let f = pick_zero r.times 0 18 (omega arith) d.1 in
    (a.0, b.0, c.0, d.0, f.0)

five_rules : (r : ReleaseRules) → r.tenants ≡ true → r.few ≡ true → r.lengths ≡ true → r.once ≡ true → r.times ≡ true → first_release r ≡ 0
unfolding first_release pick
five_rules r a b c d f =
    ap₂ (λ (p q : Bool). pick p (pick q (pick r.lengths (pick r.once (pick {A = ℕ} r.times 0 18) 17) 16) 15) 14) a b
    ∙ ap₂ (λ (p q : Bool). pick p (pick q (pick {A = ℕ} r.times 0 18) 17) 16) c d ∙ ap (λ (p : Bool). pick {A = ℕ} p 0 18) f

memory_first : (st : State) (b : LeaseTable) (m : Memory) → memory_b st b m ≡ true → first_release (release_rules_of st b m) ≡ 0
unfolding memory_b broken_memory broken_release pick
memory_first st b m e = go (eqb (first_release (release_rules_of st b m)) 0) refl (eqb-true _ 0 e)
  where
    go : (t : Bool) → eqb (first_release (release_rules_of st b m)) 0 ≡ t → pick t (pick {A = ℕ} (release_rules_of st b m).layout 0 19) (first_release (release_rules_of st b m)) ≡ 0 → first_release (release_rules_of st b m) ≡ 0
    go true q p = eqb-true _ 0 q
    go false q p = p

-- a tenant's releases, and the rules on them
pub tenant_row_law : (rs : List FileRelease) (h : ℕ) → h < 8 → releases_at (stored_memory rs) h ≡ laid_releases (map stored_release (own release_tenant (h + 1) rs))
tenant_row_law rs h p = tenant_releases rs h ∙ ap (λ (l : List FileRelease). laid_releases (map stored_release l)) (apart_at release_tenant 8 1 h rs p)

pub laid_count : (l : List FileRelease) → (laid_releases (map stored_release l)).count ≡ length l
unfolding laid_releases
laid_count l = length-map l stored_release

pub known_from : (n h : ℕ) (q : TenantReleases) → 1 ≤ q.count → tenant_b n h q ≡ true → h < n
unfolding tenant_b
known_from n h q c e = go (ltb h n) refl (eqb q.count 0) refl e
  where
    go : (a : Bool) → ltb h n ≡ a → (d : Bool) → eqb q.count 0 ≡ d → (a || d) ≡ true → h < n
    go true p d r e = ltb-true h n p
    go false p true r e = let z = eqb-true q.count 0 r in absurd (omega arith)
    go false p false r e = absurd (let z : ◌≡◌ {A = ℕ} 0 1 = cc in omega arith)

module _ (st : State) (b : LeaseTable) (all : List FileRelease) (sound : memory_b st b (stored_memory all) ≡ true) where
  five : ((release_rules_of st b (stored_memory all)).tenants ≡ true) × ((release_rules_of st b (stored_memory all)).few ≡ true) × ((release_rules_of st b (stored_memory all)).lengths ≡ true)
      × ((release_rules_of st b (stored_memory all)).once ≡ true) × ((release_rules_of st b (stored_memory all)).times ≡ true)
  five = rules_five (release_rules_of st b (stored_memory all)) (memory_first st b (stored_memory all) sound)

  abbrev Row : ℕ → List FileRelease → List Release
  Row h rs = map stored_release (own release_tenant (h + 1) rs)

  tenant_at_law : (h : ℕ) → h < 8 → tenant_b (tenants_in st) h (laid_releases (Row h all)) ≡ true
  unfolding release_rules_of rules_to
  tenant_at_law h p = ap (tenant_b (tenants_in st) h) (sym (tenant_row_law all h p)) ∙ to_each (λ h. tenant_b (tenants_in st) h (releases_at (stored_memory all) h)) 8 five.0 h p

  few_in : (h : ℕ) → h < 8 → length (own release_tenant (h + 1) all) ≤ 4
  unfolding release_rules_of rules_to few_b
  few_in h p =
      let e = leb-true (releases_at (stored_memory all) h).count 4 (to_each (λ h. few_b (releases_at (stored_memory all) h)) 8 five.1 h p) in
      let c = ap (λ (q : TenantReleases). q.count) (tenant_row_law all h p) ∙ laid_count (own release_tenant (h + 1) all) in
      omega arith

  lengths_at : (h : ℕ) → h < 8 → all_by length_b (Row h all) ≡ true
  unfolding release_rules_of rules_to
  lengths_at h p = ap (all_by length_b) (sym (ap remembered (tenant_row_law all h p) ∙ releases_back (Row h all))) ∙ to_each (λ h. all_by length_b (remembered (releases_at (stored_memory all) h))) 8 five.2 h p

  once_at : (h : ℕ) → h < 8 → (pairs_by differs (Row h all) ≡ true) × (all_by (not_leased (own_leases b h)) (Row h all) ≡ true)
  unfolding release_rules_of rules_to once_b
  once_at h p =
      let q : remembered (releases_at (stored_memory all) h) ≡ Row h all = ap remembered (tenant_row_law all h p) ∙ releases_back (Row h all) in
      let o = and_parts (pairs_by differs (remembered (releases_at (stored_memory all) h))) (all_by (not_leased (own_leases b h)) (remembered (releases_at (stored_memory all) h))) (to_each (λ h. once_b (own_leases b h) (releases_at (stored_memory all) h)) 8 five.3 h p) in
      (ap (pairs_by differs) (sym q) ∙ o.0, ap (all_by (not_leased (own_leases b h))) (sym q) ∙ o.1)

  times_at : (h : ℕ) → h < 8 → all_by (past_b st.clock) (Row h all) ≡ true
  unfolding release_rules_of rules_to
  times_at h p =
      ap (all_by (past_b st.clock)) (sym (ap remembered (tenant_row_law all h p) ∙ releases_back (Row h all))) ∙ to_each (λ h. all_by (past_b st.clock) (remembered (releases_at (stored_memory all) h))) 8 five.4 h p

  -- the first of them
  module _ (rs rest : List FileRelease) (e : all ≡ rs ++ rest) where
    own_split : (h : ℕ) → own release_tenant (h + 1) all ≡ own release_tenant (h + 1) rs ++ own release_tenant (h + 1) rest
    own_split h = ap (own release_tenant (h + 1)) e ∙ filter_append (λ x. eqb (release_tenant x) (h + 1)) rs rest

    row_split : (h : ℕ) → Row h all ≡ Row h rs ++ Row h rest
    row_split h = ap (map stored_release) (own_split h) ∙ map-append stored_release (own release_tenant (h + 1) rs) (own release_tenant (h + 1) rest)

    back_at : (h : ℕ) → h < 8 → remembered (releases_at (stored_memory rs) h) ≡ Row h rs
    back_at h p = ap remembered (tenant_row_law rs h p) ∙ releases_back (Row h rs)

    front_tenant : (h : ℕ) → h < 8 → tenant_b (tenants_in st) h (releases_at (stored_memory rs) h) ≡ true
    unfolding tenant_b
    front_tenant h p = go (ltb h (tenants_in st)) refl
      where
        go : (c : Bool) → ltb h (tenants_in st) ≡ c → (ltb h (tenants_in st) || eqb (releases_at (stored_memory rs) h).count 0) ≡ true
        go true q = ap (λ (z : Bool). z || eqb (releases_at (stored_memory rs) h).count 0) q
        go false q =
            let n = eqb-true (laid_releases (Row h all)).count 0 (sym (ap (λ (z : Bool). z || eqb (laid_releases (Row h all)).count 0) q) ∙ tenant_at_law h p) in
            let c = laid_count (own release_tenant (h + 1) all) in
            let l = ap length (own_split h) ∙ length-append (own release_tenant (h + 1) rs) (own release_tenant (h + 1) rest) in
            let d = ap (λ (q : TenantReleases). q.count) (tenant_row_law rs h p) ∙ laid_count (own release_tenant (h + 1) rs) in
            ap (λ (z : Bool). z || eqb (releases_at (stored_memory rs) h).count 0) q ∙ eq-eqb (releases_at (stored_memory rs) h).count 0 (omega arith)

    front_few : (h : ℕ) → h < 8 → few_b (releases_at (stored_memory rs) h) ≡ true
    unfolding few_b
    front_few h p =
        let l = ap length (own_split h) ∙ length-append (own release_tenant (h + 1) rs) (own release_tenant (h + 1) rest) in
        let d = ap (λ (q : TenantReleases). q.count) (tenant_row_law rs h p) ∙ laid_count (own release_tenant (h + 1) rs) in
        let f = few_in h p in
        le-leb (releases_at (stored_memory rs) h).count 4 (omega arith)

    front_once : (h : ℕ) → h < 8 → once_b (own_leases b h) (releases_at (stored_memory rs) h) ≡ true
    unfolding once_b
    front_once h p =
        let o = once_at h p in
        and_both (ap (pairs_by differs) (back_at h p) ∙ front_two differs (Row h rs) (Row h rest) (ap (pairs_by differs) (sym (row_split h)) ∙ o.0))
        (ap (all_by (not_leased (own_leases b h))) (back_at h p) ∙ front_test (not_leased (own_leases b h)) (Row h rs) (Row h rest) (ap (all_by (not_leased (own_leases b h))) (sym (row_split h)) ∙ o.1))

    front_first : first_release (release_rules_of st b (stored_memory rs)) ≡ 0
    unfolding release_rules_of rules_to
    front_first =
        five_rules (release_rules_of st b (stored_memory rs))
        (each_to (λ h. tenant_b (tenants_in st) h (releases_at (stored_memory rs) h)) 8 front_tenant)
        (each_to (λ h. few_b (releases_at (stored_memory rs) h)) 8 front_few)
        (each_to (λ h. all_by length_b (remembered (releases_at (stored_memory rs) h))) 8 (λ h p. ap (all_by length_b) (back_at h p) ∙ front_test length_b (Row h rs) (Row h rest) (ap (all_by length_b) (sym (row_split h)) ∙ lengths_at h p)))
        (each_to (λ h. once_b (own_leases b h) (releases_at (stored_memory rs) h)) 8 front_once)
        (each_to (λ h. all_by (past_b st.clock) (remembered (releases_at (stored_memory rs) h))) 8 (λ h p. ap (all_by (past_b st.clock)) (back_at h p) ∙ front_test (past_b st.clock) (Row h rs) (Row h rest) (ap (all_by (past_b st.clock)) (sym (row_split h)) ∙ times_at h p)))

  release_zero : (rs : List FileRelease) (m : Memory) (x : FileRelease) (rest : List FileRelease) → Remembers st b rs m → all ≡ rs ++ x ∷ rest → keepable_b x ≡ true → release_rule st b m x ≡ 0
  unfolding release_rule pick keepable_b known_tenant one_to length_b stored_release
  release_zero rs m x rest v e keep =
      let a = neither (ltb x.tenant 1) _ keep in
      let c = neither (ltb 8 x.tenant) (leb (length x.id) 32) a.1 in
      let f : 1 ≤ x.tenant = ltb-false x.tenant 1 a.0 in
      let g : x.tenant ≤ 8 = ltb-false 8 x.tenant c.0 in
      let small : x.tenant - 1 < 8 = omega arith in
      let q : x.tenant ≡ x.tenant - 1 + 1 = omega arith in
      let ex : all ≡ (rs ++ x ∷ []) ++ rest = e ∙ sym (append_assoc rs (x ∷ []) rest) in
      let split = own_split (rs ++ x ∷ []) rest ex (x.tenant - 1) in
      let mine : own release_tenant (x.tenant - 1 + 1) (rs ++ x ∷ []) ≡ own release_tenant (x.tenant - 1 + 1) rs ++ x ∷ [] = own_more release_tenant (x.tenant - 1 + 1) rs x q in
      let many = ap length split ∙ length-append (own release_tenant (x.tenant - 1 + 1) (rs ++ x ∷ [])) (own release_tenant (x.tenant - 1 + 1) rest) in
      let more = ap length mine ∙ length-append (own release_tenant (x.tenant - 1 + 1) rs) (x ∷ []) in
      let few = few_in (x.tenant - 1) small in
      let count : (releases_at (stored_memory rs) (x.tenant - 1)).count ≡ length (own release_tenant (x.tenant - 1 + 1) rs) = ap (λ (z : TenantReleases). z.count) (tenant_row_law rs (x.tenant - 1) small) ∙ laid_count (own release_tenant (x.tenant - 1 + 1) rs) in
      let less : (releases_at (stored_memory rs) (x.tenant - 1)).count < 4 = omega arith in
      let known = tenant_known (x.tenant - 1) small (let z : 1 ≤ length (own release_tenant (x.tenant - 1 + 1) all) = omega arith in z) in
      let row : all_by length_b (map stored_release (own release_tenant (x.tenant - 1 + 1) rs) ++ stored_release x ∷ map stored_release (own release_tenant (x.tenant - 1 + 1) rest)) ≡ true =
      ap (all_by length_b) (sym (ap (map stored_release) (split ∙ ap (λ (l : List FileRelease). l ++ own release_tenant (x.tenant - 1 + 1) rest) mine ∙ append_assoc (own release_tenant (x.tenant - 1 + 1) rs) (x ∷ []) (own release_tenant (x.tenant - 1 + 1) rest))
      ∙ map-append stored_release (own release_tenant (x.tenant - 1 + 1) rs) (x ∷ own release_tenant (x.tenant - 1 + 1) rest))) ∙ lengths_at (x.tenant - 1) small in
      let ids : id_length_b (length x.id) ≡ true = middle_test length_b (map stored_release (own release_tenant (x.tenant - 1 + 1) rs)) (stored_release x) (map stored_release (own release_tenant (x.tenant - 1 + 1) rest)) row in
      let first : first_release (release_rules_of st b (with_release m x)) ≡ 0 =
      ap (λ (y : Memory). first_release (release_rules_of st b y)) (ap (λ (y : Memory). with_release y x) v.memory ∙ memory_more rs x (x.tenant - 1) small q less) ∙ front_first (rs ++ x ∷ []) rest ex in
      ap₂ (λ (p r : Bool). pick p (pick r (pick (id_length_b (length x.id)) (first_release (release_rules_of st b (with_release m x))) 16) 15) 14)
      (and_both (le-leb 1 x.tenant f) (le-leb x.tenant (tenants_in st) (omega arith)))
      (ap (λ (y : Memory). ltb (releases_at y (x.tenant - 1)).count 4) v.memory ∙ lt-ltb _ 4 less)
      ∙ ap (λ (p : Bool). pick p (first_release (release_rules_of st b (with_release m x))) 16) ids ∙ first
    where
      tenant_known : (h : ℕ) → h < 8 → 1 ≤ length (own release_tenant (h + 1) all) → h < tenants_in st
      tenant_known h p q = known_from (tenants_in st) h (laid_releases (Row h all)) (let c = laid_count (own release_tenant (h + 1) all) in omega arith) (tenant_at_law h p)

-- ---- the whole
file_loaded : (f : File) → refusal_number (loaded f) ≡ 0 → (fits_b f ≡ true) × (sound_b (stored_state f) (stored_table f) ≡ true) × (memory_b (stored_state f) (stored_table f) (stored_memory f.releases) ≡ true)
unfolding loaded judged accepted pick refusal_number code_of
file_loaded f e = go (fits_b f) refl (sound_b (stored_state f) (stored_table f) && memory_b (stored_state f) (stored_table f) (stored_memory f.releases)) refl e
  where
    go : (p : Bool) → fits_b f ≡ p → (q : Bool) → (sound_b (stored_state f) (stored_table f) && memory_b (stored_state f) (stored_table f) (stored_memory f.releases)) ≡ q
        → refusal_number (pick p (pick q (accepted (stored_state f) (stored_table f) (with_board (stored_table f) (stored_memory f.releases))) (Err UnsoundFile)) (Err UnsoundFile)) ≡ 0
        → (p ≡ true) × (sound_b (stored_state f) (stored_table f) ≡ true) × (memory_b (stored_state f) (stored_table f) (stored_memory f.releases) ≡ true)
    go true a true c e = let z = and_parts (sound_b (stored_state f) (stored_table f)) (memory_b (stored_state f) (stored_table f) (stored_memory f.releases)) c in (refl, z.0, z.1)
    go true a false c e = absurd (omega arith)
    go false a q c e = absurd (omega arith)

module _ (f : File) (ok : file_format.ok f) (fit : fits_b f ≡ true) (sound : sound_b (stored_state f) (stored_table f) ≡ true) (memory : memory_b (stored_state f) (stored_table f) (stored_memory f.releases) ≡ true) where
  parts : (settings_fit_b f ≡ true) × (all_by lease_fit_b f.leases ≡ true) × (all_by hold_fit_b f.holds ≡ true) × (all_by keepable_b f.releases ≡ true)
  unfolding fits_b records_fit_b releases_fit_b
  parts =
      let a = both (settings_fit_b f) _ fit in
      let b = both (records_fit_b f.leases f.holds) (releases_fit_b f.releases) a.1 in
      let c = both (all_by lease_fit_b f.leases) _ b.0 in
      let d = both (all_by hold_fit_b f.holds) _ c.1 in
      let e = both (all_by keepable_b f.releases) _ b.1 in
      (a.0, c.0, d.0, e.0)

  full : Sound (stored_state f) (merged_from 1 8 f.leases f.holds)
  unfolding stored_table
  full = subst (Sound (stored_state f)) (table_back (merged_from 1 8 f.leases f.holds)) (sound_lists (stored_state f) (stored_table f) sound)

  alone : sound_b (stored_state f) zero_table ≡ true
  unfolding zero_table merged_from arranged filter_by
  alone = prefix_sound (stored_state f) f.leases f.holds full [] f.leases [] f.holds refl refl

  settings : settings_sound f ≡ true
  unfolding settings_sound pick
  settings = ap (λ (p : Bool). pick p (sound_b (stored_state f) zero_table) false) parts.0 ∙ alone

  lease_zeros : all_by (λ r. eqb r 0) (lease_rules f) ≡ true
  unfolding entry_fit_b lease_in entry_format
  lease_zeros =
      zeros_in (lease_rule (stored_state f)) with_lease (λ b ks. Holds (stored_state f) ks [] b) f.leases
      (λ b ks x rest k e.
      let t = middle_test lease_fit_b ks x rest (ap (all_by lease_fit_b) (sym e) ∙ parts.1) in
      lease_zero (stored_state f) f.leases f.holds full ks b x rest k e t (entry_storable false x t (middle_fact lease_format.ok ks x rest (subst (All lease_format.ok) e ok.1.1.1.0.0.1))))
      (λ b ks x k z. lease_kept (stored_state f) ks [] b x k z) zero_table [] f.leases (none_kept (stored_state f) alone) refl

  leases_all : kept_ones (lease_rules f) f.leases ≡ f.leases
  leases_all = all_kept (lease_rules f) f.leases (rules_length (lease_rule (stored_state f)) with_lease zero_table f.leases) lease_zeros

  held : Holds (stored_state f) f.leases [] (leases_kept f)
  held = subst (λ (l : List FileLease). Holds (stored_state f) l [] (leases_kept f)) leases_all (leases_hold f settings)

  hold_zeros : all_by (λ r. eqb r 0) (hold_rules f) ≡ true
  unfolding entry_fit_b lease_in entry_format
  hold_zeros =
      zeros_in (hold_rule (stored_state f)) with_hold (λ b hs. Holds (stored_state f) f.leases hs b) f.holds
      (λ b hs y rest k e.
      let t = middle_test hold_fit_b hs y rest (ap (all_by hold_fit_b) (sym e) ∙ parts.2) in
      hold_zero (stored_state f) f.leases f.holds full hs b y rest k e t (entry_storable true y t (middle_fact hold_format.ok hs y rest (subst (All hold_format.ok) e ok.1.1.1.1.1.1.0.1))))
      (λ b hs y k z. hold_kept (stored_state f) f.leases hs b y k z) (leases_kept f) [] f.holds held refl

  holds_all : kept_ones (hold_rules f) f.holds ≡ f.holds
  holds_all = all_kept (hold_rules f) f.holds (rules_length (hold_rule (stored_state f)) with_hold (leases_kept f) f.holds) hold_zeros

  records_same : records_kept f ≡ stored_table f
  unfolding stored_table
  records_same = (records_hold f settings).table ∙ ap₂ (λ (a : List FileLease) (b : List FileHold). table_of (merged_from 1 8 a b)) leases_all holds_all

  release_zeros : all_by (λ r. eqb r 0) (release_rules f) ≡ true
  release_zeros =
      zeros_in (release_rule (stored_state f) (records_kept f)) with_release (λ m rs. Remembers (stored_state f) (records_kept f) rs m) f.releases
      (λ m rs x rest k e.
      release_zero (stored_state f) (records_kept f) f.releases (ap (λ (b : LeaseTable). memory_b (stored_state f) b (stored_memory f.releases)) records_same ∙ memory) rs m x rest k e (middle_test keepable_b rs x rest (ap (all_by keepable_b) (sym e) ∙ parts.3)))
      (λ m rs x k z. release_kept_on (stored_state f) (records_kept f) rs m x k z) zero_memory [] f.releases (nothing_kept (stored_state f) (records_kept f)) refl

  releases_all : kept_ones (release_rules f) f.releases ≡ f.releases
  releases_all = all_kept (release_rules f) f.releases (rules_length (release_rule (stored_state f) (records_kept f)) with_release zero_memory f.releases) release_zeros

  file_same : kept_in f ≡ f
  file_same =
      ap₂ (λ (a : List FileLease) (b : List FileHold). make a (kept_ones (release_rules f) f.releases) b) leases_all holds_all ∙ ap (λ (r : List FileRelease). make f.leases r f.holds) releases_all
    where
      make : List FileLease → List FileRelease → List FileHold → File
      make a r b = record { server = f.server; clock = f.clock; tenants = f.tenants; scopes = f.scopes; leases = a; names = f.names; releases = r; holds = b }

  none_dropped_in : dropped_list (dropped_of f) ≡ 0 ∷ 0 ∷ []
  unfolding dropped_of dropped_list dropped_octets
  none_dropped_in =
      ap dropped_list
      (ap₂ {C = List Dropped} (λ (a b : List Dropped). a ++ b) (ap₂ {C = List Dropped} (λ (a b : List Dropped). a ++ b) (none_listed 1 1 (lease_rules f) lease_zeros) (none_listed 2 1 (hold_rules f) hold_zeros)) (none_listed 3 1 (release_rules f) release_zeros))

  pub sound_salvaged : (s : List ℕ) (n m : ℕ) → s ≡ file_format.write f → length s ≤ n → 2 ≤ m → salvage_file f n m ≡ record { refusal = 0; file = s; list = 0 ∷ 0 ∷ [] }
  unfolding salvage_file pick
  sound_salvaged s n m w h g =
      let k : kept_file f ≡ s = octets_kept f ok settings ∙ ap file_format.write file_same ∙ sym w in
      ap₂ (λ (l d : List ℕ). pick (settings_sound f) (pick (ltb n (length l) || ltb m (length d)) (refusing 23) (record { refusal = 0; file = l; list = d })) (refusing 25)) k none_dropped_in
      ∙ ap₂ (λ (p q : Bool). pick p (pick (q || ltb m 2) (refusing 23) (record { refusal = 0; file = s; list = 0 ∷ 0 ∷ [] })) (refusing 25)) settings (le-ltb n (length s) h)
      ∙ ap (λ (q : Bool). pick q (refusing 23) (record { refusal = 0; file = s; list = 0 ∷ 0 ∷ [] })) (le-ltb m 2 g)

pub sound_unchanged : SoundUnchanged
unfolding SoundUnchanged salvage_of salvage_got read_file loaded_got refusal_number code_of
sound_unchanged s n m o e h g = go (file_of s) refl e
  where
    go : (t : Got File) → file_of s ≡ t → refusal_number (loaded_got t) ≡ 0 → salvage_got t n m ≡ record { refusal = 0; file = s; list = 0 ∷ 0 ∷ [] }
    go bad p e = absurd (omega arith)
    go (got f r) p e =
        let w = file_reads s f o (file_closed s f r p) in
        let l = file_loaded f e in
        sound_salvaged f w.0 l.0 l.1 l.2 s n m w.1 h g
