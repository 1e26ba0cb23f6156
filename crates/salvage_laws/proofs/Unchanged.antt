-- Laws: of a sound file no lease, hold or release breaks a rule with those before it: the records of a part of it are some of its own.
use mathlib.Core.Bool.{Bool, false, true}
use mathlib.Core.List.Permᴰ
use mathlib.Core.List.{List, [], ◌++◌, ◌∷◌, append_assoc, map, map-append}
use mathlib.Core.Path.{◌∙◌, ◌≡◌, ap, ap₂, refl, subst, sym}
use Prim.Native.Nat.{◌+◌, ◌-◌, ◌<◌, ◌≤◌, suc, zero, ℕ}
use native.Mathlib.Omega.{arith}
use lib.Dec.{eqb, leb, ltb}
use lib.ListN.{drop, get_or, length}
use borrow.Author.Tests.{eqb-true, le-leb, leb-false, leb-true, lt-ltb}
use Rattle.address_set.specs.AddressSet.{offsets}
use Rattle.address_set.specs.laws.Bits.{length_offsets}
use Rattle.lists.specs.All.{all_by, pairs_by}
use Rattle.lists.specs.Arranged.{arranged}
use Rattle.lists.specs.Pick.{pick}
use Rattle.lists.specs.Reordered.{Reordered}
use Rattle.lists.specs.laws.All.{all_cons, all_head}
use Rattle.lists.specs.laws.Arranged.{arranged_reordered, arranged_sorted}
use Rattle.lists.specs.laws.Both.{and_both}
use Rattle.lists.specs.laws.Filter.{filter_append}
use Rattle.lists.specs.laws.Reordered.{reordered_all, reordered_length, reordered_pairs}
use Rattle.lists.specs.laws.Some.{Part, part_all, part_length, part_pairs}
use Rattle.format.specs.Tenants.{own}
use Rattle.state.specs.Book.{differ, in_use, ordered, scope_at, table_of, tenant_at}
use Rattle.state.specs.declared.Lease.{Lease}
use Rattle.state.specs.declared.LeaseTable.{LeaseTable}
use Rattle.state.specs.declared.State.{State}
use Rattle.state.specs.declared.TenantLeases.{TenantLeases}
use Rattle.state.specs.laws.Layout.{read_back}
use Rattle.state.specs.laws.Sorted.{differ_turn}
use Rattle.state.proofs.Sorted.{rising}
use Rattle.soundness.specs.Sound.{below_b, first_rule, offsets_b, one_to, rules_of, sound_b, tenants_in}
use Rattle.soundness.specs.laws.Added.{each_at, few_at, sound_at}
use Rattle.soundness.specs.laws.Book.{Sound, lease_ok, no_leases_b}
use Rattle.soundness.proofs.Lists.{lists_sound}
use Rattle.soundness.specs.laws.Facts.{LeaseFacts, lease_facts}
use Rattle.soundness.specs.laws.Kept.{Shrunk, sound_shrunk}
use Rattle.soundness.specs.laws.Rises.{differ_at}
use Rattle.lease_file.specs.Records.{hold_tenant, lease_tenant, merged_from, stored, stored_hold}
use Rattle.lease_file.specs.Section.{FileHold, FileLease}
use Rattle.lease_file.specs.laws.Merge.{arranged_differ, arranged_length}
use Rattle.salvage_rules.specs.Rules.{known_scope, known_tenant, limits_kept, names_known, offsets_kept, record_rule, with_record}
use Rattle.salvage_laws.proofs.Records.{sound_first}
use Rattle.salvage_laws.proofs.Table.{merged_at, row_of, table_more_row, tenant_is}

-- ---- an entry whose record is sound, with a tenant that is known and has room
module _ (st : State) (b : LeaseTable) (x : FileLease) (typed : Bool) (l : Lease) (facts : LeaseFacts st l) (ei : l.id_len ≡ length x.id) (es : l.scope ≡ x.scope) (eo : offsets l.addresses ≡ x.offsets)
    (known : known_tenant st x.tenant ≡ true) (room : length (in_use (tenant_at b (x.tenant - 1))) < 16) (ty : typed ≡ true) (first : first_rule (rules_of st (with_record b x.tenant l)) ≡ 0) where
  limits : limits_kept st b x ≡ true
  unfolding limits_kept pick
  limits =
      let p = facts.id_some in
      let q = facts.id_few in
      and_both (and_both (le-leb 2 (length x.id) (omega arith)) (le-leb (length x.id) 32 (omega arith)))
      (ap (λ (z : Bool). pick z (ltb (length (in_use (tenant_at b (x.tenant - 1)))) 16) true) known ∙ lt-ltb _ 16 room)

  scope : known_scope st x.scope ≡ true
  unfolding known_scope one_to
  scope = let p = facts.scope_some in let q = facts.scope_known_law in and_both (le-leb 1 x.scope (omega arith)) (le-leb x.scope st.scope_count (omega arith))

  below : all_by (λ a. ltb a (scope_at st (x.scope - 1)).size) x.offsets ≡ true
  unfolding offsets_b below_b pick known_scope
  below =
      let k : one_to st.scope_count l.scope ≡ true = ap (one_to st.scope_count) es ∙ scope in
      ap₂ (λ (c : ℕ) (o : List ℕ). all_by (λ a. ltb a (scope_at st (c - 1)).size) o) (sym es) (sym eo)
      ∙ sym (ap (λ (z : Bool). pick z (all_by (λ a. ltb a (scope_at st (l.scope - 1)).size) (offsets l.addresses)) true) k) ∙ facts.offsets

  offs : offsets_kept st x ≡ true
  unfolding offsets_kept pick
  offs =
      and_both (le-leb (length x.offsets) 64 (let k = length_offsets l.addresses in let z = ap length eo in omega arith))
      (ap (λ (z : Bool). pick z (all_by (λ a. ltb a (scope_at st (x.scope - 1)).size) x.offsets) true) scope ∙ below)

  names : names_known st x typed ≡ true
  unfolding names_known
  names = and_both known (and_both scope ty)

  pub no_rule : record_rule st b x typed l ≡ 0
  unfolding record_rule pick
  no_rule =
      ap₂ (λ (p q : Bool). pick p (pick q (pick (names_known st x typed) (first_rule (rules_of st (with_record b x.tenant l))) 7) 2) 1) limits offs
      ∙ ap (λ (p : Bool). pick p (first_rule (rules_of st (with_record b x.tenant l))) 7) names ∙ first

-- ---- some of the entries
swap_front : {A : Type 0} (a b c : List A) → Reordered (a ++ (b ++ c)) (b ++ (a ++ c))
swap_front [] b c = Permᴰ.refl (b ++ c)
swap_front (x ∷ a) b c = Permᴰ.trans (Permᴰ.cons refl (swap_front a b c)) (Permᴰ.symm (Permᴰ.middle x b (a ++ c)))

none_at : (ls : List (List Lease)) (k i : ℕ) → all_by no_leases_b (drop k ls) ≡ true → k ≤ i → length (get_or ls i []) ≡ 0
none_at [] k i e h = refl
none_at (x ∷ ls) zero i e h = eqb-true (length (get_or (x ∷ ls) i [])) 0 (sound_at no_leases_b (x ∷ ls) i refl e)
none_at (x ∷ ls) (suc k) zero e h = absurd (omega arith)
none_at (x ∷ ls) (suc k) (suc i) e h = none_at ls k i e (omega arith)

module _ (st : State) (xs : List FileLease) (ys : List FileHold) (full : Sound st (merged_from 1 8 xs ys)) where
  row_ok : (h : ℕ) → h < 8 → all_by (lease_ok st) (row_of (h + 1) xs ys) ≡ true
  row_ok h p = sym (reordered_all (lease_ok st) (arranged_reordered ordered (row_of (h + 1) xs ys))) ∙ ap (all_by (lease_ok st)) (sym (merged_at 8 1 h xs ys p)) ∙ each_at st (merged_from 1 8 xs ys) full h

  row_differ : (h : ℕ) → h < 8 → pairs_by differ (row_of (h + 1) xs ys) ≡ true
  row_differ h p = sym (arranged_differ ordered (row_of (h + 1) xs ys)) ∙ ap (pairs_by differ) (sym (merged_at 8 1 h xs ys p)) ∙ differ_at st (merged_from 1 8 xs ys) full h

  row_few : (h : ℕ) → h < 8 → length (row_of (h + 1) xs ys) ≤ 16
  row_few h p = let a = few_at st (merged_from 1 8 xs ys) full h in let b = ap length (merged_at 8 1 h xs ys p) in let c = arranged_length ordered (row_of (h + 1) xs ys) in omega arith

  row_known : (h : ℕ) → h < 8 → 1 ≤ length (row_of (h + 1) xs ys) → h < tenants_in st
  row_known h p q = go (leb (tenants_in st) h) refl
    where
      go : (c : Bool) → leb (tenants_in st) h ≡ c → h < tenants_in st
      go true e =
          let n = none_at (merged_from 1 8 xs ys) (tenants_in st) h full.tenants (leb-true (tenants_in st) h e) in
          let b = ap length (merged_at 8 1 h xs ys p) in
          let c = arranged_length ordered (row_of (h + 1) xs ys) in
          absurd (omega arith)
      go false e = leb-false (tenants_in st) h e

  -- the first of either
  module _ (ks ls : List FileLease) (hs gs : List FileHold) (ex : xs ≡ ks ++ ls) (ey : ys ≡ hs ++ gs) where
    pub row_part : (u : ℕ) → Part (row_of u xs ys) (row_of u ks hs)
    row_part u = (
      map stored_hold (own hold_tenant u gs) ++ map stored (own lease_tenant u ls),
      subst (λ (l : List Lease). Reordered l ((map stored_hold (own hold_tenant u hs) ++ map stored (own lease_tenant u ks)) ++ (map stored_hold (own hold_tenant u gs) ++ map stored (own lease_tenant u ls)))) (sym split)
          (subst (λ (l : List Lease). Reordered (map stored_hold (own hold_tenant u hs) ++ (map stored_hold (own hold_tenant u gs) ++ (map stored (own lease_tenant u ks) ++ map stored (own lease_tenant u ls)))) l)
          (sym (append_assoc (map stored_hold (own hold_tenant u hs)) (map stored (own lease_tenant u ks)) (map stored_hold (own hold_tenant u gs) ++ map stored (own lease_tenant u ls))))
          (Permᴰ.append_left (map stored_hold (own hold_tenant u hs)) (swap_front (map stored_hold (own hold_tenant u gs)) (map stored (own lease_tenant u ks)) (map stored (own lease_tenant u ls))))),
    )
      where
        holds : map stored_hold (own hold_tenant u ys) ≡ map stored_hold (own hold_tenant u hs) ++ map stored_hold (own hold_tenant u gs)
        holds = ap (λ (l : List FileHold). map stored_hold (own hold_tenant u l)) ey ∙ ap (map stored_hold) (filter_append (λ y. eqb (hold_tenant y) u) hs gs) ∙ map-append stored_hold (own hold_tenant u hs) (own hold_tenant u gs)

        leases : map stored (own lease_tenant u xs) ≡ map stored (own lease_tenant u ks) ++ map stored (own lease_tenant u ls)
        leases = ap (λ (l : List FileLease). map stored (own lease_tenant u l)) ex ∙ ap (map stored) (filter_append (λ x. eqb (lease_tenant x) u) ks ls) ∙ map-append stored (own lease_tenant u ks) (own lease_tenant u ls)

        split : row_of u xs ys ≡ map stored_hold (own hold_tenant u hs) ++ (map stored_hold (own hold_tenant u gs) ++ (map stored (own lease_tenant u ks) ++ map stored (own lease_tenant u ls)))
        split =
            ap₂ {C = List Lease} (λ (a b : List Lease). a ++ b) holds leases
            ∙ append_assoc (map stored_hold (own hold_tenant u hs)) (map stored_hold (own hold_tenant u gs)) (map stored (own lease_tenant u ks) ++ map stored (own lease_tenant u ls))

    arranged_part : (u : ℕ) → Part (arranged ordered (row_of u xs ys)) (arranged ordered (row_of u ks hs))
    arranged_part u =
        let p = row_part u in (
          p.0,
          Permᴰ.trans (arranged_reordered ordered (row_of u xs ys)) (Permᴰ.trans p.1 (Permᴰ.append_right p.0 (Permᴰ.symm (arranged_reordered ordered (row_of u ks hs))))),
        )

    rows_shrunk : (n t : ℕ) → Shrunk (merged_from t n xs ys) (merged_from t n ks hs)
    unfolding merged_from Shrunk
    rows_shrunk zero t = tt
    rows_shrunk (suc n) t = (arranged_part t, rows_shrunk n (suc t))

    rows_each : (n t : ℕ) → all_by (all_by (lease_ok st)) (merged_from t n xs ys) ≡ true → all_by (all_by (lease_ok st)) (merged_from t n ks hs) ≡ true
    unfolding merged_from all_by
    rows_each zero t e = refl
    rows_each (suc n) t e =
        let p = all_head (all_by (lease_ok st)) (arranged ordered (row_of t xs ys)) (merged_from (suc t) n xs ys) e in
        all_cons (all_by (lease_ok st)) (arranged ordered (row_of t ks hs)) (merged_from (suc t) n ks hs) (part_all (lease_ok st) (arranged ordered (row_of t xs ys)) (arranged ordered (row_of t ks hs)) (arranged_part t) p.0)
        (rows_each n (suc t) p.1)

    prefix : Sound st (merged_from 1 8 ks hs)
    prefix = sound_shrunk st st.clock (merged_from 1 8 xs ys) (merged_from 1 8 ks hs) full (rows_shrunk 8 1) (rows_each 8 1 full.each)

    rows_rise : (n t : ℕ) → t + n ≤ 9 → 1 ≤ t → all_by (pairs_by ordered) (merged_from t n ks hs) ≡ true
    unfolding merged_from all_by
    rows_rise zero t h g = refl
    rows_rise (suc n) t h g =
        let q : t - 1 + 1 ≡ t = omega arith in
        all_cons (pairs_by ordered) (arranged ordered (row_of t ks hs)) (merged_from (suc t) n ks hs)
        (arranged_sorted differ ordered rising (row_of t ks hs) (part_pairs differ differ_turn (row_of t xs ys) (row_of t ks hs) (row_part t) (subst (λ (u : ℕ). pairs_by differ (row_of u xs ys) ≡ true) q (row_differ (t - 1) (omega arith)))))
        (rows_rise n (suc t) (omega arith) (omega arith))

    pub prefix_sound : sound_b st (table_of (merged_from 1 8 ks hs)) ≡ true
    prefix_sound = lists_sound st (merged_from 1 8 ks hs) prefix (rows_rise 8 1 (omega arith) (omega arith))

  -- ks and hs, and one more, l, of tenant h + 1
  module _ (ks ks' ls : List FileLease) (hs hs' gs : List FileHold) (ex : xs ≡ ks' ++ ls) (ey : ys ≡ hs' ++ gs) (h : ℕ) (small : h < 8) (l : Lease) (more : Reordered (row_of (h + 1) ks' hs') (l ∷ row_of (h + 1) ks hs))
      (others : (u : ℕ) → (u ≡ h + 1 → ⊥) → row_of u ks' hs' ≡ row_of u ks hs) (b : LeaseTable) (eb : b ≡ table_of (merged_from 1 8 ks hs)) where
    part : Part (row_of (h + 1) xs ys) (row_of (h + 1) ks' hs')
    part = row_part ks' ls hs' gs ex ey (h + 1)

    pub more_facts : LeaseFacts st l
    more_facts = lease_facts st l (all_head (lease_ok st) l (row_of (h + 1) ks hs) (sym (reordered_all (lease_ok st) more) ∙ part_all (lease_ok st) (row_of (h + 1) xs ys) (row_of (h + 1) ks' hs') part (row_ok h small))).0

    more_differ : pairs_by differ (l ∷ row_of (h + 1) ks hs) ≡ true
    more_differ = sym (reordered_pairs differ differ_turn more) ∙ part_pairs differ differ_turn (row_of (h + 1) xs ys) (row_of (h + 1) ks' hs') part (row_differ h small)

    more_long : length (row_of (h + 1) ks hs) + 1 ≤ length (row_of (h + 1) xs ys)
    more_long = let a = reordered_length more in let c = part_length (row_of (h + 1) xs ys) (row_of (h + 1) ks' hs') part in omega arith

    pub more_room : length (in_use (tenant_at b h)) < 16
    more_room =
        let a = ap (λ (t : TenantLeases). length (in_use t)) (tenant_is (merged_from 1 8 ks hs) b eb h l) in
        let c = ap length (read_back (get_or (merged_from 1 8 ks hs) h [])) in
        let d = ap length (merged_at 8 1 h ks hs small) in
        let e = arranged_length ordered (row_of (h + 1) ks hs) in
        let f = more_long in
        let g = row_few h small in
        omega arith

    pub more_known : (t : ℕ) → t ≡ h + 1 → known_tenant st t ≡ true
    unfolding known_tenant one_to
    more_known t e = let f = more_long in let k = row_known h small (omega arith) in and_both (le-leb 1 t (omega arith)) (le-leb t (tenants_in st) (omega arith))

    pub more_first : (t : ℕ) → t - 1 ≡ h → first_rule (rules_of st (with_record b t l)) ≡ 0
    more_first t e =
        ap (λ (y : LeaseTable). first_rule (rules_of st y)) (table_more_row ks ks' hs hs' h small l more others b eb t e more_room more_differ)
        ∙ sound_first st (table_of (merged_from 1 8 ks' hs')) (prefix_sound ks' ls hs' gs ex ey)
