-- Laws: the records of some leases and holds, with one lease or hold more: the tenant's with it inserted, the others' as they were.
use mathlib.Core.Bool.{Bool, false, true}
use mathlib.Core.List.Permᴰ
use mathlib.Core.List.{List, [], ◌++◌, ◌∷◌, append_assoc, append-nil, map, map-append}
use mathlib.Core.Path.{◌∙◌, ◌≡◌, ap, refl, subst, sym}
use Prim.Native.Nat.{◌+◌, ◌-◌, ◌<◌, suc, zero, ℕ}
use native.Mathlib.Omega.{arith}
use lib.Dec.{eqb}
use lib.ListN.{get_or, length, length-set, set, get_or-map}
use lib.Seq.{ext_get_or, get_or-set_other, get_or-set_same}
use borrow.Author.Tests.{eq-eqb, eqb-false, eqb-true, ne_eqb}
use Rattle.lists.specs.All.{all_by, pairs_by}
use Rattle.lists.specs.Arranged.{arranged}
use Rattle.lists.specs.Filter.{filter_by}
use Rattle.lists.specs.Pick.{pick}
use Rattle.lists.specs.Reordered.{Reordered}
use Rattle.lists.specs.laws.Arranged.{arranged_same}
use Rattle.lists.specs.laws.Filter.{filter_append}
use Rattle.lists.specs.laws.Pick.{pick_lt}
use Rattle.lists.specs.laws.Reordered.{reordered_pairs}
use Rattle.format.specs.Tenants.{own}
use Rattle.state.specs.Book.{differ, in_use, insert_of, inserted_by, inserted_in, laid_out, leases_of, ordered, put_at, table_of, tenant_at}
use Rattle.state.specs.declared.Lease.{Lease}
use Rattle.state.specs.declared.LeaseTable.{LeaseTable}
use Rattle.state.specs.laws.Layout.{put_laid, read_back, table_back}
use Rattle.state.specs.laws.Sorted.{differ_turn}
use Rattle.state.proofs.Sorted.{rising}
use Rattle.soundness.specs.laws.Added.{sound_at}
use Rattle.lease_file.specs.Records.{hold_tenant, lease_tenant, merged_from, stored, stored_hold}
use Rattle.lease_file.specs.Section.{FileHold, FileLease}
use Rattle.lease_file.specs.laws.Merge.{arranged_differ}
use Rattle.salvage_rules.specs.Rules.{with_record}

-- a tenant's holds and leases
abbrev pub row_of : ℕ → List FileLease → List FileHold → List Lease
row_of u xs ys = map stored_hold (own hold_tenant u ys) ++ map stored (own lease_tenant u xs)

pub merged_long : (n t : ℕ) (xs : List FileLease) (ys : List FileHold) → length (merged_from t n xs ys) ≡ n
unfolding merged_from
merged_long zero t xs ys = refl
merged_long (suc n) t xs ys = ap suc (merged_long n (suc t) xs ys)

pub merged_at : (n t i : ℕ) (xs : List FileLease) (ys : List FileHold) → i < n → get_or (merged_from t n xs ys) i [] ≡ arranged ordered (row_of (i + t) xs ys)
unfolding merged_from
merged_at zero t i xs ys h = absurd (omega arith)
merged_at (suc n) t zero xs ys h = ap (λ (u : ℕ). arranged ordered (row_of u xs ys)) (let e : t ≡ 0 + t = omega arith in e)
merged_at (suc n) t (suc i) xs ys h = merged_at n (suc t) i xs ys (omega arith) ∙ ap (λ (u : ℕ). arranged ordered (row_of u xs ys)) (let e : i + suc t ≡ suc i + t = omega arith in e)

-- ---- one more at the end of a section
module _ {A : Type 0} (key : A → ℕ) (u : ℕ) (l : List A) (x : A) where
  pub own_more : key x ≡ u → own key u (l ++ x ∷ []) ≡ own key u l ++ x ∷ []
  unfolding filter_by pick
  own_more e = filter_append (λ y. eqb (key y) u) l (x ∷ []) ∙ ap (λ (b : Bool). own key u l ++ pick b (x ∷ []) []) (eq-eqb (key x) u e)

  pub own_less : (key x ≡ u → ⊥) → own key u (l ++ x ∷ []) ≡ own key u l
  unfolding filter_by pick
  own_less n = filter_append (λ y. eqb (key y) u) l (x ∷ []) ∙ ap (λ (b : Bool). own key u l ++ pick b (x ∷ []) []) (ne_eqb (key x) u n) ∙ append-nil (own key u l)

pub lease_row : (u : ℕ) (ks : List FileLease) (hs : List FileHold) (x : FileLease) → x.tenant ≡ u → Reordered (row_of u (ks ++ x ∷ []) hs) (stored x ∷ row_of u ks hs)
lease_row u ks hs x e =
    let H : List Lease = map stored_hold (own hold_tenant u hs) in
    let S : List Lease = map stored (own lease_tenant u ks) in
    let q : row_of u (ks ++ x ∷ []) hs ≡ (map stored_hold (own hold_tenant u hs) ++ map stored (own lease_tenant u ks)) ++ stored x ∷ [] =
    ap (λ (l : List FileLease). map stored_hold (own hold_tenant u hs) ++ map stored l) (own_more lease_tenant u ks x e)
    ∙ ap (λ (l : List Lease). map stored_hold (own hold_tenant u hs) ++ l) (map-append stored (own lease_tenant u ks) (x ∷ []))
    ∙ sym (append_assoc (map stored_hold (own hold_tenant u hs)) (map stored (own lease_tenant u ks)) (stored x ∷ [])) in
    subst (λ (l : List Lease). Reordered l (stored x ∷ row_of u ks hs)) (sym q)
    (subst (λ (l : List Lease). Reordered (row_of u ks hs ++ stored x ∷ []) (stored x ∷ l)) (append-nil (row_of u ks hs)) (Permᴰ.middle (stored x) (row_of u ks hs) []))

pub lease_others : (u : ℕ) (ks : List FileLease) (hs : List FileHold) (x : FileLease) → (x.tenant ≡ u → ⊥) → row_of u (ks ++ x ∷ []) hs ≡ row_of u ks hs
lease_others u ks hs x n = ap (λ (l : List FileLease). map stored_hold (own hold_tenant u hs) ++ map stored l) (own_less lease_tenant u ks x n)

pub hold_row : (u : ℕ) (ks : List FileLease) (hs : List FileHold) (y : FileHold) → y.lease.tenant ≡ u → Reordered (row_of u ks (hs ++ y ∷ [])) (stored_hold y ∷ row_of u ks hs)
hold_row u ks hs y e =
    let q : row_of u ks (hs ++ y ∷ []) ≡ map stored_hold (own hold_tenant u hs) ++ stored_hold y ∷ map stored (own lease_tenant u ks) =
    ap (λ (l : List FileHold). map stored_hold l ++ map stored (own lease_tenant u ks)) (own_more hold_tenant u hs y e)
    ∙ ap (λ (l : List Lease). l ++ map stored (own lease_tenant u ks)) (map-append stored_hold (own hold_tenant u hs) (y ∷ []))
    ∙ append_assoc (map stored_hold (own hold_tenant u hs)) (stored_hold y ∷ []) (map stored (own lease_tenant u ks)) in
    subst (λ (l : List Lease). Reordered l (stored_hold y ∷ row_of u ks hs)) (sym q) (Permᴰ.middle (stored_hold y) (map stored_hold (own hold_tenant u hs)) (map stored (own lease_tenant u ks)))

pub hold_others : (u : ℕ) (ks : List FileLease) (hs : List FileHold) (y : FileHold) → (y.lease.tenant ≡ u → ⊥) → row_of u ks (hs ++ y ∷ []) ≡ row_of u ks hs
hold_others u ks hs y n = ap (λ (l : List FileHold). map stored_hold l ++ map stored (own lease_tenant u ks)) (own_less hold_tenant u hs y n)

-- ---- the records of one tenant with one more, where there is room
module _ (ls : List (List Lease)) (b : LeaseTable) (eb : b ≡ table_of ls) (h : ℕ) (l : Lease) where
  pub tenant_is : tenant_at b h ≡ laid_out (get_or ls h [])
  unfolding table_of
  tenant_is = ap (λ (y : LeaseTable). tenant_at y h) eb ∙ get_or-map laid_out ls h []

  inserted_is : length (in_use (tenant_at b h)) < 16 → inserted_in l (tenant_at b h) ≡ laid_out (insert_of l (get_or ls h []))
  unfolding inserted_by
  inserted_is few =
      sym (pick_lt (laid_out (insert_of l (in_use (tenant_at b h)))) (tenant_at b h) (laid_out (insert_of l (get_or ls h []))) (length (in_use (tenant_at b h))) 16 few
      (sym (ap (λ (x : List Lease). laid_out (insert_of l x)) (ap in_use tenant_is ∙ read_back (get_or ls h [])))))

  pub with_lists : (t : ℕ) → t - 1 ≡ h → length (in_use (tenant_at b h)) < 16 → with_record b t l ≡ table_of (set ls h (insert_of l (get_or ls h [])))
  unfolding with_record
  with_lists t e few = ap (λ (k : ℕ). put_at b k (inserted_in l (tenant_at b k))) e ∙ put_laid ls b h (inserted_in l (tenant_at b h)) (insert_of l (get_or ls h [])) eb (inserted_is few)

-- ---- ks' and hs' have just l more, of tenant h + 1
module _ (ks ks' : List FileLease) (hs hs' : List FileHold) (h : ℕ) (small : h < 8) (l : Lease) (more : Reordered (row_of (h + 1) ks' hs') (l ∷ row_of (h + 1) ks hs))
    (others : (u : ℕ) → (u ≡ h + 1 → ⊥) → row_of u ks' hs' ≡ row_of u ks hs) where
  row_inserted : pairs_by differ (l ∷ row_of (h + 1) ks hs) ≡ true → arranged ordered (row_of (h + 1) ks' hs') ≡ insert_of l (arranged ordered (row_of (h + 1) ks hs))
  unfolding arranged
  row_inserted d = arranged_same differ ordered rising more (reordered_pairs differ differ_turn more ∙ d)

  lists_more : pairs_by differ (l ∷ row_of (h + 1) ks hs) ≡ true → merged_from 1 8 ks' hs' ≡ set (merged_from 1 8 ks hs) h (insert_of l (get_or (merged_from 1 8 ks hs) h []))
  lists_more d =
      ext_get_or [] (merged_from 1 8 ks' hs') (set (merged_from 1 8 ks hs) h (insert_of l (get_or (merged_from 1 8 ks hs) h [])))
      (merged_long 8 1 ks' hs' ∙ sym (length-set (merged_from 1 8 ks hs) h (insert_of l (get_or (merged_from 1 8 ks hs) h [])) ∙ merged_long 8 1 ks hs)) at
    where
      at : (i : ℕ) → i < length (merged_from 1 8 ks' hs') → get_or (merged_from 1 8 ks' hs') i [] ≡ get_or (set (merged_from 1 8 ks hs) h (insert_of l (get_or (merged_from 1 8 ks hs) h []))) i []
      at i p = go (eqb i h) refl
        where
          below : i < 8
          below = let k = merged_long 8 1 ks' hs' in omega arith

          go : (c : Bool) → eqb i h ≡ c → get_or (merged_from 1 8 ks' hs') i [] ≡ get_or (set (merged_from 1 8 ks hs) h (insert_of l (get_or (merged_from 1 8 ks hs) h []))) i []
          go true e =
              let q : i ≡ h = eqb-true i h e in
              merged_at 8 1 i ks' hs' below ∙ ap (λ (k : ℕ). arranged ordered (row_of (k + 1) ks' hs')) q ∙ row_inserted d
              ∙ ap (insert_of l) (sym (merged_at 8 1 h ks hs small))
              ∙ sym (get_or-set_same (merged_from 1 8 ks hs) h (insert_of l (get_or (merged_from 1 8 ks hs) h [])) [] (let k = merged_long 8 1 ks hs in omega arith))
              ∙ ap (λ (k : ℕ). get_or (set (merged_from 1 8 ks hs) h (insert_of l (get_or (merged_from 1 8 ks hs) h []))) k []) (sym q)
          go false e =
              let n : i ≡ h → ⊥ = eqb-false i h e in
              merged_at 8 1 i ks' hs' below ∙ ap (arranged ordered) (others (i + 1) (λ z. n (let y : i ≡ h = omega arith in y))) ∙ sym (merged_at 8 1 i ks hs below)
              ∙ sym (get_or-set_other (merged_from 1 8 ks hs) h i (insert_of l (get_or (merged_from 1 8 ks hs) h [])) [] n)

  -- so the records with l are those of both, where identifiers differ in them
  module _ (b : LeaseTable) (eb : b ≡ table_of (merged_from 1 8 ks hs)) (t : ℕ) (et : t - 1 ≡ h) (few : length (in_use (tenant_at b h)) < 16) where
    row_differs : all_by (pairs_by differ) (leases_of (with_record b t l)) ≡ true → pairs_by differ (l ∷ row_of (h + 1) ks hs) ≡ true
    unfolding pairs_by arranged
    row_differs d =
        let M : List (List Lease) = merged_from 1 8 ks hs in
        let q : leases_of (with_record b t l) ≡ set (merged_from 1 8 ks hs) h (insert_of l (get_or (merged_from 1 8 ks hs) h [])) = ap leases_of (with_lists (merged_from 1 8 ks hs) b eb h l t et few) ∙ table_back (set (merged_from 1 8 ks hs) h (insert_of l (get_or (merged_from 1 8 ks hs) h []))) in
        let at : get_or (set (merged_from 1 8 ks hs) h (insert_of l (get_or (merged_from 1 8 ks hs) h []))) h [] ≡ arranged ordered (l ∷ row_of (h + 1) ks hs) =
        get_or-set_same (merged_from 1 8 ks hs) h (insert_of l (get_or (merged_from 1 8 ks hs) h [])) [] (let k = merged_long 8 1 ks hs in omega arith) ∙ ap (insert_of l) (merged_at 8 1 h ks hs small) in
        sym (arranged_differ ordered (l ∷ row_of (h + 1) ks hs)) ∙ ap (pairs_by differ) (sym at)
        ∙ sound_at (pairs_by differ) (set (merged_from 1 8 ks hs) h (insert_of l (get_or (merged_from 1 8 ks hs) h []))) h refl (ap (all_by (pairs_by differ)) (sym q) ∙ d)

    pub table_more_row : pairs_by differ (l ∷ row_of (h + 1) ks hs) ≡ true → with_record b t l ≡ table_of (merged_from 1 8 ks' hs')
    table_more_row d = with_lists (merged_from 1 8 ks hs) b eb h l t et few ∙ ap table_of (sym (lists_more d))

    pub table_more : all_by (pairs_by differ) (leases_of (with_record b t l)) ≡ true → with_record b t l ≡ table_of (merged_from 1 8 ks' hs')
    table_more d = table_more_row (row_differs d)
