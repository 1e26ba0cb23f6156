-- Laws: reading the sections into records: an entry into a record, the records tenant by tenant, the holds before the leases, and then arranged.
use Rattle.std.specs.Prelude.{Bool, false, true, ◌≡◌, ◌+◌, ◌-◌, ◌<◌, ◌≤◌, suc, zero, ℕ, drop, replicate, take}
use mathlib.Core.List.{List, [], ◌∷◌, ◌++◌, map, map-map}
use Rattle.std.proofs.Common.{◌∙◌, arith, get_or-append-add, get_or-drop, length-take}
use Rattle.std.proofs.Math.Path.{ap, ap₂, refl, sym}
use Rattle.std.proofs.Math.ListN.{get_or, length, set}
use Rattle.std.proofs.lemmas.List.{length-map}
use borrow.Author.Tests.{leb-true}
use Rattle.address_set.specs.AddressSet.{read_offsets}
use Rattle.format.specs.Section.{Inside}
use Rattle.format.specs.Tenants.{apart, own, per_tenant}
use Rattle.format.specs.laws.Entries.{keep_fold, tenants_end, tenants_start}
use Rattle.lists.specs.All.{all_by, all_to}
use Rattle.lists.specs.Pick.{pick}
use Rattle.lists.specs.Row.{laid_row}
use Rattle.lists.specs.laws.All.{to_each}
use Rattle.lists.specs.laws.Each.{EachInv, each_end, each_next, each_start}
use Rattle.lists.specs.laws.Part.{unmapped}
use Rattle.lists.specs.laws.Pick.{both, pick_lt, pick_not_lt}
use Rattle.octets.specs.Octets.{at32}
use Rattle.octets.specs.laws.Run.{part_length}
use Rattle.lists.specs.Arranged.{arranged}
use Rattle.state.specs.Book.{by_identifier, in_use, laid_out, lapsing_at, lease_with, no_leases, order_for, ordered, pushed, table_of}
use Rattle.state.specs.declared.Lease.{Lease}
use Rattle.state.specs.declared.OrderBy.TheVariants.{Ending, Identifier}
use Rattle.state.specs.declared.LeaseTable.{LeaseTable}
use Rattle.state.specs.declared.TenantLeases.{TenantLeases}
use Rattle.state.specs.laws.Layout.{push_laid, read_back}
use Rattle.lease_file.specs.Place.{EntriesFit, EntriesIn, StorableAt, after_entry, after_lease, entries_in, entry_at, file_lease_at, filled, kept_all, kept_from, kept_holds, tail_of}
use Rattle.lease_file.specs.Records.{entry_fit_b, few_of, hold_tenant, in_file_order, lease_tenant, merged_from, records_fit_b, stored, stored_entry, stored_hold}
use Rattle.lease_file.specs.Rows.{by_ending_all}
use Rattle.lease_file.specs.Section.{Entry, FileHold, FileLease, entry_tenant, lease_in}
use Rattle.lease_file.specs.laws.Form.{next_at}
use Rattle.lease_file.specs.laws.Limits.{EntryInv, entries_fit_law, entry_held, entry_inside, entry_turn}

-- ---- one entry
stored_entry_law : (holds : Bool) (s : List ℕ) (at : ℕ) → lapsing_at (pick holds (at32 s (after_lease s at)) 0) (stored (file_lease_at s at)) ≡ stored_entry holds (entry_at holds s at)
unfolding stored_entry entry_at stored_hold stored pick
stored_entry_law true s at = refl
stored_entry_law false s at = refl

module _ {holds : Bool} {s : List ℕ} {at n k : ℕ} (en : n ≡ get_or s (at + 2) 0) (ek : k ≡ get_or s (at + (n + 16)) 0) (v : StorableAt holds s at) where
  count : k ≡ get_or s (at + (get_or s (at + 2) 0 + 16)) 0
  count = ek ∙ ap (λ (z : ℕ). get_or s (at + (z + 16)) 0) en

  pub lease_room : (n ≤ 32) × (at + (n + 17 + k) + tail_of holds ≤ length s)
  lease_room = let c = count in (omega (arith, v.ids), omega (arith, v.room))

  pub record_stored : (id : List ℕ) (x b e m y : ℕ) → id ≡ laid_row 0 32 (take n (drop (at + 3) s)) → x ≡ at32 s (at + (n + 4)) → b ≡ at32 s (at + (n + 8)) → e ≡ at32 s (at + (n + 12))
      → m ≡ read_offsets (take (at + (n + 17 + k) - (at + (n + 17))) (drop (at + (n + 17)) s)) → y ≡ pick holds (at32 s (at + (n + 17 + k))) 0
      → lapsing_at y (lease_with (get_or s (at + 1) 0) (get_or s (at + 2) 0) id (get_or s (at + (n + 3)) 0) x b e m) ≡ stored_entry holds (entry_at holds s at)
  unfolding stored file_lease_at
  record_stored id x b e m y pi px pb pe pm py =
      ap₂ (λ (z : ℕ) (l : Lease). lapsing_at z l) (py ∙ ap (λ (z : ℕ). pick holds (at32 s z) 0) (next_at s at n k en ek)) lease ∙ stored_entry_law holds s at
    where
      lease : lease_with (get_or s (at + 1) 0) (get_or s (at + 2) 0) id (get_or s (at + (n + 3)) 0) x b e m ≡ stored (file_lease_at s at)
      lease =
          let c = count in
          let l : get_or s (at + 2) 0 ≡ length (take (get_or s (at + 2) 0) (drop (at + 3) s)) = sym (part_length s (at + 3) (get_or s (at + 2) 0) (omega (arith, v.room))) in
          let qi : id ≡ laid_row 0 32 (take (get_or s (at + 2) 0) (drop (at + 3) s)) = pi ∙ ap (λ (z : ℕ). laid_row 0 32 (take z (drop (at + 3) s))) en in
          let qk : get_or s (at + (n + 3)) 0 ≡ get_or s (at + (get_or s (at + 2) 0 + 3)) 0 = ap (λ (z : ℕ). get_or s (at + (z + 3)) 0) en in
          let qx : x ≡ at32 s (at + (get_or s (at + 2) 0 + 4)) = px ∙ ap (λ (z : ℕ). at32 s (at + (z + 4))) en in
          let qb : b ≡ at32 s (at + (get_or s (at + 2) 0 + 8)) = pb ∙ ap (λ (z : ℕ). at32 s (at + (z + 8))) en in
          let qe : e ≡ at32 s (at + (get_or s (at + 2) 0 + 12)) = pe ∙ ap (λ (z : ℕ). at32 s (at + (z + 12))) en in
          let qm : m ≡ read_offsets (take (get_or s (at + (get_or s (at + 2) 0 + 16)) 0) (drop (at + (get_or s (at + 2) 0 + 17)) s)) = pm ∙ ap (λ (x : ℕ). read_offsets (take x (drop (at + (n + 17)) s))) (let q : at + (n + 17 + k) - (at + (n + 17)) ≡ k = omega arith in q) ∙ ap₂ (λ (y z : ℕ). read_offsets (take y (drop (at + (z + 17)) s))) c en in
          cc

-- ---- a section's entries, tenant by tenant
abbrev pub push_one : (holds : Bool) → TenantLeases → Entry holds → TenantLeases
push_one holds h x = pushed h (stored_entry holds x)

-- hs is what each tenant has first
pub record FillInv (holds : Bool) (s : List ℕ) (at count : ℕ) (hs tenants : List TenantLeases) (here i : ℕ) : Type 0 where
  pub inv : EntryInv holds (push_one holds) (λ k. get_or hs k no_leases) no_leases s at count tenants here i

pub fill_start : {holds : Bool} {s : List ℕ} {at count : ℕ} {hs : List TenantLeases} → length hs ≡ 8 → EntriesFit holds s at → count ≡ get_or s at 0 → FillInv holds s at count hs hs (at + 1) 0
fill_start {holds} {s} {at} {count} {hs} l h q = record {
  inv = record { many = q; inv = tenants_start (entry_tenant holds) (entry_at holds) (push_one holds) no_leases (λ k. get_or hs k no_leases) hs l (λ k m. refl) h.each };
}

module _ {holds : Bool} {s : List ℕ} {at count : ℕ} {hs tenants : List TenantLeases} {here i : ℕ} (v : FillInv holds s at count hs tenants here i) where
  pub fill_held : i < count → StorableAt holds s here
  fill_held h = entry_held v.inv h

  pub fill_inside : i < count → Inside (after_entry holds) s here
  fill_inside h = entry_inside v.inv h

  turned : (j k : ℕ) (l : Lease) (x : TenantLeases) → i < count → j ≡ get_or s here 0 - 1 → l ≡ stored_entry holds (entry_at holds s here) → k ≡ after_entry holds s here → x ≡ pushed (get_or tenants j no_leases) l
      → EntryInv holds (push_one holds) (λ k. get_or hs k no_leases) no_leases s at count (set tenants j x) k (i + 1)
  turned j k l x h e p q w = entry_turn v.inv j k x h e (w ∙ ap (pushed (get_or tenants j no_leases)) p) q

  pub fill_next : (j k : ℕ) (l : Lease) → i < count → j ≡ get_or s here 0 - 1 → l ≡ stored_entry holds (entry_at holds s here) → k ≡ after_entry holds s here → (get_or tenants j no_leases).count < 16
      → FillInv holds s at count hs (set tenants j (record { leases = set (get_or tenants j no_leases).leases (get_or tenants j no_leases).count l; count = (get_or tenants j no_leases).count + 1 })) k (i + 1)
  unfolding pushed
  fill_next j k l h e p q m = record {
    inv = turned j k l _ h e p q (pick_lt _ (get_or tenants j no_leases) _ (get_or tenants j no_leases).count 16 m refl);
  }

  pub fill_full : (j k : ℕ) (l : Lease) → i < count → j ≡ get_or s here 0 - 1 → l ≡ stored_entry holds (entry_at holds s here) → k ≡ after_entry holds s here → 16 ≤ (get_or tenants j no_leases).count
      → FillInv holds s at count hs (set tenants j (get_or tenants j no_leases)) k (i + 1)
  unfolding pushed
  fill_full j k l h e p q m = record {
    inv = turned j k l (get_or tenants j no_leases) h e p q (pick_not_lt _ (get_or tenants j no_leases) _ (get_or tenants j no_leases).count 16 m refl);
  }

  pub fill_end : count ≤ i → tenants ≡ filled holds hs (entries_in holds s at)
  fill_end h = tenants_end v.inv.inv (λ t. kept_from holds t (get_or hs (t - 1) no_leases) (entries_in holds s at)) (λ k. let e : k ≡ k + 1 - 1 = omega arith in ap (λ (j : ℕ). kept_from holds (k + 1) (get_or hs j no_leases) (entries_in holds s at)) e) (let e = v.inv.many in omega arith)

pub ruleset fills = (fill_start, fill_next, fill_full, fill_held, fill_inside, fill_end, unmapped)

-- the holds, and the leases behind them, of eight that have none
both_filled : (z : TenantLeases) (xs : List FileLease) (ys : List FileHold) → z ≡ laid_out [] → filled false (filled true (replicate 8 z) ys) xs ≡ kept_all xs ys
unfolding kept_all per_tenant
both_filled z xs ys e = ap (λ (y : TenantLeases). filled false (filled true (replicate 8 y) ys) xs) e

pub all_arranged : {out h₁ h₂ : List TenantLeases} {z : TenantLeases} (xs : List FileLease) (ys : List FileHold) → z ≡ laid_out [] → h₁ ≡ filled true (replicate 8 z) ys → h₂ ≡ filled false h₁ xs
    → out ≡ map (λ t. laid_out (arranged (order_for Ending) (in_use t))) h₂ → out ≡ by_ending_all (kept_all xs ys)
unfolding order_for
all_arranged {z = z} xs ys e f g h = h ∙ ap by_ending_all (g ∙ ap (λ (hs : List TenantLeases). filled false hs xs) f ∙ both_filled z xs ys e)

-- a loop that replaces each element of the list that it goes over: the one whose turn it is stands there still
module _ {A : Type 0} {g : A → A} {d : A} {l : List A} {n : ℕ} {now : List A} {i : ℕ} (v : EachInv g d l n now i) where
  pub each_turn : {x : A} → i < n → x ≡ g (get_or now i d) → EachInv g d l n (set now i x) (i + 1)
  each_turn {x} h p =
      let a = length-map (take i l) g in
      let b = length-take i l in
      let q = v.within in
      let r = v.long in
      let e : length (map g (take i l)) ≡ i = omega arith in
      let f : get_or now i d ≡ get_or l i d =
      ap₂ (λ (w : List A) (j : ℕ). get_or w j d) v.whole (let z : i ≡ length (map g (take i l)) + 0 = omega arith in z)
      ∙ get_or-append-add (map g (take i l)) (drop i l) 0 d ∙ get_or-drop i l 0 d ∙ ap (λ (j : ℕ). get_or l j d) (let z : i + 0 ≡ i = omega arith in z) in
      each_next v h (p ∙ ap g f)

pub ruleset turns = (each_start, each_turn, each_end, unmapped)

-- all tenants' in the order of the file
pub filed_order : (b now : LeaseTable) → now.tenants ≡ map (λ t. laid_out (arranged (order_for Identifier) (in_use t))) b.tenants → now ≡ in_file_order b
unfolding in_file_order table_of order_for
filed_order b now e =
    ap {B = LeaseTable} (λ (l : List TenantLeases). record { tenants = l })
    (e ∙ sym (ap (map laid_out) (map-map (arranged by_identifier) in_use b.tenants) ∙ map-map laid_out (λ t. arranged by_identifier (in_use t)) b.tenants))

-- as lists
unfoldable pub paired : {A : Type 0} → List A → List A → List (A × A)
paired [] ys = []
paired (x ∷ xs) [] = []
paired (x ∷ xs) (y ∷ ys) = (x, y) ∷ paired xs ys

abbrev pub insert_each : List (List Lease) → List (List Lease) → List (List Lease)
insert_each ls hs = map (λ p. arranged ordered (p.1 ++ p.0)) (paired ls hs)

pub merged_pairs : (n t : ℕ) (xs : List FileLease) (ys : List FileHold) → merged_from t n xs ys ≡ insert_each (map (map stored) (apart lease_tenant t n xs)) (map (map stored_hold) (apart hold_tenant t n ys))
unfolding merged_from apart paired
merged_pairs zero t xs ys = refl
merged_pairs (suc n) t xs ys = ap {B = List (List Lease)} (λ (l : List (List Lease)). arranged ordered (map stored_hold (own hold_tenant t ys) ++ map stored (own lease_tenant t xs)) ∷ l) (merged_pairs n (suc t) xs ys)

-- what the entries of each tenant fill, arranged
kept_merged : (n t : ℕ) (xs : List FileLease) (ys : List FileHold) → ((i : ℕ) → i < n → length (own lease_tenant (i + t) xs) + length (own hold_tenant (i + t) ys) ≤ 16)
    → by_ending_all (per_tenant (λ t. kept_from false t (kept_holds ys t) xs) t n) ≡ map laid_out (merged_from t n xs ys)
unfolding merged_from per_tenant stored_entry lease_in
kept_merged zero t xs ys h = refl
kept_merged (suc n) t xs ys h =
    let g = h 0 (omega arith) in
    let q : 0 + t ≡ t = omega arith in
    let a = ap (λ (k : ℕ). length (own lease_tenant k xs)) q in
    let b = ap (λ (k : ℕ). length (own hold_tenant k ys)) q in
    let d = length-map (own hold_tenant t ys) stored_hold in
    ap₂ {C = List TenantLeases} (λ (x : TenantLeases) (l : List TenantLeases). x ∷ l)
    (ap (λ (x : TenantLeases). laid_out (arranged ordered (in_use x)))
    (ap (λ (x : TenantLeases). kept_from false t x xs) (keep_fold hold_tenant stored_hold 16 laid_out pushed push_laid t ys [] (omega arith))
    ∙ keep_fold lease_tenant stored 16 laid_out pushed push_laid t xs (map stored_hold (own hold_tenant t ys)) (omega arith))
    ∙ ap (λ (l : List Lease). laid_out (arranged ordered l)) (read_back (map stored_hold (own hold_tenant t ys) ++ map stored (own lease_tenant t xs))))
    (kept_merged n (suc t) xs ys (λ i k.
    let e : suc i + t ≡ i + suc t = omega arith in
    let u = ap (λ (k : ℕ). length (own lease_tenant k xs)) e in
    let w = ap (λ (k : ℕ). length (own hold_tenant k ys)) e in
    let z = h (suc i) (omega arith) in omega arith))

-- ---- both sections
module _ (xs : List FileLease) (ys : List FileHold) (e : records_fit_b xs ys ≡ true) where
  pub fits_parts : (all_by (entry_fit_b false) xs ≡ true) × (all_by (entry_fit_b true) ys ≡ true) × (all_to (λ i. few_of xs ys (i + 1)) 8 ≡ true)
  unfolding records_fit_b entry_fit_b
  fits_parts = let p = both _ _ e in let q = both _ _ p.1 in (p.0, q.0, q.1)

  few_each : (i : ℕ) → i < 8 → length (own lease_tenant (i + 1) xs) + length (own hold_tenant (i + 1) ys) ≤ 16
  unfolding few_of
  few_each i h = leb-true _ 16 (to_each (λ i. few_of xs ys (i + 1)) 8 fits_parts.2 i h)

  pub table_is : (ts : List TenantLeases) → ts ≡ by_ending_all (kept_all xs ys) → ◌≡◌ {A = LeaseTable} (record { tenants = ts }) (table_of (merged_from 1 8 xs ys))
  unfolding table_of kept_all
  table_is ts et = ap {B = LeaseTable} (λ (l : List TenantLeases). record { tenants = l }) (et ∙ kept_merged 8 1 xs ys few_each)

module _ (s : List ℕ) (at bt : ℕ) (v : EntriesIn false s at) (w : EntriesIn true s bt) (e : records_fit_b (entries_in false s at) (entries_in true s bt) ≡ true) where
  pub leases_held : EntriesFit false s at
  leases_held = entries_fit_law false s at v (sym (fits_parts (entries_in false s at) (entries_in true s bt) e).0) refl

  pub holds_held : EntriesFit true s bt
  holds_held = entries_fit_law true s bt w (sym (fits_parts (entries_in false s at) (entries_in true s bt) e).1) refl
