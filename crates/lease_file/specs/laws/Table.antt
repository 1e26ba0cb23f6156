-- Laws: both sections read and written again, and the records written and read again: each gives the other back. What is written has the sections' formats,
-- the records can hold it, and it has no more octets than 128 records together.
use Rattle.std.specs.Prelude.{Bool, not, ◌≡◌, eqb, ltb, get_or, take}
use Rattle.std.proofs.Math.Bool.{false, true}
use mathlib.Core.List.{List, [], ◌∷◌, ◌++◌, map}
use Rattle.std.proofs.Common.{◌∙◌, subst, sym, length-append, length-take}
use Rattle.std.proofs.Math.Path.{ap, ap₂, refl}
use Prim.Native.Nat.{◌*◌, ◌+◌, ◌<◌, ◌≤◌, suc, zero, ℕ}
use native.Mathlib.Omega.{arith}
use Rattle.std.proofs.Math.ListN.{get_or-map, length}
use Rattle.std.proofs.lemmas.List.{length-map}
use borrow.Author.Tests.{eqb-true, le-leb, le-ltb, lt-ltb, ne_eqb}
use Rattle.address_set.specs.AddressSet.{offsets}
use Rattle.address_set.specs.laws.Bits.{length_offsets}
use Rattle.address_set.specs.laws.Offsets.{offsets_small, rises_offsets}
use Rattle.format.specs.Section.{ordered_from}
use Rattle.format.specs.Tenants.{apart, filed_all, own}
use Rattle.format.specs.laws.Rows.{write_most}
use Rattle.format.specs.laws.Tenants.{apart_at, entries_again, entries_back, filed_each, filed_most, filed_ordered, sorted_up}
use Rattle.identifier.specs.Order.{order_of}
use Rattle.lists.specs.All.{All, all_by, all_to, pairs_by}
use Rattle.lists.specs.Filter.{filter_by}
use Rattle.lists.specs.Pick.{pick}
use Rattle.lists.specs.laws.All.{all_facts, all_head, all_map, all_mapped, all_take, all_tests, each_to, one_fact, pairs_map, pairs_same, two_facts}
use Rattle.lists.specs.laws.Filter.{filter_all, filter_both, filter_length, filter_pairs}
use Rattle.lists.specs.Arranged.{arranged}
use Rattle.state.specs.Book.{by_identifier, differ, id_of, in_use, is_hold, is_lease, laid_out, leases_of, ordered, table_of}
use Rattle.state.specs.declared.Lease.{Lease}
use Rattle.state.specs.declared.LeaseTable.{LeaseTable}
use Rattle.state.specs.declared.TenantLeases.{TenantLeases}
use Rattle.state.specs.laws.Layout.{table_back}
use Rattle.lease_file.specs.Records.{entry_fit_b, few_of, filed_entry, filed_hold, filed_holds, filed_in, filed_lease, filed_leases, hold_fit_b, hold_tenant, in_file_order, lease_fit_b, lease_tenant, merged_from, of_kind, records_fit_b, storable_b, stored, stored_entry, stored_hold, table_octets}
use Rattle.lease_file.specs.Rows.{lapse_octets}
use Rattle.lease_file.specs.laws.Rows.{entry_long, lease_size}
use Rattle.lease_file.specs.Section.{Entry, FileHold, FileLease, entries_format, entry_after, entry_format, entry_key, entry_tenant, holds_format, is_after, lease_format, lease_in, leases_format}
use Rattle.lease_file.specs.laws.Load.{fits_parts, insert_each, merged_pairs, paired}
use Rattle.lease_file.specs.laws.Merge.{differ_back, differ_front, arranged_differ, merged_holds, merged_leases, merged_split, named_apart, risen, rises}
use Rattle.lease_file.specs.laws.Order.{not_first, order_sorted, own_rises}
use Rattle.lease_file.specs.laws.Records.{Neat, Storable, all_offsets, entry_again, entry_back, entry_id, entry_kind, entry_storable}

-- ---- read and written again
-- of either section: its entries are filed again, and each tenant's records rise and belong into it
module _ (holds : Bool) (xs : List (Entry holds)) (o : (entries_format holds).ok xs) (e : all_by (entry_fit_b holds) xs ≡ true) where
  storable : All (λ x. Storable (lease_in holds x)) xs
  storable = two_facts (λ x. entry_fit_b holds x ≡ true) (entry_format holds).ok (λ x. Storable (lease_in holds x)) xs (λ x p q. entry_storable holds x p q) (all_facts (entry_fit_b holds) (λ x. entry_fit_b holds x ≡ true) xs (λ x p. p) e) o.0.1

  section_again : filed_all (filed_entry holds) 1 (map (map (stored_entry holds)) (apart (entry_tenant holds) 1 8 xs)) ≡ xs
  section_again =
      entries_again (entry_tenant holds) (stored_entry holds) (filed_entry holds) (λ x. Storable (lease_in holds x)) (entry_again holds) 8 xs
      (sorted_up (entry_tenant holds) 0 1 xs (one_fact (λ x. Storable (lease_in holds x)) (λ x. 1 ≤ entry_tenant holds x) xs (λ x p. p.from) storable) (order_sorted (lease_in holds) (0, []) xs o.1))
      (one_fact (λ x. Storable (lease_in holds x)) (λ x. entry_tenant holds x < 1 + 8) xs (λ x p. p.to) storable) storable

  own_risen : (t : ℕ) → pairs_by rises (map (stored_entry holds) (own (entry_tenant holds) t xs)) ≡ true
  unfolding by_identifier
  own_risen t =
      pairs_map rises (stored_entry holds) (own (entry_tenant holds) t xs)
      ∙ pairs_same (λ x y. rises (stored_entry holds x) (stored_entry holds y)) (λ x y. not_first (lease_in holds x).id (lease_in holds y).id) (own (entry_tenant holds) t xs) (λ x y. ap₂ not_first (entry_id holds x) (entry_id holds y))
      ∙ own_rises (lease_in holds) t (0, []) xs o.1

  own_kind : (t : ℕ) → all_by (of_kind holds) (map (stored_entry holds) (own (entry_tenant holds) t xs)) ≡ true
  own_kind t =
      all_map (of_kind holds) (stored_entry holds) (own (entry_tenant holds) t xs)
      ∙ filter_all (λ x. of_kind holds (stored_entry holds x)) (λ x. eqb (entry_tenant holds x) t) xs
      (all_tests (λ x. of_kind holds (stored_entry holds x)) (λ x. entry_fit_b holds x ≡ true) xs (entry_kind holds) (all_facts (entry_fit_b holds) (λ x. entry_fit_b holds x ≡ true) xs (λ x p. p) e))

-- the lists of a table in the order of the file
pub filed_lists : (ls : List (List Lease)) → leases_of (in_file_order (table_of ls)) ≡ map (arranged by_identifier) ls
unfolding in_file_order
filed_lists ls = table_back (map (arranged by_identifier) (leases_of (table_of ls))) ∙ ap (map (arranged by_identifier)) (table_back ls)

-- both sections put together, and taken apart by kind
module _ (xs : List FileLease) (ys : List FileHold) (ox : leases_format.ok xs) (oy : holds_format.ok ys) (e : records_fit_b xs ys ≡ true) where
  ok_false : (entries_format false).ok xs
  unfolding entry_format lease_in
  ok_false = ox

  ok_true : (entries_format true).ok ys
  unfolding entry_format lease_in
  ok_true = oy

  module _ (t : ℕ) (d : pairs_by differ (arranged ordered (map stored_hold (own hold_tenant t ys) ++ map stored (own lease_tenant t xs))) ≡ true) where
    abbrev H : List Lease
    H = map stored_hold (own hold_tenant t ys)

    abbrev L : List Lease
    L = map stored (own lease_tenant t xs)

    apart_ids : pairs_by differ (H ++ L) ≡ true
    apart_ids = sym (arranged_differ ordered (H ++ L)) ∙ d

    holds_kind : all_by is_hold H ≡ true
    unfolding stored_entry lease_in of_kind
    holds_kind = own_kind true ys ok_true (fits_parts xs ys e).1 t

    leases_kind : all_by is_lease L ≡ true
    unfolding stored_entry lease_in of_kind
    leases_kind = own_kind false xs ok_false (fits_parts xs ys e).0 t

    own_leases_law : filter_by is_lease (arranged by_identifier (arranged ordered (H ++ L))) ≡ L
    unfolding stored_entry lease_in
    own_leases_law = merged_leases H L apart_ids holds_kind leases_kind (risen L (own_risen false xs ok_false (fits_parts xs ys e).0 t) (differ_back H L apart_ids))

    own_holds : filter_by is_hold (arranged by_identifier (arranged ordered (H ++ L))) ≡ H
    unfolding stored_entry lease_in
    own_holds = merged_holds H L apart_ids holds_kind leases_kind (risen H (own_risen true ys ok_true (fits_parts xs ys e).1 t) (differ_front H L apart_ids))

  lease_rows : (n t : ℕ) → all_by (pairs_by differ) (merged_from t n xs ys) ≡ true → map (filter_by is_lease) (map (arranged by_identifier) (merged_from t n xs ys)) ≡ map (map stored) (apart lease_tenant t n xs)
  unfolding merged_from apart
  lease_rows zero t d = refl
  lease_rows (suc n) t d =
      let p = all_head (pairs_by differ) _ (merged_from (suc t) n xs ys) d in
      ap₂ {C = List (List Lease)} (λ (l : List Lease) (r : List (List Lease)). l ∷ r) (own_leases_law t p.0) (lease_rows n (suc t) p.1)

  hold_rows : (n t : ℕ) → all_by (pairs_by differ) (merged_from t n xs ys) ≡ true → map (filter_by is_hold) (map (arranged by_identifier) (merged_from t n xs ys)) ≡ map (map stored_hold) (apart hold_tenant t n ys)
  unfolding merged_from apart
  hold_rows zero t d = refl
  hold_rows (suc n) t d =
      let p = all_head (pairs_by differ) _ (merged_from (suc t) n xs ys) d in
      ap₂ {C = List (List Lease)} (λ (l : List Lease) (r : List (List Lease)). l ∷ r) (own_holds t p.0) (hold_rows n (suc t) p.1)

  -- in the order of the file; identifiers differ in a sound book (rule 8)
  module _ (d : all_by (pairs_by differ) (merged_from 1 8 xs ys) ≡ true) where
    pub leases_again : filed_leases (in_file_order (table_of (merged_from 1 8 xs ys))) ≡ xs
    unfolding filed_leases stored_entry filed_entry lease_in
    leases_again =
        ap (λ (l : List (List Lease)). filed_all filed_lease 1 (map (filter_by is_lease) l)) (filed_lists (merged_from 1 8 xs ys)) ∙ ap (filed_all filed_lease 1) (lease_rows 8 1 d)
        ∙ section_again false xs ok_false (fits_parts xs ys e).0

    pub holds_again : filed_holds (in_file_order (table_of (merged_from 1 8 xs ys))) ≡ ys
    unfolding filed_holds stored_entry filed_entry lease_in
    holds_again =
        ap (λ (l : List (List Lease)). filed_all filed_hold 1 (map (filter_by is_hold) l)) (filed_lists (merged_from 1 8 xs ys)) ∙ ap (filed_all filed_hold 1) (hold_rows 8 1 d)
        ∙ section_again true ys ok_true (fits_parts xs ys e).1

-- ---- written and read again
-- a tenant's records in the order of the file, of which those in use are neat and rise by identifier, and the others zero
pub record NeatTenant (t : TenantLeases) : Type 0 where
  pub few : length (in_use t) ≤ 16
  pub rising : pairs_by by_identifier (in_use t) ≡ true
  pub each : All Neat (in_use t)
  pub laid : laid_out (in_use t) ≡ t

-- numbers that their octets can hold
pub record OctetLease (l : Lease) : Type 0 where
  pub scope : l.scope < 256
  pub id : All (λ x. x < 256) l.id
  pub kind : l.kind < 256
  pub xid : l.xid < 4294967296
  pub start : l.start < 4294967296
  pub end : l.end < 4294967296
  pub lapse : l.lapse < 4294967296

-- those that pass a test, and that they do
kept_facts : (t : Lease → Bool) (P : Lease → Type 0) (l : List Lease) → All P l → All (λ x. (P x) × (t x ≡ true)) (filter_by t l)
unfolding All filter_by pick
kept_facts t P [] v = tt
kept_facts t P (x ∷ l) v = go (t x) refl (kept_facts t P l v.1)
  where
    go : (b : Bool) → t x ≡ b → All (λ x. (P x) × (t x ≡ true)) (filter_by t l) → All (λ x. (P x) × (t x ≡ true)) (pick b (x ∷ filter_by t l) (filter_by t l))
    go true e r = ((v.0, e), r)
    go false e r = r

split_each : (ls : List (List Lease)) → All (λ l. pairs_by by_identifier l ≡ true) ls → insert_each (map (filter_by is_lease) ls) (map (filter_by is_hold) ls) ≡ map (arranged ordered) ls
unfolding All paired
split_each [] v = refl
split_each (l ∷ ls) v = ap₂ {C = List (List Lease)} (λ (x : List Lease) (r : List (List Lease)). x ∷ r) (merged_split l (named_apart l v.0)) (split_each ls v.1)

rows_long : {A B : Type 0} (f : A → B) (i : ℕ) (ls : List (List A)) → length (get_or ls i []) ≡ length (get_or (map (map f) ls) i [])
rows_long f i [] = refl
rows_long f zero (l ∷ ls) = sym (length-map l f)
rows_long f (suc i) (l ∷ ls) = rows_long f i ls

row_few : (i : ℕ) (ls : List (List Lease)) → All (λ l. length l ≤ 16) ls → length (get_or ls i []) ≤ 16
unfolding All
row_few i [] v = omega arith
row_few zero (l ∷ ls) v = v.0
row_few (suc i) (l ∷ ls) v = row_few i ls v.1

all_weak : (l : List ℕ) → All (λ x. x < 64) l → All (λ x. x < 256) l
all_weak l v = one_fact (λ x. x < 64) (λ x. x < 256) l (λ x h. omega arith) v

-- an entry of a record: its tenant, that a record can hold it, and that it has octets
filed_tenant : (holds : Bool) (t : ℕ) (l : Lease) → entry_tenant holds (filed_entry holds t l) ≡ t
unfolding filed_entry filed_hold filed_lease lease_in
filed_tenant true t l = refl
filed_tenant false t l = refl

passes : (b c : Bool) → b ≡ false → c ≡ true → pick b false c ≡ true
unfolding pick
passes b c e p = ap (λ (x : Bool). pick x false c) e ∙ p

neat_storable : (t : ℕ) (l : Lease) → 1 ≤ t → t < 9 → Neat l → storable_b (filed_lease t l) ≡ true
unfolding storable_b filed_lease
neat_storable t l h g v =
    let n = v.long in let m = v.most in
    passes _ _ (le-ltb t 1 h) (passes _ _ (le-ltb 8 t (omega arith)) (passes _ _ (le-ltb 32 (length (take l.id_len l.id)) (omega arith)) (all_offsets (offsets l.addresses) (offsets_small l.addresses))))

neat_fits : (holds : Bool) (t : ℕ) (l : Lease) → 1 ≤ t → t < 9 → (Neat l) × (of_kind holds l ≡ true) → entry_fit_b holds (filed_entry holds t l) ≡ true
unfolding entry_fit_b filed_entry hold_fit_b lease_fit_b filed_hold of_kind is_hold filed_lease pick
neat_fits true t l h g (v, k) = ap (λ (b : Bool). pick b (storable_b (filed_lease t l)) false) k ∙ neat_storable t l h g v
neat_fits false t l h g (v, k) = go (eqb l.kind 1) k
  where
    go : (b : Bool) → not b ≡ true → pick b false (storable_b (filed_lease t l)) ≡ true
    go true e = let z : ◌≡◌ {A = ℕ} 0 1 = cc in absurd (omega arith)
    go false e = neat_storable t l h g v

lease_ok_law : (t : ℕ) (l : Lease) → t < 256 → Neat l → OctetLease l → lease_format.ok (filed_lease t l)
unfolding filed_lease
lease_ok_law t l h v w =
    let n = v.long in let m = v.most in let k = length_offsets l.addresses in (
      h,
      (
        w.scope,
        (
          (let g : length (take l.id_len l.id) < 256 = omega arith in g, all_take (λ x. x < 256) l.id_len l.id w.id),
          (w.kind, (w.xid, (w.start, (w.end, ((let g : length (offsets l.addresses) < 256 = omega arith in g, all_weak (offsets l.addresses) (offsets_small l.addresses)), rises_offsets l.addresses))))),
        ),
      ),
    )

entry_ok : (holds : Bool) (t : ℕ) (l : Lease) → t < 256 → Neat l → OctetLease l → (entry_format holds).ok (filed_entry holds t l)
unfolding entry_format filed_entry filed_hold
entry_ok true t l h v w = (lease_ok_law t l h v w, w.lapse)
entry_ok false t l h v w = lease_ok_law t l h v w

-- the order of two entries: a later tenant's, or the same tenant's with a later identifier
after_less : (u t : ℕ) (a b : List ℕ) → u < t → is_after u a t b ≡ false
unfolding is_after pick
after_less u t a b h = ap (λ (c : Bool). pick c false (pick (ltb t u) true (eqb (order_of a b) 2))) (lt-ltb u t h)

after_same : (t : ℕ) (x y : Lease) → by_identifier x y ≡ true → is_after t (id_of x) t (id_of y) ≡ false
unfolding is_after pick by_identifier
after_same t x y e =
    let z : order_of (id_of x) (id_of y) ≡ 0 = eqb-true _ _ e in
    ap (λ (c : Bool). pick c false (pick c true (eqb (order_of (id_of x) (id_of y)) 2))) (le-ltb t t (omega arith)) ∙ ne_eqb _ _ (λ (q : order_of (id_of x) (id_of y) ≡ 2). absurd (omega arith))

after_later : (holds : Bool) (k : ℕ × List ℕ) (t : ℕ) (l : Lease) → k.0 < t → entry_after holds k (filed_entry holds t l) ≡ false
after_later holds k t l h = ap (λ (u : ℕ). is_after k.0 k.1 u (lease_in holds (filed_entry holds t l)).id) (filed_tenant holds t l) ∙ after_less k.0 t k.1 (lease_in holds (filed_entry holds t l)).id h

after_next : (holds : Bool) (t : ℕ) (x y : Lease) → by_identifier x y ≡ true → entry_after holds (entry_key holds (filed_entry holds t x)) (filed_entry holds t y) ≡ false
unfolding filed_entry filed_hold filed_lease lease_in
after_next true t x y e = after_same t x y e
after_next false t x y e = after_same t x y e

-- a section's records, tenant by tenant
abbrev rows_of : Bool → List TenantLeases → List (List Lease)
rows_of holds ts = map (filter_by (of_kind holds)) (map in_use ts)

pub filed_rows : (holds : Bool) (b : LeaseTable) → filed_in holds b ≡ filed_all (filed_entry holds) 1 (rows_of holds b.tenants)
unfolding filed_in filed_holds filed_leases filed_entry of_kind
filed_rows true b = refl
filed_rows false b = refl

-- what holds of the records in use, of those of a section
rows_each : (holds : Bool) (P : TenantLeases → Type 0) (Q : List Lease → Type 0) (ts : List TenantLeases) → ((t : TenantLeases) → P t → Q (filter_by (of_kind holds) (in_use t))) → All P ts → All Q (rows_of holds ts)
rows_each holds P Q ts f v = all_mapped Q (filter_by (of_kind holds)) (map in_use ts) (all_mapped (λ l. Q (filter_by (of_kind holds) l)) in_use ts (one_fact P (λ t. Q (filter_by (of_kind holds) (in_use t))) ts f v))

module _ (b : LeaseTable) (eight : length b.tenants ≡ 8) (v : All NeatTenant b.tenants) where
  many : (holds : Bool) → length (rows_of holds b.tenants) ≡ 8
  many holds = length-map (map in_use b.tenants) (filter_by (of_kind holds)) ∙ length-map b.tenants in_use ∙ eight

  neat : (holds : Bool) → All (All (λ l. (Neat l) × (of_kind holds l ≡ true))) (rows_of holds b.tenants)
  neat holds = rows_each holds NeatTenant (All (λ l. (Neat l) × (of_kind holds l ≡ true))) b.tenants (λ t p. kept_facts (of_kind holds) Neat (in_use t) p.each) v

  apart_back : (holds : Bool) → map (map (stored_entry holds)) (apart (entry_tenant holds) 1 8 (filed_in holds b)) ≡ rows_of holds b.tenants
  apart_back holds =
      ap₂ (λ (n : ℕ) (xs : List (Entry holds)). map (map (stored_entry holds)) (apart (entry_tenant holds) 1 n xs)) (sym (many holds)) (filed_rows holds b)
      ∙ entries_back (entry_tenant holds) (stored_entry holds) (filed_entry holds) (λ l. (Neat l) × (of_kind holds l ≡ true)) (filed_tenant holds) (entry_back holds) 1 (rows_of holds b.tenants) (neat holds)

  lease_rows_back : map (map stored) (apart lease_tenant 1 8 (filed_leases b)) ≡ map (filter_by is_lease) (leases_of b)
  unfolding stored_entry lease_in filed_in of_kind
  lease_rows_back = apart_back false

  hold_rows_back : map (map stored_hold) (apart hold_tenant 1 8 (filed_holds b)) ≡ map (filter_by is_hold) (leases_of b)
  unfolding stored_entry lease_in filed_in of_kind
  hold_rows_back = apart_back true

  -- they are read in the order of records
  pub table_again : table_of (merged_from 1 8 (filed_leases b) (filed_holds b)) ≡ table_of (map (arranged ordered) (leases_of b))
  table_again =
      ap table_of (merged_pairs 8 1 (filed_leases b) (filed_holds b) ∙ ap₂ insert_each lease_rows_back hold_rows_back
      ∙ split_each (leases_of b) (all_mapped (λ l. pairs_by by_identifier l ≡ true) in_use b.tenants (one_fact NeatTenant (λ t. pairs_by by_identifier (in_use t) ≡ true) b.tenants (λ t p. p.rising) v)))

  -- ---- the records can hold what is written of them
  own_long : (i : ℕ) → i < 8 → length (own lease_tenant (i + 1) (filed_leases b)) + length (own hold_tenant (i + 1) (filed_holds b)) ≡ length (get_or (leases_of b) i [])
  unfolding filter_by
  own_long i h =
      let p : length (own lease_tenant (i + 1) (filed_leases b)) ≡ length (filter_by is_lease (get_or (leases_of b) i [])) =
      ap length (sym (apart_at lease_tenant 8 1 i (filed_leases b) h)) ∙ rows_long stored i (apart lease_tenant 1 8 (filed_leases b))
      ∙ ap (λ (ls : List (List Lease)). length (get_or ls i [])) lease_rows_back ∙ ap length (get_or-map (filter_by is_lease) (leases_of b) i []) in
      let q : length (own hold_tenant (i + 1) (filed_holds b)) ≡ length (filter_by is_hold (get_or (leases_of b) i [])) =
      ap length (sym (apart_at hold_tenant 8 1 i (filed_holds b) h)) ∙ rows_long stored_hold i (apart hold_tenant 1 8 (filed_holds b))
      ∙ ap (λ (ls : List (List Lease)). length (get_or ls i [])) hold_rows_back ∙ ap length (get_or-map (filter_by is_hold) (leases_of b) i []) in
      let f = filter_both is_hold (get_or (leases_of b) i []) in
      omega arith

  each_fits : (holds : Bool) → all_by (entry_fit_b holds) (filed_in holds b) ≡ true
  each_fits holds =
      let n = many holds in
      ap (all_by (entry_fit_b holds)) (filed_rows holds b)
      ∙ all_tests (entry_fit_b holds) (λ x. entry_fit_b holds x ≡ true) (filed_all (filed_entry holds) 1 (rows_of holds b.tenants)) (λ x p. p)
      (filed_each (filed_entry holds) (λ x. entry_fit_b holds x ≡ true) (λ l. (Neat l) × (of_kind holds l ≡ true)) 1 9 (neat_fits holds) 1 (rows_of holds b.tenants) (omega arith) (omega arith) (neat holds))

  pub table_fits : records_fit_b (filed_leases b) (filed_holds b) ≡ true
  unfolding records_fit_b entry_fit_b filed_in few_of pick
  table_fits =
      let few : All (λ l. length l ≤ 16) (leases_of b) = all_mapped (λ l. length l ≤ 16) in_use b.tenants (one_fact NeatTenant (λ t. length (in_use t) ≤ 16) b.tenants (λ t p. p.few) v) in
      ap₂ (λ (x y : Bool). pick x (pick y (all_to (λ i. few_of (filed_leases b) (filed_holds b) (i + 1)) 8) false) false) (each_fits false) (each_fits true)
      ∙ each_to (λ i. few_of (filed_leases b) (filed_holds b) (i + 1)) 8
      (λ i h. le-leb (length (own lease_tenant (i + 1) (filed_leases b)) + length (own hold_tenant (i + 1) (filed_holds b))) 16 (let p = own_long i h in let q = row_few i (leases_of b) few in omega arith))

  -- ---- and it has the sections' formats
  module _ (w : All (λ t. All OctetLease (in_use t)) b.tenants) where
    both_facts : (holds : Bool) → All (All (λ l. (Neat l) × (OctetLease l))) (rows_of holds b.tenants)
    both_facts holds =
        rows_each holds (λ t. (NeatTenant t) × (All OctetLease (in_use t))) (All (λ l. (Neat l) × (OctetLease l))) b.tenants
        (λ t p. one_fact (λ l. ((Neat l) × (OctetLease l)) × (of_kind holds l ≡ true)) (λ l. (Neat l) × (OctetLease l)) (filter_by (of_kind holds) (in_use t)) (λ l q. q.0)
        (kept_facts (of_kind holds) (λ l. (Neat l) × (OctetLease l)) (in_use t) (two_facts Neat OctetLease (λ l. (Neat l) × (OctetLease l)) (in_use t) (λ l q r. (q, r)) p.0.each p.1)))
        (two_facts NeatTenant (λ t. All OctetLease (in_use t)) (λ t. (NeatTenant t) × (All OctetLease (in_use t))) b.tenants (λ t p q. (p, q)) v w)

    section_ordered : (holds : Bool) → ordered_from (entry_key holds) (entry_after holds) (0, []) (filed_all (filed_entry holds) 1 (rows_of holds b.tenants)) ≡ true
    section_ordered holds =
        filed_ordered (filed_entry holds) (entry_key holds) (entry_after holds) (λ k t. k.0 < t) by_identifier (after_later holds) (after_next holds)
        (λ t y. let e = filed_tenant holds t y in omega arith) (λ k t h. omega arith) (0, []) 1 (rows_of holds b.tenants) (omega arith)
        (rows_each holds NeatTenant (λ l. pairs_by by_identifier l ≡ true) b.tenants (λ t p. filter_pairs by_identifier (of_kind holds) (in_use t) p.rising) v)

    section_ok : (holds : Bool) → (entries_format holds).ok (filed_in holds b)
    section_ok holds =
        let n = many holds in
        let l = filed_most (filed_entry holds) 16 1 (rows_of holds b.tenants) (rows_each holds NeatTenant (λ l. length l ≤ 16) b.tenants (λ t p. let f = filter_length (of_kind holds) (in_use t) in let h = p.few in omega arith) v) in
        subst (entries_format holds).ok (sym (filed_rows holds b)) (
          (
            let a : length (filed_all (filed_entry holds) 1 (rows_of holds b.tenants)) < 256 = omega arith in a,
            filed_each (filed_entry holds) (entry_format holds).ok (λ l. (Neat l) × (OctetLease l)) 1 9 (λ t x h g p. entry_ok holds t x (omega arith) p.0 p.1) 1 (rows_of holds b.tenants) (omega arith) (omega arith) (both_facts holds),
          ),
          section_ordered holds,
        )

    pub leases_ok : leases_format.ok (filed_leases b)
    unfolding entry_format lease_in filed_in
    leases_ok = section_ok false

    pub holds_ok : holds_format.ok (filed_holds b)
    unfolding entry_format lease_in filed_in
    holds_ok = section_ok true

-- ---- the octets of each section under its own name, and how many both have: at most 117 a record
pub leases_octets : (b : LeaseTable) → leases_format.write (filed_leases b) ≡ table_octets false b
unfolding table_octets filed_in entry_format lease_in
leases_octets b = refl

pub holds_octets : (b : LeaseTable) → holds_format.write (filed_holds b) ≡ table_octets true b
unfolding table_octets filed_in entry_format lease_in
holds_octets b = refl

-- a tenant's records as rule 1 has them
pub record ShortTenant (t : TenantLeases) : Type 0 where
  pub few : length (in_use t) ≤ 16
  pub ids : All (λ l. l.id_len ≤ 32) (in_use t)

both_many : (t : ℕ) (ls : List (List Lease)) → All (λ l. length l ≤ 16) ls
    → length (filed_all filed_lease t (map (filter_by is_lease) ls)) + length (filed_all filed_hold t (map (filter_by is_hold) ls)) ≤ length ls * 16
unfolding filed_all All
both_many t [] v = omega arith
both_many t (l ∷ ls) v =
    let ih = both_many (suc t) ls v.1 in
    let a = length-append (map (filed_lease t) (filter_by is_lease l)) (filed_all filed_lease (suc t) (map (filter_by is_lease) ls)) in
    let c = length-append (map (filed_hold t) (filter_by is_hold l)) (filed_all filed_hold (suc t) (map (filter_by is_hold) ls)) in
    let p = length-map (filter_by is_lease l) (filed_lease t) in
    let q = length-map (filter_by is_hold l) (filed_hold t) in
    let f = filter_both is_hold l in
    let h = v.0 in
    omega arith

tail_most : (holds : Bool) (v : ℕ) → length (lapse_octets holds v) ≤ 4
unfolding lapse_octets pick
tail_most true v = omega arith
tail_most false v = omega arith

entry_most : (holds : Bool) (t : ℕ) (l : Lease) → l.id_len ≤ 32 → length ((entry_format holds).write (filed_entry holds t l)) ≤ 117
entry_most holds t l h =
    let a = entry_long holds t l in
    let b = lease_size t l in
    let i = length-take l.id_len l.id in
    let k = length_offsets l.addresses in
    let z = tail_most holds l.lapse in
    omega arith

section_most : (holds : Bool) (b : LeaseTable) → length b.tenants ≤ 8 → All ShortTenant b.tenants → length (table_octets holds b) ≤ 1 + length (filed_in holds b) * 117
unfolding table_octets
section_most holds b h v =
    let n : length (rows_of holds b.tenants) ≡ length b.tenants = length-map (map in_use b.tenants) (filter_by (of_kind holds)) ∙ length-map b.tenants in_use in
    let each : All (λ x. length ((entry_format holds).write x) ≤ 117) (filed_in holds b) =
    subst (All (λ x. length ((entry_format holds).write x) ≤ 117)) (sym (filed_rows holds b))
    (filed_each (filed_entry holds) (λ x. length ((entry_format holds).write x) ≤ 117) (λ l. l.id_len ≤ 32) 1 9 (λ t l a c p. entry_most holds t l p) 1 (rows_of holds b.tenants) (omega arith) (omega arith)
    (rows_each holds ShortTenant (All (λ l. l.id_len ≤ 32)) b.tenants
    (λ t p. one_fact (λ l. (l.id_len ≤ 32) × (of_kind holds l ≡ true)) (λ l. l.id_len ≤ 32) (filter_by (of_kind holds) (in_use t)) (λ l q. q.0) (kept_facts (of_kind holds) (λ l. l.id_len ≤ 32) (in_use t) p.ids)) v)) in
    let w = write_most (entry_format holds).write (λ x. length ((entry_format holds).write x) ≤ 117) 117 (λ x p. p) (filed_in holds b) each in
    omega arith

-- both together: 1 octet each for the count, and 128 records
pub both_most : (b : LeaseTable) → length b.tenants ≤ 8 → All ShortTenant b.tenants → length (table_octets false b) + length (table_octets true b) ≤ 14978
unfolding filed_in filed_leases filed_holds
both_most b h v =
    let p = section_most false b h v in
    let q = section_most true b h v in
    let m = both_many 1 (leases_of b) (all_mapped (λ l. length l ≤ 16) in_use b.tenants (one_fact ShortTenant (λ t. length (in_use t) ≤ 16) b.tenants (λ t p. p.few) v)) in
    let n = length-map b.tenants in_use in
    omega arith
