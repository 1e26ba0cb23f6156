-- Laws: nothing is lost between records and the table that they stand for: records come back as they were, and so does the table of a sound book.
use Rattle.std.specs.Prelude.{◌≡◌, refl, Bool, true, false, ◌&&◌, List, [], ◌∷◌, ◌++◌, map, ℕ, zero, suc, ◌+◌, ◌-◌, ◌*◌, eqb, leb, length, replicate, take, drop}
use Rattle.std.proofs.Common.{sym, ap, ap₂, ◌∙◌, arith, length-append, length-drop, take-append-drop, drop_at, take_at, leb-true, ne_eqb}
use Rattle.std.proofs.lemmas.List.{length-replicate}
use Rattle.lists.specs.Pick.{pick}
use Rattle.lists.specs.All.{all_by}
use Rattle.lists.specs.laws.All.{all_cons, all_head}
use Rattle.lists.specs.laws.Both.{and_parts}
use Rattle.lists.specs.Place.{place_by}
use Rattle.state.specs.declared.Lease.{Lease}
use Rattle.state.specs.declared.LeaseTable.{LeaseTable}
use Rattle.state.specs.declared.State.{State}
use Rattle.state.specs.declared.TenantLeases.{TenantLeases}
use Rattle.state.specs.Book.{laid_out, leases_of, table_of, zero_lease}
use Rattle.soundness.specs.Sound.{blank_b, hold_b, id_b, lease_b, offsets_b, padded_b, sound_b, unused_b, zero_from}
use Rattle.soundness.specs.laws.Book.{few_leases, lease_ok}
use Rattle.soundness.proofs.Lists.{sound_lists}
use Rattle.records.specs.Records.{records_of, rows, rows_of, table_from, tenant_from}

-- ---- records come back
pub rows_back : (n : ℕ) (ls : List Lease) → length ls ≡ 16 * n → rows_of (map tenant_from (rows n ls)) ≡ ls
unfolding rows rows_of tenant_from
rows_back zero [] e = refl
rows_back zero (l ∷ ls) e = absurd (omega arith)
rows_back (suc n) ls e =
    ap (λ (x : List Lease). take 16 ls ++ x) (rows_back n (drop 16 ls) (length-drop 16 ls ∙ (let q : length ls - 16 ≡ 16 * n = omega arith in q))) ∙ take-append-drop 16 ls

pub records_back : (ls : List Lease) → length ls ≡ 128 → records_of (table_from ls) ≡ ls
unfolding records_of table_from
records_back ls e = rows_back 8 ls e

-- ---- the table of a sound book comes back
-- a lease that has an identifier is no unused record
used : (l : Lease) → id_b l ≡ true → unused_b l ≡ false
unfolding id_b unused_b blank_b
used l e = go (eqb l.scope 0)
  where
    no : eqb l.id_len 0 ≡ false
    no = let a = leb-true 2 l.id_len (and_parts (leb 2 l.id_len) (leb l.id_len 32) e).0 in ne_eqb l.id_len 0 (λ (z : l.id_len ≡ 0). absurd (omega arith))

    go : (t : Bool) → ((t && (eqb l.id_len 0 && (eqb l.kind 0 && (eqb l.xid 0 && eqb l.lapse 0)))) && (eqb l.start 0 && (eqb l.end 0 && (eqb l.addresses 0 && zero_from 0 l.id)))) ≡ false
    go true = ap (λ (t : Bool). (t && (eqb l.kind 0 && (eqb l.xid 0 && eqb l.lapse 0))) && (eqb l.start 0 && (eqb l.end 0 && (eqb l.addresses 0 && zero_from 0 l.id)))) no
    go false = refl

-- so that the first unused record comes after the leases
count_back : (p : List Lease) (k : ℕ) → all_by id_b p ≡ true → place_by unused_b (p ++ replicate k zero_lease) ≡ length p
unfolding place_by pick unused_b blank_b zero_from all_by
count_back [] zero e = refl
count_back [] (suc k) e = refl
count_back (l ∷ p) k e =
    let h = all_head id_b l p e in
    ap (λ (t : Bool). pick t 0 (suc (place_by unused_b (p ++ replicate k zero_lease)))) (used l h.0) ∙ ap suc (count_back p k h.1)

laid_length : (p : List Lease) → few_leases p ≡ true → length (laid_out p).leases ≡ 16
unfolding laid_out
laid_length p e =
    let h = leb-true (length p) 16 e in
    length-append p (replicate (16 - length p) zero_lease) ∙ ap (λ (k : ℕ). length p + k) (length-replicate (16 - length p) zero_lease) ∙ (let q : length p + (16 - length p) ≡ 16 = omega arith in q)

tenant_back : (p : List Lease) → all_by id_b p ≡ true → tenant_from (laid_out p).leases ≡ laid_out p
unfolding laid_out tenant_from
tenant_back p e = ap {B = TenantLeases} (λ (k : ℕ). record { leases = p ++ replicate (16 - length p) zero_lease; count = k }) (count_back p (16 - length p) e)

tenants_back : (ll : List (List Lease)) → all_by few_leases ll ≡ true → all_by (all_by id_b) ll ≡ true → map tenant_from (rows (length ll) (rows_of (map laid_out ll))) ≡ map laid_out ll
unfolding rows rows_of
tenants_back [] f e = refl
tenants_back (p ∷ ll) f e =
    let a = all_head few_leases p ll f in
    let b = all_head (all_by id_b) p ll e in
    ap₂ {C = List TenantLeases} (λ (x : List Lease) (y : List Lease). tenant_from x ∷ map tenant_from (rows (length ll) y))
    (take_at (laid_out p).leases (rows_of (map laid_out ll)) 16 (laid_length p a.0)) (drop_at (laid_out p).leases (rows_of (map laid_out ll)) 16 (laid_length p a.0))
    ∙ ap₂ {C = List TenantLeases} (λ (x : TenantLeases) (y : List TenantLeases). x ∷ y) (tenant_back p b.0) (tenants_back ll a.1 b.1)

rows_long : (ll : List (List Lease)) → all_by few_leases ll ≡ true → length (rows_of (map laid_out ll)) ≡ 16 * length ll
unfolding rows_of
rows_long [] f = refl
rows_long (p ∷ ll) f =
    let a = all_head few_leases p ll f in
    let b = laid_length p a.0 in
    let d = rows_long ll a.1 in
    length-append (laid_out p).leases (rows_of (map laid_out ll)) ∙ (let q : length (laid_out p).leases + length (rows_of (map laid_out ll)) ≡ 16 * suc (length ll) = omega arith in q)

lease_id : (s : State) (l : Lease) → lease_ok s l ≡ true → id_b l ≡ true
unfolding lease_ok
lease_id s l e = (and_parts (id_b l) (offsets_b s l) (and_parts (id_b l && offsets_b s l) (lease_b s l && (padded_b l && hold_b s.clock l)) e).0).0

ids_of : (s : State) (p : List Lease) → all_by (lease_ok s) p ≡ true → all_by id_b p ≡ true
unfolding all_by
ids_of s [] e = refl
ids_of s (l ∷ p) e = let h = all_head (lease_ok s) l p e in all_cons id_b l p (lease_id s l h.0) (ids_of s p h.1)

all_ids : (s : State) (ll : List (List Lease)) → all_by (all_by (lease_ok s)) ll ≡ true → all_by (all_by id_b) ll ≡ true
unfolding all_by
all_ids s [] e = refl
all_ids s (p ∷ ll) e = let h = all_head (all_by (lease_ok s)) p ll e in all_cons (all_by id_b) p ll (ids_of s p h.0) (all_ids s ll h.1)

pub lent_table_back : (s : State) (t : LeaseTable) → length (leases_of t) ≡ 8 → t ≡ table_of (leases_of t) → sound_b s t ≡ true → table_from (records_of t) ≡ t
unfolding records_of table_from table_of
lent_table_back s t long laid e =
    let v = sound_lists s t e in
    ap (λ (x : LeaseTable). table_from (records_of x)) laid
    ∙ ap {B = LeaseTable} (λ (k : ℕ). record { tenants = map tenant_from (rows k (rows_of (map laid_out (leases_of t)))) }) (sym long)
    ∙ ap {B = LeaseTable} (λ (x : List TenantLeases). record { tenants = x }) (tenants_back (leases_of t) v.few (all_ids s (leases_of t) v.each))
    ∙ sym laid

-- and has 128 records
pub table_long : (s : State) (t : LeaseTable) → length (leases_of t) ≡ 8 → t ≡ table_of (leases_of t) → sound_b s t ≡ true → length (records_of t) ≡ 128
unfolding records_of table_of
table_long s t long laid e =
    ap (λ (x : LeaseTable). length (rows_of x.tenants)) laid ∙ rows_long (leases_of t) (sound_lists s t e).few ∙ ap (λ (k : ℕ). 16 * k) long
