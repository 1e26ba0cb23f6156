-- Laws: between records and the table that they stand for, and the loops that go from one to the other.
use Rattle.std.specs.Prelude.{◌≡◌, refl, Bool, true, false, cond, not, Option, Some, None, List, [], ◌∷◌, ◌++◌, map, ℕ, zero, suc, ◌+◌, ◌-◌, ◌*◌, ◌≤◌, ◌<◌, nat_lt, length, replicate, take, drop, get_or, set}
use Rattle.std.specs.List.{between, position, position_or_len}
use Rattle.std.specs.Option.{unwrap_or}
use Rattle.std.proofs.Common.{sym, ap, ap₂, ◌∙◌, subst, append_assoc, append-nil, arith, add-one, length-append, take_at, drop_at, take_all, drop-drop, ltb-false}
use Rattle.std.proofs.Math.ListN.{get_or-map}
use Rattle.std.proofs.Math.Seq.{paste, take-suc}
use Rattle.std.proofs.lemmas.List.{length-map, length-replicate, replicate-append-replicate}
use Rattle.std.proofs.lemmas.List.Edits.{length-paste, paste_all}
use Rattle.std.proofs.lemmas.Slice.{put_mid-paste}
use borrow.Rule.Slice.PartMut.{put_mid}
use Rattle.lists.specs.Pick.{pick}
use Rattle.lists.specs.Place.{place_by}
use Rattle.lists.specs.laws.Each.{BuildInv, build_start, each_next, each_end}
use Rattle.lists.specs.laws.Row.{at_in}
use Rattle.state.specs.declared.Lease.{Lease}
use Rattle.state.specs.declared.TenantLeases.{TenantLeases}
use Rattle.state.specs.declared.LeaseTable.{LeaseTable}
use Rattle.state.specs.Book.{laid_out, no_leases, tenant_at, zero_lease}
use Rattle.soundness.specs.Sound.{unused_b}
use Rattle.records.specs.Records.{put_row, rows, tenant_from, table_from, rows_of, records_of}

pub empty_records : {l : Lease} → l ≡ zero_lease → replicate 128 l ≡ replicate 128 zero_lease
empty_records e = ap (replicate 128) e

-- ---- from records to the table
pub rows_length : (n : ℕ) (ls : List Lease) → length (rows n ls) ≡ n
unfolding rows
rows_length zero ls = refl
rows_length (suc n) ls = ap suc (rows_length n (drop 16 ls))

-- row h
pub rows_at : (n h : ℕ) (ls : List Lease) → h < n → get_or (rows n ls) h [] ≡ take 16 (drop (16 * h) ls)
unfolding rows
rows_at zero h ls p = absurd (omega arith)
rows_at (suc n) zero ls p = refl
rows_at (suc n) (suc h) ls p =
    rows_at n h (drop 16 ls) (omega arith)
    ∙ ap (take 16) (drop-drop (16 * h) 16 ls ∙ ap (λ (k : ℕ). drop k ls) (let e : 16 + 16 * h ≡ 16 * suc h = omega arith in e))

-- what the loop over the rows keeps
abbrev pub RowsInv : List Lease → List TenantLeases → ℕ → Type 0
RowsInv ls now h = BuildInv tenant_from [] (rows 8 ls) (replicate 8 (laid_out [])) 8 now h

pub rows_start : (ls : List Lease) {t : TenantLeases} → t ≡ laid_out [] → RowsInv ls (replicate 8 t) 0
rows_start ls q = subst (λ (x : TenantLeases). RowsInv ls (replicate 8 x) 0) (sym q) (build_start (rows_length 8 ls) refl)

pub table_eight : (ls : List Lease) → length (table_from ls).tenants ≡ 8
unfolding table_from
table_eight ls = length-map (rows 8 ls) tenant_from ∙ rows_length 8 ls

-- the records of tenant h
pub row_own : (ls : List Lease) {h : ℕ} {t : TenantLeases} → h < 8 → t ≡ tenant_from (get_or (rows 8 ls) h []) → t ≡ tenant_at (table_from ls) h
unfolding table_from
row_own ls {h} p q =
    q ∙ sym (get_or-map tenant_from (rows 8 ls) h []) ∙ at_in (map tenant_from (rows 8 ls)) 8 h (tenant_from []) (laid_out []) (length-map (rows 8 ls) tenant_from ∙ rows_length 8 ls) p

-- the part of the records that is one row
pub row_part : (ls : List Lease) {h : ℕ} {row : List Lease} → h < 8 → row ≡ between (16 * h) (16 * h + 16) ls → tenant_from row ≡ tenant_at (table_from ls) h
row_part ls {h} {row} p e = row_own ls p (ap tenant_from (e ∙ part ∙ sym (rows_at 8 h ls p)))
  where
    part : between (16 * h) (16 * h + 16) ls ≡ take 16 (drop (16 * h) ls)
    part = ap (λ (n : ℕ). take n (drop (16 * h) ls)) (let e : 16 * h + 16 - 16 * h ≡ 16 = omega arith in e)

pub rows_next : (ls : List Lease) {now : List TenantLeases} {h : ℕ} {t : TenantLeases} → RowsInv ls now h → h < 8 → t ≡ tenant_at (table_from ls) h → RowsInv ls (set now h t) (h + 1)
rows_next ls v p q = each_next v p (q ∙ sym (row_own ls p refl))

pub rows_end : (ls : List Lease) {now : List TenantLeases} {h : ℕ} → RowsInv ls now h → 8 ≤ h → record { tenants = now } ≡ table_from ls
unfolding table_from
rows_end ls v q = ap {B = LeaseTable} (λ (x : List TenantLeases). record { tenants = x }) (each_end v q)

-- ---- from the table to records
pub rows_append : (a b : List TenantLeases) → rows_of (a ++ b) ≡ rows_of a ++ rows_of b
unfolding rows_of
rows_append [] b = refl
rows_append (t ∷ a) b = ap (λ (x : List Lease). t.leases ++ x) (rows_append a b) ∙ sym (append_assoc t.leases (rows_of a) (rows_of b))

-- the records of h tenants, then unused ones
abbrev pub laid_to : List TenantLeases → ℕ → List Lease
laid_to ts h = rows_of (take h ts) ++ replicate (128 - 16 * h) zero_lease

pub record LaidInv (ts : List TenantLeases) (now : List Lease) (h : ℕ) : Type 0 where
  pub within : h ≤ 8
  pub long : length ts ≡ 8
  pub size : length (rows_of (take h ts)) ≡ 16 * h
  pub laid : now ≡ laid_to ts h

pub laid_start : {ts : List TenantLeases} {now : List Lease} → length ts ≡ 8 → now ≡ replicate 128 zero_lease → LaidInv ts now 0
unfolding rows_of
laid_start p q = record { within = omega arith; long = p; size = refl; laid = q }

pub laid_length : {ts : List TenantLeases} {now : List Lease} {h : ℕ} → LaidInv ts now h → length (laid_to ts h) ≡ 128
laid_length {ts} {h = h} v =
    let a = v.size in let b = v.within in
    length-append (rows_of (take h ts)) (replicate (128 - 16 * h) zero_lease) ∙ ap₂ (λ (x y : ℕ). x + y) a (length-replicate (128 - 16 * h) zero_lease) ∙ (let e : 16 * h + (128 - 16 * h) ≡ 128 = omega arith in e)

-- a row laid over its part of the records
pub part_put : (ls : List Lease) (h : ℕ) {r now : List Lease} → length ls ≡ 128 → h < 8 → length r ≡ 16 → now ≡ r
    → (put_mid (16 * h) (16 * h + 16 - 16 * h) ls now ≡ put_row ls h r) × (length (put_mid (16 * h) (16 * h + 16 - 16 * h) ls now) ≡ 128)
unfolding put_row
part_put ls h {r} {now} e p f q = (pasted ∙ paste_all ls (16 * h) r 16 (sym f) ∙ sym (append_assoc (take (16 * h) ls) r (drop (16 * h + 16) ls)), ap length pasted ∙ length-paste ls (16 * h) r 16 (omega arith) (omega arith) ∙ e)
  where
    pasted : put_mid (16 * h) (16 * h + 16 - 16 * h) ls now ≡ paste ls (16 * h) r 16
    pasted = put_mid-paste (16 * h) (16 * h + 16 - 16 * h) ls now r 16 q (omega arith) (sym f)

pub lay_next : {ts : List TenantLeases} {h : ℕ} {now : List Lease} (row : List Lease) {part : List Lease} → LaidInv ts now h → h < 8 → row ≡ (get_or ts h no_leases).leases → length row ≡ 16 → part ≡ row
    → LaidInv ts (put_mid (16 * h) (16 * h + 16 - 16 * h) now part) (h + 1)
unfolding rows_of put_row
lay_next {ts} {h} {now} row {part} v p e f q = record { within = omega arith; long = v.long; size = size; laid = laid }
  where
    more_rows : rows_of (take (h + 1) ts) ≡ rows_of (take h ts) ++ row
    more_rows = ap (λ (k : ℕ). rows_of (take k ts)) (add-one h) ∙ ap rows_of (take-suc ts h no_leases (omega (arith, v.long)))
        ∙ rows_append (take h ts) (get_or ts h no_leases ∷ [])
        ∙ ap (λ (x : List Lease). rows_of (take h ts) ++ x) (append-nil (get_or ts h no_leases).leases ∙ sym e)

    size : length (rows_of (take (h + 1) ts)) ≡ 16 * (h + 1)
    size = ap length more_rows ∙ length-append (rows_of (take h ts)) (row) ∙ (let a = v.size in omega arith)

    rest : drop (16 * h + 16) (laid_to ts h) ≡ replicate (128 - 16 * (h + 1)) zero_lease
    rest =
        sym (drop-drop 16 (16 * h) (laid_to ts h))
        ∙ ap (drop 16) (drop_at (rows_of (take h ts)) (replicate (128 - 16 * h) zero_lease) (16 * h) v.size)
        ∙ ap (λ (k : ℕ). drop 16 (replicate k zero_lease)) (let e : 128 - 16 * h ≡ 16 + (128 - 16 * (h + 1)) = omega arith in e)
        ∙ ap (drop 16) (sym (replicate-append-replicate 16 (128 - 16 * (h + 1)) zero_lease))
        ∙ drop_at (replicate 16 zero_lease) (replicate (128 - 16 * (h + 1)) zero_lease) 16 refl

    laid : put_mid (16 * h) (16 * h + 16 - 16 * h) now part ≡ laid_to ts (h + 1)
    laid =
        (part_put now h (ap length v.laid ∙ laid_length v) p f q).0
        ∙ ap (λ (x : List Lease). take (16 * h) x ++ row ++ drop (16 * h + 16) x) v.laid
        ∙ ap₂ (λ (x y : List Lease). x ++ row ++ y) (take_at (rows_of (take h ts)) (replicate (128 - 16 * h) zero_lease) (16 * h) v.size) rest
        ∙ ap (λ (x : List Lease). x ++ replicate (128 - 16 * (h + 1)) zero_lease) (sym more_rows)

module _ {ts : List TenantLeases} {now : List Lease} {h : ℕ} (v : LaidInv ts now h) where
  pub laid_end : 8 ≤ h → now ≡ rows_of ts
  laid_end p =
      v.laid ∙ ap₂ (λ (x y : List Lease). x ++ y) (ap rows_of (take_all h ts (let a = v.long in omega arith))) (ap (λ (k : ℕ). replicate k zero_lease) (let e : 128 - 16 * h ≡ 0 = omega (arith, v.within) in e))
      ∙ append-nil (rows_of ts)

pub laid_records : {t : LeaseTable} {now : List Lease} {h : ℕ} → LaidInv t.tenants now h → 8 ≤ h → now ≡ records_of t
unfolding records_of
laid_records v p = laid_end v p

pub laid_size : {ts : List TenantLeases} {now : List Lease} {h : ℕ} → LaidInv ts now h → length now ≡ 128
laid_size v = ap length v.laid ∙ laid_length v

pub tenant_from_is : {r : List Lease} {n : ℕ} → n ≡ place_by unused_b r → record { leases = r; count = n } ≡ tenant_from r
unfolding tenant_from
tenant_from_is {r} e = ap {B = TenantLeases} (λ (k : ℕ). record { leases = r; count = k }) e

-- no further than the end
pub place_within : {A : Type 0} (t : A → Bool) (l : List A) → place_by t l ≤ length l
unfolding place_by pick
place_within t [] = omega arith
place_within t (x ∷ l) = go (t x) (place_within t l)
  where
    go : (b : Bool) → place_by t l ≤ length l → pick b 0 (suc (place_by t l)) ≤ suc (length l)
    go true p = omega arith
    go false p = omega arith

place_first : {A : Type 0} (t : A → Bool) (l : List A) → position_or_len t l ≡ place_by t l
unfolding place_by pick
place_first t [] = refl
place_first t (x ∷ l) = go (t x) (place_first t l)
  where
    go : (b : Bool) → position_or_len t l ≡ place_by t l → cond (not b) (1 + position_or_len t l) 0 ≡ pick b 0 (suc (place_by t l))
    go true e = refl
    go false e = omega arith

-- what std's `position` finds, or the length
pub place_found : {A : Type 0} (t : A → Bool) (l : List A) {o : Option ℕ} (n : ℕ) → length l ≡ n → o ≡ position t l → unwrap_or o n ≡ place_by t l
place_found t l n e q = ap (λ (x : Option ℕ). unwrap_or x n) q ∙ go (nat_lt k (length l)) refl ∙ place_first t l
  where
    k : ℕ
    k = position_or_len t l

    go : (b : Bool) → nat_lt k (length l) ≡ b → unwrap_or (cond b (Some k) None) n ≡ k
    go true p = refl
    go false p = let w : n ≡ k = let g = ltb-false k (length l) p in let h = place_within t l in let f = place_first t l in omega arith in w
