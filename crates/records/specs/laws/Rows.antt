-- Laws: one tenant's records among the 128, put back; and the length that every identifier has.
use Rattle.std.specs.Prelude.{◌≡◌, List, [], ◌∷◌, ◌++◌, map, ℕ, zero, suc, ◌+◌, ◌-◌, ◌*◌, ◌<◌, length, take, drop, set}
use Rattle.std.proofs.Common.{sym, ap, ap₂, ◌∙◌, append_assoc, arith, length-drop, drop_at, length-take-le}
use Rattle.std.proofs.lemmas.List.{length-map}
use Rattle.std.proofs.Math.Seq.{take-append-add, drop-append-add}
use Rattle.lists.specs.All.{All}
use Rattle.state.specs.declared.Lease.{Lease}
use Rattle.state.specs.declared.TenantLeases.{TenantLeases}
use Rattle.state.specs.Book.{put_at}
use Rattle.records.specs.laws.Back.{rows_back}
use Rattle.records.specs.laws.Table.{rows_length}
use Rattle.records.specs.Records.{put_row, records_of, rows, rows_of, table_from, tenant_from}

-- ---- a row put back
abbrev pub Sixteen : TenantLeases → Type 0
Sixteen t = length t.leases ≡ 16

rows_put : (us : List TenantLeases) (h : ℕ) (t : TenantLeases) → All Sixteen us → h < length us → take (16 * h) (rows_of us) ++ t.leases ++ drop (16 * h + 16) (rows_of us) ≡ rows_of (set us h t)
unfolding rows_of All
rows_put [] h t v p = absurd (omega arith)
rows_put (u ∷ us) zero t v p = ap (λ (x : List Lease). t.leases ++ x) (drop_at u.leases (rows_of us) 16 v.0)
rows_put (u ∷ us) (suc h) t v p =
    ap₂ (λ (x y : List Lease). x ++ t.leases ++ y)
    (ap (λ (k : ℕ). take k (u.leases ++ rows_of us)) (let e : 16 * suc h ≡ length u.leases + 16 * h = omega (arith, v.0) in e) ∙ take-append-add u.leases (rows_of us) (16 * h))
    (ap (λ (k : ℕ). drop k (u.leases ++ rows_of us)) (let e : 16 * suc h + 16 ≡ length u.leases + (16 * h + 16) = omega (arith, v.0) in e) ∙ drop-append-add u.leases (rows_of us) (16 * h + 16))
    ∙ ap (λ (x : List Lease). x ++ drop (16 * h + 16) (rows_of us)) (append_assoc u.leases (take (16 * h) (rows_of us)) t.leases)
    ∙ append_assoc u.leases (take (16 * h) (rows_of us) ++ t.leases) (drop (16 * h + 16) (rows_of us))
    ∙ ap (λ (x : List Lease). u.leases ++ x) (rows_put us h t v.1 (omega arith))

pub put_rows : (us : List TenantLeases) (h : ℕ) (t : TenantLeases) → All Sixteen us → h < length us → put_row (rows_of us) h t.leases ≡ rows_of (set us h t)
unfolding put_row
put_rows us h t v p = rows_put us h t v p

pub rows_sixteen : (n : ℕ) (ls : List Lease) → length ls ≡ 16 * n → All Sixteen (map tenant_from (rows n ls))
unfolding rows tenant_from All
rows_sixteen zero ls e = tt
rows_sixteen (suc n) ls e = (length-take-le 16 ls (omega arith), rows_sixteen n (drop 16 ls) (length-drop 16 ls ∙ (let q : length ls - 16 ≡ 16 * n = omega arith in q)))

-- of the records of a table, the table with the tenant replaced
pub put_row_is : (ls : List Lease) (h : ℕ) (t : TenantLeases) → length ls ≡ 128 → h < 8 → put_row ls h t.leases ≡ records_of (put_at (table_from ls) h t)
unfolding records_of table_from
put_row_is ls h t e p =
    ap (λ (x : List Lease). put_row x h t.leases) (sym (rows_back 8 ls e))
    ∙ put_rows (map tenant_from (rows 8 ls)) h t (rows_sixteen 8 ls e) (let k = length-map (rows 8 ls) tenant_from ∙ rows_length 8 ls in omega arith)

-- ---- what the type says of every record
abbrev pub Long : Lease → Type 0
Long l = length l.id ≡ 32
