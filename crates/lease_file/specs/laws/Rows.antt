-- Laws: writing: the octets of an entry piece by piece, of a tenant's and of all entries, and how many there are.
use Rattle.std.specs.Prelude.{Bool, false, true, ◌≡◌, refl, ◌+◌, ◌<◌, ◌≤◌, min, suc, zero, ℕ, get_or, take}
use mathlib.Core.List.{List, [], ◌++◌, ◌∷◌, append_assoc, append-nil, map, map-map}
use Rattle.std.proofs.Common.{◌∙◌, subst, sym, arith, length-append, length-take, take_all, take-suc}
use Rattle.std.proofs.Math.Path.{ap, ap₂}
use Rattle.std.proofs.Math.ListN.{length}
use Rattle.address_set.specs.AddressSet.{offsets}
use Rattle.address_set.specs.laws.Bits.{length_offsets}
use Rattle.format.specs.Format.{write_all}
use Rattle.format.specs.Rows.{write_from}
use Rattle.format.specs.Tenants.{filed_all}
use Rattle.format.specs.laws.Format.{plain}
use Rattle.format.specs.laws.Rows.{RowInv, SizeInv, count_is, row_done, row_next, row_room, row_same, row_sum, row_whole, rows, section_wrote, size_end, tenants_octets}
use Rattle.format.specs.laws.Tenants.{filed_sum}
use Rattle.lists.specs.Filter.{filter_by}
use Rattle.lists.specs.Pick.{pick}
use Rattle.lists.specs.Sums.{sum_to}
use Rattle.lists.specs.laws.Filter.{filter_append}
use Rattle.lists.specs.laws.Part.{cut_take}
use Rattle.lists.specs.laws.Sums.{sum_same}
use Rattle.octets.specs.Octets.{Wrote, octets32}
use Rattle.octets.specs.laws.Octets.{wrote_as, wrote_joined, wrote_none}
use Rattle.state.specs.Book.{id_of, in_use, is_hold, leases_of, no_leases}
use Rattle.state.specs.declared.Lease.{Lease}
use Rattle.state.specs.declared.LeaseTable.{LeaseTable}
use Rattle.state.specs.declared.TenantLeases.{TenantLeases}
use Rattle.state.specs.laws.Layout.{no_lease}
use Rattle.lease_file.specs.Place.{tail_of}
use Rattle.lease_file.specs.Records.{filed_entry, filed_hold, filed_holds, filed_in, filed_lease, filed_leases, of_kind, table_octets}
use Rattle.lease_file.specs.Rows.{entry_octets, kind_count, lapse_octets, one_of, table_rows, table_total, tenant_octets, tenant_row}
use Rattle.lease_file.specs.Section.{Entry, entry_format, lease_format}
use Rattle.lease_file.specs.laws.Form.{tail_four}
use Rattle.lease_file.specs.laws.Limits.{kind_in}

-- ---- a lease
pub id_length : (n : ℕ) (l : Lease) → length l.id ≡ 32 → n ≡ min l.id_len 32 → n ≡ length (id_of l)
id_length n l e p = count_is 32 l.id_len n l.id e p

pub head_wrote : {r₀ r₁ r₂ r₃ r₄ : List ℕ} {at a b c d t s n : ℕ} (l : Lease) → length l.id ≡ 32 → n ≡ min l.id_len 32 → at ≤ length r₀ → Wrote r₀ at (t ∷ []) r₁ a → Wrote r₁ a (s ∷ []) r₂ b → Wrote r₂ b (n ∷ []) r₃ c
    → Wrote r₃ c (take n l.id) r₄ d → Wrote r₀ at (t ∷ s ∷ length (id_of l) ∷ id_of l) r₄ d
head_wrote {n = n} l e m h p q w z =
    wrote_joined h (wrote_joined h (wrote_joined h p q) (wrote_as (ap {B = List ℕ} (λ (j : ℕ). j ∷ []) (id_length n l e m)) w))
    (wrote_as (ap (λ (j : ℕ). take j l.id) m ∙ cut_take 32 l.id_len l.id e) z)

pub middle_wrote : {r₀ r₁ r₂ r₃ r₄ : List ℕ} {at a b c d k : ℕ} (x s e : ℕ) → at ≤ length r₀ → Wrote r₀ at (k ∷ []) r₁ a → Wrote r₁ a (octets32 x) r₂ b → Wrote r₂ b (octets32 s) r₃ c → Wrote r₃ c (octets32 e) r₄ d
    → Wrote r₀ at (k ∷ octets32 x ++ octets32 s ++ octets32 e) r₄ d
middle_wrote x s e h p q w z = wrote_joined h (wrote_joined h (wrote_joined h p q) w) z

pub addresses_wrote : {r₀ r₁ r₂ : List ℕ} {at a b n : ℕ} (m : ℕ) → at ≤ length r₀ → n ≡ length (offsets m) → Wrote r₀ at (n ∷ []) r₁ a → Wrote r₁ a (offsets m) r₂ b
    → Wrote r₀ at (length (offsets m) ∷ offsets m) r₂ b
addresses_wrote m h e p q = section_wrote (length (offsets m)) h e p q

lease_octets : (t : ℕ) (l : Lease) → lease_format.write (filed_lease t l)
    ≡ (t ∷ l.scope ∷ length (id_of l) ∷ id_of l) ++ (l.kind ∷ octets32 l.xid ++ octets32 l.start ++ octets32 l.end) ++ (length (offsets l.addresses) ∷ offsets l.addresses)
unfolding filed_lease
lease_octets t l =
    ap₂ build (plain (id_of l)) (plain offs)
    ∙ sym (append_assoc (t ∷ l.scope ∷ length (id_of l) ∷ id_of l) (l.kind ∷ octets32 l.xid ++ octets32 l.start ++ octets32 l.end) (length offs ∷ offs))
  where
    offs : List ℕ
    offs = offsets l.addresses

    build : List ℕ → List ℕ → List ℕ
    build i o = t ∷ l.scope ∷ length (id_of l) ∷ (i ++ (l.kind ∷ octets32 l.xid ++ octets32 l.start ++ octets32 l.end ++ (length offs ∷ o)))

-- how many there are
pub lease_size : (t : ℕ) (l : Lease) → length (lease_format.write (filed_lease t l)) ≡ length (id_of l) + 17 + length (offsets l.addresses)
lease_size t l = ap length (lease_octets t l) ∙ simp length-append (omega arith)

pub lease_wrote : {r₀ r₁ r₂ r₃ : List ℕ} {at a b c : ℕ} (t : ℕ) (l : Lease) → at ≤ length r₀
    → Wrote r₀ at (t ∷ l.scope ∷ length (id_of l) ∷ id_of l) r₁ a
    → Wrote r₁ a (l.kind ∷ octets32 l.xid ++ octets32 l.start ++ octets32 l.end) r₂ b
    → Wrote r₂ b (length (offsets l.addresses) ∷ offsets l.addresses) r₃ c
    → Wrote r₀ at (lease_format.write (filed_lease t l)) r₃ c
lease_wrote t l h p q w = wrote_as (sym (lease_octets t l)) (wrote_joined h (wrote_joined h p q) w)

-- ---- an entry: the lease and a hold's lapse
pub entry_octets_law : (holds : Bool) (t : ℕ) (l : Lease) → lease_format.write (filed_lease t l) ++ lapse_octets holds l.lapse ≡ (entry_format holds).write (filed_entry holds t l)
unfolding entry_format filed_entry filed_hold lapse_octets pick
entry_octets_law true t l = refl
entry_octets_law false t l = append-nil (lease_format.write (filed_lease t l))

pub lapse_size : (holds : Bool) (v : ℕ) → length (lapse_octets holds v) ≡ tail_of holds
unfolding lapse_octets tail_of pick
lapse_size true v = refl
lapse_size false v = refl

pub lapse_four : (holds : Bool) (v : ℕ) → holds ≡ true → length (lapse_octets holds v) ≡ 4
lapse_four holds v e = lapse_size holds v ∙ tail_four holds e

pub entry_long : (holds : Bool) (t : ℕ) (l : Lease) → length ((entry_format holds).write (filed_entry holds t l)) ≡ length (lease_format.write (filed_lease t l)) + length (lapse_octets holds l.lapse)
entry_long holds t l = ap length (sym (entry_octets_law holds t l)) ∙ length-append (lease_format.write (filed_lease t l)) (lapse_octets holds l.lapse)

pub entry_wrote : {r₀ r₁ r₂ : List ℕ} {at a b : ℕ} (holds : Bool) (t : ℕ) (l : Lease) → at ≤ length r₀ → Wrote r₀ at (lease_format.write (filed_lease t l)) r₁ a → Wrote r₁ a (lapse_octets holds l.lapse) r₂ b
    → Wrote r₀ at ((entry_format holds).write (filed_entry holds t l)) r₂ b
entry_wrote holds t l h p q = wrote_as (entry_octets_law holds t l) (wrote_joined h p q)

pub lapse_wrote : {r₀ r₁ : List ℕ} {at a : ℕ} (holds : Bool) (v : ℕ) → holds ≡ true → Wrote r₀ at (octets32 v) r₁ a → Wrote r₀ at (lapse_octets holds v) r₁ a
unfolding lapse_octets pick
lapse_wrote holds v e p = wrote_as (ap (λ (b : Bool). pick b (octets32 v) []) (sym e)) p

pub lapse_none : (holds : Bool) (v : ℕ) (r : List ℕ) (at : ℕ) → holds ≡ false → Wrote r at (lapse_octets holds v) r at
unfolding lapse_octets pick
lapse_none holds v r at e = wrote_as (ap (λ (b : Bool). pick b (octets32 v) []) (sym e)) (wrote_none r at)

-- ---- where the record belongs into the section
pub kind_is : (holds : Bool) (l : Lease) → kind_in holds l.kind ≡ of_kind holds l
unfolding of_kind is_hold pick
kind_is true l = refl
kind_is false l = refl

module _ (holds : Bool) (t i : ℕ) (l : Lease) {q : Bool} (e : q ≡ kind_in holds l.kind) where
  pub octets_in : q ≡ true → (entry_format holds).write (filed_entry holds t l) ≡ entry_octets holds t i l
  unfolding entry_octets pick
  octets_in p = ap (λ (b : Bool). pick b ((entry_format holds).write (filed_entry holds t l)) []) (sym p ∙ e ∙ kind_is holds l)

  pub octets_out : q ≡ false → [] ≡ entry_octets holds t i l
  unfolding entry_octets pick
  octets_out p = ap (λ (b : Bool). pick b ((entry_format holds).write (filed_entry holds t l)) []) (sym p ∙ e ∙ kind_is holds l)

  pub one_in : q ≡ true → 1 ≡ one_of holds l
  unfolding one_of pick
  one_in p = ap (λ (b : Bool). pick b 1 0) (sym p ∙ e ∙ kind_is holds l)

  pub one_out : q ≡ false → 0 ≡ one_of holds l
  unfolding one_of pick
  one_out p = ap (λ (b : Bool). pick b 1 0) (sym p ∙ e ∙ kind_is holds l)

  -- how many octets: at most 117
  pub entry_size : (n k z : ℕ) → q ≡ true → length l.id ≡ 32 → n ≡ min l.id_len 32 → k ≡ length (offsets l.addresses) → (z ≡ tail_of holds) × (z ≤ 4) → (n + 17 + k + z ≡ length (entry_octets holds t i l)) × (n + 17 + k + z ≤ 117)
  entry_size n k z p el en ek (ez, h) =
      let a = id_length n l el en in
      let b = lease_size t l in
      let c = entry_long holds t l in
      let d = lapse_size holds l.lapse in
      let f = ap length (octets_in p) in
      let g = length_offsets l.addresses in
      (omega arith, omega arith)

  pub no_size : q ≡ false → (0 ≡ length (entry_octets holds t i l)) × (0 ≤ 117)
  no_size p = (ap length (octets_out p), omega arith)

-- ---- a tenant's, and all, where the search meets the octets and not their name
module _ (holds : Bool) (t : ℕ) {l : List Lease} {m c n : ℕ} {r₀ : List ℕ} {at : ℕ} {buffer : List ℕ} {to i : ℕ} (v : RowInv (entry_octets holds t) no_lease l m c n r₀ at buffer to i) where
  pub entry_room : i < n → to + length (entry_octets holds t 0 (get_or l i no_lease)) ≤ length buffer
  unfolding entry_octets
  entry_room h = row_room v h

  pub entry_next : {r₁ : List ℕ} {k : ℕ} → i < n → Wrote buffer to (entry_octets holds t 0 (get_or l i no_lease)) r₁ k → length r₁ ≡ length buffer → RowInv (entry_octets holds t) no_lease l m c n r₀ at r₁ k (i + 1)
  unfolding entry_octets
  entry_next h p q = row_next v h p q

-- those in use, as they are cut out of their array
module _ (t : TenantLeases) {n : ℕ} (e : length t.leases ≡ 16) (p : n ≡ min t.count 16) where
  used_is : take n t.leases ≡ in_use t
  used_is = ap (λ (k : ℕ). take k t.leases) p ∙ cut_take 16 t.count t.leases e

  pub used_start : (w : ℕ → Lease → List ℕ) {r₀ : List ℕ} {at : ℕ} → at + length (write_from w 0 (in_use t)) ≤ length r₀
      → RowInv w no_lease (take n t.leases) (length (take n t.leases)) (length (take n t.leases)) (length (take n t.leases)) r₀ at r₀ at 0
  used_start w {r₀} {at} h = row_whole refl (subst (λ (l : List Lease). at + length (write_from w 0 l) ≤ length r₀) (sym used_is) h)

  pub used_end : (w : ℕ → Lease → List ℕ) {r₀ : List ℕ} {at : ℕ} {buffer : List ℕ} {to i : ℕ}
      → RowInv w no_lease (take n t.leases) (length (take n t.leases)) (length (take n t.leases)) (length (take n t.leases)) r₀ at buffer to i
      → length (take n t.leases) ≤ i → Wrote r₀ at (write_from w 0 (in_use t)) buffer to
  used_end w v h = wrote_as (ap (write_from w 0) used_is) (row_done v h)

pub ruleset entry_rows = (entry_room, entry_next)

module _ (holds : Bool) {l : List TenantLeases} {m c n : ℕ} {r₀ : List ℕ} {at : ℕ} {buffer : List ℕ} {to i : ℕ} (v : RowInv (tenant_row holds) no_leases l m c n r₀ at buffer to i) where
  pub tenant_room : i < n → to + length (tenant_octets holds (i + 1) (get_or l i no_leases)) ≤ length buffer
  unfolding tenant_row
  tenant_room h = row_room v h

  pub tenant_next : {r₁ : List ℕ} {k : ℕ} → i < n → Wrote buffer to (tenant_octets holds (i + 1) (get_or l i no_leases)) r₁ k → length r₁ ≡ length buffer → RowInv (tenant_row holds) no_leases l m c n r₀ at r₁ k (i + 1)
  unfolding tenant_row
  tenant_next h p q = row_next v h p q

pub ruleset tenant_rows = (tenant_room, tenant_next, rows)

-- ---- how many entries
kinds_sum : (holds : Bool) (n : ℕ) (l : List Lease) → n ≤ length l → sum_to (λ i. one_of holds (get_or l i no_lease)) n ≡ length (filter_by (of_kind holds) (take n l))
unfolding sum_to filter_by one_of pick
kinds_sum holds zero l h = refl
kinds_sum holds (suc n) l h =
    ap₂ (λ (x y : ℕ). x + y) (kinds_sum holds n l (omega arith)) (one (of_kind holds (get_or l n no_lease)))
    ∙ sym (ap (λ (x : List Lease). length (filter_by (of_kind holds) x)) (take-suc l n no_lease (omega arith)) ∙ ap length (filter_append (of_kind holds) (take n l) (get_or l n no_lease ∷ []))
    ∙ length-append (filter_by (of_kind holds) (take n l)) (filter_by (of_kind holds) (get_or l n no_lease ∷ [])))
  where
    one : (b : Bool) → pick b 1 0 ≡ length (pick b (get_or l n no_lease ∷ []) [])
    one true = refl
    one false = refl

module _ (holds : Bool) (h : TenantLeases) {n : ℕ} (e : length h.leases ≡ 16) (p : n ≡ min h.count 16) where
  used_few : length (take n h.leases) ≤ 16
  used_few = let a = length-take n h.leases in omega arith

  pub kinds_counted : {sum i : ℕ} → SizeInv (λ i. one_of holds (get_or (take n h.leases) i no_lease)) 1 (length (take n h.leases)) sum i → length (take n h.leases) ≤ i → (sum ≡ kind_count holds h) × (sum ≤ 16)
  kinds_counted {sum} v k =
      let a = used_few in (
        size_end v k ∙ kinds_sum holds (length (take n h.leases)) (take n h.leases) (omega arith)
            ∙ ap (λ (l : List Lease). length (filter_by (of_kind holds) l)) (take_all (length (take n h.leases)) (take n h.leases) (omega arith) ∙ used_is h e p),
        omega (arith, v.small, v.within),
      )

  pub sizes_counted : {sum i : ℕ} → SizeInv (λ i. length (entry_octets holds 0 i (get_or (take n h.leases) i no_lease))) 117 (length (take n h.leases)) sum i → length (take n h.leases) ≤ i
      → (sum ≡ length (tenant_octets holds 0 h)) × (sum ≤ 1872)
  sizes_counted {sum} v k =
      let a = used_few in (
        row_sum (entry_octets holds 0) no_lease (take n h.leases) (length (take n h.leases)) (length (take n h.leases)) (length (take n h.leases)) sum refl (omega arith) (size_end v k)
            ∙ ap (λ (l : List Lease). length (write_from (entry_octets holds 0) 0 l)) (take_all (length (take n h.leases)) (take n h.leases) (omega arith) ∙ used_is h e p),
        omega (arith, v.small, v.within),
      )

-- ---- how many octets: as many whoever's they are
entry_any : (holds : Bool) (t k : ℕ) (l : Lease) → length (entry_octets holds t k l) ≡ length (entry_octets holds 0 k l)
unfolding entry_octets pick
entry_any holds t k l = go (of_kind holds l)
  where
    go : (b : Bool) → length (pick b ((entry_format holds).write (filed_entry holds t l)) []) ≡ length (pick b ((entry_format holds).write (filed_entry holds 0 l)) [])
    go true = let a = entry_long holds t l in let b = entry_long holds 0 l in let c = lease_size t l in let d = lease_size 0 l in omega arith
    go false = refl

pub rows_length : (holds : Bool) (b : LeaseTable) (sum : ℕ) → length b.tenants ≡ 8 → sum ≡ sum_to (λ i. length (tenant_octets holds 0 (get_or b.tenants i no_leases))) 8 → sum ≡ length (table_rows holds b)
unfolding tenant_row
rows_length holds b sum e p =
    p ∙ sum_same (λ i. length (tenant_octets holds 0 (get_or b.tenants i no_leases))) (λ i. length (tenant_row holds i (get_or b.tenants i no_leases))) 8
    (λ i h. sym (row_same (entry_octets holds (i + 1)) (entry_octets holds 0) (entry_any holds (i + 1)) 0 (in_use (get_or b.tenants i no_leases))))
    ∙ row_sum (tenant_row holds) no_leases b.tenants 8 8 8 _ e refl refl
    ∙ ap (λ (x : List TenantLeases). length (write_from (tenant_row holds) 0 x)) (take_all 8 b.tenants (omega arith))

-- ---- the section: its count and its rows
filter_octets : (w : Lease → List ℕ) (t : Lease → Bool) (j k : ℕ) (l : List Lease) → write_from (λ _ y. w y) j (filter_by t l) ≡ write_from (λ _ y. pick (t y) (w y) []) k l
unfolding write_from filter_by pick
filter_octets w t j k [] = refl
filter_octets w t j k (x ∷ l) = go (t x) (filter_octets w t (suc j) (suc k) l) (filter_octets w t j (suc k) l)
  where
    rest : List ℕ
    rest = write_from (λ _ y. pick (t y) (w y) []) (suc k) l

    go : (b : Bool) → write_from (λ _ y. w y) (suc j) (filter_by t l) ≡ rest → write_from (λ _ y. w y) j (filter_by t l) ≡ rest → write_from (λ _ y. w y) j (pick b (x ∷ filter_by t l) (filter_by t l)) ≡ pick b (w x) [] ++ rest
    go true on off = ap (λ (r : List ℕ). w x ++ r) on
    go false on off = off

rows_same : {H : Type 0} (f g : ℕ → H → List ℕ) → ((i : ℕ) (h : H) → f i h ≡ g i h) → (k : ℕ) (hs : List H) → write_from f k hs ≡ write_from g k hs
unfolding write_from
rows_same f g e k [] = refl
rows_same f g e k (h ∷ hs) = ap₂ {C = List ℕ} (λ (x y : List ℕ). x ++ y) (e k h) (rows_same f g e (suc k) hs)

pub filed_in_law : (holds : Bool) (b : LeaseTable) → filed_in holds b ≡ filed_all (filed_entry holds) 1 (map (filter_by (of_kind holds)) (leases_of b))
unfolding filed_in filed_entry of_kind filed_holds filed_leases
filed_in_law true b = refl
filed_in_law false b = refl

module _ (holds : Bool) (b : LeaseTable) (e : length b.tenants ≡ 8) where
  section_octets_law : table_octets holds b ≡ table_total holds b ∷ table_rows holds b
  unfolding table_octets entry_octets tenant_row
  section_octets_law =
      ap {B = List ℕ} (λ (l : List (Entry holds)). length l ∷ write_all (entry_format holds).write l) (filed_in_law holds b ∙ ap (filed_all (filed_entry holds) 1) (map-map (filter_by (of_kind holds)) in_use b.tenants))
      ∙ ap₂ {C = List ℕ} (λ (n : ℕ) (l : List ℕ). n ∷ l) (filed_sum (filed_entry holds) (λ h. filter_by (of_kind holds) (in_use h)) no_leases 8 1 b.tenants e)
      (tenants_octets (entry_format holds).write (filed_entry holds) (λ h. filter_by (of_kind holds) (in_use h)) 0 b.tenants
      ∙ rows_same _ _ (λ i h. filter_octets (λ y. (entry_format holds).write (filed_entry holds (i + 1) y)) (of_kind holds) 0 0 (in_use h)) 0 b.tenants)

  pub section_length : length (table_octets holds b) ≡ 1 + length (table_rows holds b)
  section_length = let q = ap length section_octets_law in omega arith

  pub section_size : (n : ℕ) → (n ≡ length (table_rows holds b)) × (n ≤ 14976) → (1 + n ≡ length (table_octets holds b)) × (1 + n ≤ 14977)
  section_size n p = let a = p.0 in let b = p.1 in let q = section_length in (omega arith, omega arith)

  pub table_wrote : {r₀ r₁ r₂ : List ℕ} {at a c n : ℕ} → at ≤ length r₀ → n ≡ table_total holds b → Wrote r₀ at (n ∷ []) r₁ a → Wrote r₁ a (table_rows holds b) r₂ c → Wrote r₀ at (table_octets holds b) r₂ c
  table_wrote h q p w = wrote_as (sym section_octets_law) (section_wrote (table_total holds b) h q p w)
