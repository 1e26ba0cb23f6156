-- Laws: what is stored in a record is filed again, and back.
use Rattle.std.specs.Prelude.{Bool, List, [], ◌∷◌, ◌≡◌, refl, ◌-◌, ◌<◌, ◌^◌, ◌≤◌, ℕ, eqb, drop, length, replicate, take}
use Rattle.std.proofs.Math.Bool.{false, not, true}
use Rattle.std.proofs.Common.{◌∙◌, ap, ap₂, sym, arith}
use borrow.Author.Tests.{lt-ltb, ltb-false, ltb-true, not-true}
use Rattle.address_set.specs.AddressSet.{offsets, read_offsets, rises, set_of}
use Rattle.address_set.specs.laws.Offsets.{offsets_set_of, offsets_small, set_of_offsets}
use Rattle.lists.specs.All.{All, all_by}
use Rattle.lists.specs.Row.{laid_row}
use Rattle.lists.specs.laws.All.{all_cons, all_head}
use Rattle.lists.specs.laws.Filter.{filter_none_out}
use Rattle.lists.specs.laws.Pick.{both, neither}
use Rattle.lists.specs.laws.Row.{row_back, row_fill}
use Rattle.state.specs.Book.{id_of, is_hold, lapsing_at, lease_with}
use Rattle.state.specs.declared.Lease.{Lease}
use Rattle.lease_file.specs.Records.{entry_fit_b, filed_entry, filed_hold, filed_lease, hold_fit_b, is_offset, lease_fit_b, of_kind, storable_b, stored, stored_entry, stored_hold}
use Rattle.lease_file.specs.Section.{Entry, FileHold, FileLease, entry_format, entry_tenant, lease_in}

-- ---- read and written again
-- a lease of the file that a record can hold
pub record Storable (x : FileLease) : Type 0 where
  pub from : 1 ≤ x.tenant
  pub to : x.tenant < 9
  pub short : length x.id ≤ 32
  pub rising : rises x.offsets ≡ true
  pub low : all_by is_offset x.offsets ≡ true

offsets_all : (l : List ℕ) → all_by is_offset l ≡ true → All (λ x. x < 64) l
unfolding All
offsets_all [] e = tt
offsets_all (x ∷ l) e = let p = all_head is_offset x l e in (ltb-true x 64 p.0, offsets_all l p.1)

offsets_read : (l : List ℕ) → rises l ≡ true → all_by is_offset l ≡ true → offsets (read_offsets l) ≡ l
unfolding read_offsets
offsets_read l r h = ap (λ (x : List ℕ). offsets (set_of x)) (filter_none_out is_offset l h) ∙ offsets_set_of l r (offsets_all l h)

filed_stored : (x : FileLease) → Storable x → filed_lease x.tenant (stored x) ≡ x
unfolding filed_lease stored
filed_stored x h = ap₂ {C = FileLease} (λ (i o : List ℕ). record { tenant = x.tenant; scope = x.scope; id = i; kind = x.kind; xid = x.xid; start = x.start; end = x.end; offsets = o })
    (row_back 0 32 x.id) (offsets_read x.offsets h.rising h.low)

pub entry_again : (holds : Bool) (x : Entry holds) → Storable (lease_in holds x) → filed_entry holds (entry_tenant holds x) (stored_entry holds x) ≡ x
unfolding filed_entry stored_entry lease_in filed_hold stored_hold filed_lease
entry_again true x h = ap {B = FileHold} (λ (l : FileLease). record { lease = l; lapse = x.lapse }) (filed_stored x.lease h)
entry_again false x h = filed_stored x h

pub entry_id : (holds : Bool) (x : Entry holds) → id_of (stored_entry holds x) ≡ (lease_in holds x).id
unfolding stored_entry lease_in stored_hold stored
entry_id true x = row_back 0 32 x.lease.id
entry_id false x = row_back 0 32 x.id

-- what the limits say of an entry of the section
module _ (holds : Bool) (x : Entry holds) (e : entry_fit_b holds x ≡ true) where
  fit_parts : (of_kind holds (stored_entry holds x) ≡ true) × (storable_b (lease_in holds x) ≡ true)
  unfolding entry_fit_b of_kind stored_entry lease_in hold_fit_b lease_fit_b stored_hold stored is_hold
  fit_parts = go holds x e
    where
      go : (holds : Bool) (x : Entry holds) → entry_fit_b holds x ≡ true → (of_kind holds (stored_entry holds x) ≡ true) × (storable_b (lease_in holds x) ≡ true)
      go true x e = both _ _ e
      go false x e = let p = neither (eqb x.kind 1) (storable_b x) e in (ap not p.0, p.1)

  pub entry_kind : of_kind holds (stored_entry holds x) ≡ true
  entry_kind = fit_parts.0

  pub entry_storable : (entry_format holds).ok x → Storable (lease_in holds x)
  unfolding storable_b entry_format lease_in
  entry_storable o =
      let y : FileLease = lease_in holds x in
      let a = neither _ _ fit_parts.1 in
      let b = neither _ _ a.1 in
      let c = neither _ _ b.1 in
      let p = ltb-false (lease_in holds x).tenant 1 a.0 in
      let q = ltb-false 8 (lease_in holds x).tenant b.0 in
      record { from = p; to = omega arith; short = ltb-false 32 (length (lease_in holds x).id) c.0; rising = in_order holds x o; low = c.1 }
    where
      in_order : (holds : Bool) (x : Entry holds) → (entry_format holds).ok x → rises (lease_in holds x).offsets ≡ true
      in_order true x o = o.0.1.1.1.1.1.1.1.1
      in_order false x o = o.1.1.1.1.1.1.1.1

-- ---- written and read again
-- a record with zeros past its identifier, and a lapse in a hold alone
pub record Neat (l : Lease) : Type 0 where
  pub long : length (take l.id_len l.id) ≡ l.id_len
  pub most : l.id_len ≤ 32
  pub zeros : drop l.id_len l.id ≡ replicate (32 - l.id_len) 0
  pub bits : l.addresses < 2 ^ 64
  pub lapse : is_hold l ≡ false → l.lapse ≡ 0

pub all_offsets : (l : List ℕ) → All (λ x. x < 64) l → all_by is_offset l ≡ true
unfolding All all_by
all_offsets [] e = refl
all_offsets (x ∷ l) e = all_cons is_offset x l (lt-ltb x 64 e.0) (all_offsets l e.1)

read_offsets_law : (m : ℕ) → m < 2 ^ 64 → read_offsets (offsets m) ≡ m
unfolding read_offsets
read_offsets_law m h = ap set_of (filter_none_out is_offset (offsets m) (all_offsets (offsets m) (offsets_small m))) ∙ set_of_offsets m h

stored_filed : (t : ℕ) (l : Lease) → Neat l → stored (filed_lease t l) ≡ lapsing_at 0 l
unfolding filed_lease stored
stored_filed t l h =
    ap (λ (n : ℕ). make n (laid_row 0 32 (take l.id_len l.id)) (read_offsets (offsets l.addresses))) h.long
    ∙ ap₂ (make l.id_len) (row_fill 0 32 l.id_len l.id h.long h.zeros) (read_offsets_law l.addresses h.bits)
  where
    make : ℕ → List ℕ → ℕ → Lease
    make n i a = lease_with l.scope n i l.kind l.xid l.start l.end a

pub entry_back : (holds : Bool) (t : ℕ) (l : Lease) → (Neat l) × (of_kind holds l ≡ true) → stored_entry holds (filed_entry holds t l) ≡ l
unfolding stored_entry filed_entry stored_hold filed_hold of_kind
entry_back true t l (h, k) = ap (lapsing_at l.lapse) (stored_filed t l h)
entry_back false t l (h, k) = stored_filed t l h ∙ ap (λ (n : ℕ). lapsing_at n l) (sym (h.lapse (not-true (is_hold l) k)))
