-- Definitions: between the file's leases and holds and the book's records, and whether the records can hold them. A tenant is document 01's house.
use Rattle.std.specs.Prelude.{Bool, false, true, List, [], ◌∷◌, ◌++◌, map, ◌+◌, suc, zero, ℕ, eqb, leb, ltb, length, take}
use Rattle.address_set.specs.AddressSet.{offsets, read_offsets}
use Rattle.format.specs.Tenants.{filed_all, own}
use Rattle.lists.specs.All.{all_by, all_to}
use Rattle.lists.specs.Filter.{filter_by}
use Rattle.lists.specs.Pick.{pick}
use Rattle.lists.specs.Row.{laid_row}
use Rattle.lists.specs.Arranged.{arranged}
use Rattle.state.specs.Book.{by_identifier, is_hold, is_lease, lapsing_at, lease_with, leases_of, ordered, table_of}
use Rattle.state.specs.declared.Lease.{Lease}
use Rattle.state.specs.declared.LeaseTable.{LeaseTable}
use Rattle.lease_file.specs.Section.{Entry, FileHold, FileLease, entries_format}

-- ---- leases
-- a lease of the file as a record keeps it
unfoldable pub stored : FileLease → Lease
stored x = lease_with x.scope (length x.id) (laid_row 0 32 x.id) x.kind x.xid x.start x.end (read_offsets x.offsets)

-- a record of tenant t as it stands in the file
unfoldable pub filed_lease : ℕ → Lease → FileLease
filed_lease t l = record {
  tenant = t;
  scope = l.scope;
  id = take l.id_len l.id;
  kind = l.kind;
  xid = l.xid;
  start = l.start;
  end = l.end;
  offsets = offsets l.addresses;
}

abbrev pub lease_tenant : FileLease → ℕ
lease_tenant x = x.tenant

-- ---- holds (document 02, W-205): in the records among the leases, in the file apart
-- a hold of the file as a record keeps it, and a record of tenant t that is one as it stands in the file
unfoldable pub stored_hold : FileHold → Lease
stored_hold x = lapsing_at x.lapse (stored x.lease)

unfoldable pub filed_hold : ℕ → Lease → FileHold
filed_hold t l = record { lease = filed_lease t l; lapse = l.lapse }

abbrev pub hold_tenant : FileHold → ℕ
hold_tenant x = x.lease.tenant

-- the records of n tenants from t on, tenant by tenant: its leases xs and its holds ys together, in the order of records
unfoldable pub merged_from : ℕ → ℕ → List FileLease → List FileHold → List (List Lease)
merged_from t zero xs ys = []
merged_from t (suc n) xs ys = arranged ordered (map stored_hold (own hold_tenant t ys) ++ map stored (own lease_tenant t xs)) ∷ merged_from (suc t) n xs ys

-- "The campus file keeps its own order" (document 02, W-209): each tenant's records by identifier
unfoldable pub in_file_order : LeaseTable → LeaseTable
in_file_order b = table_of (map (arranged by_identifier) (leases_of b))

-- the leases of the records, as they stand, and the holds
unfoldable pub filed_leases : LeaseTable → List FileLease
filed_leases b = filed_all filed_lease 1 (map (filter_by is_lease) (leases_of b))

unfoldable pub filed_holds : LeaseTable → List FileHold
filed_holds b = filed_all filed_hold 1 (map (filter_by is_hold) (leases_of b))

-- ---- limits
-- an offset that a set of addresses can have
abbrev pub is_offset : ℕ → Bool
is_offset a = ltb a 64

-- a lease that a record can hold: of one of eight tenants (rule 7), with an identifier of at most 32 octets (rule 1) and offsets below 64 (rule 2);
-- rules of document 01's "Sound" by their place
unfoldable pub storable_b : FileLease → Bool
storable_b x =
    pick (ltb x.tenant 1) false
    (pick (ltb 8 x.tenant) false
    (pick (ltb 32 (length x.id)) false
    (all_by is_offset x.offsets)))

-- what stands among the leases is no hold: one of type 1 breaks rule 7
unfoldable pub lease_fit_b : FileLease → Bool
lease_fit_b x = pick (eqb x.kind 1) false (storable_b x)

-- what stands among the holds has type 1 (rule 13)
unfoldable pub hold_fit_b : FileHold → Bool
hold_fit_b x = pick (eqb x.lease.kind 1) (storable_b x.lease) false

-- tenant t has at most 16 leases and holds together (rule 1)
unfoldable pub few_of : List FileLease → List FileHold → ℕ → Bool
few_of xs ys t = leb (length (own lease_tenant t xs) + length (own hold_tenant t ys)) 16

-- the records can hold the leases and the holds
unfoldable pub records_fit_b : List FileLease → List FileHold → Bool
records_fit_b xs ys = pick (all_by lease_fit_b xs) (pick (all_by hold_fit_b ys) (all_to (λ i. few_of xs ys (i + 1)) 8) false) false

-- ---- the same of either section
unfoldable pub stored_entry : (holds : Bool) → Entry holds → Lease
stored_entry true x = stored_hold x
stored_entry false x = stored x

unfoldable pub filed_entry : (holds : Bool) → ℕ → Lease → Entry holds
filed_entry true t l = filed_hold t l
filed_entry false t l = filed_lease t l

-- a record belongs into the section
unfoldable pub of_kind : Bool → Lease → Bool
of_kind true l = is_hold l
of_kind false l = is_lease l

unfoldable pub filed_in : (holds : Bool) → LeaseTable → List (Entry holds)
filed_in true b = filed_holds b
filed_in false b = filed_leases b

unfoldable pub entry_fit_b : (holds : Bool) → Entry holds → Bool
entry_fit_b true x = hold_fit_b x
entry_fit_b false x = lease_fit_b x

-- the octets of a section
unfoldable pub table_octets : Bool → LeaseTable → List ℕ
table_octets holds b = (entries_format holds).write (filed_in holds b)
