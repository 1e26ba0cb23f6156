-- Definitions: the campus file's sections of leases and of holds (document 01, "Campus file and sound book"; document 02, W-205): their values and their
-- formats. A tenant is document 01's house.
use Rattle.std.specs.Prelude.{Bool, false, true, List, [], ℕ, eqb, ltb}
use Rattle.address_set.specs.AddressSet.{rises}
use Rattle.identifier.specs.Order.{order_of}
use Rattle.lists.specs.Pick.{pick}
use Rattle.format.specs.Format.{Format, ◌⊗◌, counted, number, octet, only, viewed}
use Rattle.format.specs.Section.{section_format}

pub record FileLease : Type 0 where
  pub tenant : ℕ
  pub scope : ℕ
  pub id : List ℕ
  pub kind : ℕ
  pub xid : ℕ
  pub start : ℕ
  pub end : ℕ
  pub offsets : List ℕ

-- document 02, W-205: a hold, "laid out .. as leases, the lapse time(4) last"
pub record FileHold : Type 0 where
  pub lease : FileLease
  pub lapse : ℕ

-- tenant t with identifier a is after tenant u with identifier b: by tenant, then by identifier
unfoldable pub is_after : ℕ → List ℕ → ℕ → List ℕ → Bool
is_after t a u b = pick (ltb t u) false (pick (ltb u t) true (eqb (order_of a b) 2))

-- what of a lease the next is compared with, and whether a lease is out of order after that
abbrev pub lease_key : FileLease → ℕ × List ℕ
lease_key x = (x.tenant, x.id)

abbrev pub lease_after : ℕ × List ℕ → FileLease → Bool
lease_after k x = is_after k.0 k.1 x.tenant x.id

-- the parts of a lease in the file's order, and the lease of its parts
abbrev pub LeaseParts : Type 0
LeaseParts = ℕ × (ℕ × (List ℕ × (ℕ × (ℕ × (ℕ × (ℕ × List ℕ))))))

abbrev pub of_parts : LeaseParts → FileLease
of_parts p = record { tenant = p.0; scope = p.1.0; id = p.1.1.0; kind = p.1.1.1.0; xid = p.1.1.1.1.0; start = p.1.1.1.1.1.0; end = p.1.1.1.1.1.1.0; offsets = p.1.1.1.1.1.1.1 }

abbrev pub to_parts : FileLease → LeaseParts
to_parts l = (l.tenant, (l.scope, (l.id, (l.kind, (l.xid, (l.start, (l.end, l.offsets)))))))

abbrev pub lease_format : Format FileLease
lease_format = viewed of_parts to_parts (octet ⊗ octet ⊗ counted octet ⊗ octet ⊗ number ⊗ number ⊗ number ⊗ only rises (counted octet))

abbrev pub leases_format : Format (List FileLease)
leases_format = section_format lease_key lease_after (0, []) lease_format

-- "a last section for holds, laid out and ordered as leases, the lapse time(4) last" (document 02, W-205)
abbrev pub hold_key : FileHold → ℕ × List ℕ
hold_key x = lease_key x.lease

abbrev pub hold_after : ℕ × List ℕ → FileHold → Bool
hold_after k x = lease_after k x.lease

abbrev pub hold_format : Format FileHold
hold_format = viewed (λ p. record { lease = p.0; lapse = p.1 }) (λ x. (x.lease, x.lapse)) (lease_format ⊗ number)

abbrev pub holds_format : Format (List FileHold)
holds_format = section_format hold_key hold_after (0, []) hold_format

-- ---- the two sections as one, for the code, which goes over either: that of holds, or that of leases
abbrev pub Entry : Bool → Type 0
Entry true = FileHold
Entry false = FileLease

-- an entry but for its lapse
unfoldable pub lease_in : (holds : Bool) → Entry holds → FileLease
lease_in true x = x.lease
lease_in false x = x

abbrev pub entry_tenant : (holds : Bool) → Entry holds → ℕ
entry_tenant holds x = (lease_in holds x).tenant

abbrev pub entry_key : (holds : Bool) → Entry holds → ℕ × List ℕ
entry_key holds x = lease_key (lease_in holds x)

abbrev pub entry_after : (holds : Bool) → ℕ × List ℕ → Entry holds → Bool
entry_after holds k x = lease_after k (lease_in holds x)

unfoldable pub entry_format : (holds : Bool) → Format (Entry holds)
entry_format true = hold_format
entry_format false = lease_format

abbrev pub entries_format : (holds : Bool) → Format (List (Entry holds))
entries_format holds = section_format (entry_key holds) (entry_after holds) (0, []) (entry_format holds)
