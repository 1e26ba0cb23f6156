-- Definitions: where leases and holds stand in the file's octets, for the code that goes over them.
use Rattle.std.specs.Prelude.{Bool, false, true, List, [], ◌+◌, ◌-◌, ◌<◌, ◌≤◌, ℕ, Option, drop, get_or, length, take}
use Rattle.format.specs.Place.{EachAt, walk}
use Rattle.format.specs.Section.{EntryEnds, InRow, SectionEnds}
use Rattle.format.specs.Tenants.{keep_by, per_tenant}
use Rattle.lists.specs.Fold.{fold}
use Rattle.lists.specs.Pick.{pick}
use Rattle.octets.specs.Octets.{at32}
use Rattle.state.specs.Book.{laid_out, no_leases, pushed}
use Rattle.state.specs.declared.TenantLeases.{TenantLeases}
use Rattle.lease_file.specs.Records.{stored_entry}
use Rattle.lease_file.specs.Section.{Entry, FileLease, entry_after, entry_format, entry_key, entry_tenant}

-- the lease that starts at a place, whose parts are taken from where they would stand
unfoldable pub file_lease_at : List ℕ → ℕ → FileLease
file_lease_at s at = record {
  tenant = get_or s at 0;
  scope = get_or s (at + 1) 0;
  id = take (get_or s (at + 2) 0) (drop (at + 3) s);
  kind = get_or s (at + (get_or s (at + 2) 0 + 3)) 0;
  xid = at32 s (at + (get_or s (at + 2) 0 + 4));
  start = at32 s (at + (get_or s (at + 2) 0 + 8));
  end = at32 s (at + (get_or s (at + 2) 0 + 12));
  offsets = take (get_or s (at + (get_or s (at + 2) 0 + 16)) 0) (drop (at + (get_or s (at + 2) 0 + 17)) s);
}

-- where it ends
abbrev pub after_lease : List ℕ → ℕ → ℕ
after_lease s at = at + (get_or s (at + 2) 0 + 17 + get_or s (at + (get_or s (at + 2) 0 + 16)) 0)

-- the entry that starts at a place, and where it ends: a hold's lapse stands behind the rest
unfoldable pub entry_at : (holds : Bool) → List ℕ → ℕ → Entry holds
entry_at true s at = record { lease = file_lease_at s at; lapse = at32 s (after_lease s at) }
entry_at false s at = file_lease_at s at

unfoldable pub tail_of : Bool → ℕ
tail_of holds = pick holds 4 0

abbrev pub after_entry : Bool → List ℕ → ℕ → ℕ
after_entry holds s at = after_lease s at + tail_of holds

-- where an entry ends, and the section that starts at a place
pub record EntryEndsAt (holds : Bool) (s : List ℕ) (at : ℕ) (r : Option ℕ) : Type 0 where
  pub is : EntryEnds (entry_format holds) (entry_at holds) (after_entry holds) s at r

pub record SectionEndsAt (holds : Bool) (s : List ℕ) (at : ℕ) (r : Option ℕ) : Type 0 where
  pub is : SectionEnds (entry_key holds) (entry_after holds) (0, []) (entry_format holds) (entry_at holds) (after_entry holds) s at r

-- the entries of the section that starts at a place
abbrev pub entries_in : (holds : Bool) → List ℕ → ℕ → List (Entry holds)
entries_in holds s at = walk (entry_at holds) (after_entry holds) (get_or s at 0) s (at + 1)

-- the section lies within the octets
pub record EntriesIn (holds : Bool) (s : List ℕ) (at : ℕ) : Type 0 where
  pub start : at < length s
  pub each : InRow (after_entry holds) s (at + 1) (get_or s at 0)

-- an entry that lies within the octets and that a record of one of eight tenants can hold
pub record StorableAt (holds : Bool) (s : List ℕ) (at : ℕ) : Type 0 where
  pub from : 1 ≤ get_or s at 0
  pub to : get_or s at 0 ≤ 8
  pub ids : get_or s (at + 2) 0 ≤ 32
  pub room : after_entry holds s at ≤ length s

-- all of a section
pub record EntriesFit (holds : Bool) (s : List ℕ) (at : ℕ) : Type 0 where
  pub start : at < length s
  pub each : EachAt (StorableAt holds) (after_entry holds) (get_or s at 0) s (at + 1)

-- ---- a tenant's records: those of its holds and behind them those of its leases, filled from the front
abbrev pub kept_from : (holds : Bool) → ℕ → TenantLeases → List (Entry holds) → TenantLeases
kept_from holds t h xs = fold (keep_by (entry_tenant holds) (λ h x. pushed h (stored_entry holds x)) t) h xs

abbrev pub kept_holds : List (Entry true) → ℕ → TenantLeases
kept_holds ys t = kept_from true t (laid_out []) ys

-- the same of all eight, hs what they have first
abbrev pub filled : (holds : Bool) → List TenantLeases → List (Entry holds) → List TenantLeases
filled holds hs xs = per_tenant (λ t. kept_from holds t (get_or hs (t - 1) no_leases) xs) 1 8

unfoldable pub kept_all : List (Entry false) → List (Entry true) → List TenantLeases
kept_all xs ys = per_tenant (λ t. kept_from false t (kept_holds ys t) xs) 1 8
