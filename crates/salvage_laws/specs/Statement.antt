-- Statement: what a salvage guarantees, of any octets and rooms: "The file is always accepted; a sound one comes back unchanged with count 0" (document 02, W-212); what
-- is dropped breaks the rule that is named, together with those kept before it; and nothing that is kept is altered, nor anything else.
use Rattle.std.specs.Prelude.{false, true, List, [], ◌++◌, ◌∷◌, ◌≡◌, ◌-◌, ◌<◌, ◌≤◌, ℕ, eqb, ltb, get_or, length}
use Rattle.lists.specs.All.{All}
use Rattle.lists.specs.Filter.{is_in}
use Rattle.lists.specs.Pick.{pick}
use Rattle.format.specs.Format.{Octets, got}
use Rattle.state.specs.Book.{in_use, releases_at, tenant_at}
use Rattle.state.specs.declared.LeaseTable.{LeaseTable}
use Rattle.state.specs.declared.Memory.{Memory}
use Rattle.state.specs.declared.State.{State}
use Rattle.soundness.specs.Sound.{first_rule, rules_of}
use Rattle.releases.specs.Rules.{first_release, release_rules_of}
use Rattle.release_file.specs.Section.{FileRelease, keepable_b}
use Rattle.lease_file.specs.Records.{hold_fit_b, lease_fit_b, storable_b, stored_hold}
use Rattle.lease_file.specs.Section.{FileHold, FileLease}
use Rattle.state_file.specs.File.{File, file_of}
use Rattle.state_file.specs.Records.{filed_book, stored_state}
use Rattle.state_file.specs.StateFile.{read_file, refusal_number, zero_memory, zero_table}
use Rattle.salvage_rules.specs.Rules.{hold_rule, known_tenant, lease_rule, limits_kept, offsets_kept, release_rule, typed_hold, with_hold, with_lease, with_record, with_release}
use Rattle.salvage_list.specs.List.{Dropped, dropped_from}
use Rattle.salvage_walk.specs.Walk.{hold_rules, kept_after, lease_rules, leases_kept, records_kept, release_rules, rules_in, settings_sound}
use Rattle.salvage_file.specs.Salvage.{kept_book, salvage_of}

-- ---- "The file is always accepted"
unfoldable pub AlwaysAccepted : Type 0
AlwaysAccepted = (s : List ℕ) (n m : ℕ) → Octets s → (salvage_of s n m).refusal ≡ 0 → refusal_number (read_file (salvage_of s n m).file) ≡ 0

-- ---- "a sound one comes back unchanged with count 0"
unfoldable pub SoundUnchanged : Type 0
SoundUnchanged = (s : List ℕ) (n m : ℕ) → Octets s → refusal_number (read_file s) ≡ 0 → length s ≤ n → 2 ≤ m → salvage_of s n m ≡ record { refusal = 0; file = s; list = 0 ∷ 0 ∷ [] }

-- ---- what is dropped would break the rule that is named, together with those kept before it
-- each of a section is judged with those of it that were kept before, and with what was kept before the section
unfoldable pub JudgedInTurn : Type 1
JudgedInTurn = (A B : Type 0) (rule : B → A → ℕ) (add : B → A → B) (b : B) (before : List A) (x : A) (after : List A)
    → get_or (rules_in rule add b (before ++ x ∷ after)) (length before) 0 ≡ rule (kept_after rule add b before) x

-- the list names, of a section in which the rules rs are broken, just those that break one, with their places and these rules
pub record ListedIn (kind : ℕ) (rs : List ℕ) (d : Dropped) : Type 0 where
  pub kinds : d.kind ≡ kind
  pub from : 1 ≤ d.place
  pub to : d.place ≤ length rs
  pub ruled : d.rule ≡ get_or rs (d.place - 1) 0
  pub broken : 0 < d.rule

unfoldable pub ListedRight : Type 0
ListedRight = (kind : ℕ) (rs : List ℕ) → All (ListedIn kind rs) (dropped_from kind 1 rs)

-- What no record can hold breaks 1, 2 or 7: the first of them, by the tests that need no record
unfoldable pub unheld_rule : State → LeaseTable → FileLease → ℕ
unheld_rule s b x = pick (limits_kept s b x) (pick (offsets_kept s x) 7 2) 1

-- x is judged by "Sound": the rule of a lease that a record can hold is the first that the book with it breaks; a house's seventeenth record breaks 1
pub record FirstOfLease (s : State) (b : LeaseTable) (x : FileLease) : Type 0 where
  pub held : lease_fit_b x ≡ true → length (in_use (tenant_at b (x.tenant - 1))) < 16 → lease_rule s b x ≡ first_rule (rules_of s (with_lease b x))
  pub full : lease_fit_b x ≡ true → 16 ≤ length (in_use (tenant_at b (x.tenant - 1))) → lease_rule s b x ≡ 1
  pub other : lease_fit_b x ≡ false → lease_rule s b x ≡ unheld_rule s b x

-- the first that the book breaks with x taken for a hold, whatever its type
abbrev pub untyped_rule : State → LeaseTable → FileHold → ℕ
untyped_rule s b x = first_rule (rules_of s (with_record b x.lease.tenant (typed_hold (stored_hold x))))

-- so is a hold; one of another type than 1 breaks 13 where it breaks nothing else
pub record FirstOfHold (s : State) (b : LeaseTable) (x : FileHold) : Type 0 where
  pub held : hold_fit_b x ≡ true → length (in_use (tenant_at b (x.lease.tenant - 1))) < 16 → hold_rule s b x ≡ first_rule (rules_of s (with_hold b x))
  pub typed : storable_b x.lease ≡ true → eqb x.lease.kind 1 ≡ false → length (in_use (tenant_at b (x.lease.tenant - 1))) < 16 → hold_rule s b x ≡ pick (eqb (untyped_rule s b x) 0) 13 (untyped_rule s b x)
  pub full : storable_b x.lease ≡ true → 16 ≤ length (in_use (tenant_at b (x.lease.tenant - 1))) → hold_rule s b x ≡ 1
  pub other : storable_b x.lease ≡ false → hold_rule s b x ≡ unheld_rule s b x.lease

-- and a release by W-202's five; a house's fifth breaks 15, and what the memory cannot hold 14, 15 or 16
pub record FirstOfRelease (s : State) (b : LeaseTable) (m : Memory) (x : FileRelease) : Type 0 where
  pub held : keepable_b x ≡ true → (releases_at m (x.tenant - 1)).count < 4 → release_rule s b m x ≡ first_release (release_rules_of s b (with_release m x))
  pub full : keepable_b x ≡ true → 4 ≤ (releases_at m (x.tenant - 1)).count → release_rule s b m x ≡ 15
  pub other : keepable_b x ≡ false → release_rule s b m x ≡ pick (known_tenant s x.tenant) (pick (ltb (releases_at m (x.tenant - 1)).count 4) 16 15) 14

-- each entry of a file whose settings are sound, together with those kept before it
unfoldable pub FirstBroken : Type 0
FirstBroken = (s : List ℕ) (f : File) → Octets s → file_of s ≡ got f [] → settings_sound f ≡ true
    → ((before : List FileLease) (x : FileLease) (after : List FileLease) → f.leases ≡ before ++ x ∷ after → FirstOfLease (stored_state f) (kept_after (lease_rule (stored_state f)) with_lease zero_table before) x)
    × ((before : List FileHold) (x : FileHold) (after : List FileHold) → f.holds ≡ before ++ x ∷ after → FirstOfHold (stored_state f) (kept_after (hold_rule (stored_state f)) with_hold (leases_kept f) before) x)
    × ((before : List FileRelease) (x : FileRelease) (after : List FileRelease) → f.releases ≡ before ++ x ∷ after
    → FirstOfRelease (stored_state f) (records_kept f) (kept_after (release_rule (stored_state f) (records_kept f)) with_release zero_memory before) x)

-- ---- nothing kept is altered, and "all else as it was"
-- those of a section that break no rule
unfoldable pub kept_ones : {A : Type 0} → List ℕ → List A → List A
kept_ones [] xs = []
kept_ones (r ∷ rs) [] = []
kept_ones (r ∷ rs) (x ∷ xs) = pick (eqb r 0) (x ∷ kept_ones rs xs) (kept_ones rs xs)

-- the file f with these alone
abbrev pub kept_in : File → File
kept_in f = record {
  server = f.server;
  clock = f.clock;
  tenants = f.tenants;
  scopes = f.scopes;
  leases = kept_ones (lease_rules f) f.leases;
  names = f.names;
  releases = kept_ones (release_rules f) f.releases;
  holds = kept_ones (hold_rules f) f.holds;
}

-- the new file is the old one with those of its leases, holds and releases that break no rule, in their order
unfoldable pub NothingAltered : Type 0
NothingAltered = (s : List ℕ) (f : File) → Octets s → file_of s ≡ got f [] → settings_sound f ≡ true → filed_book (kept_book f) ≡ kept_in f

-- so that it is never longer, and a room as long as the old one and one of 2,297 octets are never too short
unfoldable pub RoomEnough : Type 0
RoomEnough = (s : List ℕ) (n m : ℕ) → Octets s → length s ≤ n → 2297 ≤ m → is_in (salvage_of s n m).refusal (0 ∷ 20 ∷ 25 ∷ []) ≡ true
