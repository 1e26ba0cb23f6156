-- Definitions: the walk over a state file that is salvaged (document 02, W-212, "Salvage of a campus file"): "The tool walks the leases in file order, then the holds, then the
-- remembered releases, and keeps each one that leaves the book sound together with those already kept"; and the settings alone, without which there is no walk.
use Rattle.std.specs.Prelude.{Bool, false, List, [], ◌∷◌, ◌≡◌, ℕ, eqb}
use Rattle.lists.specs.Fold.{fold}
use Rattle.lists.specs.Pick.{pick}
use Rattle.state.specs.declared.LeaseTable.{LeaseTable}
use Rattle.state.specs.declared.Memory.{Memory}
use Rattle.state.specs.declared.State.{State}
use Rattle.soundness.specs.Sound.{sound_b}
use Rattle.release_file.specs.Section.{FileRelease}
use Rattle.lease_file.specs.Section.{Entry}
use Rattle.state_file.specs.File.{File}
use Rattle.state_file.specs.Records.{settings_fit_b, stored_state}
use Rattle.state_file.specs.StateFile.{zero_memory, zero_table}
use Rattle.salvage_rules.specs.Rules.{entry_rule, hold_rule, lease_rule, release_rule, with_entry, with_hold, with_lease, with_release}
use Rattle.salvage_list.specs.List.{marked}
use Rattle.salvage_walk.specs.declared.Kept.{Kept}
use Rattle.salvage_walk.specs.declared.Walked.{Walked}
use Rattle.salvage_walk.specs.declared.WalkedReleases.{WalkedReleases}

-- ---- the walk over a section: `rule` says which rule one breaks with those kept so far, `add` puts it to them
unfoldable pub kept_with : {A B : Type 0} → (B → A → ℕ) → (B → A → B) → B → A → B
kept_with rule add b x = pick (eqb (rule b x) 0) (add b x) b

-- those kept
abbrev pub kept_after : {A B : Type 0} → (B → A → ℕ) → (B → A → B) → B → List A → B
kept_after rule add b xs = fold (kept_with rule add) b xs

-- the rule that each breaks; 0 of one that is kept
unfoldable pub rules_in : {A B : Type 0} → (B → A → ℕ) → (B → A → B) → B → List A → List ℕ
rules_in rule add b [] = []
rules_in rule add b (x ∷ xs) = rule b x ∷ rules_in rule add (kept_with rule add b x) xs

-- ---- the file: leases, then holds, then releases
abbrev pub leases_kept : File → LeaseTable
leases_kept f = kept_after (lease_rule (stored_state f)) with_lease zero_table f.leases

abbrev pub records_kept : File → LeaseTable
records_kept f = kept_after (hold_rule (stored_state f)) with_hold (leases_kept f) f.holds

abbrev pub releases_kept : File → Memory
releases_kept f = kept_after (release_rule (stored_state f) (records_kept f)) with_release zero_memory f.releases

abbrev pub lease_rules : File → List ℕ
lease_rules f = rules_in (lease_rule (stored_state f)) with_lease zero_table f.leases

abbrev pub hold_rules : File → List ℕ
hold_rules f = rules_in (hold_rule (stored_state f)) with_hold (leases_kept f) f.holds

abbrev pub release_rules : File → List ℕ
release_rules f = rules_in (release_rule (stored_state f) (records_kept f)) with_release zero_memory f.releases

-- ---- "25 if the settings alone are unsound"
-- the settings alone: no leases, no holds and no releases; the names' faults are 20
unfoldable pub settings_sound : File → Bool
settings_sound f = pick (settings_fit_b f) (sound_b (stored_state f) zero_table) false

-- ---- what each walk gives
pub record WalksRecords (holds : Bool) (s : State) (b : LeaseTable) (xs : List (Entry holds)) (r : Walked) : Type 0 where
  pub table : r.table ≡ kept_after (entry_rule holds s) (with_entry holds) b xs
  pub rules : r.rules ≡ marked (rules_in (entry_rule holds s) (with_entry holds) b xs)

pub record WalksReleases (s : State) (b : LeaseTable) (m : Memory) (xs : List FileRelease) (r : WalkedReleases) : Type 0 where
  pub memory : r.memory ≡ kept_after (release_rule s b) with_release m xs
  pub rules : r.rules ≡ marked (rules_in (release_rule s b) with_release m xs)

pub record WalksFile (f : File) (r : Kept) : Type 0 where
  pub state : r.state ≡ stored_state f
  pub table : r.table ≡ records_kept f
  pub memory : r.memory ≡ releases_kept f
  pub leases : r.leases ≡ marked (lease_rules f)
  pub holds : r.holds ≡ marked (hold_rules f)
  pub releases : r.releases ≡ marked (release_rules f)
