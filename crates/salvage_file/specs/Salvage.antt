-- Definitions: the salvage of a state file (document 02, W-212, "Salvage of a campus file"): "It writes a new file, all else as it was, and in a second
-- room the list of those dropped"; and its refusals.
use Rattle.std.specs.Prelude.{◌||◌, List, [], ◌++◌, ℕ, ltb, length}
use Rattle.lists.specs.Pick.{pick}
use Rattle.format.specs.Format.{Got, bad, got}
use Rattle.state.specs.Book.{Book}
use Rattle.state_file.specs.File.{File, file_of}
use Rattle.state_file.specs.Records.{stored_state}
use Rattle.state_file.specs.StateFile.{octets_of}
use Rattle.salvage_list.specs.List.{Dropped, dropped_from, dropped_list}
use Rattle.salvage_walk.specs.Walk.{hold_rules, lease_rules, records_kept, release_rules, releases_kept, settings_sound}

-- ---- the file
-- "It writes a new file, all else as it was": clock, settings and names
unfoldable pub kept_book : File → Book
kept_book f = record { state = stored_state f; table = records_kept f; memory = releases_kept f; names = f.names }

unfoldable pub kept_file : File → List ℕ
kept_file f = octets_of (kept_book f)

-- ---- the list: leases, then holds, then releases
unfoldable pub dropped_of : File → List Dropped
dropped_of f = dropped_from 1 1 (lease_rules f) ++ dropped_from 2 1 (hold_rules f) ++ dropped_from 3 1 (release_rules f)

-- ---- "Refusals, writing nothing: 20 for form, 25 if the settings alone are unsound, 23 if a room is too short"
-- a number, the new file and the list; a refusal has neither
pub record Salvage : Type 0 where
  pub refusal : ℕ
  pub file : List ℕ
  pub list : List ℕ

abbrev pub refusing : ℕ → Salvage
refusing n = record { refusal = n; file = []; list = [] }

-- with rooms of n and m octets
unfoldable pub salvage_file : File → ℕ → ℕ → Salvage
salvage_file f n m =
    pick (settings_sound f)
    (pick (ltb n (length (kept_file f)) || ltb m (length (dropped_list (dropped_of f)))) (refusing 23) (record { refusal = 0; file = kept_file f; list = dropped_list (dropped_of f) }))
    (refusing 25)

unfoldable pub salvage_got : Got File → ℕ → ℕ → Salvage
salvage_got (got f r) n m = salvage_file f n m
salvage_got bad n m = refusing 20

unfoldable pub salvage_of : List ℕ → ℕ → ℕ → Salvage
salvage_of s n m = salvage_got (file_of s) n m
