-- Definitions: the list of those dropped (document 02, W-212, "Salvage of a campus file"), from the rules that the entries of each section break, which the code keeps in an array of 255.
use Rattle.std.specs.Prelude.{List, [], ◌++◌, ◌∷◌, ◌+◌, ℕ, eqb, length}
use Rattle.lists.specs.Pick.{pick}
use Rattle.lists.specs.Row.{laid_row}
use Rattle.octets.specs.Octets.{octets16}

-- ---- the list: "count(2), then for each kind(1; 1 lease, 2 hold, 3 release), place in its section(1; from 1) and first broken rule(1)"
pub record Dropped : Type 0 where
  pub kind : ℕ
  pub place : ℕ
  pub rule : ℕ

-- those of a kind from a place on, by the rules that they break
unfoldable pub dropped_from : ℕ → ℕ → List ℕ → List Dropped
dropped_from kind n [] = []
dropped_from kind n (r ∷ rs) = pick (eqb r 0) (dropped_from kind (n + 1) rs) (record { kind = kind; place = n; rule = r } ∷ dropped_from kind (n + 1) rs)

unfoldable pub dropped_octets : List Dropped → List ℕ
dropped_octets [] = []
dropped_octets (d ∷ ds) = d.kind ∷ d.place ∷ d.rule ∷ dropped_octets ds

unfoldable pub dropped_list : List Dropped → List ℕ
dropped_list ds = octets16 (length ds) ++ dropped_octets ds

-- ---- as the code has it
-- the rules that the entries of a section break, as an array keeps them
abbrev pub marked : List ℕ → List ℕ
marked rs = laid_row 0 255 rs

-- those dropped, from the arrays of the three sections, whose zeros past the last entry drop nothing
abbrev pub dropped_in : List ℕ → List ℕ → List ℕ → List Dropped
dropped_in leases holds releases = dropped_from 1 1 leases ++ dropped_from 2 1 holds ++ dropped_from 3 1 releases

-- the octets of an entry that breaks a rule, none of one that breaks none; and whether it counts
unfoldable pub dropped_at : ℕ → ℕ → ℕ → List ℕ
dropped_at kind place r = pick (eqb r 0) [] (kind ∷ place ∷ r ∷ [])

unfoldable pub one_if : ℕ → ℕ
one_if r = pick (eqb r 0) 0 1
