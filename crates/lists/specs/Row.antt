-- Definitions: an array with a count, whose entries stand in front and a filler behind them.
use Rattle.std.specs.Prelude.{Bool, List, ◌++◌, ℕ, ◌-◌, length, replicate}
use Rattle.lists.specs.Pick.{pick}

-- the entries, and then z, n in all
abbrev pub laid_row : {A : Type 0} → A → ℕ → List A → List A
laid_row z n l = l ++ replicate (n - length l) z

-- one turn of a filter that writes behind the last entry
abbrev pub keep_row : {A R : Type 0} → (R → A → R) → (A → Bool) → R → A → R
keep_row push t r x = pick (t x) (push r x) r
