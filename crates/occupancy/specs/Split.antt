-- Definitions: a set of offsets taken apart, as the loops over them do it, by offset and by range; and what a holding gains by a range.
use Rattle.std.specs.Prelude.{ℕ, ◌+◌, ◌-◌, ◌<◌, ◌≤◌, min, ◌≡◌, ◌∷◌, ◌++◌, eqb}
use Rattle.lists.specs.Pick.{pick}
use Rattle.address_set.specs.AddressSet.{offsets, onwards}
use Rattle.occupancy.specs.declared.Lowest.{Lowest}
use Rattle.occupancy.specs.declared.Run.{Run}

-- the lowest offset of m, and the others, which are a smaller number
pub record Splits (m : ℕ) (r : Lowest) : Type 0 where
  pub low : r.at < 64
  pub apart : offsets m ≡ r.at ∷ offsets r.rest
  pub less : r.rest < m

-- its first range, and the offsets behind it
pub record Runs (m : ℕ) (r : Run) : Type 0 where
  pub some : r.first ≤ r.end
  pub low : r.end ≤ 64
  pub apart : offsets m ≡ onwards r.first (r.end - r.first) ++ offsets r.rest
  pub less : r.rest < m

-- ---- what a holding gains by a range, counted apart from it: an address for each entry without a lease
unfoldable pub gained : ℕ → ℕ
gained c = pick (eqb c 0) 1 0

-- a holding with so many addresses more
unfoldable pub held_more : ℕ → ℕ → ℕ
held_more d n = pick (eqb n 0) d (min (d + n) 255)
