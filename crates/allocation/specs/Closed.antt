-- Definitions: the grant rule on numbers, as the code computes it.
use Rattle.std.specs.Prelude.{ℕ, ◌+◌, ◌-◌, ◌≤◌, max, Bool, ◌&&◌, leb}
use Rattle.allocation.specs.declared.GrantNumbers.{GrantNumbers}

-- what the tenant holds after k are given, and the sum then
abbrev pub held_giving : GrantNumbers → ℕ → ℕ
held_giving l k = l.held + (k - l.free)

abbrev pub committed_giving : GrantNumbers → ℕ → ℕ
committed_giving l k = l.others + max (held_giving l k) l.reserve

-- the rule on numbers
unfoldable pub allowed_of : GrantNumbers → ℕ → Bool
allowed_of l k = leb (held_giving l k) l.limit && leb (committed_giving l k) l.size

-- the numbers are small enough to be added
pub record Small (l : GrantNumbers) : Type 0 where
  pub held : l.held ≤ 255
  pub free : l.free ≤ 255
  pub others : l.others ≤ 2040
  pub reserve : l.reserve ≤ 255
  pub limit : l.limit ≤ 255
  pub size : l.size ≤ 255
