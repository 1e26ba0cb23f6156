-- Definitions: what the loops of the grant gather, from what all tenants hold: the sets of one scope, what the other tenants have committed, the numbers
-- of the rule.
use Rattle.std.specs.Prelude.{ℕ, ◌-◌, ◌≡◌, List, map, length, get_or}
use Rattle.lists.specs.Pick.{pick}
use Rattle.lists.specs.Sums.{sum_to, except}
use Rattle.address_set.specs.AddressSet.{offsets, difference_of}
use Rattle.state.specs.declared.Lease.{Lease}
use Rattle.state.specs.declared.Scope.{Scope}
use Rattle.state.specs.Book.{busy_of, reserve_at, limit_at, committed}
use Rattle.soundness.specs.declared.Held.{Held}
use Rattle.soundness.specs.declared.HeldTable.{HeldTable}
use Rattle.soundness.specs.Sound.{one_to}
use Rattle.soundness.specs.Parts.{set_at}
use Rattle.allocation.specs.declared.Ask.{Ask}
use Rattle.allocation.specs.declared.GrantNumbers.{GrantNumbers}
use Rattle.allocation.specs.Closed.{Small}

-- ---- the sets of scope s, tenant by tenant; in a scope that there cannot be nobody holds any
unfoldable pub set_in : ℕ → Held → ℕ
set_in s x = pick (one_to 4 s) (set_at x (s - 1)) 0

unfoldable pub sets_in : ℕ → HeldTable → List ℕ
sets_in s held = map (set_in s) held.tenants

-- how many addresses tenant g has, of the sets of all
unfoldable pub count_at : List ℕ → ℕ → ℕ
count_at m g = length (offsets (get_or m g 0))

-- ---- of these sets and the tenant's own leases, those of its addresses that are free in the period
unfoldable pub free_in : List ℕ → List Lease → Ask → ℕ
free_in m own a = difference_of (get_or m a.tenant 0) (busy_of a.scope a.from a.to own)

-- ---- the whole, for tenant h
unfoldable pub numbers_of : Scope → ℕ → List ℕ → ℕ → ℕ → GrantNumbers
numbers_of c n m h free = record {
  held = count_at m h;
  free = length (offsets free);
  reserve = reserve_at c h;
  limit = limit_at c h;
  others = sum_to (except h (committed c (count_at m))) n;
  size = c.size;
}

pub record Numbered (c : Scope) (n : ℕ) (m : List ℕ) (h free : ℕ) (r : GrantNumbers) : Type 0 where
  pub whole : r ≡ numbers_of c n m h free
  pub small : Small r
