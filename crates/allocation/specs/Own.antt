-- Definitions: the grant rule as the code goes by it, from one tenant's leases and what all tenants hold; for every input, one that no sound book has too. In
-- a sound book these are enough, and the answer is that of Rule.antt (`grant_in_law` in laws/View.antt).
use Rattle.std.specs.Prelude.{ℕ, min, List, ltb}
use Rattle.lists.specs.Pick.{pick}
use Rattle.lists.specs.Down.{largest}
use Rattle.address_set.specs.AddressSet.{set_of, difference_of, chosen}
use Rattle.state.specs.declared.Lease.{Lease}
use Rattle.state.specs.declared.Scope.{Scope}
use Rattle.state.specs.Book.{union_all}
use Rattle.soundness.specs.declared.HeldTable.{HeldTable}
use Rattle.allocation.specs.declared.Ask.{Ask}
use Rattle.allocation.specs.declared.Grant.{Grant}
use Rattle.allocation.specs.Rule.{pool_of}
use Rattle.allocation.specs.Closed.{allowed_of}
use Rattle.allocation.specs.Loops.{sets_in, free_in, numbers_of}

-- to one of n tenants: the largest number that the rule allows, and the lowest of its free addresses, then the lowest that are nobody's
unfoldable pub grant_known : List Lease → HeldTable → Scope → ℕ → Ask → Grant
grant_known own held c n a =
    let m : List ℕ = sets_in a.scope held in
    let f : ℕ = free_in m own a in
    let k : ℕ = largest (allowed_of (numbers_of c n m a.tenant f)) a.desired in
    record { number = k; addresses = set_of (chosen k f (difference_of (pool_of c) (union_all m))) }

-- to any tenant: an unknown one is granted nothing, and a number of tenants above 8 stands for 8
unfoldable pub grant_in : List Lease → HeldTable → Scope → ℕ → Ask → Grant
grant_in own held c n a = pick (ltb a.tenant (min n 8)) (grant_known own held c (min n 8) a) (record { number = 0; addresses = 0 })
