-- Definitions: for the code, which has no table: what a lease would be, by one tenant's leases `own` and what all tenants hold, and what its loops gather.
use Rattle.std.specs.Prelude.{ℕ, Bool, ◌&&◌, Option, List, ltb, length}
use Rattle.lists.specs.Pick.{pick}
use Rattle.message.specs.declared.Fields.{Fields}
use Rattle.state.specs.declared.Lease.{Lease}
use Rattle.state.specs.declared.State.{State}
use Rattle.state.specs.Book.{remove_of, other, used_in, busy_of, scope_at}
use Rattle.soundness.specs.declared.HeldTable.{HeldTable}
use Rattle.soundness.specs.Sound.{tenants_in}
use Rattle.allocation.specs.declared.Ask.{Ask}
use Rattle.allocation.specs.declared.Grant.{Grant}
use Rattle.allocation.specs.Rule.{suffices}
use Rattle.allocation.specs.Own.{grant_in}
use Rattle.proposal.specs.declared.Proposal.{Proposal}
use Rattle.admission.specs.Tests.{is_new, lease_id_in, drops_hold, scope_in, scope_place}
use Rattle.proposal.specs.Proposals.{start_of, end_of, ask_at, fits_renewed, renewed_by}

-- the proposal for a tenant of n leases
unfoldable pub new_by : ℕ → ℕ → Ask → Grant → Proposal
new_by n least a g = record { fits = ltb n 16 && suffices least g; scope = a.scope; start = a.from; end = a.to; addresses = g.addresses }

-- a lease of another identifier than i that has addresses of the scope in some part of the period
unfoldable pub other_in : List ℕ → ℕ → ℕ → ℕ → Lease → Bool
other_in i scope from to l = other i l && used_in scope from to l

-- ---- what a lease would be, as in Proposals.antt
-- DISCOVER and REQUEST: the grant by the tenant's leases
unfoldable pub new_at_in : State → List Lease → HeldTable → ℕ → Fields → ℕ → Proposal
new_at_in s own held h m k = new_by (length own) m.counts.least (ask_at s h m k) (grant_in own held (scope_at s k) (tenants_in s) (ask_at s h m k))

unfoldable pub new_in : State → List Lease → HeldTable → ℕ → Fields → Proposal
new_in s own held h m = new_at_in s own held h m (scope_place s (scope_in m))

-- RENEW: of the other leases, those of the tenant
unfoldable pub renewed_to_in : List Lease → Fields → Lease → ℕ → ℕ → Proposal
renewed_to_in own m l from to = renewed_by (fits_renewed (busy_of l.scope from to (remove_of (lease_id_in m) own)) l.addresses) l from to

unfoldable pub renewed_in : State → List Lease → Fields → Lease → Proposal
renewed_in s own m l =
    let from : ℕ = start_of m s.clock l.start in
    renewed_to_in own m l from (end_of m from l)

unfoldable pub proposal_in : State → List Lease → HeldTable → ℕ → Fields → Lease → Proposal
proposal_in s own held h m l = pick (is_new m) (new_in s own held h m) (renewed_in s own m l)

-- ---- what is brought to the grant rule
-- the tenant's records without the hold that the message drops. `held` still has its addresses: they are of another scope than the one asked for, but where the
-- hold is in the same scope, and there the decision (`judged_of`) does not look at what is asked for
unfoldable pub brought_in : List Lease → Fields → Option Lease → List Lease
brought_in own m o = pick (drops_hold m o) (remove_of (lease_id_in m) own) own
