-- Definitions: what a lease would be that a message asks for, its period and its addresses, whether the message takes it, which is error 0, and what a message makes of a hold;
-- each on plain values. A house is a tenant here; h counts from 0.
use Rattle.std.specs.Prelude.{ℕ, ◌+◌, ◌-◌, min, max, Bool, not, ◌&&◌, ◌||◌, Option, unwrap_or, List, leb, ltb, eqb, length}
use Rattle.std.specs.Int.Bits.{bit_and}
use Rattle.lists.specs.Pick.{pick}
use Rattle.address_set.specs.AddressSet.{offsets}
use Rattle.message.specs.declared.Fields.{Fields}
use Rattle.state.specs.declared.Lease.{Lease}
use Rattle.state.specs.declared.LeaseTable.{LeaseTable}
use Rattle.state.specs.declared.State.{State}
use Rattle.state.specs.Book.{hold_time, laid_out, lapsing_at, lease_with, leases_of, put_at, remove_of, scope_at}
use Rattle.soundness.specs.Sound.{tenants_in}
use Rattle.allocation.specs.declared.Ask.{Ask}
use Rattle.allocation.specs.declared.Grant.{Grant}
use Rattle.allocation.specs.Rule.{grant_to, suffices, busy_in}
use Rattle.proposal.specs.declared.Proposal.{Proposal}
use Rattle.admission.specs.Tests.{is_new, own_of, lease_id_in, there_and, scope_in, scope_place, scope_number, drops_hold}

-- ---- document 01, "Numbers we buy by", in seconds
-- the length of a lease that names none
abbrev pub default_lease : ℕ
default_lease = 3600

-- a longer wish is cut to it
abbrev pub longest_lease : ℕ
longest_lease = 604800

-- how long after the clock a lease may start
abbrev pub horizon : ℕ
horizon = 2592000

-- the last second of the 32-bit clock: "end above 4,294,967,295" is error 0
abbrev pub latest_end : ℕ
latest_end = 4294967295

-- ---- the period
-- an option's value, or else d
abbrev pub wished_or : Option ℕ → ℕ → ℕ
wished_or w d = unwrap_or w d

-- "Start is Start Time or else the clock (RENEW: or else the old start), raised to the clock if earlier"
unfoldable pub start_of : Fields → ℕ → ℕ → ℕ
start_of m clock old = max clock (wished_or m.times.start old)

-- "Length is Lease Time or else 3,600 (RENEW: or else the old length), cut to the longest lease"
unfoldable pub length_of : Fields → ℕ → ℕ
length_of m old = min (wished_or m.times.length old) longest_lease

unfoldable pub end_of : Fields → ℕ → Lease → ℕ
end_of m from l = from + length_of m (l.end - l.start)

-- ---- what a lease would be, and whether its own test of error 0 passes
-- DISCOVER and REQUEST: in the scope at place k
unfoldable pub ask_at : State → ℕ → Fields → ℕ → Ask
ask_at s h m k = record {
  scope = scope_number k;
  tenant = h;
  from = start_of m s.clock s.clock;
  to = start_of m s.clock s.clock + length_of m default_lease;
  desired = m.counts.desired;
}

-- not "no lease record left for the house, or the grant rule fails"
unfoldable pub fits_new : List Lease → Fields → Grant → Bool
fits_new own m g = ltb (length own) 16 && suffices m.counts.least g

unfoldable pub new_with : LeaseTable → Fields → Ask → Grant → Proposal
new_with b m a g = record { fits = fits_new (own_of b a.tenant) m g; scope = a.scope; start = a.from; end = a.to; addresses = g.addresses }

unfoldable pub new_at : State → LeaseTable → ℕ → Fields → ℕ → Proposal
new_at s b h m k = new_with b m (ask_at s h m k) (grant_to (scope_at s k) (tenants_in s) (leases_of b) (ask_at s h m k))

unfoldable pub new_of : State → LeaseTable → ℕ → Fields → Proposal
new_of s b h m = new_at s b h m (scope_place s (scope_in m))

-- one tenant's leases give way to others
abbrev pub updated : LeaseTable → ℕ → List Lease → LeaseTable
updated b h ls = put_at b h (laid_out ls)

-- RENEW: the addresses that other leases and holds use in the new period
unfoldable pub others_busy : LeaseTable → ℕ → Fields → ℕ → ℕ → ℕ → ℕ
others_busy b h m scope from to = busy_in scope from to (leases_of (updated b h (remove_of (lease_id_in m) (own_of b h))))

-- not "the new period overlaps that of another lease on one of its addresses"
unfoldable pub fits_renewed : ℕ → ℕ → Bool
fits_renewed used mine = eqb (bit_and used mine) 0

abbrev pub renewed_by : Bool → Lease → ℕ → ℕ → Proposal
renewed_by fits l from to = record { fits = fits; scope = l.scope; start = from; end = to; addresses = l.addresses }

unfoldable pub renewed_to : LeaseTable → ℕ → Fields → Lease → ℕ → ℕ → Proposal
renewed_to b h m l from to = renewed_by (fits_renewed (others_busy b h m l.scope from to) l.addresses) l from to

unfoldable pub renewed_of : State → LeaseTable → ℕ → Fields → Lease → Proposal
renewed_of s b h m l =
    let from : ℕ = start_of m s.clock l.start in
    renewed_to b h m l from (end_of m from l)

unfoldable pub proposal_of : State → LeaseTable → ℕ → Fields → Lease → Proposal
proposal_of s b h m l = pick (is_new m) (new_of s b h m) (renewed_of s b h m l)

-- ---- document 02, W-203: "After the cut to the longest lease, a length below Minimum Lease Time can't be given, nor a start after Maximum Start Time". Asked
-- of a start and a length: those of what is asked for, raised and cut, or a hold's own
unfoldable pub too_short : Fields → ℕ → Bool
too_short m length = there_and (λ shortest. ltb length shortest) m.times.shortest

unfoldable pub too_late : Fields → ℕ → Bool
too_late m start = there_and (λ latest. ltb latest start) m.times.latest

-- the message's "minimum and latest start can be met"
unfoldable pub meets : Fields → ℕ → ℕ → Bool
meets m start length = not (too_short m length) && not (too_late m start)

-- ---- error 0: "start after clock plus horizon; end above 4,294,967,295; .."; W-203's two, of which "both are error 0"; and the test of its type
unfoldable pub error0_of : State → Fields → Proposal → Bool
error0_of s m p = ltb (s.clock + horizon) p.start || (ltb latest_end p.end || (not (meets m p.start (p.end - p.start)) || not p.fits))

-- ---- document 02, W-205: a message for a hold
-- not "error 0, the hold kept, if these are fewer than its least or W-203 forbids the period": its addresses and its period
unfoldable pub hold_meets : Fields → Lease → Bool
hold_meets m o = leb m.counts.least (length (offsets o.addresses)) && meets m o.start (o.end - o.start)

-- "a REQUEST turns the hold into the lease with its period and addresses": type 3 and the REQUEST's transaction id
unfoldable pub turned : Fields → Lease → Lease
turned m o = lease_with o.scope o.id_len o.id 3 m.xid o.start o.end o.addresses

-- the book that such a REQUEST "brings to the grant rule": without the hold
unfoldable pub brought_by : LeaseTable → ℕ → Fields → Option Lease → LeaseTable
brought_by b h m o = pick (drops_hold m o) (updated b h (remove_of (lease_id_in m) (own_of b h))) b

-- "An OFFER now leaves a hold: addresses and period as a lease has them, lapsing when the clock reaches thirty seconds after it, or the period's end if that is
-- sooner". l is what is offered, with the DISCOVER's type and transaction id
unfoldable pub held_from : ℕ → Lease → Lease
held_from clock l = lapsing_at (min (clock + hold_time) l.end) l

-- ---- the lease
-- with the message's type and transaction id; error 0 has kept the end within 32 bits
unfoldable pub lease_from : Fields → Proposal → Lease
lease_from m p = lease_with p.scope m.id.len m.id.octets m.kind m.xid p.start (min p.end latest_end) p.addresses
