-- Laws: between what a lease would be and the code.
use Rattle.std.specs.Prelude.{ℕ, ◌+◌, ◌-◌, min, max, ◌<◌, ◌≤◌, Bool, true, false, not, ◌&&◌, Option, List, ltb, length, ◌≡◌, refl}
use Rattle.lists.specs.laws.Both.{and_le, and_not_le}
use Rattle.lists.specs.laws.Pick.{pick_no, pick_yes}
use Rattle.address_set.specs.AddressSet.{offsets}
use Rattle.message.specs.declared.Fields.{Fields}
use Rattle.state.specs.Book.{busy_of, hold_time, in_use, laid_out, lapsing_at, lease_with, remove_of, scope_at}
use Rattle.state.specs.laws.Layout.{read_back}
use Rattle.state.specs.declared.Lease.{Lease}
use Rattle.state.specs.declared.Scope.{Scope}
use Rattle.state.specs.declared.TenantLeases.{TenantLeases}
use Rattle.state.specs.declared.State.{State}
use Rattle.soundness.specs.declared.HeldTable.{HeldTable}
use Rattle.soundness.specs.Sound.{tenants_in}
use Rattle.allocation.specs.declared.Ask.{Ask}
use Rattle.allocation.specs.declared.Grant.{Grant}
use Rattle.allocation.specs.Rule.{suffices}
use Rattle.allocation.specs.Own.{grant_in}
use Rattle.proposal.specs.declared.Proposal.{Proposal}
use Rattle.std.proofs.Common.{sym, ap, ◌∙◌, arith}
use Rattle.proposal.specs.Proposals.{default_lease, longest_lease, wished_or, start_of, length_of, end_of, ask_at, fits_renewed, renewed_by, lease_from, too_short, too_late, meets, hold_meets, held_from, latest_end}
use Rattle.admission.specs.Tests.{scope_in, scope_place, lease_id_in, drops_hold}
use Rattle.proposal.specs.Gather.{new_by, new_at_in, new_in, renewed_to_in, renewed_in, brought_in}

-- ---- what the message takes
pub short_unmet : (m : Fields) (start length : ℕ) (a : Bool) → a ≡ too_short m length → a ≡ true → false ≡ meets m start length
unfolding meets
short_unmet m start length a p q = ap (λ (x : Bool). not x && not (too_late m start)) (sym q ∙ p)

pub late_unmet : (m : Fields) (start length : ℕ) (a b r : Bool) → a ≡ too_short m length → a ≡ false → b ≡ too_late m start → r ≡ not b → r ≡ meets m start length
unfolding meets
late_unmet m start length a b r p q e f = f ∙ ap not e ∙ ap (λ (x : Bool). not x && not (too_late m start)) (sym q ∙ p)

pub unmet_is : (m : Fields) (start length n : ℕ) (a r : Bool) → n ≡ length → a ≡ meets m start n → r ≡ not a → r ≡ not (meets m start length)
unfolding meets
unmet_is m start length n a r p q e = e ∙ ap not (q ∙ ap (meets m start) p)

-- ---- the test of a hold
-- the number of addresses and the length as calls gave them
pub hold_meets_is : (m : Fields) (o : Lease) (n k : ℕ) (r : Bool) → n ≡ length (offsets o.addresses) → m.counts.least ≤ n → k ≡ o.end - o.start → r ≡ meets m o.start k → r ≡ hold_meets m o
unfolding hold_meets
hold_meets_is m o n k r a f p e = and_le _ r m.counts.least (length (offsets o.addresses)) (omega arith) (e ∙ ap (meets m o.start) p)

pub hold_lacks : (m : Fields) (o : Lease) (n : ℕ) → n ≡ length (offsets o.addresses) → n < m.counts.least → false ≡ hold_meets m o
unfolding hold_meets
hold_lacks m o n a f = and_not_le _ false m.counts.least (length (offsets o.addresses)) (omega arith) refl

-- ---- periods
pub start_is : (m : Fields) (clock old w r : ℕ) → w ≡ wished_or m.times.start old → r ≡ max clock w → r ≡ start_of m clock old
unfolding start_of
start_is m clock old w r e p = p ∙ ap (max clock) e

pub length_is : (m : Fields) (old w r : ℕ) → w ≡ wished_or m.times.length old → r ≡ min w longest_lease → r ≡ length_of m old
unfolding length_of
length_is m old w r e p = p ∙ ap (λ (x : ℕ). min x longest_lease) e

pub end_is : (m : Fields) (from w n : ℕ) (l : Lease) → w ≡ l.end - l.start → n ≡ length_of m w → from + n ≡ end_of m from l
unfolding end_of
end_is m from w n l p q = ap (λ (x : ℕ). from + x) (q ∙ ap (length_of m) p)

-- ---- proposals
pub ask_is : (s : State) (h : ℕ) (m : Fields) (k start n number : ℕ) → start ≡ start_of m s.clock s.clock → n ≡ length_of m default_lease → number ≡ min k 4 + 1
    → ◌≡◌ {A = Ask} (record { scope = number; tenant = h; from = start; to = start + n; desired = m.counts.desired }) (ask_at s h m k)
unfolding ask_at
ask_is s h m k start n number a b c = cc

pub new_with_is : (n least : ℕ) (a : Ask) (g : Grant) (f : Bool) → f ≡ (ltb n 16 && suffices least g)
    → ◌≡◌ {A = Proposal} (record { fits = f; scope = a.scope; start = a.from; end = a.to; addresses = g.addresses }) (new_by n least a g)
unfolding new_by
new_with_is n least a g f p = ap {B = Proposal} (λ (x : Bool). record { fits = x; scope = a.scope; start = a.from; end = a.to; addresses = g.addresses }) p

pub new_at_is : (s : State) (own : List Lease) (held : HeldTable) (h : ℕ) (m : Fields) (k : ℕ) (c : Scope) (a : Ask) (n : ℕ) (g : Grant) (used : ℕ) (r : Proposal) → c ≡ scope_at s k → a ≡ ask_at s h m k
    → n ≡ tenants_in s → g ≡ grant_in own held c n a → used ≡ length own → r ≡ new_by used m.counts.least a g → r ≡ new_at_in s own held h m k
unfolding new_at_in
new_at_is s own held h m k c a n g used r ec ea en eg eu er = cc

pub new_is : (s : State) (own : List Lease) (held : HeldTable) (h : ℕ) (m : Fields) (k : ℕ) (r : Proposal) → k ≡ scope_place s (scope_in m) → r ≡ new_at_in s own held h m k → r ≡ new_in s own held h m
unfolding new_in
new_is s own held h m k r p e = e ∙ ap (new_at_in s own held h m) p

pub renewed_to_is : (own : List Lease) (m : Fields) (l : Lease) (from to used : ℕ) (f : Bool) → used ≡ busy_of l.scope from to (remove_of (lease_id_in m) own) → f ≡ fits_renewed used l.addresses
    → renewed_by f l from to ≡ renewed_to_in own m l from to
unfolding renewed_to_in
renewed_to_is own m l from to used f p q = ap (λ (x : Bool). renewed_by x l from to) (q ∙ ap (λ (x : ℕ). fits_renewed x l.addresses) p)

pub renewed_is : (s : State) (own : List Lease) (m : Fields) (l : Lease) (from to : ℕ) (r : Proposal) → from ≡ start_of m s.clock l.start → to ≡ end_of m from l → r ≡ renewed_to_in own m l from to → r ≡ renewed_in s own m l
unfolding renewed_in
renewed_is s own m l from to r p q e = cc

pub lease_from_is : (m : Fields) (p : Proposal) (e : ℕ) → e ≡ min p.end latest_end
    → lease_with p.scope m.id.len m.id.octets m.kind m.xid p.start e p.addresses ≡ lease_from m p
unfolding lease_from
lease_from_is m p e q = cc

pub hold_from_is : (clock : ℕ) (l : Lease) (t : ℕ) → t ≡ min (clock + hold_time) l.end → lapsing_at t l ≡ held_from clock l
unfolding held_from
hold_from_is clock l t e = ap (λ (x : ℕ). lapsing_at x l) e

-- the records that are left, and those that stay
pub brought_less : (own : TenantLeases) (m : Fields) (o : Option Lease) (q : Bool) (r : TenantLeases) → q ≡ drops_hold m o → q ≡ true → r ≡ laid_out (remove_of (lease_id_in m) (in_use own))
    → in_use r ≡ brought_in (in_use own) m o
unfolding brought_in
brought_less own m o q r e y p = pick_yes _ _ (in_use r) e y (ap in_use p ∙ read_back (remove_of (lease_id_in m) (in_use own)))

pub brought_all : (own : TenantLeases) (m : Fields) (o : Option Lease) (q : Bool) → q ≡ drops_hold m o → q ≡ false → in_use own ≡ brought_in (in_use own) m o
unfolding brought_in
brought_all own m o q e n = pick_no _ _ (in_use own) e n refl
