-- Laws: what a DISCOVER or a REQUEST would newly be granted by a sound book, past errors 1 to 3, and what error 0 asks of it.
use Prim.Native.Nat.{ℕ, ◌+◌, ◌-◌, ◌≤◌, ◌<◌, min}
use mathlib.Core.Path.{◌≡◌, refl, sym, ap, ◌∙◌}
use mathlib.Core.Bool.{Bool, true, false, not, ◌&&◌, ◌||◌}
use native.Mathlib.Omega.{arith}
use lib.Dec.{leb, ltb, eqb}
use lib.ListN.{length}
use borrow.Author.Tests.{eqb-false, le-leb, leb-true, le-ltb, lt-ltb, ltb-false, ltb-true}
use Rattle.lists.specs.laws.Both.{and_both, and_parts}
use Rattle.address_set.specs.AddressSet.{offsets}
use Rattle.message.specs.declared.Fields.{Fields}
use Rattle.reply.specs.declared.Terms.{Terms}
use Rattle.state.specs.declared.Lease.{Lease}
use Rattle.state.specs.declared.LeaseTable.{LeaseTable}
use Rattle.state.specs.declared.State.{State}
use Rattle.state.specs.Book.{lease_with, leases_of, scope_at}
use Rattle.soundness.specs.Sound.{scopes_in, tenants_in}
use Rattle.soundness.specs.laws.Book.{Sound}
use Rattle.allocation.specs.declared.Ask.{Ask}
use Rattle.allocation.specs.declared.Grant.{Grant}
use Rattle.allocation.specs.Rule.{grant_of, suffices, unused_reserve}
use Rattle.allocation.specs.laws.Granted.{grant_exists, guaranteed}
use Rattle.proposal.specs.declared.Proposal.{Proposal}
use Rattle.decision.specs.declared.Reply.{Reply}
use Rattle.decision_laws.specs.laws.Cases.{new_known, not_none}
use Rattle.decision.specs.laws.Code.{or_none}
use Rattle.proposal.specs.Proposals.{horizon, default_lease, ask_at, error0_of, fits_new, lease_from, length_of, meets, new_of, new_with, start_of, latest_end}
use Rattle.admission.specs.Tests.{bad_counts, knows_scope, own_of, scope_in, scope_place}
use Rattle.admission.specs.laws.Code.{knows_place}
use Rattle.decision.specs.Verdicts.{with_lease}
use Rattle.server.specs.Serve.{terms_of}

-- for a tenant h, in a scope that is ours, with counts that are good
module _ (s : State) (t : LeaseTable) (h : ℕ) (m : Fields) (v : Sound s (leases_of t)) (known : h < tenants_in s) (ours : knows_scope s m ≡ true) (good : bad_counts m ≡ false) where
  abbrev K : ℕ
  K = scope_place s (scope_in m)

  abbrev from : ℕ
  from = start_of m s.clock s.clock

  abbrev long : ℕ
  long = length_of m default_lease

  pub here : scope_place s (scope_in m) < scopes_in s
  here = knows_place s m ours

  pub counts : (0 < m.counts.least) × (m.counts.least ≤ m.counts.desired)
  unfolding bad_counts
  counts =
      let p = or_none (eqb m.counts.least 0) (ltb m.counts.desired m.counts.least) good in
      let q = eqb-false m.counts.least 0 p.0 in
      (omega arith, ltb-false m.counts.desired m.counts.least p.1)

  -- what is asked for
  abbrev A : Ask
  A = record { scope = scope_place s (scope_in m) + 1; tenant = h; from = start_of m s.clock s.clock; to = start_of m s.clock s.clock + length_of m default_lease; desired = m.counts.desired }

  asked : ask_at s h m K ≡ A
  unfolding ask_at
  asked =
      ap {B = Ask} (λ (k : ℕ). record { scope = k; tenant = h; from = from; to = from + long; desired = m.counts.desired })
      (let p = here in let e : min K 4 + 1 ≡ K + 1 = omega arith in e)

  abbrev U : ℕ
  U = unused_reserve (scope_at s (scope_place s (scope_in m))) (leases_of t) A

  abbrev G : Grant
  G = grant_of (scope_at s (scope_place s (scope_in m))) (tenants_in s) (leases_of t) A

  pub enough : min m.counts.desired U ≤ G.number
  enough = guaranteed s (leases_of t) v K here A refl known

  pub exact : m.counts.least ≤ G.number → length (offsets G.addresses) ≡ G.number
  exact p = grant_exists s (leases_of t) v K here A refl known (let q = counts in omega arith)

  proposed : new_of s t h m ≡ new_with t m A G
  proposed = new_known s t h m known ∙ ap (λ (a : Ask). new_with t m a (grant_of (scope_at s K) (tenants_in s) (leases_of t) a)) asked

  pub given : (new_of s t h m).addresses ≡ G.addresses
  unfolding new_with
  given = ap (λ (p : Proposal). p.addresses) proposed

  -- the record, of some type
  abbrev L : ℕ → Lease
  L kind = lease_with (scope_place s (scope_in m) + 1) m.id.len m.id.octets kind m.xid (start_of m s.clock s.clock) (start_of m s.clock s.clock + length_of m default_lease) G.addresses

  pub recorded : {kind : ℕ} → m.kind ≡ kind → from + long ≤ latest_end → lease_from m (new_of s t h m) ≡ L kind
  unfolding lease_from new_with
  recorded e fits =
      ap (lease_from m) proposed
      ∙ ap (λ (end : ℕ). lease_with (K + 1) m.id.len m.id.octets m.kind m.xid from end G.addresses) (let e : min (from + long) latest_end ≡ from + long = omega arith in e)
      ∙ ap L e

  -- what a reply with it says
  pub told : (r : Reply) (kind : ℕ) → terms_of s (with_lease r (L kind)) ≡ record { length = (from + long) - from; start = from; scope = (scope_at s K).lowest; addresses = G.addresses; clock = s.clock }
  unfolding with_lease
  told r kind =
      ap {B = Terms} (λ (k : ℕ). record { length = (from + long) - from; start = from; scope = (scope_at s k).lowest; addresses = G.addresses; clock = s.clock })
      (let e : (K + 1) - 1 ≡ K = omega arith in e)

  -- ---- error 0
  tested : error0_of s m (new_of s t h m)
      ≡ (ltb (s.clock + horizon) from || (ltb latest_end (from + long) || (not (meets m from long) || not (ltb (length (own_of t h)) 16 && leb m.counts.least G.number))))
  unfolding error0_of new_with fits_new suffices
  tested =
      ap (error0_of s m) proposed
      ∙ ap (λ (n : ℕ). ltb (s.clock + horizon) from || (ltb latest_end (from + long) || (not (meets m from n) || not (ltb (length (own_of t h)) 16 && leb m.counts.least G.number))))
      (let e : (from + long) - from ≡ long = omega arith in e)

  none_or : {a b : Bool} → a ≡ false → b ≡ false → (a || b) ≡ false
  none_or {a} {b} p q = ap (λ (x : Bool). x || b) p ∙ q

  -- it passes where the grant is not below least, as it is not within the unused reserve
  pub passes : from ≤ s.clock + horizon → from + long ≤ latest_end → meets m from long ≡ true → length (own_of t h) < 16 → m.counts.least ≤ G.number → error0_of s m (new_of s t h m) ≡ false
  passes soon fits met left least =
      tested
      ∙ none_or (le-ltb (s.clock + horizon) from soon)
      (none_or (le-ltb latest_end (from + long) fits)
      (none_or (ap not met) (ap not (and_both (lt-ltb (length (own_of t h)) 16 left) (le-leb m.counts.least G.number least)))))

  pub no_error : from ≤ s.clock + horizon → from + long ≤ latest_end → meets m from long ≡ true → length (own_of t h) < 16 → m.counts.least ≤ U → error0_of s m (new_of s t h m) ≡ false
  no_error soon fits met left least = passes soon fits met left (let p = enough in let q = counts in omega arith)

  -- what it leaves
  pub record Left : Type 0 where
    pub fits : from + long ≤ latest_end
    pub met : meets m from long ≡ true
    pub left : length (own_of t h) < 16
    pub least : m.counts.least ≤ G.number

  pub leaves : error0_of s m (new_of s t h m) ≡ false → Left
  leaves e =
      let a = or_none (ltb (s.clock + horizon) from) _ (sym tested ∙ e) in
      let b = or_none (ltb latest_end (from + long)) _ a.1 in
      let c = or_none (not (meets m from long)) _ b.1 in
      let d = and_parts (ltb (length (own_of t h)) 16) (leb m.counts.least G.number) (not_none _ c.1) in
      record {
        fits = ltb-false latest_end (from + long) b.0;
        met = not_none (meets m from long) c.0;
        left = ltb-true (length (own_of t h)) 16 d.0;
        least = leb-true m.counts.least G.number d.1;
      }
