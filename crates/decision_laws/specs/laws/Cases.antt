-- Laws: the decision, case by case: the one law by which whatever holds of every decision is shown.
use Rattle.std.specs.Prelude.{ℕ, ◌+◌, ◌≤◌, ◌<◌, ◌-◌, ◌≡◌, Bool, true, false, not, ◌&&◌, ◌||◌, Option, Some, None, is_some, List, ltb}
use Rattle.std.proofs.Math.Path.{refl, ap, subst}
use Rattle.std.proofs.Common.{sym, ◌∙◌, arith}
use Rattle.std.proofs.Math.Dec.{eqb}
use borrow.Author.Tests.{eqb-true, ltb-false}
use Rattle.lists.specs.Pick.{pick}
use Rattle.lists.specs.laws.Both.{and_both, and_parts}
use Rattle.message.specs.declared.Fields.{Fields}
use Rattle.message.specs.laws.Placed.{pick_cases}
use Rattle.state.specs.declared.Lease.{Lease}
use Rattle.state.specs.declared.LeaseTable.{LeaseTable}
use Rattle.state.specs.declared.Release.{Release}
use Rattle.state.specs.declared.State.{State}
use Rattle.state.specs.Book.{is_hold, leases_of, remove_of, scope_at}
use Rattle.state.specs.Edit.{no_edit, entering, leaving, dropping_first, giving_way}
use Rattle.soundness.specs.Sound.{tenants_in}
use Rattle.allocation.specs.Rule.{grant_of}
use Rattle.allocation.specs.laws.Loops.{grant_known_law}
use Rattle.proposal.specs.declared.Proposal.{Proposal}
use Rattle.decision.specs.declared.Decided.{Decided}
use Rattle.decision.specs.declared.Reply.TheVariants.{Offer, LeaseAck, ReleaseAck, InfoAck}
use Rattle.admission.specs.Tests.{is_new, has_period, scope_in, scope_place, own_of, found_of, recorded_of, resends, knows_scope, lacks_scope, zero_length, bad_counts, early1_of, held_already, error1_of, error3_of, lease_id_in, is_leased, is_held, same_scope, is_for_hold, dropped_of, drops_hold}
use Rattle.proposal.specs.Proposals.{ask_at, new_with, new_at, new_of, renewed_of, proposal_of, error0_of, lease_from, horizon, meets, turned, updated, brought_by, held_from, latest_end}
use Rattle.decision.specs.Verdicts.{with_lease, plain_reply, refusal_of}
use Rattle.decision.specs.Decide.{unchanged, changed, leased_of, plain_of, settled_of, repeated_of, dropped_first, judged_of, decide_of}
use Rattle.decision.specs.laws.Code.{dropped_is, no, or_none}

-- ---- what the tests say when they pass

pub not_none : (a : Bool) → not a ≡ false → a ≡ true
not_none true e = refl
not_none false e = no e

and_not_none : (a b : Bool) → a ≡ true → (a && not b) ≡ false → b ≡ true
and_not_none true b p e = not_none b e
and_not_none false b p e = no (sym p)

and_none : (a b : Bool) → a ≡ true → (a && b) ≡ false → b ≡ false
and_none true b p e = e
and_none false b p e = no (sym p)

-- what error 1 leaves, of a message for whose identifier there is the record o, or none
pub record Passed (s : State) (m : Fields) (o : Option Lease) : Type 0 where
  pub scope : is_new m ≡ true → knows_scope s m ≡ true
  pub length : zero_length m ≡ false
  pub counts : bad_counts m ≡ false
  pub new : is_new m ≡ true → is_leased o ≡ false
  pub elsewhere : m.kind ≡ 1 → (is_held o && not (same_scope s m o)) ≡ false

pub passed : (s : State) (m : Fields) (o : Option Lease) → error1_of s m o ≡ false → Passed s m o
unfolding error1_of early1_of held_already lacks_scope
passed s m o e =
    let f = or_none (early1_of s m) (held_already s m o) e in
    let g = or_none (is_new m && is_leased o) _ f.1 in
    let a = or_none (not m.allowed) _ f.0 in
    let b = or_none (lacks_scope s m) _ a.1 in
    let c = or_none (zero_length m) _ b.1 in
    let d = or_none (bad_counts m) _ c.1 in
    record {
      scope = λ n. and_not_none (is_new m) (knows_scope s m) n b.0;
      length = c.0;
      counts = d.0;
      new = λ n. and_none (is_new m) (is_leased o) n g.0;
      elsewhere = λ k. and_none (eqb m.kind 1) (is_held o && not (same_scope s m o)) (ap (λ (x : ℕ). eqb x 1) k) g.1;
    }

-- neither a lease nor a hold: nothing is there; and what is a lease or a hold is there
pub nothing_there : (o : Option Lease) → is_leased o ≡ false → is_held o ≡ false → is_some o ≡ false
unfolding is_leased is_held
nothing_there (Some l) p q = go (is_hold l) p q
  where
    go : (b : Bool) → not b ≡ false → b ≡ false → true ≡ false
    go true p q = q
    go false p q = p
nothing_there None p q = refl

pub leased_there : (o : Option Lease) → is_leased o ≡ true → is_some o ≡ true
unfolding is_leased
leased_there (Some l) e = refl
leased_there None e = e

pub held_there : (o : Option Lease) → is_held o ≡ true → is_some o ≡ true
unfolding is_held
held_there (Some l) e = refl
held_there None e = e

-- what error 0 leaves
pub inside : (s : State) (m : Fields) (p : Proposal) → error0_of s m p ≡ false → (p.end ≤ latest_end) × (p.fits ≡ true)
unfolding error0_of
inside s m p e =
    let a = or_none (ltb (s.clock + horizon) p.start) _ e in
    let b = or_none (ltb latest_end p.end) _ a.1 in
    let c = or_none (not (meets m p.start (p.end - p.start))) (not p.fits) b.1 in
    (ltb-false latest_end p.end b.0, not_none p.fits c.1)

-- a known tenant would newly get the rule's grant
pub new_known : (s : State) (b : LeaseTable) (h : ℕ) (m : Fields) → h < tenants_in s → new_of s b h m
    ≡ new_with b m (ask_at s h m (scope_place s (scope_in m))) (grant_of (scope_at s (scope_place s (scope_in m))) (tenants_in s) (leases_of b) (ask_at s h m (scope_place s (scope_in m))))
unfolding new_of new_at ask_at
new_known s b h m known =
    ap (new_with b m (ask_at s h m (scope_place s (scope_in m))))
    (grant_known_law (scope_at s (scope_place s (scope_in m))) (tenants_in s) (leases_of b) (ask_at s h m (scope_place s (scope_in m))) (omega arith) known)

-- ---- the cases
-- the record that the tenant has of the message's identifier; what a new message gets; what a RENEW makes of it
abbrev pub found_for : LeaseTable → ℕ → Fields → Option Lease
found_for b h m = found_of (own_of b h) m

abbrev pub old_for : LeaseTable → ℕ → Fields → Lease
old_for b h m = recorded_of (own_of b h) m

abbrev pub there_for : LeaseTable → ℕ → Fields → Bool
there_for b h m = is_some (found_of (own_of b h) m)

abbrev pub new_for : State → LeaseTable → ℕ → Fields → Lease
new_for s b h m = lease_from m (new_of s b h m)

abbrev pub renewed_for : State → LeaseTable → ℕ → Fields → Lease
renewed_for s b h m = lease_from m (renewed_of s b h m (recorded_of (own_of b h) m))

-- the table without that record
abbrev pub without : LeaseTable → ℕ → Fields → LeaseTable
without b h m = updated b h (remove_of (lease_id_in m) (own_of b h))

-- what is to be shown of P: each way in which a decision ends, with what the tests before it have shown
pub record Cases (s : State) (b : LeaseTable) (h : ℕ) (m : Fields) (P : Decided → Type 0) : Type 0 where
  pub resent : resends m (old_for b h m) ≡ true → P (unchanged (with_lease LeaseAck (old_for b h m)))
  pub again : P (unchanged (plain_reply ReleaseAck))
  pub refused : (e : ℕ) → P (unchanged (refusal_of m e))
  -- for a hold in the same scope
  pub repeated : m.kind ≡ 1 → is_held (found_for b h m) ≡ true → P (unchanged (with_lease Offer (old_for b h m)))
  pub taken : m.kind ≡ 3 → is_held (found_for b h m) ≡ true
      → P (changed (giving_way (old_for b h m) (turned m (old_for b h m))) (with_lease LeaseAck (turned m (old_for b h m))))
  -- for an identifier of which there is no record
  pub offered : m.kind ≡ 1 → Passed s m (found_for b h m) → there_for b h m ≡ false → error0_of s m (new_of s b h m) ≡ false
      → P (changed (entering (held_from s.clock (new_for s b h m))) (with_lease Offer (new_for s b h m)))
  pub requested : m.kind ≡ 3 → Passed s m (found_for b h m) → there_for b h m ≡ false → error0_of s m (new_of s b h m) ≡ false
      → P (changed (entering (new_for s b h m)) (with_lease LeaseAck (new_for s b h m)))
  -- for a hold in another scope
  pub dropped : m.kind ≡ 3 → is_held (found_for b h m) ≡ true → P (changed (dropping_first (old_for b h m) no_edit) (refusal_of m 0))
  pub moved : m.kind ≡ 3 → Passed s m (found_for b h m) → is_held (found_for b h m) ≡ true → error0_of s m (new_of s (without b h m) h m) ≡ false
      → P (changed (dropping_first (old_for b h m) (entering (new_for s (without b h m) h m))) (with_lease LeaseAck (new_for s (without b h m) h m)))
  -- for a lease
  pub renewed : m.kind ≡ 4 → Passed s m (found_for b h m) → is_leased (found_for b h m) ≡ true → error0_of s m (renewed_of s b h m (old_for b h m)) ≡ false
      → P (changed (giving_way (old_for b h m) (renewed_for s b h m)) (with_lease LeaseAck (renewed_for s b h m)))
  pub released : m.kind ≡ 7 → is_leased (found_for b h m) ≡ true → P (changed (leaving (old_for b h m) m.xid s.clock) (plain_reply ReleaseAck))
  pub informed : P (unchanged (plain_reply InfoAck))

pub new_type : (m : Fields) {k : ℕ} → m.kind ≡ k → (eqb k 1 || eqb k 3) ≡ true → is_new m ≡ true
unfolding is_new
new_type m e t = ap (λ (x : ℕ). eqb x 1 || eqb x 3) e ∙ t

-- a message that has a period and is neither DISCOVER nor REQUEST is a RENEW
last_type : (m : Fields) → has_period m ≡ true → eqb m.kind 1 ≡ false → eqb m.kind 3 ≡ false → m.kind ≡ 4
unfolding has_period is_new
last_type m p q r = eqb-true m.kind 4 (go (eqb m.kind 1) (eqb m.kind 3) (eqb m.kind 4) q r p)
  where
    go : (x y z : Bool) → x ≡ false → y ≡ false → ((x || y) || z) ≡ true → z ≡ true
    go true y z q r p = no q
    go false true z q r p = no r
    go false false z q r p = p

-- a new message that is no DISCOVER is a REQUEST
new_other : (m : Fields) → is_new m ≡ true → eqb m.kind 1 ≡ false → m.kind ≡ 3
unfolding is_new
new_other m p q = eqb-true m.kind 3 (go (eqb m.kind 1) (eqb m.kind 3) q p)
  where
    go : (x y : Bool) → x ≡ false → (x || y) ≡ true → y ≡ true
    go true y q p = no q
    go false y q p = p

-- RENEW and RELEASE have passed error 3: there is a lease
leased_by : (m : Fields) (o : Option Lease) {k : ℕ} → m.kind ≡ k → (eqb k 4 || eqb k 7) ≡ true → error3_of m o ≡ false → is_leased o ≡ true
unfolding error3_of
leased_by m o e t = and_not_none (eqb m.kind 4 || eqb m.kind 7) (is_leased o) (ap (λ (x : ℕ). eqb x 4 || eqb x 7) e ∙ t)

-- a DISCOVER that has passed error 1 and is not for a hold in the same scope has no hold
no_hold : (s : State) (m : Fields) (o : Option Lease) → m.kind ≡ 1 → Passed s m o → is_for_hold s m o ≡ false → is_held o ≡ false
unfolding is_for_hold
no_hold s m o k ok f = go (is_held o) (same_scope s m o) (ok.elsewhere k) (and_none (is_new m) (is_held o && same_scope s m o) (new_type m k refl) f)
  where
    go : (x y : Bool) → (x && not y) ≡ false → (x && y) ≡ false → x ≡ false
    go true true p q = q
    go true false p q = p
    go false y p q = refl

-- nor has a REQUEST that drops none
drops_none : (m : Fields) (o : Option Lease) → m.kind ≡ 3 → drops_hold m o ≡ false → is_held o ≡ false
unfolding drops_hold
drops_none m o k d = and_none (eqb m.kind 3) (is_held o) (ap (λ (x : ℕ). eqb x 3) k) d

pub drops_some : (m : Fields) (o : Option Lease) → drops_hold m o ≡ true → (m.kind ≡ 3) × (is_held o ≡ true)
unfolding drops_hold
drops_some m o d = let p = and_parts (eqb m.kind 3) (is_held o) d in (eqb-true m.kind 3 p.0, p.1)

-- a message for a hold in the same scope
for_hold : (s : State) (m : Fields) (o : Option Lease) → is_for_hold s m o ≡ true → (is_new m ≡ true) × (is_held o ≡ true)
unfolding is_for_hold
for_hold s m o e = let p = and_parts (is_new m) (is_held o && same_scope s m o) e in (p.0, (and_parts (is_held o) (same_scope s m o) p.1).0)

pub for_hold_by : (s : State) (m : Fields) (o : Option Lease) → is_new m ≡ true → is_held o ≡ true → same_scope s m o ≡ true → is_for_hold s m o ≡ true
unfolding is_for_hold
for_hold_by s m o n e p = and_both n (and_both e p)

-- ---- error 0 or what is asked for, by the table t
module _ (s : State) (t : LeaseTable) (h : ℕ) (m : Fields) (o : Lease) (P : Decided → Type 0) where
  proposal_new : is_new m ≡ true → proposal_of s t h m o ≡ new_of s t h m
  unfolding proposal_of pick
  proposal_new e = ap (λ (x : Bool). pick x (new_of s t h m) (renewed_of s t h m o)) e

  proposal_old : m.kind ≡ 4 → proposal_of s t h m o ≡ renewed_of s t h m o
  unfolding proposal_of is_new pick
  proposal_old e = ap (λ (k : ℕ). pick (eqb k 1 || eqb k 3) (new_of s t h m) (renewed_of s t h m o)) e

  settled : has_period m ≡ true → P (unchanged (refusal_of m 0))
      → (m.kind ≡ 1 → error0_of s m (new_of s t h m) ≡ false → P (changed (entering (held_from s.clock (new_for s t h m))) (with_lease Offer (new_for s t h m))))
      → (m.kind ≡ 3 → error0_of s m (new_of s t h m) ≡ false → P (changed (entering (new_for s t h m)) (with_lease LeaseAck (new_for s t h m))))
      → (m.kind ≡ 4 → error0_of s m (renewed_of s t h m o) ≡ false → P (changed (giving_way o (lease_from m (renewed_of s t h m o))) (with_lease LeaseAck (lease_from m (renewed_of s t h m o)))))
      → P (settled_of s m o (proposal_of s t h m o))
  unfolding settled_of leased_of
  settled period refused offered requested renewed =
      pick_cases P _ _ _ (λ e0. refused) (λ e0. pick_cases P _ _ _
      (λ k1. let k : m.kind ≡ 1 = eqb-true m.kind 1 k1 in let q = proposal_new (new_type m k refl) in
      subst (λ (p : Proposal). P (changed (entering (held_from s.clock (lease_from m p))) (with_lease Offer (lease_from m p)))) (sym q) (offered k (sym (ap (error0_of s m) q) ∙ e0)))
      (λ k1. pick_cases P _ _ _
      (λ k3. let k : m.kind ≡ 3 = eqb-true m.kind 3 k3 in let q = proposal_new (new_type m k refl) in
      subst (λ (p : Proposal). P (changed (entering (lease_from m p)) (with_lease LeaseAck (lease_from m p)))) (sym q) (requested k (sym (ap (error0_of s m) q) ∙ e0)))
      (λ k3. let k : m.kind ≡ 4 = last_type m period k1 k3 in let q = proposal_old k in
      subst (λ (p : Proposal). P (changed (giving_way o (lease_from m p)) (with_lease LeaseAck (lease_from m p)))) (sym q) (renewed k (sym (ap (error0_of s m) q) ∙ e0)))))

module _ (s : State) (b : LeaseTable) (h : ℕ) (m : Fields) (P : Decided → Type 0) (c : Cases s b h m P) where
  abbrev O : Option Lease
  O = found_of (own_of b h) m

  abbrev L : Lease
  L = recorded_of (own_of b h) m

  -- a hold in the same scope
  again_for : is_for_hold s m O ≡ true → P (repeated_of m L)
  unfolding repeated_of
  again_for f =
      let p = for_hold s m O f in
      pick_cases P _ _ _
      (λ t. pick_cases P _ _ _ (λ k1. c.repeated (eqb-true m.kind 1 k1) p.1) (λ k1. c.taken (new_other m p.0 k1) p.1))
      (λ t. c.refused 0)

  brought : Bool → LeaseTable
  brought d = pick d (without b h m) b

  -- the drop of a hold precedes what is asked for, or nothing does
  asked_for : Passed s m O → error3_of m O ≡ false → is_for_hold s m O ≡ false → has_period m ≡ true
      → P (dropped_first (dropped_of m O) (settled_of s m L (proposal_of s (brought_by b h m O) h m L)))
  unfolding brought_by brought pick
  asked_for ok e3 f period = subst P (sym (dropped_is m O _)) (go (drops_hold m O) refl)
    where
      then : Decided → Decided
      then d = changed (dropping_first L d.edit) d.verdict

      free : m.kind ≡ 3 → drops_hold m O ≡ false → is_some O ≡ false
      free k d = nothing_there O (ok.new (new_type m k refl)) (drops_none m O k d)

      go : (d : Bool) → drops_hold m O ≡ d → P (pick d (then (settled_of s m L (proposal_of s (brought d) h m L))) (settled_of s m L (proposal_of s (brought d) h m L)))
      go true d =
          let p = drops_some m O d in
          settled s (without b h m) h m L (λ x. P (then x)) period (c.dropped p.0 p.1)
          (λ k e0. let q = p.0 in absurd (omega arith)) (λ k e0. c.moved k ok p.1 e0) (λ k e0. let q = p.0 in absurd (omega arith))
      go false d =
          settled s b h m L P period (c.refused 0)
          (λ k e0. c.offered k ok (nothing_there O (ok.new (new_type m k refl)) (no_hold s m O k ok f)) e0)
          (λ k e0. c.requested k ok (free k d) e0)
          (λ k e0. c.renewed k ok (leased_by m O k refl e3) e0)

  plainly : error3_of m O ≡ false → P (plain_of s m L)
  unfolding plain_of
  plainly e3 = pick_cases P _ _ _ (λ k7. let k : m.kind ≡ 7 = eqb-true m.kind 7 k7 in c.released k (leased_by m O k refl e3)) (λ k7. c.informed)

  -- whatever is remembered of the tenant
  pub decided_by : (q : List Release) → P (decide_of s b q h m)
  unfolding decide_of judged_of
  decided_by q =
      pick_cases P _ _ _ c.resent (λ r. pick_cases P _ _ _ (λ t. c.again) (λ a. pick_cases P _ _ _ (λ t. c.refused 1) (λ e1. pick_cases P _ _ _ (λ t. c.refused 2) (λ e2.
      pick_cases P _ _ _ (λ t. c.refused 3) (λ e3. pick_cases P _ _ _ again_for (λ f.
      pick_cases P _ _ _ (λ period. asked_for (passed s m O e1) e3 f period) (λ period. plainly e3)))))))
