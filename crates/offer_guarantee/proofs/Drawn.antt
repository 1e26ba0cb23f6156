-- Laws: what draws an OFFER: a new grant, which is then held, or the hold of the identifier; and a REQUEST for such a hold.
use Prim.Native.Nat.{ℕ}
use mathlib.Core.Path.{◌≡◌, refl, sym, ap, ap₂, ◌∙◌, subst}
use mathlib.Core.Bool.{Bool, true, false, not, ◌&&◌, ◌||◌}
use mathlib.Core.List.{List}
use mathlib.Core.Logic.{◌⊎◌, inl, inr}
use native.Mathlib.Omega.{arith}
use lib.Dec.{eqb}
use borrow.Author.Tests.{eqb-true}
use Rattle.lists.specs.Pick.{pick}
use Rattle.lists.specs.laws.Both.{and_both, and_parts}
use Rattle.message.specs.declared.Fields.{Fields}
use Rattle.message.specs.laws.Placed.{pick_cases}
use Rattle.state.specs.declared.Edit.{Edit}
use Rattle.state.specs.declared.Lease.{Lease}
use Rattle.state.specs.declared.LeaseTable.{LeaseTable}
use Rattle.state.specs.declared.Release.{Release}
use Rattle.state.specs.declared.State.{State}
use Rattle.state.specs.Book.{is_hold, remove_of, with_clock, zero_lease}
use Rattle.state.specs.Edit.{entering, giving_way}
use Rattle.releases.specs.Again.{any_again}
use Rattle.decision.specs.declared.Decided.{Decided}
use Rattle.proposal.specs.declared.Proposal.{Proposal}
use Rattle.decision.specs.declared.Reply.{Reply}
use Rattle.decision.specs.declared.Reply.TheVariants.{Nothing, Offer, LeaseAck, ReleaseAck, InfoAck, Nak}
use Rattle.admission.specs.Tests.{bad_counts, drops_hold, early1_of, error1_of, error2_of, error3_of, has_period, held_already, is_for_hold, is_held, is_leased, is_new, knows_scope, lacks_current, lacks_scope, latest_first, lease_id_in, own_of, recorded_of, released_again, resends, same_scope, scope_place, zero_length, found_of, dropped_of}
use Rattle.proposal.specs.Proposals.{brought_by, error0_of, held_from, hold_meets, lease_from, meets, new_of, proposal_of, renewed_of, too_late, too_short, turned, updated}
use Rattle.decision.specs.Verdicts.{discard_with, nak_with, plain_reply, refusal_of, with_lease}
use Rattle.decision.specs.Decide.{changed, decide_of, dropped_first, judged_of, leased_of, plain_of, repeated_of, settled_of, unchanged}
use Rattle.decision.specs.laws.Code.{no, or_none, dropped_is}
use Rattle.decision_laws.specs.laws.Ensured.{sent_as}
use Rattle.guarantee.proofs.Reached.{pick_else, pick_then}
use Rattle.std.specs.Prelude.{Option, Some, None, is_some, unwrap_or}

-- ---- a hold that waits for a message, which names its scope and asks for no more than it has; but for the message's type
pub record Waits (s : State) (m : Fields) (o : Lease) : Type 0 where
  pub hold : is_hold o ≡ true
  pub scope : same_scope s m (Some o) ≡ true
  pub meets : hold_meets m o ≡ true
  pub early : early1_of s m ≡ false

-- as it does for the same message as a REQUEST, whatever the clock
pub still_waits : (s : State) (k : ℕ) (m : Fields) (o : Lease) → Waits s (sent_as 1 m) o → Waits (with_clock s k) (sent_as 3 m) o
unfolding same_scope scope_place hold_meets meets too_short too_late early1_of lacks_scope is_new knows_scope zero_length bad_counts lacks_current latest_first sent_as
still_waits s k m o w = record { hold = w.hold; scope = w.scope; meets = w.meets; early = w.early }

-- ---- a REQUEST for it
module _ (s : State) (m : Fields) (o : Lease) (w : Waits s m o) (request : m.kind ≡ 3) where
  of_type_1 : o.kind ≡ 1
  unfolding is_hold
  of_type_1 = eqb-true o.kind 1 w.hold

  no_resend : resends m o ≡ false
  unfolding resends
  no_resend = ap₂ (λ (k l : ℕ). (eqb k 3 || eqb k 4) && (eqb l k && eqb o.xid m.xid)) request of_type_1

  no_again : (q : List Release) → released_again s q m ≡ false
  unfolding released_again
  no_again q = ap (λ (k : ℕ). eqb k 7 && any_again s.clock (lease_id_in m) m.xid q) request

  no_error1 : error1_of s m (Some o) ≡ false
  unfolding error1_of held_already is_new is_leased is_held
  no_error1 =
      ap (λ (e : Bool). e || held_already s m (Some o)) w.early
      ∙ ap₂ (λ (k : ℕ) (x : Bool). ((eqb k 1 || eqb k 3) && not x) || (eqb k 1 && (x && not (same_scope s m (Some o))))) request w.hold

  no_error3 : error3_of m (Some o) ≡ false
  unfolding error3_of
  no_error3 = ap (λ (k : ℕ). (eqb k 4 || eqb k 7) && not (is_leased (Some o))) request

  for_it : is_for_hold s m (Some o) ≡ true
  unfolding is_for_hold is_new is_held
  for_it = and_both (ap (λ (k : ℕ). eqb k 1 || eqb k 3) request) (and_both w.hold w.scope)

  turns : (p : Proposal) (q : List Release) → error2_of s m ≡ false → judged_of s p q m (Some o) ≡ changed (giving_way o (turned m o)) (with_lease LeaseAck (turned m o))
  unfolding judged_of repeated_of
  turns p q error2 =
      pick_else (resends m o) _ _ no_resend
      ∙ pick_else (released_again s q m) _ _ (no_again q)
      ∙ pick_else (error1_of s m (Some o)) _ _ no_error1
      ∙ pick_else (error2_of s m) _ _ error2
      ∙ pick_else (error3_of m (Some o)) _ _ no_error3
      ∙ pick_then (is_for_hold s m (Some o)) _ _ for_it
      ∙ pick_then (hold_meets m o) _ _ w.meets
      ∙ pick_else (eqb m.kind 1) _ _ (ap (λ (k : ℕ). eqb k 1) request)

  pub taken_up : (t : LeaseTable) (q : List Release) (h : ℕ) → found_of (own_of t h) m ≡ Some o → error2_of s m ≡ false
      → decide_of s t q h m ≡ changed (giving_way o (turned m o)) (with_lease LeaseAck (turned m o))
  unfolding decide_of
  taken_up t q h e error2 =
      ap (λ (x : Option Lease). judged_of s (proposal_of s (brought_by t h m (found_of (own_of t h) m)) h m (recorded_of (own_of t h) m)) q m x) e
      ∙ turns _ q error2

-- ---- an OFFER
abbrev is_offer : Reply → ℕ
is_offer Nothing = 0
is_offer Offer = 1
is_offer LeaseAck = 0
is_offer ReleaseAck = 0
is_offer InfoAck = 0
is_offer Nak = 0

-- of the decision d on a DISCOVER m of tenant h: it comes from a new grant, for an identifier without a record
pub record Fresh (s : State) (t : LeaseTable) (h : ℕ) (m : Fields) (d : Decided) : Type 0 where
  pub none : is_some (found_of (own_of t h) m) ≡ false
  pub error1 : error1_of s m (found_of (own_of t h) m) ≡ false
  pub error2 : error2_of s m ≡ false
  pub error0 : error0_of s m (new_of s t h m) ≡ false
  pub is : d ≡ changed (entering (held_from s.clock (lease_from m (new_of s t h m)))) (with_lease Offer (lease_from m (new_of s t h m)))

-- or from the hold
pub record Repeats (s : State) (t : LeaseTable) (h : ℕ) (m : Fields) (d : Decided) : Type 0 where
  pub there : is_some (found_of (own_of t h) m) ≡ true
  pub waits : Waits s m (recorded_of (own_of t h) m)
  pub is : d ≡ unchanged (with_lease Offer (recorded_of (own_of t h) m))

-- past error 1, a DISCOVER that is for no hold in the scope has no record
not_there : (s : State) (m : Fields) (o : Option Lease) → m.kind ≡ 1 → error1_of s m o ≡ false → is_for_hold s m o ≡ false → is_some o ≡ false
unfolding error1_of held_already is_for_hold is_new is_leased is_held
not_there s m None k e f = refl
not_there s m (Some l) k e f =
    go (is_hold l) (same_scope s m (Some l))
    (sym (ap (λ (n : ℕ). ((eqb n 1 || eqb n 3) && not (is_hold l)) || (eqb n 1 && (is_hold l && not (same_scope s m (Some l))))) k)
    ∙ (or_none (early1_of s m) _ e).1)
    (sym (ap (λ (n : ℕ). (eqb n 1 || eqb n 3) && (is_hold l && same_scope s m (Some l))) k) ∙ f)
  where
    go : (y z : Bool) → (not y || (y && not z)) ≡ false → (y && z) ≡ false → true ≡ false
    go false z p q = p
    go true false p q = p
    go true true p q = q

-- and one that is for a hold has it
waits_for : (s : State) (m : Fields) (o : Option Lease) → is_for_hold s m o ≡ true → hold_meets m (unwrap_or o zero_lease) ≡ true → early1_of s m ≡ false
    → (is_some o ≡ true) × Waits s m (unwrap_or o zero_lease)
unfolding is_for_hold is_held
waits_for s m None f meets early = no (sym (and_parts (is_new m) _ f).1)
waits_for s m (Some l) f meets early =
    let a = and_parts (is_hold l) (same_scope s m (Some l)) (and_parts (is_new m) (is_hold l && same_scope s m (Some l)) f).1 in
    (refl, record { hold = a.0; scope = a.1; meets = meets; early = early })

module _ (s : State) (t : LeaseTable) (q : List Release) (h : ℕ) (m : Fields) (discover : m.kind ≡ 1) where
  abbrev O : Option Lease
  O = found_of (own_of t h) m

  abbrev L : Lease
  L = recorded_of (own_of t h) m

  abbrev T : Bool
  T = is_some (found_of (own_of t h) m)

  P : Decided → Type 0
  P d = d.verdict.reply ≡ Offer → Fresh s t h m d ⊎ Repeats s t h m d

  other : {A : Type 0} {r : Reply} → is_offer r ≡ 0 → r ≡ Offer → A
  other e f = let g = ap is_offer f in absurd (omega arith)

  refused : (e : ℕ) → P (unchanged (refusal_of m e))
  unfolding refusal_of P discard_with nak_with
  refused e =
      pick_cases (λ v. v.reply ≡ Offer → Fresh s t h m (unchanged v) ⊎ Repeats s t h m (unchanged v)) (eqb m.kind 1) _ _ (λ _ f. other {r = Nothing} refl f)
      (λ _. pick_cases (λ v. v.reply ≡ Offer → Fresh s t h m (unchanged v) ⊎ Repeats s t h m (unchanged v)) (eqb m.kind 8) _ _ (λ _ f. other {r = Nothing} refl f) (λ _ f. other {r = Nak} refl f))

  no_drop : drops_hold m O ≡ false
  unfolding drops_hold
  no_drop = ap (λ (k : ℕ). eqb k 3 && is_held O) discover

  proposal_is : proposal_of s (brought_by t h m O) h m L ≡ new_of s t h m
  unfolding proposal_of is_new brought_by pick
  proposal_is =
      ap (λ (d : Bool). pick (eqb m.kind 1 || eqb m.kind 3) (new_of s (pick d (updated t h (remove_of (lease_id_in m) (own_of t h))) t) h m) (renewed_of s (pick d (updated t h (remove_of (lease_id_in m) (own_of t h))) t) h m L)) no_drop
      ∙ ap (λ (k : ℕ). pick (eqb k 1 || eqb k 3) (new_of s t h m) (renewed_of s t h m L)) discover

  -- other replies, and the two
  acked : (e : Edit) (l : Lease) → P (changed e (with_lease LeaseAck l))
  unfolding P with_lease
  acked e l f = other {r = LeaseAck} refl f

  released : (e : Edit) → P (changed e (plain_reply ReleaseAck))
  unfolding P plain_reply
  released e f = other {r = ReleaseAck} refl f

  informed : P (unchanged (plain_reply InfoAck))
  unfolding P plain_reply
  informed f = other {r = InfoAck} refl f

  fresh : error1_of s m O ≡ false → error2_of s m ≡ false → T ≡ false → error0_of s m (new_of s t h m) ≡ false
      → P (changed (entering (held_from s.clock (lease_from m (new_of s t h m)))) (with_lease Offer (lease_from m (new_of s t h m))))
  unfolding P
  fresh e1 e2 none e0 _ = inl (record { none = none; error1 = e1; error2 = e2; error0 = e0; is = refl })

  repeats : error1_of s m O ≡ false → is_for_hold s m O ≡ true → hold_meets m L ≡ true → P (unchanged (with_lease Offer L))
  unfolding P error1_of
  repeats e1 f meets _ =
      let w = waits_for s m O f meets (or_none (early1_of s m) (held_already s m O) e1).0 in
      inr (record { there = w.0; waits = w.1; is = refl })

  settled : error1_of s m O ≡ false → error2_of s m ≡ false → T ≡ false → P (settled_of s m L (new_of s t h m))
  unfolding settled_of leased_of
  settled e1 e2 none =
      pick_cases P (error0_of s m (new_of s t h m)) _ _ (λ _. refused 0)
      (λ e0. pick_cases P (eqb m.kind 1) _ _ (λ _. fresh e1 e2 none e0) (λ _. pick_cases P (eqb m.kind 3) _ _ (λ _. acked _ _) (λ _. acked _ _)))

  for_hold : error1_of s m O ≡ false → is_for_hold s m O ≡ true → P (repeated_of m L)
  unfolding repeated_of
  for_hold e1 f =
      pick_cases P (hold_meets m L) _ _ (λ meets. pick_cases P (eqb m.kind 1) _ _ (λ _. repeats e1 f meets) (λ _. acked _ _)) (λ _. refused 0)

  asked : error1_of s m O ≡ false → error2_of s m ≡ false → T ≡ false → P (dropped_first (dropped_of m O) (settled_of s m L (proposal_of s (brought_by t h m O) h m L)))
  asked e1 e2 none =
      subst P (sym (dropped_is m O _))
      (pick_cases P (drops_hold m O) _ _ (λ d. no (sym d ∙ no_drop)) (λ _. subst (λ (p : Proposal). P (settled_of s m L p)) (sym proposal_is) (settled e1 e2 none)))

  plain : P (plain_of s m L)
  unfolding plain_of
  plain = pick_cases P (eqb m.kind 7) _ _ (λ _. released _) (λ _. informed)

  judged : P (decide_of s t q h m)
  unfolding decide_of judged_of
  judged =
      pick_cases P (resends m L) _ _ (λ _. acked _ L)
      (λ _. pick_cases P (released_again s q m) _ _ (λ _. released _)
      (λ _. pick_cases P (error1_of s m O) _ _ (λ _. refused 1)
      (λ e1. pick_cases P (error2_of s m) _ _ (λ _. refused 2)
      (λ e2. pick_cases P (error3_of m O) _ _ (λ _. refused 3)
      (λ _. pick_cases P (is_for_hold s m O) _ _ (λ f. for_hold e1 f)
      (λ f. pick_cases P (has_period m) _ _ (λ _. asked e1 e2 (not_there s m O discover e1 f)) (λ _. plain)))))))

  pub drawn : (decide_of s t q h m).verdict.reply ≡ Offer → Fresh s t h m (decide_of s t q h m) ⊎ Repeats s t h m (decide_of s t q h m)
  unfolding P
  drawn = judged
