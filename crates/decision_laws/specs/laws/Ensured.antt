-- Laws: a message whose identifier has no hold is judged as document 01 says; so a DISCOVER is offered what the same message would get as a REQUEST.
use Rattle.std.specs.Prelude.{ℕ, ◌≡◌, Bool, ◌&&◌, ◌||◌, Option, Some, None, is_some, unwrap_or, List}
use Rattle.std.proofs.Math.Path.{refl, ap}
use Rattle.std.proofs.Common.{sym, ◌∙◌, arith}
use Rattle.std.proofs.Math.Bool.{true, false, not}
use Rattle.std.proofs.Math.Dec.{eqb}
use Rattle.lists.specs.Pick.{pick}
use Rattle.message.specs.declared.Fields.{Fields}
use Rattle.state.specs.declared.Lease.{Lease}
use Rattle.state.specs.declared.LeaseTable.{LeaseTable}
use Rattle.state.specs.declared.Release.{Release}
use Rattle.state.specs.declared.State.{State}
use Rattle.state.specs.Book.{zero_lease}
use Rattle.state.specs.Edit.{entering}
use Rattle.decision.specs.declared.Decided.{Decided}
use Rattle.proposal.specs.declared.Proposal.{Proposal}
use Rattle.decision.specs.declared.Verdict.{Verdict}
use Rattle.decision.specs.declared.Reply.{Reply}
use Rattle.decision.specs.declared.Reply.TheVariants.{Offer, LeaseAck, Nothing, ReleaseAck, InfoAck, Nak}
use Rattle.admission.specs.Tests.{is_new, has_period, own_of, found_of, recorded_of, resends, released_again, knows_scope, lacks_scope, zero_length, bad_counts, lacks_current, error1_of, error2_of, error3_of, held_already, early1_of, latest_first, is_leased, is_held, same_scope, is_for_hold, dropped_of, drops_hold}
use Rattle.proposal.specs.Proposals.{start_of, length_of, ask_at, fits_new, new_with, new_at, new_of, proposal_of, error0_of, lease_from, too_short, too_late, meets, brought_by, held_from}
use Rattle.decision.specs.Verdicts.{with_lease, plain_reply, nak_with, discard_with, refusal_of}
use Rattle.decision.specs.Decide.{unchanged, changed, leased_of, plain_of, settled_of, repeated_of, dropped_first, judged_of, decide_of}
use Rattle.decision_laws.specs.laws.Cases.{without}

-- ---- an identifier without a hold
-- document 01's decision: a record that is there is a lease
unfoldable pub judged_free : State → Proposal → List Release → Fields → Option Lease → Decided
judged_free s p q m o =
    let l : Lease = unwrap_or o zero_lease in
    pick (resends m l) (unchanged (with_lease LeaseAck l))
    (pick (released_again s q m) (unchanged (plain_reply ReleaseAck))
    (pick (early1_of s m || (is_new m && is_some o)) (unchanged (refusal_of m 1))
    (pick (error2_of s m) (unchanged (refusal_of m 2))
    (pick ((eqb m.kind 4 || eqb m.kind 7) && not (is_some o)) (unchanged (refusal_of m 3))
    (pick (has_period m) (settled_of s m l p) (plain_of s m l))))))

and_none_r : (a : Bool) → (a && false) ≡ false
and_none_r true = refl
and_none_r false = refl

or_none_r : (a b : Bool) → (a || (b && false)) ≡ a
or_none_r true b = refl
or_none_r false b = and_none_r b

module _ (o : Option Lease) (free : is_held o ≡ false) where
  leased_is_there : is_leased o ≡ is_some o
  unfolding is_leased is_held
  leased_is_there = go o free
    where
      go : (x : Option Lease) → is_held x ≡ false → is_leased x ≡ is_some x
      go None e = refl
      go (Some l) e = ap not e

  free_1 : (s : State) (m : Fields) → error1_of s m o ≡ (early1_of s m || (is_new m && is_some o))
  unfolding error1_of held_already
  free_1 s m =
      ap (λ (x : Bool). early1_of s m || x)
      (ap (λ (x : Bool). (is_new m && is_leased o) || (eqb m.kind 1 && (x && not (same_scope s m o)))) free ∙ or_none_r (is_new m && is_leased o) (eqb m.kind 1)
      ∙ ap (λ (x : Bool). is_new m && x) leased_is_there)

  free_3 : (m : Fields) → error3_of m o ≡ ((eqb m.kind 4 || eqb m.kind 7) && not (is_some o))
  unfolding error3_of
  free_3 m = ap (λ (x : Bool). (eqb m.kind 4 || eqb m.kind 7) && not x) leased_is_there

  free_for : (s : State) (m : Fields) → is_for_hold s m o ≡ false
  unfolding is_for_hold
  free_for s m = ap (λ (x : Bool). is_new m && (x && same_scope s m o)) free ∙ and_none_r (is_new m)

  free_drops : (m : Fields) → drops_hold m o ≡ false
  unfolding drops_hold
  free_drops m = ap (λ (x : Bool). eqb m.kind 3 && x) free ∙ and_none_r (eqb m.kind 3)

pub decide_free : (s : State) (b : LeaseTable) (q : List Release) (h : ℕ) (m : Fields) → is_held (found_of (own_of b h) m) ≡ false
    → decide_of s b q h m ≡ judged_free s (proposal_of s b h m (recorded_of (own_of b h) m)) q m (found_of (own_of b h) m)
unfolding decide_of judged_of judged_free brought_by dropped_of dropped_first pick
decide_free s b q h m free =
    ap (λ (x : Bool). tested x (error3_of m o) (is_for_hold s m o) (drops_hold m o)) (free_1 o free s m)
    ∙ ap (λ (x : Bool). tested (early1_of s m || (is_new m && is_some o)) x (is_for_hold s m o) (drops_hold m o)) (free_3 o free m)
    ∙ ap (λ (x : Bool). tested (early1_of s m || (is_new m && is_some o)) ((eqb m.kind 4 || eqb m.kind 7) && not (is_some o)) x (drops_hold m o)) (free_for o free s m)
    ∙ ap (λ (x : Bool). tested (early1_of s m || (is_new m && is_some o)) ((eqb m.kind 4 || eqb m.kind 7) && not (is_some o)) false x) (free_drops o free m)
  where
    o : Option Lease
    o = found_of (own_of b h) m

    l : Lease
    l = recorded_of (own_of b h) m

    tested : Bool → Bool → Bool → Bool → Decided
    tested e1 e3 f d =
        pick (resends m l) (unchanged (with_lease LeaseAck l))
        (pick (released_again s q m) (unchanged (plain_reply ReleaseAck))
        (pick e1 (unchanged (refusal_of m 1))
        (pick (error2_of s m) (unchanged (refusal_of m 2))
        (pick e3 (unchanged (refusal_of m 3))
        (pick f (repeated_of m l) (pick (has_period m) (dropped_first (pick d o None) (settled_of s m l (proposal_of s (pick d (without b h m) b) h m l))) (plain_of s m l)))))))

-- ---- "DISCOVER .. draws an OFFER exactly if the same message sent as a REQUEST would get a new grant now, with that period and those ranges"
-- the same message, sent as another type
unfoldable pub sent_as : ℕ → Fields → Fields
sent_as kind m = record {
  kind = kind;
  xid = m.xid;
  id = m.id;
  allowed = m.allowed;
  scope = m.scope;
  counts = m.counts;
  times = m.times;
  features = m.features;
  ours = m.ours;
  list_asked = m.list_asked;
  time_asked = m.time_asked;
  language = m.language;
}

-- an ACK's lease as an OFFER's; anything else as discard 8
abbrev pub as_offer : Reply → Verdict → Verdict
as_offer LeaseAck v = record { outcome = 0; reply = Offer; error = 0; scope = v.scope; start = v.start; end = v.end; addresses = v.addresses }
as_offer Nothing v = discard_with 8
as_offer Offer v = discard_with 8
as_offer ReleaseAck v = discard_with 8
as_offer InfoAck v = discard_with 8
as_offer Nak v = discard_with 8

-- where it is no Resend, and its identifier has no hold
pub offered_as_requested : (s : State) (b : LeaseTable) (q : List Release) (h : ℕ) (m : Fields) → resends (sent_as 3 m) (recorded_of (own_of b h) m) ≡ false
    → is_held (found_of (own_of b h) m) ≡ false
    → (decide_of s b q h (sent_as 1 m)).verdict ≡ as_offer (decide_of s b q h (sent_as 3 m)).verdict.reply (decide_of s b q h (sent_as 3 m)).verdict
unfolding judged_free settled_of leased_of sent_as resends released_again is_new has_period lacks_scope knows_scope zero_length bad_counts lacks_current latest_first early1_of error2_of proposal_of new_of new_at new_with ask_at fits_new start_of length_of lease_from with_lease nak_with discard_with refusal_of too_short too_late meets error0_of pick
offered_as_requested s b q h m e free =
    ap (λ (d : Decided). d.verdict) (decide_free s b q h (sent_as 1 m) free)
    ∙ go (resends (sent_as 3 m) (recorded_of (own_of b h) m)) (early1_of s (sent_as 3 m) || (true && is_some (found_of (own_of b h) m))) (error2_of s m) (error0_of s m (new_of s b h m)) e
    ∙ ap (λ (d : Decided). as_offer d.verdict.reply d.verdict) (sym (decide_free s b q h (sent_as 3 m) free))
  where
    L : ℕ → Lease
    L kind = lease_from (sent_as kind m) (new_of s b h m)

    D : Bool → Bool → Bool → Decided
    D p q r =
        pick p (unchanged (discard_with 8))
        (pick q (unchanged (discard_with 8)) (pick r (unchanged (discard_with 8)) (changed (entering (held_from s.clock (L 1))) (with_lease Offer (L 1)))))

    R : Bool → Bool → Bool → Bool → Decided
    R x p q r =
        pick x (unchanged (with_lease LeaseAck (recorded_of (own_of b h) m)))
        (pick p (unchanged (nak_with 1)) (pick q (unchanged (nak_with 2)) (pick r (unchanged (nak_with 0)) (changed (entering (L 3)) (with_lease LeaseAck (L 3))))))

    go : (x p q r : Bool) → x ≡ false → (D p q r).verdict ≡ as_offer (R x p q r).verdict.reply (R x p q r).verdict
    go true p q r e = let z : ◌≡◌ {A = ℕ} 0 1 = cc in absurd (omega arith)
    go false true q r e = refl
    go false false true r e = refl
    go false false false true e = refl
    go false false false false e = refl
