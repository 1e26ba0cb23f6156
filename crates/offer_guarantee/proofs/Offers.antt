-- Proof of the OFFER rule: a DISCOVER for an identifier without a hold draws an OFFER just if the same datagram as a REQUEST gets a new grant.
use Prim.Native.Nat.{ℕ}
use mathlib.Core.Path.{◌≡◌, refl, sym, ap, ◌∙◌, subst}
use mathlib.Core.Bool.{Bool, true, false, not, ◌&&◌, ◌||◌}
use mathlib.Core.List.{List}
use mathlib.Core.Logic.{◌⊎◌, inl, inr, ⊎_elim}
use native.Mathlib.Omega.{arith}
use lib.Dec.{ltb, eqb}
use lib.ListN.{get_or, set}
use borrow.Author.Tests.{eqb-true, eqb-false}
use Rattle.lists.specs.Pick.{pick}
use Rattle.message.specs.laws.Placed.{pick_cases}
use Rattle.message.specs.Read.{read_of}
use Rattle.message.specs.declared.Fields.{Fields}
use Rattle.reply.specs.Reply.{lease_ack_of, message_octets, nak_of, offer_of, least_room}
use Rattle.state.specs.declared.Lease.{Lease}
use Rattle.state.specs.declared.LeaseTable.{LeaseTable}
use Rattle.state.specs.declared.Release.{Release}
use Rattle.state.specs.declared.State.{State}
use Rattle.state.specs.Book.{Book, releases_at, remembered, zero_lease}
use Rattle.releases.specs.Whole.{book_b}
use Rattle.soundness.specs.Sound.{tenants_in}
use Rattle.decision.specs.declared.Decided.{Decided}
use Rattle.decision.specs.Decide.{decide_of, leased_of, settled_of}
use Rattle.decision.specs.Verdicts.{discard_with, refusal_of, nak_with, with_lease}
use Rattle.admission.specs.Tests.{early1_of, is_held, is_new, own_of, recorded_of, released_again, resends, has_period, found_of}
use Rattle.decision_laws.specs.laws.Ensured.{as_offer, decide_free, judged_free, offered_as_requested, sent_as}
use Rattle.guarantee.specs.Statement.{NoHold, book_at, own_for, says_of, state_at, table_at, tenant_for}
use Rattle.offer_guarantee.specs.Statement.{OfferRule, Discovers, NewlyGranted, OfferedAs, as_request, requested}
use Rattle.decision.specs.declared.Reply.{Reply}
use Rattle.decision.specs.declared.Reply.TheVariants.{LeaseAck, Nak}
use Rattle.decision.specs.declared.Verdict.{Verdict}
use Rattle.offer_guarantee.proofs.Alike.{Alike, both_numbers, both_say, words_of}
use Rattle.guarantee.proofs.Reached.{pick_then}
use Rattle.server.specs.Serve.{Answer, Call, answered, at_clock, by_reply, discarded, for_server, head_of, reply_of, serve_of, terms_of, with_reading}
use Rattle.std.specs.Prelude.{Option, Some, None, is_some, unwrap_or}

recorded_same : (own : List Lease) (m : Fields) → recorded_of own m ≡ recorded_of own (sent_as 3 m)
unfolding sent_as
recorded_same own m = refl

-- ---- a Resend: its identifier is held, so that the DISCOVER draws error 1
or_right : (a : Bool) {b : Bool} → b ≡ true → (a || b) ≡ true
or_right true e = refl
or_right false e = e

resent_held : (own : List Lease) (m : Fields) → resends (sent_as 3 m) (recorded_of own m) ≡ true → is_some (found_of own m) ≡ true
unfolding resends sent_as
resent_held own m e = go (found_of own m) e
  where
    go : (o : Option Lease) → resends (sent_as 3 m) (unwrap_or o zero_lease) ≡ true → is_some o ≡ true
    go (Some l) e = refl
    go None e = e

-- of an identifier without a hold
abbrev Free : LeaseTable → ℕ → Fields → Type 0
Free t h m = is_held (found_of (own_of t h) m) ≡ false

discovered_held : (s : State) (t : LeaseTable) (q : List Release) (h : ℕ) (m : Fields) → Free t h m → resends (sent_as 3 m) (recorded_of (own_of t h) m) ≡ true → (decide_of s t q h (sent_as 1 m)).verdict ≡ discard_with 8
unfolding judged_free resends released_again sent_as refusal_of pick is_new
discovered_held s t q h m free e =
    ap (λ (d : Decided). d.verdict) (decide_free s t q h (sent_as 1 m) free ∙ pick_then (early1_of s (sent_as 1 m) || (true && is_some (found_of (own_of t h) m))) _ _ (or_right (early1_of s (sent_as 1 m)) (resent_held (own_of t h) m e)))

-- ---- a REQUEST draws an ACK with a lease, or a NAK
Drawn : Verdict → Type 0
Drawn v = ((v.outcome ≡ 0) × (v.reply ≡ LeaseAck)) ⊎ (v.reply ≡ Nak)

never : {A : Type 0} → true ≡ false → A
never e = let z : ◌≡◌ {A = ℕ} 0 1 = cc in absurd (omega arith)

request_draws : (s : State) (t : LeaseTable) (q : List Release) (h : ℕ) (m : Fields) → Free t h m → Drawn (decide_of s t q h (sent_as 3 m)).verdict
unfolding judged_free released_again settled_of leased_of with_lease refusal_of nak_with sent_as has_period is_new Drawn
request_draws s t q h m free = subst P (sym (decide_free s t q h (sent_as 3 m) free))
    (pick_cases P _ _ _ (λ _. inl (refl, refl))
    (λ _. pick_cases P (released_again s q (sent_as 3 m)) _ _ (λ e. never (sym e))
    (λ _. pick_cases P _ _ _ (λ _. nak 1)
    (λ _. pick_cases P _ _ _ (λ _. nak 2)
    (λ _. pick_cases P _ _ _ (λ _. nak 3)
    (λ _. pick_cases P _ _ _
    (λ _. pick_cases P _ _ _ (λ _. nak 0) (λ _. pick_cases P (eqb 3 1) _ _ (λ e. never (sym e)) (λ _. pick_cases P (eqb 3 3) _ _ (λ _. inl (refl, refl)) (λ e. never e))))
    (λ e. never e)))))))
  where
    P : Decided → Type 0
    P d = Drawn d.verdict

    nak : (e : ℕ) → Drawn (refusal_of (sent_as 3 m) e)
    nak e = pick_cases Drawn (eqb 3 1) _ _ (λ e. never (sym e)) (λ _. pick_cases Drawn (eqb 3 8) _ _ (λ e. never (sym e)) (λ _. inr refl))

-- ---- the two calls
module _ (b : Book) (c : Call) where
  Pair : Answer → Answer → Type 0
  Pair x y = OfferedAs b c x y

  neither : (x y : Answer) → (x.outcome ≡ 0 → ⊥) → (y.outcome ≡ 0 → ⊥) → Pair x y
  unfolding Pair
  neither x y p q = record { offers = λ n. absurd (q n.outcome); only = λ o. absurd (p o.outcome); same = λ o. absurd (p o.outcome) }

  both : (t u : Bool) (x y z w : Answer) → t ≡ u → (t ≡ true → Pair x z) → (t ≡ false → Pair y w) → Pair (pick t x y) (pick u z w)
  unfolding pick
  both true true x y z w e p q = p refl
  both true false x y z w e p q = never e
  both false true x y z w e p q = never (sym e)
  both false false x y z w e p q = q refl

  abbrev s : State
  s = state_at b c

  abbrev t : LeaseTable
  t = table_at b c

  abbrev h : ℕ
  h = tenant_for b c

  abbrev q : List Release
  q = remembered (releases_at (book_at b c).memory (tenant_for b c))

  -- the decision's answers
  module _ (k : Alike s c.datagram) where
    abbrev m : Fields
    m = k.words

    abbrev ruled : Verdict
    ruled = (decide_of s t q h (sent_as 3 m)).verdict

    abbrev discovered : Answer
    discovered = answered (book_at b c) h (sent_as 1 m) (decide_of s t q h (sent_as 1 m))

    abbrev asked : Answer
    asked = answered (book_at b c) h (sent_as 3 m) (decide_of s t q h (sent_as 3 m))

    resent : Bool
    resent = resends (sent_as 3 m) (recorded_of (own_of t h) m)

    new_is : resends (says_of b (requested c)) (recorded_of (own_for b (requested c)) (says_of b (requested c))) ≡ resent
    unfolding resent
    new_is = ap (λ (f : Fields). resends f (recorded_of (own_of t h) f)) k.request ∙ ap (resends (sent_as 3 m)) (sym (recorded_same (own_of t h) m))

    -- not offered: the DISCOVER's verdict is discard 8
    kept_back : (decide_of s t q h (sent_as 1 m)).verdict ≡ discard_with 8 → (NewlyGranted b (requested c) asked → ⊥) → Pair discovered asked
    unfolding Pair discard_with
    kept_back e none = record { offers = λ n. absurd (none n); only = λ o. absurd (eight o.outcome); same = λ o. absurd (eight o.outcome) }
      where
        eight : (decide_of s t q h (sent_as 1 m)).verdict.outcome ≡ 0 → ⊥
        eight z = let q : (decide_of s t q h (sent_as 1 m)).verdict.outcome ≡ 8 = ap (λ (v : Verdict). v.outcome) e in omega arith

    by_reply_law : resent ≡ false → (decide_of s t q h (sent_as 1 m)).verdict ≡ as_offer ruled.reply ruled → Drawn ruled → Pair discovered asked
    unfolding Pair Drawn reply_of offer_of lease_ack_of nak_of message_octets sent_as
    by_reply_law new e d = ⊎_elim granted refused d
      where
        granted : (ruled.outcome ≡ 0) × (ruled.reply ≡ LeaseAck) → OfferedAs b c discovered asked
        granted g = record {
          offers = λ _. record { outcome = ap (λ (v : Verdict). v.outcome) to; type = ap (λ (r : List ℕ). get_or r 1 0) offer };
          only = λ _. record { outcome = g.0; type = ap (λ (r : List ℕ). get_or r 1 0) ack; new = new_is ∙ new };
          same = λ _. offer ∙ sym (ap (λ (r : List ℕ). set r 1 2) ack);
        }
          where
            to : (decide_of s t q h (sent_as 1 m)).verdict ≡ as_offer LeaseAck ruled
            to = e ∙ ap (λ (r : Reply). as_offer r ruled) g.1

            offer : discovered.reply ≡ offer_of (head_of s m) (terms_of s ruled)
            offer = ap (λ (v : Verdict). by_reply s (book_at b c).names h (sent_as 1 m) v v.reply) to

            ack : asked.reply ≡ lease_ack_of (head_of s m) (terms_of s ruled)
            ack = ap (by_reply s (book_at b c).names h (sent_as 3 m) ruled) g.1

        refused : ruled.reply ≡ Nak → OfferedAs b c discovered asked
        refused g = kept_back (e ∙ ap (λ (r : Reply). as_offer r ruled) g) (λ n.
            let z : get_or asked.reply 1 0 ≡ 6 = ap (λ (r : Reply). get_or (by_reply s (book_at b c).names h (sent_as 3 m) ruled r) 1 0) g in
            let y = n.type in
            omega arith)

    -- the identifier has no hold
    none_held : NoHold b c → Free t h m
    unfolding sent_as
    none_held free = ap (λ (f : Fields). is_held (found_of (own_of t h) f)) (sym k.discover) ∙ free

    decided : NoHold b c → Pair discovered asked
    unfolding resent
    decided free = go resent refl
      where
        go : (r : Bool) → resent ≡ r → Pair discovered asked
        go true e = kept_back (discovered_held s t q h m (none_held free) e) (λ n. never (sym e ∙ sym new_is ∙ n.new))
        go false e = by_reply_law e (offered_as_requested s t q h m e (none_held free)) (request_draws s t q h m (none_held free))

    -- test 7 is passed
    as_discover : for_server (book_at b c) h (words_of s c.datagram) ≡ discovered
    unfolding for_server pick sent_as
    as_discover = ap (for_server (book_at b c) h) k.discover

    as_request_law : for_server (book_at b c) h (words_of s (as_request c.datagram)) ≡ asked
    unfolding for_server pick sent_as
    as_request_law = ap (for_server (book_at b c) h) k.request ∙ ap (λ (o : Bool). pick (not o) (discarded 7 (book_at b c)) asked) k.ours

    served : NoHold b c → Pair (for_server (book_at b c) h (words_of s c.datagram)) (for_server (book_at b c) h (words_of s (as_request c.datagram)))
    served free =
        subst (λ (x : Answer). Pair x (for_server (book_at b c) h (words_of s (as_request c.datagram)))) (sym as_discover)
        (subst (λ (y : Answer). Pair discovered y) (sym as_request_law) (decided free))

  offered : Discovers c → NoHold b c → Pair (serve_of b c) (serve_of b (requested c))
  unfolding serve_of at_clock with_reading
  offered v free =
      both (book_b b) _ _ _ _ _ refl
      (λ _. both (ltb c.room least_room) _ _ _ _ _ refl (λ _. out 2 b (λ z. omega arith))
      (λ _. both (ltb h (tenants_in s)) _ _ _ _ _ refl
      (λ _. both (eqb (read_of c.datagram).discard 0) (eqb (read_of (as_request c.datagram)).discard 0) _ _ _ _ (ap (λ (n : ℕ). eqb n 0) same)
      (λ e. served (both_say s c.datagram v.type (eqb-true _ _ e) v.alone) free)
      (λ e. neither _ _ (eqb-false (read_of c.datagram).discard 0 e) (λ z. eqb-false (read_of c.datagram).discard 0 e (same ∙ z))))
      (λ _. out 3 (book_at b c) (λ z. omega arith))))
      (λ _. out 1 b (λ z. omega arith))
    where
      same : (read_of c.datagram).discard ≡ (read_of (as_request c.datagram)).discard
      same = both_numbers c.datagram v.type

      out : (n : ℕ) (x : Book) → (n ≡ 0 → ⊥) → Pair (discarded n x) (discarded n x)
      out n x z = neither (discarded n x) (discarded n x) z z

pub offer_rule : OfferRule
unfolding OfferRule Pair
offer_rule b c v free = offered b c v free
