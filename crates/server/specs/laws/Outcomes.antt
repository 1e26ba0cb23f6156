-- Laws: which numbers outcomes have: a decision replies or is discard 8, which edits nothing; the reader's discards are 4, 5 and 6.
use Rattle.std.specs.Prelude.{ℕ, ◌≤◌, ◌≡◌, refl, Bool, true, false, List, eqb, get_or}
use Rattle.std.proofs.Common.{ap, arith}
use Rattle.lists.specs.Pick.{pick}
use Rattle.message.specs.declared.Fields.{Fields}
use Rattle.message.specs.declared.Reading.{Reading}
use Rattle.message.specs.declared.Stage.{Stage}
use Rattle.message.specs.declared.Stage.TheVariants.{Walking, Done, Broken}
use Rattle.message.specs.laws.Placed.{pick_cases}
use Rattle.message.specs.Read.{by_stage, ended, header_ok, none_required, read_of}
use Rattle.message.specs.Read as read
use Rattle.message.specs.Walk.{walk_of}
use Rattle.state.specs.declared.Edit.{Edit}
use Rattle.state.specs.declared.Lease.{Lease}
use Rattle.state.specs.declared.LeaseTable.{LeaseTable}
use Rattle.state.specs.declared.Release.{Release}
use Rattle.state.specs.declared.State.{State}
use Rattle.state.specs.Edit.{no_edit}
use Rattle.decision.specs.declared.Decided.{Decided}
use Rattle.decision.specs.declared.Reply.{Reply}
use Rattle.decision.specs.declared.Reply.TheVariants.{Nothing, Offer, LeaseAck, ReleaseAck, InfoAck}
use Rattle.decision.specs.Verdicts.{discard_with, nak_with, plain_reply, refusal_of, with_lease}
use Rattle.decision_laws.specs.laws.Cases.{decided_by}
use Rattle.decision.specs.Decide.{changed, decide_of, unchanged}

-- ---- the decision: outcome 0, or discard 8 with nothing changed
pub record Concluded (d : Decided) : Type 0 where
  pub few : d.verdict.outcome ≤ 8
  pub rest : (d.verdict.outcome ≡ 0 → ⊥) → (d.verdict.outcome ≡ 8) × ((d.verdict.reply ≡ Nothing) × (d.edit ≡ no_edit))

replied : (d : Decided) → d.verdict.outcome ≡ 0 → Concluded d
replied d e = record { few = omega arith; rest = λ n. absurd (n e) }

leased : (r : Reply) (l : Lease) (e : Edit) → Concluded (changed e (with_lease r l))
unfolding with_lease
leased r l e = replied _ refl

plain : (r : Reply) (e : Edit) → Concluded (changed e (plain_reply r))
unfolding plain_reply
plain r e = replied _ refl

refused : (m : Fields) (e : ℕ) → Concluded (unchanged (refusal_of m e))
unfolding refusal_of discard_with nak_with pick
refused m e = go (eqb m.kind 1) (eqb m.kind 8)
  where
    eight : Concluded (unchanged (discard_with 8))
    eight = record { few = omega arith; rest = λ n. (refl, (refl, refl)) }

    go : (p q : Bool) → Concluded (unchanged (pick p (discard_with 8) (pick q (discard_with 8) (nak_with e))))
    go true q = eight
    go false true = eight
    go false false = replied _ refl

-- a REQUEST that is refused draws a NAK, also where it has dropped a hold
nak : (m : Fields) (e : ℕ) (x : Edit) → m.kind ≡ 3 → Concluded (changed x (refusal_of m e))
unfolding refusal_of nak_with pick
nak m e x k = replied _ (ap (λ (n : ℕ). (pick (eqb n 1) (discard_with 8) (pick (eqb n 8) (discard_with 8) (nak_with e))).outcome) k)

pub concluded : (s : State) (t : LeaseTable) (q : List Release) (h : ℕ) (m : Fields) → Concluded (decide_of s t q h m)
concluded s t q h m = decided_by s t h m Concluded (record {
  resent = λ _. leased LeaseAck _ _;
  again = plain ReleaseAck _;
  refused = refused m;
  repeated = λ _ _. leased Offer _ _;
  taken = λ _ _. leased LeaseAck _ _;
  offered = λ _ _ _ _. leased Offer _ _;
  requested = λ _ _ _ _. leased LeaseAck _ _;
  dropped = λ k _. nak m 0 _ k;
  moved = λ _ _ _ _. leased LeaseAck _ _;
  renewed = λ _ _ _ _. leased LeaseAck _ _;
  released = λ _ _. plain ReleaseAck _;
  informed = plain InfoAck _;
}) q

-- ---- the reader's discards are 4, 5 and 6; with 4 and 6 goes no offset
unfoldable pub Numbered : Reading → Type 0
Numbered r = (r.discard ≡ 0 → ⊥) → (3 ≤ r.discard) × (r.discard ≤ 8) × ((r.discard ≡ 5 → ⊥) → r.fault ≡ 0)

pub read_number : (s : List ℕ) → Numbered (read_of s)
unfolding Numbered read_of ended
read_number s = pick_cases Numbered (header_ok s) _ _ (λ _. at_stage (walk_of s).stage) (λ _. λ n. (omega arith, omega arith, λ _. refl))
  where
    at_stage : (g : Stage) → Numbered (by_stage g (ended s (walk_of s).places) (read.no_message 5 (walk_of s).at))
    at_stage Walking = λ n. (omega arith, omega arith, λ m. absurd (m refl))
    at_stage Done =
        pick_cases Numbered (eqb (get_or (walk_of s).places 3 0) 0) _ _ (λ _. λ n. (omega arith, omega arith, λ m. absurd (m refl))) (λ _.
        pick_cases Numbered (none_required s (walk_of s).places) _ _ (λ _. λ n. absurd (n refl)) (λ _. λ n. (omega arith, omega arith, λ _. refl)))
    at_stage Broken = λ n. (omega arith, omega arith, λ m. absurd (m refl))
