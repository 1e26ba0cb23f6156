-- Laws: between the decision and the code.
use Rattle.std.specs.Prelude.{ℕ, Bool, true, false, ◌&&◌, ◌||◌, eqb, Option, Some, None, unwrap_or, List, ◌≡◌, refl}
use Rattle.lists.specs.Pick.{pick}
use Rattle.message.specs.declared.Fields.{Fields}
use Rattle.state.specs.Book.{is_hold, zero_lease}
use Rattle.state.specs.Edit.{dropping_first, entering, giving_way}
use Rattle.state.specs.declared.Lease.{Lease}
use Rattle.state.specs.declared.State.{State}
use Rattle.soundness.specs.declared.HeldTable.{HeldTable}
use Rattle.proposal.specs.declared.Proposal.{Proposal}
use Rattle.decision.specs.declared.Verdict.{Verdict}
use Rattle.decision.specs.declared.Reply.{Reply}
use Rattle.decision.specs.declared.Reply.TheVariants.{Nothing, Offer, LeaseAck, ReleaseAck, InfoAck, Nak}
use Rattle.std.proofs.Common.{ap, ap₂, ◌∙◌, arith}
use Rattle.state.specs.declared.Edit.{Edit}
use Rattle.decision.specs.declared.Decided.{Decided}
use Rattle.admission.specs.Tests.{dropped_of, drops_hold, is_held}
use Rattle.decision.specs.Verdicts.{with_lease}
use Rattle.proposal.specs.Gather.{proposal_in, brought_in}
use Rattle.decision.specs.Decide.{unchanged, changed, leased_of, settled_of, dropped_first}

-- ---- the lease, and the verdicts
-- the type number of each reply: OFFER, ACK and NAK; 0 where none is sent
unfoldable pub reply_type : Reply → ℕ
reply_type Nothing = 0
reply_type Offer = 2
reply_type LeaseAck = 5
reply_type ReleaseAck = 5
reply_type InfoAck = 5
reply_type Nak = 6

-- ---- decisions
pub changed_is : {e e' : Edit} {v w : Verdict} → e ≡ e' → v ≡ w → ◌≡◌ {A = Decided} (record { verdict = v; edit = e }) (changed e' w)
changed_is p q = cc

pub unchanged_is : {v w : Verdict} {r : Decided} → v ≡ w → r ≡ unchanged v → r ≡ unchanged w
unchanged_is e p = p ∙ ap unchanged e

pub edited_as : {e e' : Edit} {v : Verdict} {r : Decided} → e ≡ e' → r ≡ changed e v → r ≡ changed e' v
edited_as {v = v} e p = p ∙ ap (λ (x : Edit). changed x v) e

pub entered_as : {l l' : Lease} {e : Edit} → l ≡ l' → e ≡ entering l → e ≡ entering l'
entered_as p q = q ∙ ap entering p

-- o gives way to a lease that a call gave
pub gave_way : {o l l' : Lease} {e : Edit} {r : Decided} → l ≡ l' → e ≡ giving_way o l → r ≡ changed e (with_lease LeaseAck l) → r ≡ changed (giving_way o l') (with_lease LeaseAck l')
gave_way {o = o} {l = l} p q e = e ∙ ap (λ (x : Edit). changed x (with_lease LeaseAck l)) q ∙ ap (λ (x : Lease). changed (giving_way o x) (with_lease LeaseAck x)) p

-- a decision that a hold's drop precedes
pub drop_before_is : (o : Lease) (d : Decided) (e : Edit) (v : Verdict) → e ≡ dropping_first o d.edit → v ≡ d.verdict → ◌≡◌ {A = Decided} (record { verdict = v; edit = e }) (changed (dropping_first o d.edit) d.verdict)
drop_before_is o d e v p q = cc

-- where a hold is dropped it is the record, and where none is the decision stands as it is
pub dropped_is : (m : Fields) (o : Option Lease) (d : Decided) → dropped_first (dropped_of m o) d ≡ pick (drops_hold m o) (changed (dropping_first (unwrap_or o zero_lease) d.edit) d.verdict) d
unfolding dropped_first dropped_of drops_hold is_held pick
dropped_is m None d = go (eqb m.kind 3)
  where
    go : (b : Bool) → dropped_first (pick (b && false) None None) d ≡ pick (b && false) (changed (dropping_first zero_lease d.edit) d.verdict) d
    go true = refl
    go false = refl
dropped_is m (Some l) d = go (eqb m.kind 3 && is_hold l)
  where
    go : (b : Bool) → dropped_first (pick b (Some l) None) d ≡ pick b (changed (dropping_first l d.edit) d.verdict) d
    go true = refl
    go false = refl

pub leased_is : (s : State) (m : Fields) (o l l' : Lease) (r : Decided) → l ≡ l' → r ≡ leased_of s m o l → r ≡ leased_of s m o l'
leased_is s m o l l' r e p = p ∙ ap (leased_of s m o) e

-- what is asked for, on the records that the message brings to the grant rule
pub lease_is : (s : State) (own rest : List Lease) (held : HeldTable) (h : ℕ) (m : Fields) (o : Option Lease) (l : Lease) (dropped : Option Lease) (p : Proposal) (d r : Decided)
    → l ≡ unwrap_or o zero_lease → rest ≡ brought_in own m o → p ≡ proposal_in s rest held h m l → d ≡ settled_of s m l p → dropped ≡ dropped_of m o → r ≡ dropped_first dropped d
    → r ≡ dropped_first (dropped_of m o) (settled_of s m (unwrap_or o zero_lease) (proposal_in s (brought_in own m o) held h m (unwrap_or o zero_lease)))
lease_is s own rest held h m o l dropped p d r k a b c e f =
    f ∙ ap₂ dropped_first e (c ∙ ap (settled_of s m l) (b ∙ ap (λ (x : List Lease). proposal_in s x held h m l) a))
    ∙ ap (λ (x : Lease). dropped_first (dropped_of m o) (settled_of s m x (proposal_in s (brought_in own m o) held h m x))) k

-- ---- what the tests say when they pass
pub no : {A : Type 0} → true ≡ false → A
no e = let z : ◌≡◌ {A = ℕ} 0 1 = cc in absurd (omega arith)

pub or_none : (a b : Bool) → (a || b) ≡ false → (a ≡ false) × (b ≡ false)
or_none true b e = no e
or_none false b e = (refl, e)
