-- Definitions: for the code, which has no table: the decision by one tenant's leases `own` and what all tenants hold, and what its loops gather. It answers
-- every input, one that no sound book has too; in a sound book it is document 01's decision, `decide_of` of Decide.antt (`decide_in_law` in decision_laws).
use Rattle.std.specs.Prelude.{ℕ, Bool, Option, None, unwrap_or, List}
use Rattle.lists.specs.Pick.{pick}
use Rattle.message.specs.declared.Fields.{Fields}
use Rattle.state.specs.declared.Lease.{Lease}
use Rattle.state.specs.declared.Release.{Release}
use Rattle.state.specs.declared.State.{State}
use Rattle.state.specs.Book.{compared_of, zero_lease}
use Rattle.soundness.specs.declared.HeldTable.{HeldTable}
use Rattle.proposal.specs.declared.Proposal.{Proposal}
use Rattle.decision.specs.declared.Recorded.{Recorded}
use Rattle.decision.specs.declared.Decided.{Decided}
use Rattle.admission.specs.Tests.{has_period, lease_id_in, found_in, found_of, held_already, error2_of, error3_of, is_for_hold, dropped_of}
use Rattle.decision.specs.Verdicts.{refusal_of}
use Rattle.decision.specs.Decide.{unchanged, plain_of, settled_of, repeated_of, dropped_first, judged_of}
use Rattle.proposal.specs.Gather.{proposal_in, brought_in}

-- the record of the identifier i, where there is one, and how many were compared (document 02, W-210)
unfoldable pub recorded_in : List ℕ → List Lease → Recorded
recorded_in i own = record { lease = found_in i own; compared = compared_of i own }

-- no lookup is made
abbrev pub not_asked : Recorded
not_asked = record { lease = None; compared = 0 }

-- the lookup of the message's identifier, where it is made. A test that does not ask for it goes by `not_asked` as it goes by the record
unfoldable pub looked_up : Bool → List Lease → Fields → Recorded
looked_up made own m = pick made (recorded_in (lease_id_in m) own) not_asked

-- ---- the decision: document 01's judgement of what a lease would be
-- the last three branches of `judged_of`, those past errors 1 to 3
unfoldable pub past_errors : State → Proposal → Fields → Option Lease → Decided
past_errors s p m o =
    let l : Lease = unwrap_or o zero_lease in
    pick (is_for_hold s m o) (repeated_of m l) (pick (has_period m) (dropped_first (dropped_of m o) (settled_of s m l p)) (plain_of s m l))

-- the branches past what of error 1 comes before the identifier
unfoldable pub past_early : State → Proposal → Fields → Option Lease → Decided
past_early s p m o =
    pick (held_already s m o) (unchanged (refusal_of m 1))
    (pick (error2_of s m) (unchanged (refusal_of m 2))
    (pick (error3_of m o) (unchanged (refusal_of m 3)) (past_errors s p m o)))

unfoldable pub decide_in : State → List Lease → List Release → HeldTable → ℕ → Fields → Decided
decide_in s own q held h m =
    let o : Option Lease = found_of own m in
    judged_of s (proposal_in s (brought_in own m o) held h m (unwrap_or o zero_lease)) q m o
