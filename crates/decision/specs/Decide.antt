-- Definitions: document 01's decision "after test 7, in the order written, within an error too", for a book whose clock is raised and whose ended
-- leases and lapsed holds are dropped: s is its state, b its records, q the releases that are remembered of the client's tenant h (document 02, W-202), m what the message
-- says. It answers a verdict and an edit of what the tenant has; the book afterwards is `edited_book` of it.
use Rattle.std.specs.Prelude.{ℕ, Option, Some, None, unwrap_or, List, eqb}
use Rattle.lists.specs.Pick.{pick}
use Rattle.message.specs.declared.Fields.{Fields}
use Rattle.state.specs.declared.Edit.{Edit}
use Rattle.state.specs.declared.Lease.{Lease}
use Rattle.state.specs.declared.LeaseTable.{LeaseTable}
use Rattle.state.specs.declared.Release.{Release}
use Rattle.state.specs.declared.State.{State}
use Rattle.state.specs.Book.{zero_lease}
use Rattle.state.specs.Edit.{no_edit, entering, leaving, dropping_first, giving_way}
use Rattle.proposal.specs.declared.Proposal.{Proposal}
use Rattle.decision.specs.declared.Verdict.{Verdict}
use Rattle.decision.specs.declared.Decided.{Decided}
use Rattle.decision.specs.declared.Reply.TheVariants.{Offer, LeaseAck, ReleaseAck, InfoAck}
use Rattle.admission.specs.Tests.{has_period, own_of, found_of, resends, released_again, error1_of, error2_of, error3_of, is_for_hold, dropped_of}
use Rattle.proposal.specs.Proposals.{hold_meets, turned, brought_by, held_from, proposal_of, error0_of, lease_from}
use Rattle.decision.specs.Verdicts.{with_lease, plain_reply, refusal_of}

-- a verdict with an edit, and one that leaves leases and releases as they are
abbrev pub changed : Edit → Verdict → Decided
changed e v = record { verdict = v; edit = e }

abbrev pub unchanged : Verdict → Decided
unchanged v = changed no_edit v

-- "No error is given otherwise": l is offered and held, recorded, or takes the place of o, which the tenant holds under the message's identifier
unfoldable pub leased_of : State → Fields → Lease → Lease → Decided
leased_of s m o l =
    -- "An OFFER now leaves a hold", which "forgets its identifier's release" (W-205)
    pick (eqb m.kind 1) (changed (entering (held_from s.clock l)) (with_lease Offer l))
    -- "REQUEST records the lease with its type and transaction id"; "A new lease on the identifier forgets it" (W-202)
    (pick (eqb m.kind 3) (changed (entering l) (with_lease LeaseAck l))
    -- "RENEW keeps the addresses and sets period, type and id"
    (changed (giving_way o l) (with_lease LeaseAck l)))

-- "RELEASE removes the lease", and is remembered "with transaction id and the clock at release" (W-202); GETINFO changes nothing
unfoldable pub plain_of : State → Fields → Lease → Decided
plain_of s m o = pick (eqb m.kind 7) (changed (leaving o m.xid s.clock) (plain_reply ReleaseAck)) (unchanged (plain_reply InfoAck))

-- "Error 0", for the types that have a period
unfoldable pub settled_of : State → Fields → Lease → Proposal → Decided
settled_of s m o p = pick (error0_of s m p) (unchanged (refusal_of m 0)) (leased_of s m o (lease_from m p))

-- document 02, W-205, for a hold o in the same scope: "a DISCOVER .. repeats the held offer and leaves the hold unchanged, and a REQUEST turns the hold into the
-- lease with its period and addresses; either is error 0, the hold kept, if .."
unfoldable pub repeated_of : Fields → Lease → Decided
repeated_of m o =
    pick (hold_meets m o)
    (pick (eqb m.kind 1) (unchanged (with_lease Offer o)) (changed (giving_way o (turned m o)) (with_lease LeaseAck (turned m o))))
    (unchanged (refusal_of m 0))

-- "first drops the hold and is judged as new; the drop stands if it is refused": o is the hold that is dropped, where one is
unfoldable pub dropped_first : Option Lease → Decided → Decided
dropped_first None d = d
dropped_first (Some o) d = changed (dropping_first o d.edit) d.verdict

-- o is the record that the tenant has of the message's identifier, if it has one, l the record (an unused one where it has none); p what the lease would be that
-- the message asks for
unfoldable pub judged_of : State → Proposal → List Release → Fields → Option Lease → Decided
judged_of s p q m o =
    let l : Lease = unwrap_or o zero_lease in
    -- "Resend: a REQUEST or RENEW whose house, identifier, type and transaction id are those recorded in a lease: ACK with that lease, unchanged"
    pick (resends m l) (unchanged (with_lease LeaseAck l))
    -- W-202: a RELEASE sent again "draws the ACK in the place of the resend test"
    (pick (released_again s q m) (unchanged (plain_reply ReleaseAck))
    -- "Error 1"
    (pick (error1_of s m o) (unchanged (refusal_of m 1))
    -- "Error 2"
    (pick (error2_of s m) (unchanged (refusal_of m 2))
    -- "Error 3"
    (pick (error3_of m o) (unchanged (refusal_of m 3))
    -- W-205: "Once past errors 1 and 2, a DISCOVER for a hold in the same scope .., and a REQUEST"
    (pick (is_for_hold s m o) (repeated_of m l)
    -- "Error 0", or what the message asks for; W-205: "Past those errors too, a REQUEST for another scope first drops the hold and is judged as new"
    (pick (has_period m) (dropped_first (dropped_of m o) (settled_of s m l p)) (plain_of s m l)))))))

unfoldable pub decide_of : State → LeaseTable → List Release → ℕ → Fields → Decided
decide_of s b q h m =
    let o : Option Lease = found_of (own_of b h) m in
    judged_of s (proposal_of s (brought_by b h m o) h m (unwrap_or o zero_lease)) q m o
