-- Definitions: the verdicts, by what they say.
use Rattle.std.specs.Prelude.{ℕ, eqb}
use Rattle.lists.specs.Pick.{pick}
use Rattle.message.specs.declared.Fields.{Fields}
use Rattle.state.specs.declared.Lease.{Lease}
use Rattle.decision.specs.declared.Verdict.{Verdict}
use Rattle.decision.specs.declared.Reply.{Reply}
use Rattle.decision.specs.declared.Reply.TheVariants.{Nothing, Nak}

-- a reply with a lease: OFFER, or ACK to REQUEST and RENEW
unfoldable pub with_lease : Reply → Lease → Verdict
with_lease r l = record { outcome = 0; reply = r; error = 0; scope = l.scope; start = l.start; end = l.end; addresses = l.addresses }

-- a reply without one: ACK to RELEASE and GETINFO
unfoldable pub plain_reply : Reply → Verdict
plain_reply r = record { outcome = 0; reply = r; error = 0; scope = 0; start = 0; end = 0; addresses = 0 }

unfoldable pub nak_with : ℕ → Verdict
nak_with e = record { outcome = 0; reply = Nak; error = e; scope = 0; start = 0; end = 0; addresses = 0 }

unfoldable pub discard_with : ℕ → Verdict
discard_with n = record { outcome = n; reply = Nothing; error = 0; scope = 0; start = 0; end = 0; addresses = 0 }

-- an error is a "NAK for types 3, 4, 7"; discard 8 is "DISCOVER or GETINFO that draws an error"
unfoldable pub refusal_of : Fields → ℕ → Verdict
refusal_of m e = pick (eqb m.kind 1) (discard_with 8) (pick (eqb m.kind 8) (discard_with 8) (nak_with e))
