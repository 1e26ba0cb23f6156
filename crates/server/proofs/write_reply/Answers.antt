-- `write_reply` meets its contract: by the kind of reply.
use Rattle.decision.specs.declared.Reply.TheVariants.{LeaseAck, Nak, Offer, ReleaseAck}
use Rattle.server.proofs.Steps.{reply_as, reply_info, reply_none}
use Rattle.std.specs.Prelude.{refl}
use Rattle.server.proofs.write_reply.Goals as goal

pub returns-in-Nothing : goal.returns-in-Nothing
returns-in-Nothing c = reply_none _ _ _ _ c.in-Nothing.is c.told.ensures

pub returns-in-Offer : goal.returns-in-Offer
returns-in-Offer c = reply_as _ _ _ Offer c.in-Offer.is refl (rw (c.head_of-head.ensures, c.terms_of.ensures) at c.write_offer.ensures) c.told-in-Offer.ensures

pub returns-in-LeaseAck : goal.returns-in-LeaseAck
returns-in-LeaseAck c = reply_as _ _ _ LeaseAck c.in-LeaseAck.is refl (rw (c.head_of-head.ensures, c.terms_of-in-LeaseAck.ensures) at c.write_lease_ack.ensures) c.told-in-LeaseAck.ensures

pub returns-in-ReleaseAck : goal.returns-in-ReleaseAck
returns-in-ReleaseAck c = reply_as _ _ _ ReleaseAck c.in-ReleaseAck.is refl (rw c.head_of-head.ensures at c.write_release_ack.ensures) c.told-in-ReleaseAck.ensures

pub returns-in-InfoAck : goal.returns-in-InfoAck
returns-in-InfoAck c = reply_info _ _ _ c.in-InfoAck.is c.write_info.ensures

pub returns-in-Nak : goal.returns-in-Nak
returns-in-Nak c = reply_as _ _ _ Nak c.in-Nak.is refl (rw (c.head_of-head.ensures, c.from.ensures) at c.write_nak.ensures) c.told-in-Nak.ensures
