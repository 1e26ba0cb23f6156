-- `judge_sound` meets its contract: what the tenants hold is gathered, and the clock and what is remembered that came back are the ledger.
use Rattle.call_list.proofs.Sound.{owned_judged}
use Rattle.record_verdict.specs.laws.Verdict.{sound_gathered}
use Rattle.call_list.proofs.judge_sound.Goals as goal

pub judge_sound-j-requires : goal.judge_sound-j-requires
judge_sound-j-requires c = sound_gathered c.args.o.ledger _ _ c.requires c.holdings-held.ensures

pub returns : goal.returns
returns c = let a = c.args in
    owned_judged a.o.ledger a.o.records.leases a.names.now a.client a.time a.datagram.now (c.judge_sound-j.ensures a.names.now c.requires) c.raise-s.ensures
