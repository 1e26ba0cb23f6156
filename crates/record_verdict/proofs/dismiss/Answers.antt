-- `dismiss` meets its contract: a discard's verdict.
use Rattle.record_verdict.specs.laws.Verdict.{dismiss_is}
use Rattle.record_verdict.proofs.dismiss.Goals as goal

pub returns : goal.returns
returns c = dismiss_is _ _ _ c.discard.ensures
