-- `nak` meets its contract: the value as it stands.
use Rattle.decision.specs.Verdicts.{nak_with}
use borrow.Author.Rules.{rules}
use Rattle.decision.proofs.nak.Goals as goal

pub returns : goal.returns
unfolding nak_with
returns c = search rules
