-- `discard` meets its contract: the value as it stands.
use Rattle.decision.specs.Verdicts.{discard_with}
use borrow.Author.Rules.{rules}
use Rattle.decision.proofs.discard.Goals as goal

pub returns : goal.returns
unfolding discard_with
returns c = search rules
