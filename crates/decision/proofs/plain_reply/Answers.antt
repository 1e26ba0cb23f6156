-- `plain_reply` meets its contract: the value as it stands.
use Rattle.decision.specs.Verdicts.{plain_reply}
use borrow.Author.Rules.{rules}
use Rattle.decision.proofs.plain_reply.Goals as goal

pub returns : goal.returns
unfolding plain_reply
returns c = search rules
