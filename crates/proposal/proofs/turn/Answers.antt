-- `turn` meets its contract: the value as it stands.
use Rattle.proposal.specs.Proposals.{turned}
use borrow.Author.Rules.{rules}
use Rattle.proposal.proofs.turn.Goals as goal

pub returns : goal.returns
unfolding turned
returns c = search rules
