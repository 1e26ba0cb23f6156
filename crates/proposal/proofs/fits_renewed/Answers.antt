-- `fits_renewed` meets its contract: the value as it stands.
use Rattle.proposal.specs.Proposals.{fits_renewed}
use borrow.Author.Rules.{rules}
use Rattle.proposal.proofs.fits_renewed.Goals as goal

pub returns : goal.returns
unfolding fits_renewed
returns c = search rules
