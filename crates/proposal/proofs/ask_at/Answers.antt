-- `ask_at` meets its contract: by ask-is.
use Rattle.proposal.specs.laws.Code.{ask_is}
use borrow.Author.Rules.{rules}
use Rattle.proposal.proofs.ask_at.Goals as goal

pub returns : goal.returns
returns c = search (ask_is, rules)
