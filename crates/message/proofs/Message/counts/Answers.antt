-- `Message::counts` meets its contract: by what the lookup found; what was found lies within the datagram.
use Rattle.message.proofs.Steps.{counts_fit_law}
use borrow.Author.Rules.{rules}
use Rattle.message.proofs.Message.counts.Goals as goal

pub counts_at-requires : goal.counts_at-requires
counts_at-requires c = search (counts_fit_law, rules)
