-- `Message::asks_for` meets its contract: by what the lookup found; what was found lies within the datagram.
use Rattle.message.proofs.Steps.{found_fits}
use borrow.Author.Rules.{rules}
use Rattle.message.proofs.Message.asks_for.Goals as goal

pub lists_code-requires : goal.lists_code-requires
lists_code-requires c = search (found_fits, rules)
