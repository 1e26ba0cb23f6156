-- `Message::identifier` meets its contract: by what the lookup found; what was found lies within the datagram.
use Rattle.message.proofs.Steps.{found_fits, id_short}
use borrow.Author.Rules.{rules}
use Rattle.message.proofs.Message.identifier.Goals as goal

pub identifier_at-requires : goal.identifier_at-requires
identifier_at-requires c = search (found_fits, id_short, rules)
