-- `Message::is_for` meets its contract: by what the lookup found; what was found lies within the datagram.
use Rattle.message.proofs.Steps.{found_fits}
use borrow.Author.Rules.{rules}
use Rattle.message.proofs.Message.is_for.Goals as goal

pub names_server-requires : goal.names_server-requires
names_server-requires c = search (found_fits, rules)
