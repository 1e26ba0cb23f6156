-- `Message::language` meets its contract: by what the lookup found; what was found lies within the datagram.
use Rattle.message.proofs.Steps.{found_fits}
use borrow.Author.Rules.{rules}
use Rattle.message.proofs.Message.language.Goals as goal

pub language_at-requires : goal.language_at-requires
language_at-requires c = search (found_fits, rules)
