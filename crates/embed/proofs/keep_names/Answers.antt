-- `keep_names` meets its contract: the names are put at the front.
use Rattle.embed.proofs.Files.{keeps_front}
use borrow.Author.Rules.{rules}
use Rattle.embed.proofs.keep_names.Goals as goal

pub returns : goal.returns
returns c = search (keeps_front, rules)
