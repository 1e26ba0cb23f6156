-- `is_sound` meets its contract: a call without room tells it.
use Rattle.van_server.proofs.Opened.{says_sound}
use borrow.Author.Rules.{rules}
use Rattle.van_server.proofs.is_sound.Goals as goal

pub returns : goal.returns
returns c = search (says_sound, rules)
