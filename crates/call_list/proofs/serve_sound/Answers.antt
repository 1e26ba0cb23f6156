-- `serve_sound` meets its contract: the clock and what is remembered that came back are the ledger.
use Rattle.call_list.proofs.Sound.{owned_served}
use borrow.Author.Rules.{rules}
use Rattle.call_list.proofs.serve_sound.Goals as goal

pub returns : goal.returns
returns c = search (owned_served, rules)
