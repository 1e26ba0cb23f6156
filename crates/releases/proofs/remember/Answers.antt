-- `remember` meets its contract: with room, or without.
use Rattle.lists.specs.laws.Part.{unmapped}
use Rattle.releases.specs.laws.Code.{remember_full, remember_room}
use borrow.Author.Rules.{rules}
use Rattle.releases.proofs.remember.Goals as goal

pub returns-then-q-lt4 : goal.returns-then-q-lt4
returns-then-q-lt4 c = search (remember_room, remember_full, unmapped, rules)

pub returns : goal.returns
returns c = search (remember_room, remember_full, unmapped, rules)
