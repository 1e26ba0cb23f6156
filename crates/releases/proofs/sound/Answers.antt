-- `sound` meets its contract: by `memory_sound`.
use Rattle.releases.specs.laws.Tenants.{memory_sound}
use borrow.Author.Rules.{rules}
use Rattle.releases.proofs.sound.Goals as goal

pub returns : goal.returns
returns c = search (memory_sound, rules)
