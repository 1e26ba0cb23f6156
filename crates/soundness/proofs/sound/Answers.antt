-- `sound` meets its contract: by sound-is.
use Rattle.soundness.specs.laws.Code.{sound_is}
use borrow.Author.Rules.{rules}
use Rattle.soundness.proofs.sound.Goals as goal

pub returns : goal.returns
returns c = search (sound_is, rules)
