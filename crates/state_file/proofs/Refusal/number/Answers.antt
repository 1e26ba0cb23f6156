-- `number` meets its contract: a refusal's number, by cases.
use Rattle.std.specs.Prelude.{◌≡◌, refl, ◌+◌}
use denote.Enum.Declared.{tag_of}
use Rattle.state_file.specs.contracts.Refusal.{the_type}
use Rattle.state_file.specs.StateFile.{code_of}
use Rattle.state_file.specs.declared.Refusal.{Refusal}
use Rattle.state_file.specs.declared.Refusal.TheVariants.{WrongForm, UnsoundFile, UnsoundBook, ShortRoom}
use Rattle.state_file.proofs.Refusal.number.Goals as goal

numbered : (e : Refusal) → tag_of the_type e + 20 ≡ code_of e
unfolding code_of
numbered WrongForm = refl
numbered UnsoundFile = refl
numbered UnsoundBook = refl
numbered ShortRoom = refl

pub returns : goal.returns
returns c = numbered c.args.self
