-- `note` meets its contract: what is remembered, or what is forgotten.
use Rattle.std.proofs.Common.{rules}
use Rattle.state.specs.Edit.{noted_in}
use Rattle.releases.proofs.note.Goals as goal

pub returns-in-Some : goal.returns-in-Some
unfolding noted_in
returns-in-Some c = rw c.in-Some.is (search rules)

pub returns-in-None : goal.returns-in-None
unfolding noted_in
returns-in-None c = rw c.in-None.is c.forget_named.ensures
