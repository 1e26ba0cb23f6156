-- `tail` meets its contract: its test.
use Rattle.lease_file.specs.Place.{tail_of}
use Rattle.lists.specs.Pick.{pick}
use Rattle.std.proofs.Common.{rules}
use Rattle.lease_file.proofs.form.tail.Goals as goal

pub returns-then-holds : goal.returns-then-holds
unfolding tail_of pick
returns-then-holds c = search rules

pub returns-else-holds : goal.returns-else-holds
unfolding tail_of pick
returns-else-holds c = search rules
