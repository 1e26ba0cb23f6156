-- `Message::allowed_at` meets its contract: by the definition, case by case.
use Rattle.lists.specs.laws.Pick.{calls}
use Rattle.message.proofs.Steps.{allows_got}
use Rattle.message.specs.Values.{allowed_at}
use Rattle.std.proofs.Common.{rules}
use Rattle.message.proofs.Message.allowed_at.Goals as goal

pub returns-else-not-has : goal.returns-else-not-has
unfolding allowed_at
returns-else-not-has c = search (calls, allows_got, rules)

pub returns-then-not-has : goal.returns-then-not-has
unfolding allowed_at
returns-then-not-has c = search (calls, rules)
