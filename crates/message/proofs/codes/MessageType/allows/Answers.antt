-- `codes::MessageType::allows` meets its contract: by the definition, case by case.
use Rattle.message.proofs.Steps.{allows_above, allows_always, allows_besides, is_listed}
use Rattle.std.proofs.Common.{rules}
use Rattle.message.proofs.codes.MessageType.allows.Goals as goal

pub returns-then-contains : goal.returns-then-contains
returns-then-contains c = search (is_listed, allows_above, allows_always, allows_besides, rules)

pub returns-else-contains : goal.returns-else-contains
returns-else-contains c = search (is_listed, allows_besides, rules)
