-- `codes::MessageType::allows_besides` meets its contract: one row of the table for each type.
use Rattle.message.proofs.Steps.{allowances, first_of, is_listed, later_of}
use Rattle.std.proofs.Common.{rules}
use Rattle.message.proofs.codes.MessageType.allows_besides.Goals as goal

pub returns-in-8 : goal.returns-in-8
returns-in-8 c = search (is_listed, first_of, later_of, allowances, rules)

pub returns-in-1 : goal.returns-in-1
returns-in-1 c = search (is_listed, first_of, later_of, allowances, rules)

pub returns-then-number-eq-SERVER_IDENTIFIER : goal.returns-then-number-eq-SERVER_IDENTIFIER
returns-then-number-eq-SERVER_IDENTIFIER c = search (is_listed, first_of, later_of, allowances, rules)

pub returns-else-number-eq-SERVER_IDENTIFIER : goal.returns-else-number-eq-SERVER_IDENTIFIER
returns-else-number-eq-SERVER_IDENTIFIER c = search (is_listed, first_of, later_of, allowances, rules)

pub returns-in-4 : goal.returns-in-4
returns-in-4 c = search (is_listed, first_of, later_of, allowances, rules)

pub returns-in_default : goal.returns-in_default
returns-in_default c = search (is_listed, first_of, later_of, allowances, rules)
