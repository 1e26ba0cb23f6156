-- `codes::MessageType::is_client` meets its contract: what `contains` says of the list.
use Rattle.message.proofs.Steps.{is_listed}
use Rattle.std.proofs.Common.{rules}
use Rattle.message.proofs.codes.MessageType.is_client.Goals as goal

pub returns : goal.returns
returns c = search (is_listed, rules)
