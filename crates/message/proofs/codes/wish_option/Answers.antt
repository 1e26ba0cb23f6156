-- `codes::wish_option` meets its contract: what `contains` says of the list.
use Rattle.message.proofs.Steps.{is_listed}
use Rattle.std.proofs.Common.{rules}
use Rattle.message.proofs.codes.wish_option.Goals as goal

pub returns : goal.returns
returns c = search (is_listed, rules)
