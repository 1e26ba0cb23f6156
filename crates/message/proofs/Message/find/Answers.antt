-- `Message::find` meets its contract: what the array has at the code, and past the array no option (`find_past`).
use Rattle.message.proofs.Steps.{find_past, find_there}
use Rattle.std.proofs.Common.{rules}
use Rattle.message.proofs.Message.find.Goals as goal

pub returns-in_err-at : goal.returns-in_err-at
returns-in_err-at c = search (find_past, rules)

pub returns : goal.returns
returns c = search (find_there, rules)
