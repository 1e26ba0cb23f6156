-- `reader::required_empty` meets its contract: the three lists stand within the value (`third_inside`).
use Rattle.message.proofs.Steps.{begins_inside, required_is, second_inside, third_inside}
use Rattle.std.proofs.Common.{◌∙◌, rules}
use Rattle.message.proofs.reader.required_empty.Goals as goal

pub read_u16-requires : goal.read_u16-requires
read_u16-requires c = search (begins_inside, rules)

pub read_u16-requires-2 : goal.read_u16-requires-2
read_u16-requires-2 c = second_inside _ _ _ _ _ c.requires.0 c.requires.1.0 (c.from.ensures ∙ c.read_u16.ensures)

pub read_u16-requires-3 : goal.read_u16-requires-3
read_u16-requires-3 c = third_inside _ _ _ _ _ c.requires.0 c.requires.1.0 (c.from.ensures ∙ c.read_u16.ensures) _ (c.from-2.ensures ∙ c.read_u16-2.ensures)

pub returns : goal.returns
returns c = required_is _ _ _ _ _ c.requires.0 c.requires.1.0 (c.from.ensures ∙ c.read_u16.ensures) _ _ (c.from-2.ensures ∙ c.read_u16-2.ensures) c.read_u16-3.ensures
