-- `load::range_at` meets its contract: by `pads`.
use borrow.Author.Rules.{rules}
use Rattle.state_file.proofs.Pad.{pads}
use Rattle.state_file.proofs.load.range_at.Goals as goal

pub read_u32-requires : goal.read_u32-requires
read_u32-requires c = search (pads, rules)

pub read_u32-requires-2 : goal.read_u32-requires-2
read_u32-requires-2 c = search (pads, rules)

pub returns : goal.returns
returns c = search (pads, rules)
