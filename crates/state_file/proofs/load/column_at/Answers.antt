-- `load::column_at` meets its contract: its loop keeps `PadInv`; by `pads`.
use borrow.Author.Rules.{rules}
use Rattle.state_file.proofs.Pad.{pads}
use Rattle.state_file.proofs.load.column_at.Goals as goal

pub loop-i-init : goal.loop-i-init
loop-i-init c = search (pads, rules)

pub loop-i-preserved : goal.loop-i-preserved
loop-i-preserved c = search (pads, rules)

pub returns : goal.returns
returns c = search (pads, rules)
