-- `open` meets its contract: by its places, where it has a form.
use Rattle.std.proofs.Common.{rules}
use Rattle.state_file.proofs.Loads.{layout_right}
use Rattle.embed.proofs.Files.{open_not}
use Rattle.embed.proofs.open.Goals as goal

pub open_at-requires : goal.open_at-requires
open_at-requires c = search (layout_right, rules)

pub returns-in-None : goal.returns-in-None
returns-in-None c = search (open_not, rules)
