-- `put_entry` meets its contract: by `entry_wrote`.
use Rattle.occupancy_octets.specs.laws.Octets.{entry_wrote}
use borrow.Author.Rules.{rules}
use Rattle.occupancy_octets.proofs.put_entry.Goals as goal

pub returns : goal.returns
returns c = entry_wrote c.args.e (search rules) c.put_u8-a.ensures c.put_u8.ensures
