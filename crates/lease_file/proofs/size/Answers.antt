-- `size` meets its contract: by `section_size`.
use Rattle.lease_file.specs.laws.Rows.{section_size}
use Rattle.lists.specs.laws.Part.{unmapped}
use Rattle.std.proofs.Common.{rules}
use Rattle.lease_file.proofs.size.Goals as goal

pub returns : goal.returns
returns c = section_size c.args.holds c.args.table (search (unmapped, rules)) _ c.rows_size.ensures
