-- `size` meets its contract: by `section_size`.
use Rattle.lists.specs.laws.Part.{unmapped}
use Rattle.release_file.specs.laws.Rows.{section_size}
use borrow.Author.Rules.{rules}
use Rattle.release_file.proofs.size.Goals as goal

pub returns : goal.returns
returns c = section_size c.args.m (search (unmapped, rules)) _ c.releases_size.ensures
