-- `put::put_range_section` meets its contract: by `tenants`, `count_is`, `section_wrote`, `unmapped`.
use lib.ListN.{length}
use borrow.Author.Rules.{rules}
use Rattle.lists.specs.laws.Part.{unmapped}
use Rattle.state.specs.Book.{ranges_of}
use Rattle.format.specs.laws.Rows.{count_is, section_wrote}
use Rattle.state_file.proofs.put.put_range_section.Goals as goal

pub returns : goal.returns
returns c = section_wrote (length (ranges_of c.args.state)) (search rules) (count_is 8 c.args.state.tenant_count _ c.args.state.tenants (search (unmapped, rules)) c.min.ensures) c.put_u8-a.ensures c.put_ranges.ensures
