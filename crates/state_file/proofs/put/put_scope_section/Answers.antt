-- `put::put_scope_section` meets its contract: by `count_is`, `section_wrote`, `unmapped`.
use lib.ListN.{length}
use borrow.Author.Rules.{rules}
use Rattle.lists.specs.laws.Part.{unmapped}
use Rattle.state.specs.Book.{scopes_of}
use Rattle.format.specs.laws.Rows.{count_is, section_wrote}
use Rattle.state_file.proofs.put.put_scope_section.Goals as goal

pub returns : goal.returns
returns c = section_wrote (length (scopes_of c.args.state)) (search rules) (count_is 4 c.args.state.scope_count _ c.args.state.scopes (search (unmapped, rules)) c.min.ensures) c.put_u8-a.ensures c.put_scopes.ensures
