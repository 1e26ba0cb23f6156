-- `sections_size` meets its contract: by `size_is`.
use Rattle.lists.specs.laws.Part.{unmapped}
use Rattle.state_file.proofs.RowLaws.{wide_cut}
use Rattle.state_file.proofs.Writes.{size_is}
use borrow.Author.Rules.{rules}
use mathlib.Core.Path.{refl}
use Rattle.state_file.proofs.size.sections_size.Goals as goal

pub returns : goal.returns
returns c = size_is c.args.state c.args.table _ _ _ _ (search (unmapped, rules)) (wide_cut 8 c.from.ensures c.min.ensures) c.scopes_length.ensures c.size.ensures refl
