-- `release_size` meets its contract: by `release_length`.
use Rattle.release_file.specs.laws.Rows.{release_length}
use Rattle.std.proofs.Common.{ap, min, rules, ℕ, ◌∙◌}
use Rattle.release_file.proofs.sizes.release_size.Goals as goal

pub returns : goal.returns
returns c = release_length c.args.e _ (search rules) (c.min.ensures ∙ ap (λ (k : ℕ). min k 32) c.from.ensures)
