-- `entry_size` meets its contract: by `entry_size`, `no_size`.
use Rattle.lease_file.specs.laws.Rows.{entry_size, no_size}
use Rattle.std.proofs.Common.{◌∙◌, ℕ, min, ap, rules}
use Rattle.lease_file.proofs.sizes.entry_size.Goals as goal

pub returns-then-of_kind : goal.returns-then-of_kind
returns-then-of_kind c = entry_size c.args.holds 0 0 c.args.l c.of_kind.ensures _ _ _ c.if-of_kind.true (search rules) (c.min.ensures ∙ ap (λ (k : ℕ). min k 32) c.from.ensures) c.count.ensures c.tail.ensures

pub returns : goal.returns
returns c = no_size c.args.holds 0 0 c.args.l c.of_kind.ensures c.if-of_kind.false
