-- `cover` meets its contract: by `cover_is`.
use Rattle.usage.specs.laws.Sums.{cover_is}
use Rattle.std.proofs.Common.{ℕ, ◌*◌, ap₂}
use Rattle.usage.proofs.sums.cover.Goals as goal

pub returns : goal.returns
returns c = cover_is _ _ _ _ _ _ _ _ c.count-n.ensures c.min.ensures c.max.ensures c.saturating_sub-seconds.ensures (ap₂ (λ (x y : ℕ). x * y) c.from.ensures c.from-2.ensures)
