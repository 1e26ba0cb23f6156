-- `set_at` meets its contract: high before low.
use Rattle.verdict_octets.specs.laws.Octets.{set_is}
use borrow.Author.Rules.{rules}
use Rattle.verdict_octets.proofs.set_at.Goals as goal

pub returns : goal.returns
returns c = search (set_is, rules)
