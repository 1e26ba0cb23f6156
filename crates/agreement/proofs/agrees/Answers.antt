-- `agrees` meets its contract: a comparison with the board that is built.
use Rattle.agreement.specs.laws.Code.{same_as}
use borrow.Author.Rules.{rules}
use Rattle.agreement.proofs.agrees.Goals as goal

pub returns : goal.returns
returns c = search (same_as, rules)
