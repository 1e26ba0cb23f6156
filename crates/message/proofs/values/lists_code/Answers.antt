-- `values::lists_code` meets its contract: the chain looks at one code after the other (`lists_is`).
use Rattle.message.proofs.Steps.{lists_is}
use Rattle.octets.specs.Octets.{at16}
use Rattle.std.specs.Prelude.{◌+◌, ◌*◌, eqb, refl}
use Rattle.std.proofs.Common.{arith, rules, tests}
use Rattle.std.proofs.lemmas.Iterator.{YieldsList-from_range}
use Rattle.std.proofs.lemmas.Iterator.Search.{any_from_yields_List}
use Rattle.message.proofs.values.lists_code.Goals as goal

pub returns : goal.returns
returns c =
    lists_is c.args.s.now c.args.code c.args.at c.from-k.result (search rules)
    (any_from_yields_List (λ i. eqb (at16 c.args.s.now (c.args.at + 4 + 2 * i)) c.args.code) _ _ c.any.result c.any.ensures.ran (YieldsList-from_range 0 _ _ refl (omega arith)) (λ x b q k. search (rules, tests)))
