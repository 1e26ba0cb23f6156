-- `Message::all_allowed` meets its contract: the chain tests one code after the other (`all_to_is`).
use Rattle.message.proofs.Steps.{all_to_is}
use Rattle.message.specs.Values.{allowed_at}
use Rattle.std.specs.Prelude.{refl}
use Rattle.std.proofs.Common.{◌∙◌, rules, tests}
use Rattle.std.proofs.lemmas.Iterator.{YieldsList-from_range}
use Rattle.std.proofs.lemmas.Iterator.Search.{all_from_yields_List}
use Rattle.message.proofs.Message.all_allowed.Goals as goal

pub returns : goal.returns
returns c =
    all_from_yields_List (allowed_at c.args.self.kind.number c.args.self.places) _ _ c.all.result c.all.ensures.ran (YieldsList-from_range 0 17 17 refl refl) (λ x b q k. search (rules, tests))
    ∙ all_to_is (allowed_at c.args.self.kind.number c.args.self.places) 17
