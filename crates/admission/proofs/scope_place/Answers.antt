-- `scope_place` meets its contract: the first place at which the test passes, or else the length (`place_got`).
use Rattle.admission.specs.Tests.{lowest_is, scope_place}
use Rattle.admission.specs.laws.Code.{place_got}
use Rattle.lists.specs.Place.{place_by}
use Rattle.lists.specs.laws.Part.{cut_take, unmapped}
use Rattle.std.specs.Prelude.{◌≡◌, ℕ, length, min, take}
use Rattle.std.proofs.Common.{ap, ◌∙◌, arith, length-take, rules, tests}
use Rattle.std.proofs.lemmas.Iterator.{YieldsList-from_slice}
use Rattle.std.proofs.lemmas.Iterator.Search.{position_from_yields_List}
use Rattle.admission.proofs.scope_place.Goals as goal

pub returns : goal.returns
unfolding scope_place
returns c =
    let four : length c.args.s.scopes ≡ 4 = search (unmapped, rules) in
    let cut : c.min-n.result ≡ min c.args.s.scope_count 4 = search rules in
    let long : c.min-n.result ≡ length (take c.min-n.result c.args.s.scopes) = (let e = length-take c.min-n.result c.args.s.scopes in omega arith) in
    place_got (lowest_is c.args.lowest) (take c.min-n.result c.args.s.scopes) c.min-n.result c.unwrap_or.result c.position.result long
    (position_from_yields_List (lowest_is c.args.lowest) _ _ c.position.result c.position.ensures.ran (YieldsList-from_slice _ c.iter.ensures.rest) (λ x b q k. search (rules, tests))) c.unwrap_or.ensures
    ∙ ap (place_by (lowest_is c.args.lowest)) (ap (λ (k : ℕ). take k c.args.s.scopes) cut ∙ cut_take 4 c.args.s.scope_count c.args.s.scopes four)
