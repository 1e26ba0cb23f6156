-- `tenant_of` meets its contract: the place of the first range in use that has the client, or else their number (`place_or_all`).
use Rattle.lists.specs.Place.{place_by}
use Rattle.lists.specs.laws.Part.{cut_take, unmapped}
use Rattle.server.specs.Serve.{has_client, tenant_of}
use Rattle.state.specs.laws.Lookup.{place_or_all}
use Rattle.std.specs.Prelude.{◌≡◌, ℕ, length, min, take}
use Rattle.std.specs.Option.{unwrap_or}
use Rattle.std.proofs.Common.{ap, ap₂, ◌∙◌, arith, length-take, rules, tests}
use Rattle.std.proofs.lemmas.Iterator.{YieldsList-from_slice}
use Rattle.std.proofs.lemmas.Iterator.Search.{position_from_yields_List}
use Rattle.server.proofs.tenant_of.Goals as goal

pub returns : goal.returns
unfolding tenant_of
returns c =
    let eight : length c.args.s.tenants ≡ 8 = search (unmapped, rules) in
    let cut : c.min-n.result ≡ min c.args.s.tenant_count 8 = search rules in
    let long : c.min-n.result ≡ length (take c.min-n.result c.args.s.tenants) = (let e = length-take c.min-n.result c.args.s.tenants in omega arith) in
    let found = position_from_yields_List (has_client c.args.client) _ _ c.position.result c.position.ensures.ran (YieldsList-from_slice _ c.iter.ensures.rest) (λ x b q k. search (rules, tests)) in
    c.unwrap_or.ensures ∙ ap₂ unwrap_or found long ∙ place_or_all (has_client c.args.client) (take c.min-n.result c.args.s.tenants)
    ∙ ap (place_by (has_client c.args.client)) (ap (λ (k : ℕ). take k c.args.s.tenants) cut ∙ cut_take 8 c.args.s.tenant_count c.args.s.tenants eight)
