-- `chosen` meets its contract: the first that there is (`or_shown`).
use Rattle.std.proofs.Common.{ap, refl, rules, ◌∙◌, List, ℕ, Bor}
use Rattle.names.specs.Names.{names_in, shown_if}
use Rattle.names.proofs.First.{all_shown, chosen_shown, or_shown}
use Rattle.names.proofs.chosen.Goals as goal

pub returns : goal.returns
returns c =
    let w = or_shown _ _ _ _ c.first_match.ensures c.or_else.ensures (λ p. search rules) in
    let v = or_shown _ _ _ _ w c.or_else-2.ensures (λ p. search rules) in
    ap (λ (r : Bor (List ℕ)). r.now) c.unwrap_or.ensures ∙ all_shown _ _ _ refl (v ∙ ap shown_if (chosen_shown c.args.language (names_in c.args.own.now) (names_in c.args.campus.now)))
