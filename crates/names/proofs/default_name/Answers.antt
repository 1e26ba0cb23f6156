-- `default_name` meets its contract: the first that there is (`or_shown`).
use Rattle.std.proofs.Common.{ap, rules, ◌∙◌}
use Rattle.names.specs.Names.{is_flagged, names_in, shown_if}
use Rattle.names.proofs.First.{default_shown, or_shown}
use Rattle.names.proofs.default_name.Goals as goal

pub returns : goal.returns
returns c = or_shown _ _ _ _ (c.first_name.ensures is_flagged (λ at b p. search rules)) c.or_else.ensures (λ p. search rules) ∙ ap shown_if (default_shown (names_in c.args.campus.now))
