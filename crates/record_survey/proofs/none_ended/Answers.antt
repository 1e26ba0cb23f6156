-- `none_ended` meets its contract: each tenant's first end.
use Rattle.std.proofs.Common.{rules, ◌∙◌}
use Rattle.std.proofs.lemmas.Iterator.{YieldsList-from_slice}
use Rattle.std.proofs.lemmas.Iterator.Search.{all_from_yields_List}
use borrow.Author.Tests.{tests}
use Rattle.record_survey.specs.Survey.{ends_after}
use Rattle.record_survey.specs.laws.Rows.{every_is}
use Rattle.record_survey.proofs.none_ended.Goals as goal

pub returns : goal.returns
returns c =
    all_from_yields_List (ends_after c.args.clock) _ _ c.all.result c.all.ensures.ran (YieldsList-from_slice c.args.held.tenants cc) (λ x b q k. search (rules, tests))
    ∙ every_is (ends_after c.args.clock) c.args.held.tenants
