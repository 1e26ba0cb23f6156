-- `rest_unused` meets its contract: a test of every entry past the last.
use Rattle.std.proofs.Common.{ap, ◌∙◌, rules}
use Rattle.lists.specs.All.{all_by}
use Rattle.lists.specs.laws.Part.{unmapped}
use Rattle.lists.specs.laws.Rest.{all_behind}
use Rattle.releases.specs.laws.Code.{part_behind}
use Rattle.releases.specs.Rules.{unused_r}
use Rattle.releases.proofs.rules.rest_unused.Goals as goal

pub returns : goal.returns
returns c =
    all_behind unused_r c.args.q.releases c.args.q.count 4 c.min-n.result (c.every.ensures unused_r (λ x r h. search rules) ∙ ap (all_by unused_r) (part_behind c.args.q.releases c.min-n.result)) (search rules)
    (search (unmapped, rules))
