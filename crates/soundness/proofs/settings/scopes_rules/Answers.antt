-- `settings::scopes_rules` meets its contract: the rules of each scope, gathered.
use Rattle.std.proofs.Common.{rules}
use Rattle.lists.specs.laws.Part.{unmapped}
use Rattle.lists.specs.laws.Rest.{rest_start}
use Rattle.soundness.specs.Parts.{and_scopes}
use Rattle.soundness.specs.laws.Code.{scopes_are}
use Rattle.soundness.proofs.settings.scopes_rules.Goals as goal

pub loop-c-init : goal.loop-c-init
loop-c-init c = rest_start (and_scopes c.args.n) c.args.s.scopes _ c.args.s.scope_count 4 (search rules) (search (unmapped, rules)) (scopes_are _ _)
