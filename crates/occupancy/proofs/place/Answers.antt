-- `place` meets its contract: by its tests.
use Rattle.std.proofs.Common.{◌∙◌, rules}
use Rattle.occupancy.specs.laws.Loop.{place_none, place_no_scope, place_scope}
use Rattle.occupancy.proofs.place.Goals as goal
use Rattle.occupancy.proofs.place.Goals.{else-g-lt8-via-then-g-lt8+else-scope-gt0, else-g-lt8-via-else-g-lt8}

pub returns-then-scope-gt0 : goal.returns-then-scope-gt0
returns-then-scope-gt0 c = c.from.ensures ∙ place_scope c.args.g c.args.scope (search rules) (search rules)

pub returns : goal.returns
returns c =
    elim c.else-g-lt8.branch [
      | else-g-lt8-via-then-g-lt8+else-scope-gt0 w ↦ search (place_no_scope, rules)
      | else-g-lt8-via-else-g-lt8 w ↦ search (place_none, rules)
    ]
