-- `section_end` meets its contract: the count, and then the scopes.
use Rattle.names.proofs.Ends.{sectioned}
use Rattle.std.proofs.Common.{rules}
use Rattle.names.proofs.section_end.Goals as goal
use Rattle.names.proofs.section_end.Goals.{then-s-at-via-then-s-at, then-s-at-via-else-s-at+then-s-at-2}

pub returns-then-s-at : goal.returns-then-s-at
returns-then-s-at c =
    elim c.then-s-at.branch [ then-s-at-via-then-s-at w ↦ search (sectioned, rules) | then-s-at-via-else-s-at+then-s-at-2 w ↦ search (sectioned, rules) ]

pub returns : goal.returns
returns c = search (sectioned, rules)
