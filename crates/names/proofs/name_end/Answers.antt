-- `name_end` meets its contract: by where a name's parts stand.
use Rattle.names.proofs.Ends.{names}
use Rattle.std.proofs.Common.{rules}
use Rattle.names.proofs.name_end.Goals as goal

pub returns-then-left-lt2 : goal.returns-then-left-lt2
returns-then-left-lt2 c = search (names, rules)

pub returns-then-left-n : goal.returns-then-left-n
returns-then-left-n c = search (names, rules)

pub returns-then-left-n-2 : goal.returns-then-left-n-2
returns-then-left-n-2 c = search (names, rules)

pub returns-then-sizes_ok : goal.returns-then-sizes_ok
returns-then-sizes_ok c = search (names, rules)

pub returns : goal.returns
returns c = search (names, rules)
