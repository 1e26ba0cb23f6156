-- `state_at` meets its contract: by `settings`.
use Rattle.std.proofs.Common.{rules}
use Rattle.state_file.proofs.Loads.{settings}
use Rattle.state_file.proofs.load.state_at.Goals as goal

pub bounds-s-9 : goal.bounds-s-9
bounds-s-9 c = search (settings, rules)

pub bounds-s-at : goal.bounds-s-at
bounds-s-at c = search (settings, rules)

pub ranges_at-requires : goal.ranges_at-requires
ranges_at-requires c = search (settings, rules)

pub scopes_at-requires : goal.scopes_at-requires
scopes_at-requires c = search (settings, rules)

pub read_u32-requires : goal.read_u32-requires
read_u32-requires c = search (settings, rules)

pub read_u32-requires-2 : goal.read_u32-requires-2
read_u32-requires-2 c = search (settings, rules)

pub returns : goal.returns
returns c = search (settings, rules)
