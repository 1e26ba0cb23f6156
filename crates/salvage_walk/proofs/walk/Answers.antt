-- `walk` meets its contract: by `walked_file`.
use Rattle.salvage_walk.specs.laws.File.{settings_known, state_as}
use Rattle.salvage_walk.proofs.Steps.{walked_file}
use Rattle.salvage_walk.proofs.walk.Goals as goal

pub state_at-state-requires : goal.state_at-state-requires
state_at-state-requires c = settings_known c.requires.0 c.requires.1

pub returns : goal.returns
returns c = walked_file c.requires.0 _ (state_as c.requires.0 c.state_at-state.ensures) _ c.no_table.ensures _ c.walk_records-a.ensures _ c.walk_records-b.ensures _ c.no_memory.ensures _ c.walk_releases-c.ensures
