-- `settings_sound` meets its contract: by `settings_many`, `settings_judged`.
use Rattle.salvage_walk.specs.laws.File.{settings_here, settings_judged, settings_many}
use borrow.Author.Rules.{rules}
use Rattle.salvage_walk.proofs.settings_sound.Goals as goal

pub state_at-requires : goal.state_at-requires
state_at-requires c = search (settings_here, rules)

pub returns-then-counts_fit : goal.returns-then-counts_fit
returns-then-counts_fit c = search (settings_judged, rules)

pub returns-else-counts_fit : goal.returns-else-counts_fit
returns-else-counts_fit c = search (settings_many, settings_judged, rules)
