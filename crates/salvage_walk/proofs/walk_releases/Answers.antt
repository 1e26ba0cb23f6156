-- `walk_releases` meets its contract: its loop keeps `ReleasesInv`; by `release_walk`.
use Rattle.salvage_walk.proofs.Steps.{release_walk}
use borrow.Author.Rules.{rules}
use Rattle.salvage_walk.proofs.walk_releases.Goals as goal

pub loop-i-init : goal.loop-i-init
loop-i-init c = search (release_walk, rules)

pub release_rule-r-requires : goal.release_rule-r-requires
release_rule-r-requires c = search (release_walk, rules)

pub keep_release-memory-requires : goal.keep_release-memory-requires
keep_release-memory-requires c = search (release_walk, rules)

pub release_next-here-requires : goal.release_next-here-requires
release_next-here-requires c = search (release_walk, rules)

pub loop-i-preserved : goal.loop-i-preserved
loop-i-preserved c = search (release_walk, rules)

pub returns : goal.returns
returns c = search (release_walk, rules)
