-- `load` meets its contract: by `releases_held`, `memory_is`.
use Rattle.release_file.specs.laws.Load.{memory_is, releases_held}
use borrow.Author.Rules.{rules}
use Rattle.release_file.proofs.load.Goals as goal

pub all_releases-releases-requires : goal.all_releases-releases-requires
all_releases-releases-requires c = search (releases_held, rules)

pub returns : goal.returns
returns c = search (memory_is, rules)
