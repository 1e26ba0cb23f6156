-- `keepable_at` meets its contract: by `picks`.
use Rattle.lists.specs.laws.Pick.{picks}
use Rattle.release_file.specs.Place.{file_release_at}
use Rattle.release_file.specs.Section.{keepable_b}
use Rattle.release_file.specs.laws.Limits.{id_few, id_many}
use Rattle.std.proofs.Common.{rules}
use Rattle.release_file.proofs.limits.keepable_at.Goals as goal

pub returns-in-1-to-8-0-to-32 : goal.returns-in-1-to-8-0-to-32
unfolding keepable_b file_release_at
returns-in-1-to-8-0-to-32 c = search (picks, id_few, id_many, rules)

pub returns-in_default : goal.returns-in_default
unfolding keepable_b file_release_at
returns-in_default c = search (picks, id_few, id_many, rules)

pub returns-in_default-2 : goal.returns-in_default-2
unfolding keepable_b file_release_at
returns-in_default-2 c = search (picks, id_few, id_many, rules)

pub returns-in_default-3 : goal.returns-in_default-3
unfolding keepable_b file_release_at
returns-in_default-3 c = search (picks, id_few, id_many, rules)
