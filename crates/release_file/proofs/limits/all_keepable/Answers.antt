-- `all_keepable` meets its contract: its loop keeps `TestInv`; by `entry_tests`.
use Rattle.format.specs.laws.Entries.{entry_tests}
use borrow.Author.Rules.{rules}
use Rattle.release_file.proofs.limits.all_keepable.Goals as goal

pub loop-init : goal.loop-init
loop-init c = search (entry_tests, rules)

pub keepable_at-requires : goal.keepable_at-requires
keepable_at-requires c = search (entry_tests, rules)

pub release_next-here-requires : goal.release_next-here-requires
release_next-here-requires c = search (entry_tests, rules)

pub loop-preserved : goal.loop-preserved
loop-preserved c = search (entry_tests, rules)

pub returns-then-not-keepable_at : goal.returns-then-not-keepable_at
returns-then-not-keepable_at c = search (entry_tests, rules)

pub returns : goal.returns
returns c = search (entry_tests, rules)
