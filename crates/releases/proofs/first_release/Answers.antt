-- `first_release` meets its contract: by tests.
use Rattle.lists.specs.laws.Pick.{tests}
use Rattle.releases.specs.Rules.{first_release}
use borrow.Author.Rules.{rules}
use borrow.Author.Tests.{not-false, not-true}
use Rattle.releases.proofs.first_release.Goals as goal

pub returns-then-not-r : goal.returns-then-not-r
unfolding first_release
returns-then-not-r c = search (tests, not-true, not-false, rules) depth 24

pub returns-then-not-r-2 : goal.returns-then-not-r-2
unfolding first_release
returns-then-not-r-2 c = search (tests, not-true, not-false, rules) depth 24

pub returns-then-not-r-3 : goal.returns-then-not-r-3
unfolding first_release
returns-then-not-r-3 c = search (tests, not-true, not-false, rules) depth 24

pub returns-then-not-r-4 : goal.returns-then-not-r-4
unfolding first_release
returns-then-not-r-4 c = search (tests, not-true, not-false, rules) depth 24

pub returns-then-not-r-5 : goal.returns-then-not-r-5
unfolding first_release
returns-then-not-r-5 c = search (tests, not-true, not-false, rules) depth 24

pub returns : goal.returns
unfolding first_release
returns c = search (tests, not-true, not-false, rules) depth 24
