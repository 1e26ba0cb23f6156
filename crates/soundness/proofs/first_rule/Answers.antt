-- `first_rule` meets its contract: by tests, not-true, not-false.
use Rattle.lists.specs.laws.Pick.{tests}
use Rattle.soundness.specs.Sound.{first_rule}
use borrow.Author.Rules.{rules}
use borrow.Author.Tests.{not-false, not-true}
use Rattle.soundness.proofs.first_rule.Goals as goal

pub returns-then-not-r : goal.returns-then-not-r
unfolding first_rule
returns-then-not-r c = search (tests, not-true, not-false, rules) depth 24

pub returns-then-not-r-2 : goal.returns-then-not-r-2
unfolding first_rule
returns-then-not-r-2 c = search (tests, not-true, not-false, rules) depth 24

pub returns-then-not-r-3 : goal.returns-then-not-r-3
unfolding first_rule
returns-then-not-r-3 c = search (tests, not-true, not-false, rules) depth 24

pub returns-then-not-r-4 : goal.returns-then-not-r-4
unfolding first_rule
returns-then-not-r-4 c = search (tests, not-true, not-false, rules) depth 24

pub returns-then-not-r-5 : goal.returns-then-not-r-5
unfolding first_rule
returns-then-not-r-5 c = search (tests, not-true, not-false, rules) depth 24

pub returns-then-not-r-6 : goal.returns-then-not-r-6
unfolding first_rule
returns-then-not-r-6 c = search (tests, not-true, not-false, rules) depth 24

pub first_late-requires : goal.first_late-requires
unfolding first_rule
first_late-requires c = search (tests, rules) depth 24

pub returns : goal.returns
unfolding first_rule
returns c = search (tests, not-true, not-false, rules) depth 24
