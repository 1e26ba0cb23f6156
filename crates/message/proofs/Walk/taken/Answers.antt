-- `Walk::taken` meets its contract: by the definition, case by case.
use Rattle.lists.specs.laws.Pick.{picks}
use Rattle.message.specs.Walk.{option_taken}
use borrow.Author.Rules.{rules}
use Rattle.message.proofs.Walk.taken.Goals as goal

pub at_end-requires : goal.at_end-requires
unfolding option_taken
at_end-requires c = search (picks, rules)

pub returns-then-code-eq-END : goal.returns-then-code-eq-END
unfolding option_taken
returns-then-code-eq-END c = search (picks, rules)

pub returns-then-code-gt-ERROR : goal.returns-then-code-gt-ERROR
unfolding option_taken
returns-then-code-gt-ERROR c = search (picks, rules)

pub recorded-requires : goal.recorded-requires
unfolding option_taken
recorded-requires c = search (picks, rules)

pub returns : goal.returns
unfolding option_taken
returns c = search (picks, rules)
