-- `reader::none_required` meets its contract: by the definition, case by case.
use Rattle.lists.specs.laws.Pick.{picks}
use Rattle.message.proofs.Steps.{features_filled, features_fit}
use Rattle.message.specs.Read.{none_required}
use borrow.Author.Rules.{rules}
use Rattle.message.proofs.reader.none_required.Goals as goal

pub returns-then-at-eq0 : goal.returns-then-at-eq0
unfolding none_required
returns-then-at-eq0 c = search (picks, rules)

pub required_empty-requires : goal.required_empty-requires
unfolding none_required
required_empty-requires c = search (picks, features_fit, features_filled, rules)

pub returns-else-at-eq0 : goal.returns-else-at-eq0
unfolding none_required
returns-else-at-eq0 c = search (picks, rules)
