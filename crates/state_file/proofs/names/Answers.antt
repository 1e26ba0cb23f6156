-- `names` meets its contract: by `names_from`, `names_within`, `names_yes`, `names_not`.
use Rattle.state_file.proofs.Loads.{names_from, names_within, names_not, names_yes}
use borrow.Author.Rules.{rules}
use Rattle.state_file.proofs.names.Goals as goal

pub returns-in_default : goal.returns-in_default
returns-in_default c = search (names_yes, names_not, rules)

pub slice_bounds-result-count-2 : goal.slice_bounds-result-count-2
slice_bounds-result-count-2 c = search (names_from, rules)

pub slice_bounds-result-start-2 : goal.slice_bounds-result-start-2
slice_bounds-result-start-2 c = search (names_from, rules)

pub slice_bounds-result-end-2 : goal.slice_bounds-result-end-2
slice_bounds-result-end-2 c = search (names_within, rules)

pub returns : goal.returns
returns c = search (names_yes, names_not, rules)
