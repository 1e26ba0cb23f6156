-- `check_at` meets its contract: by `loaded_judged`, `loaded_one`, `file_parts`, and the refusal of what is judged.
use Rattle.std.proofs.Common.{rules}
use Rattle.state_file.proofs.Loads.{file_parts, judged_none, judged_one, loaded_judged, loaded_one}
use Rattle.state_file.specs.StateFile.{code_of, refusal_number}
use Rattle.state_file.proofs.load.check_at.Goals as goal

pub returns-then-not-fits : goal.returns-then-not-fits
unfolding refusal_number code_of
returns-then-not-fits c = search (loaded_one, rules)

pub state_at-state-requires : goal.state_at-state-requires
state_at-state-requires c = search (file_parts, rules)

pub load-table-requires : goal.load-table-requires
load-table-requires c = search (file_parts, rules)

pub load-memory-requires : goal.load-memory-requires
load-memory-requires c = search (file_parts, rules)

pub returns-then-not-rules_hold : goal.returns-then-not-rules_hold
unfolding refusal_number code_of
returns-then-not-rules_hold c = search (loaded_judged, judged_one, rules)

pub returns : goal.returns
unfolding refusal_number
returns c = search (loaded_judged, judged_none, rules)
