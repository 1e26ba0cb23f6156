-- `turn_of` meets its contract: the end, a record that is cut off, or its call.
use Rattle.van_server.proofs.Answered.{head_in, turns_cut, turns_end, turns_whole}
use borrow.Author.Rules.{rules}
use Rattle.van_server.proofs.turn_of.Goals as goal

pub returns-then-input-eq0 : goal.returns-then-input-eq0
returns-then-input-eq0 c = search (turns_end, rules)

pub returns-then-input-n : goal.returns-then-input-n
returns-then-input-n c = search (turns_cut, rules)

pub answer-requires : goal.answer-requires
answer-requires c = search (head_in, rules)

pub returns : goal.returns
returns c = search (turns_whole, rules)
