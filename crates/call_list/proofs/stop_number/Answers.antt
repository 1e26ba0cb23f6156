-- `stop_number` meets its contract: a law for each of its four answers.
use Rattle.call_list.proofs.Answered.{stop_cut, stop_none, stop_room, stop_short}
use borrow.Author.Rules.{rules}
use Rattle.call_list.proofs.stop_number.Goals as goal

pub returns-then-left-lt12 : goal.returns-then-left-lt12
returns-then-left-lt12 c = search (stop_short, rules)

pub returns-then-left-n : goal.returns-then-left-n
returns-then-left-n c = search (stop_cut, rules)

pub returns-then-room-lt-ANSWER_ROOM : goal.returns-then-room-lt-ANSWER_ROOM
returns-then-room-lt-ANSWER_ROOM c = search (stop_room, rules)

pub returns : goal.returns
returns c = search (stop_none, rules)
