-- `answer_record` meets its contract: the numbers read and the part lent are the record's call.
use Rattle.call_list.proofs.Answered.{answered_record, datagram_in}
use borrow.Author.Rules.{rules}
use Rattle.call_list.proofs.answer_record.Goals as goal

pub slice_bounds-answer_call-end : goal.slice_bounds-answer_call-end
slice_bounds-answer_call-end c = search (datagram_in, rules)

pub returns : goal.returns
returns c = search (answered_record, rules)
