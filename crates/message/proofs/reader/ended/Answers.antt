-- `reader::ended` meets its contract: by the definition, case by case.
use Rattle.lists.specs.laws.Pick.{calls, picks}
use Rattle.message.proofs.Steps.{message_is}
use Rattle.message.specs.Read.{ended}
use borrow.Author.Rules.{rules}
use Rattle.message.proofs.reader.ended.Goals as goal

pub discarded-requires : goal.discarded-requires
unfolding ended
discarded-requires c = search (calls, picks, rules)

pub returns-then-places-eq0 : goal.returns-then-places-eq0
unfolding ended
returns-then-places-eq0 c = search (calls, picks, rules)

pub none_required-requires : goal.none_required-requires
unfolding ended
none_required-requires c = search (calls, picks, rules)

pub read_u32-requires : goal.read_u32-requires
unfolding ended
read_u32-requires c = search (calls, picks, message_is, rules)

pub returns-then-none_required : goal.returns-then-none_required
unfolding ended
returns-then-none_required c = search (calls, picks, message_is, rules)

pub discarded-requires-2 : goal.discarded-requires-2
unfolding ended
discarded-requires-2 c = search (calls, picks, rules)

pub returns : goal.returns
unfolding ended
returns c = search (calls, picks, rules)
