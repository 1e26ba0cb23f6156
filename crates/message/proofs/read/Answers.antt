-- `read` meets its contract: by the definition, case by case.
use Rattle.lists.specs.laws.Pick.{calls}
use Rattle.message.proofs.Steps.{eight_header, long_header, short_header, walked_of}
use Rattle.message.specs.Read.{read_of}
use borrow.Author.Rules.{rules}
use Rattle.message.proofs.read.Goals as goal

pub header_ok-requires : goal.header_ok-requires
unfolding read_of
header_ok-requires c = search (calls, rules)

pub walk_options-requires : goal.walk_options-requires
unfolding read_of
walk_options-requires c = search (calls, eight_header, short_header, rules)

pub walked-requires : goal.walked-requires
unfolding read_of
walked-requires c = search (calls, long_header, short_header, rules)

pub returns-then-header_ok : goal.returns-then-header_ok
unfolding read_of
returns-then-header_ok c = search (calls, walked_of, rules)

pub discarded-requires : goal.discarded-requires
unfolding read_of
discarded-requires c = search (calls, rules)

pub returns : goal.returns
unfolding read_of
returns c = search (calls, rules)
