-- `for_scope` meets its contract: the one list and the other, and the name chosen of them (`sent_is`).
use Rattle.names.proofs.Lists.{names_are, sent_is}
use Rattle.names.proofs.for_scope.Goals as goal

pub chosen-requires : goal.chosen-requires
chosen-requires c = (names_are c.list_part-own.ensures, names_are c.list_part-campus.ensures)

pub returns : goal.returns
returns c = sent_is _ _ _ _ _ c.list_part-own.ensures c.list_part-campus.ensures c.chosen.ensures
