-- `ids_differ` meets its contract: by words-differ.
use Rattle.std.proofs.Common.{rules}
use Rattle.soundness.specs.laws.Code.{words_differ}
use Rattle.soundness.proofs.tenants.ids_differ.Goals as goal

pub returns-then-words_differ : goal.returns-then-words_differ
returns-then-words_differ c = search (words_differ, rules)
