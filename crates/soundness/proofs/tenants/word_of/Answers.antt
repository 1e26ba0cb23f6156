-- `word_of` meets its contract: by word-long, word-short.
use Rattle.std.proofs.Common.{rules}
use Rattle.soundness.specs.laws.Code.{word_long, word_short}
use Rattle.soundness.proofs.tenants.word_of.Goals as goal

pub returns-then-l-lt8 : goal.returns-then-l-lt8
returns-then-l-lt8 c = search (word_short, rules)

pub returns-else-l-lt8 : goal.returns-else-l-lt8
returns-else-l-lt8 c = search (word_long, rules)
