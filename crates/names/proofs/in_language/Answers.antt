-- `in_language` meets its contract: lengths first, and then the octets.
use Rattle.names.proofs.Ends.{languages}
use Rattle.std.proofs.Common.{rules}
use Rattle.names.proofs.in_language.Goals as goal

pub returns-then-n-language : goal.returns-then-n-language
returns-then-n-language c = search (languages, rules)

pub returns-else-n-language : goal.returns-else-n-language
returns-else-n-language c = search (languages, rules)
