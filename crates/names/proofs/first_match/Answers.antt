-- `first_match` meets its contract: none where no language is asked for, and else the first in it.
use Rattle.std.proofs.Common.{rules}
use Rattle.names.specs.Names.{in_language}
use Rattle.names.proofs.First.{asked_none, asked_some}
use Rattle.names.proofs.first_match.Goals as goal

pub returns-then-not-language : goal.returns-then-not-language
returns-then-not-language c = asked_none _ (search rules)

pub returns : goal.returns
returns c = asked_some _ c.if-not-language.false (c.first_name.ensures (in_language c.args.language) (λ at b p. search rules))
