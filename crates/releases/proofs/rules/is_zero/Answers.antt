-- `is_zero` meets its contract: eight octets at a time.
use Rattle.std.proofs.Common.{rules}
use Rattle.releases.specs.laws.Code.{zeros_are}
use Rattle.releases.proofs.rules.is_zero.Goals as goal

pub returns : goal.returns
returns c = zeros_are c.args.id (search rules) c.word.ensures.0 c.word-2.ensures.0 c.word-3.ensures.0 c.word-4.ensures.0
