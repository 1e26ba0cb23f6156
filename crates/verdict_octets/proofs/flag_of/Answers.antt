-- `flag_of` meets its contract: the number of a Boolean.
use Rattle.std.proofs.Common.{◌∙◌}
use Rattle.verdict_octets.specs.laws.Octets.{flag_is}
use Rattle.verdict_octets.proofs.flag_of.Goals as goal

pub returns : goal.returns
returns c = c.from.ensures ∙ flag_is c.args.b
