-- `write_outcome_line` meets its contract: the number, and the end of the line.
use Rattle.octets.specs.laws.Octets.{wrote_joined}
use borrow.Author.Rules.{rules}
use Rattle.replay_text.proofs.write_outcome_line.Goals as goal

pub returns : goal.returns
returns c = wrote_joined (search rules) c.put_outcome_number-a.ensures.0 c.put_u8.ensures
