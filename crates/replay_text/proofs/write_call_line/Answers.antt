-- `write_call_line` meets its contract: the outcome, and the count.
use Rattle.octets.specs.laws.Octets.{wrote_joined}
use borrow.Author.Rules.{rules}
use Rattle.replay_text.proofs.write_call_line.Goals as goal

pub returns : goal.returns
returns c = wrote_joined (search rules) c.put_outcome-a.ensures.0 c.put_count.ensures
