-- `write_dropped_line` meets its contract: the kind, the place, and the rule.
use Rattle.octets.specs.laws.Octets.{wrote_joined}
use borrow.Author.Rules.{rules}
use Rattle.replay_text.proofs.write_dropped_line.Goals as goal

pub returns : goal.returns
returns c = wrote_joined (search rules) (wrote_joined (search rules) c.put_kind-a.ensures.0 c.put_octet-b.ensures.wrote) c.put_rule.ensures
