-- `put_rule` meets its contract: part by part.
use Rattle.octets.specs.laws.Octets.{wrote_joined}
use Rattle.replay_text.specs.Replay.{rule_text}
use borrow.Author.Rules.{rules}
use Rattle.replay_text.proofs.put_rule.Goals as goal

pub returns : goal.returns
unfolding rule_text
returns c = wrote_joined (search rules) (wrote_joined (search rules) c.put-a.ensures c.put_octet-b.ensures.wrote) c.put_u8.ensures
