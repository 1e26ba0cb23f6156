-- `decided` meets its contract: the decision, which is that of every book that has these arguments.
use Rattle.server.proofs.Steps.{judges_decided}
use Rattle.server.proofs.decided.Goals as goal

pub returns : goal.returns
returns c t k names v f = judges_decided _ _ _ _ _ _ _ _ v c.decide-c.ensures f c.rule.ensures
