-- `for_server` meets its contract: by test 7.
use Rattle.server.proofs.Steps.{for_any, for_others, for_ours, judges_untouched}
use Rattle.server.proofs.for_server.Goals as goal

pub returns-then-m : goal.returns-then-m
returns-then-m c t k names v f = for_ours _ _ _ c.if-m-eq-REQUEST.true c.if-m.true (c.decided.ensures t k names v f)

pub returns-then-m-eq-REQUEST : goal.returns-then-m-eq-REQUEST
returns-then-m-eq-REQUEST c t k names v f = for_others _ _ _ c.if-m-eq-REQUEST.true c.if-m.false (judges_untouched _ _ _ _ _ c.untouched.ensures)

pub returns : goal.returns
returns c t k names v f = for_any _ _ _ c.if-m-eq-REQUEST.false (c.decided-2.ensures t k names v f)
