-- `judge_tenant` meets its contract: by tests 4 to 6.
use Rattle.server.proofs.Steps.{judges_untouched, reading_discarded, reading_good, reading_short, reading_taken}
use Rattle.server.proofs.judge_tenant.Goals as goal

pub fields-m-requires : goal.fields-m-requires
fields-m-requires c = (reading_good _ _ c.read-r.ensures, reading_short _ _ c.read-r.ensures c.if-r-eq0.true)

pub returns-then-r-eq0 : goal.returns-then-r-eq0
returns-then-r-eq0 c t k names v f = reading_taken _ _ c.read-r.ensures _ _ _ c.if-r-eq0.true c.fields-m.ensures (c.for_server.ensures t k names v f)

pub returns : goal.returns
returns c t k names v f = reading_discarded _ _ c.read-r.ensures _ _ c.if-r-eq0.false (judges_untouched _ _ _ _ _ c.untouched.ensures)
