-- `no_report` meets its contract: by `no_report_is`.
use Rattle.usage.specs.laws.Steps.{no_report_is}
use Rattle.usage.proofs.no_report.Goals as goal

pub returns : goal.returns
returns c = no_report_is c.no_state.ensures c.no_leases.ensures c.no_totals.ensures
