-- `put_report` meets its contract: by `report_wrote`.
use Rattle.usage.specs.laws.Text.{report_wrote}
use Rattle.std.proofs.Common.{rules}
use Rattle.usage.proofs.text.put_report.Goals as goal

pub put_run-a-requires : goal.put_run-a-requires
put_run-a-requires c = search (report_wrote, rules)

pub put_scopes-requires : goal.put_scopes-requires
put_scopes-requires c = search (report_wrote, rules)

pub returns : goal.returns
returns c = search (report_wrote, rules)
