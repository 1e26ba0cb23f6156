-- `write_report` meets its contract: one test.
use Rattle.usage.specs.laws.Text.{room_short, room_wrote}
use borrow.Author.Rules.{rules}
use Rattle.usage.specs.Report.{total_in}
use Rattle.usage.specs.Usage.{report_text}
use Rattle.usage.proofs.write_report.Goals as goal

pub returns-then-room-lt-TEXT_LIMIT : goal.returns-then-room-lt-TEXT_LIMIT
returns-then-room-lt-TEXT_LIMIT c =
    let w = room_short (report_text c.args.report.first (total_in c.args.report.totals)) c.args.room.now (search rules) in record { length = w.0; octets = w.1 }

pub returns : goal.returns
returns c = let w = room_wrote (report_text c.args.report.first (total_in c.args.report.totals)) c.args.room.now _ _ (search rules) c.put_report.ensures in record { length = w.0; octets = w.1 }
