-- `answer` meets its contract: what the call told fits the line, and is written to it. The search does not come to these laws by itself: what was read and called is named here.
use Rattle.van_server.proofs.Answered.{answers, fits_line, fits_room}
use borrow.Author.Rules.{rules}
use Rattle.van_server.proofs.answer.Goals as goal

pub write_outcome_line-length-requires : goal.write_outcome_line-length-requires
write_outcome_line-length-requires c = let a = c.args in
    let time = c.read_u32-time.ensures in
    let client = c.read_u32-client.ensures in (
      fits_line a.o.ledger a.o.records.leases a.input.now a.n time client c.serve-r.ensures (search rules),
      fits_room a.o.ledger a.o.records.leases a.input.now a.n time client c.serve-r.ensures (search rules),
    )

pub returns : goal.returns
returns c = let a = c.args in
    answers a.o.ledger a.o.records.leases a.input.now a.n c.read_u32-time.ensures c.read_u32-client.ensures (search rules) c.serve-r.ensures
    c.write_outcome_line-length.ensures
