-- `put::put_server` meets its contract: by `server`, `server_wrote`.
use Rattle.state_file.proofs.Writes.{server_wrote}
use Rattle.state_file.proofs.put.put_server.Goals as goal

pub returns : goal.returns
returns c = server_wrote c.args.state.server c.args.state.clock c.put_u8-a.ensures c.put_number-b.ensures c.put_number.ensures
