-- `put_tenant` meets its contract: by `tenant_wrote`.
use Rattle.board_text.proofs.Lines.{tenant_wrote}
use Rattle.board_text.proofs.put_tenant.Goals as goal

pub returns : goal.returns
returns c = let x = c.args in tenant_wrote x.state x.board x.k x.g _ _ c.scope_at-c.ensures c.held-n.ensures c.put_line.ensures
