-- `write_info` meets its contract: the ACK where the names can be shown.
use Rattle.server.proofs.Steps.{can_show, info_kept, info_sent}
use Rattle.std.proofs.Common.{rules}
use Rattle.server.proofs.write_info.Goals as goal

pub write_info_ack-n-requires : goal.write_info_ack-n-requires
write_info_ack-n-requires c = (search rules, can_show c.args.r c.args.s _ c.info_of.ensures c.can_send.ensures c.if-can_send.true)

pub returns-then-can_send : goal.returns-then-can_send
returns-then-can_send c = info_sent _ _ _ c.can_send.ensures c.if-can_send.true (rw (c.head_of.ensures, c.info_of.ensures) at c.write_info_ack-n.ensures) c.told.ensures

pub returns : goal.returns
returns c = info_kept _ _ _ _ c.can_send.ensures c.if-can_send.false c.told-2.ensures
