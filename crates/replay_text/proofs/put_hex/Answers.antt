-- `put_hex` meets its contract: the loop writes one octet a turn (`HexInv`).
use Rattle.std.proofs.Common.{arith, rules}
use Rattle.replay_text.proofs.Hex.{hex_end, hex_next, hex_place, hex_start}
use Rattle.replay_text.proofs.put_hex.Goals as goal

pub loop-x-init : goal.loop-x-init
loop-x-init c = hex_start

pub put_hex_octet-to-requires : goal.put_hex_octet-to-requires
put_hex_octet-to-requires c = let l = c.loop-x.invariant in omega (arith, l.place, l.kept)

pub loop-x-preserved : goal.loop-x-preserved
loop-x-preserved c = hex_next c.loop-x.invariant (search rules) (search rules) c.put_hex_octet-to.ensures c.put_hex_octet-to.auto.out

pub shape_of-out : goal.shape_of-out
shape_of-out c = c.loop-x.invariant.kept

pub returns : goal.returns
returns c = (hex_end c.loop-x.invariant (search rules), hex_place c.loop-x.invariant (search rules))
