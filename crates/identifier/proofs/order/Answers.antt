-- `order` meets its contract: by the first eight octets where both have them and these differ, else by std's order of the octets.
use Rattle.std.proofs.Common.{arith, rules}
use Rattle.identifier.specs.laws.Order.{order_cut}
use Rattle.identifier.specs.laws.Word.{word_order}
use Rattle.identifier.proofs.order.Goals as goal

pub returns-then-x-y : goal.returns-then-x-y
returns-then-x-y c =
    rw c.cmp.ensures
    (word_order c.args.a c.args.b c.args.a_len c.args.b_len (omega arith) (omega arith) (search rules) (search rules) c.word-x.ensures.0 c.word-y.ensures.0 c.word-x.ensures.1 c.word-y.ensures.1 (search rules))

pub returns : goal.returns
returns c = rw c.cmp-2.ensures (order_cut c.args.a c.args.b 32 c.args.a_len c.args.b_len (search rules) (search rules) (omega arith) (omega arith))
