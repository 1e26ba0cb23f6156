-- `put_ranges` meets its contract: code and length, and then the value (`option_put`).
use Rattle.address_set.proofs.Ranges.{ranges_few}
use Rattle.reply.proofs.Writes.{ranges_put}
use borrow.Author.Rules.{rules}
use native.Mathlib.Omega.{arith}
use Rattle.reply.proofs.put_ranges.Goals as goal

pub overflow_mul-n : goal.overflow_mul-n
overflow_mul-n c = omega (arith, ranges_few c.args.terms.addresses)

pub returns : goal.returns
returns c = ranges_put _ _ _ c.range_count-n.ensures (search rules) c.put_code-a.ensures c.put_range_list.ensures
