-- `put_octet` meets its contract: an octet has three digits at the most.
use Rattle.std.proofs.Common.{arith, rules}
use Rattle.number_text.specs.laws.Text.{line_of, numeral_octet}
use Rattle.number_text.proofs.put_octet.Goals as goal

pub put_digits-requires : goal.put_digits-requires
put_digits-requires c = let s = numeral_octet c.from.result (search rules) in omega (arith, s)

pub returns : goal.returns
returns c = line_of (numeral_octet c.args.n (search rules)) (rw c.from.ensures at c.put_digits.ensures)
