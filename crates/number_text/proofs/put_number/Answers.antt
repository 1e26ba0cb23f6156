-- `put_number` meets its contract: twenty digits are the most.
use Rattle.number_text.specs.laws.Text.{line_of, numeral_most}
use borrow.Author.Rules.{rules}
use native.Mathlib.Omega.{arith}
use Rattle.number_text.proofs.put_number.Goals as goal

pub put_digits-requires : goal.put_digits-requires
put_digits-requires c = let s = numeral_most c.args.n in omega (arith, s)

pub returns : goal.returns
returns c = search (line_of, numeral_most, rules)
