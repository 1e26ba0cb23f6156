-- `put_digits`, which calls itself, meets its contract: the number falls, and the last digit is written after those above it.
use Rattle.std.proofs.Common.{rules, arith}
use Rattle.number_text.specs.laws.Text.{digits_more, digits_one, numeral_length, numeral_some}
use Rattle.number_text.proofs.+put_digits.Goals as goal

pub put_u8-requires : goal.put_u8-requires
put_u8-requires t c = let s = numeral_some c.args.n in omega (arith, s)

pub returns-then-n-lt10 : goal.returns-then-n-lt10
returns-then-n-lt10 t c = search (digits_one, rules)

pub put_digits-a-requires : goal.put_digits-a-requires
put_digits-a-requires t c = let s = numeral_length c.args.n (search rules) (search rules) in (omega (arith, s), omega (arith, s))

pub put_u8-requires-2 : goal.put_u8-requires-2
put_u8-requires-2 t c = let s = numeral_length c.args.n (search rules) (search rules) in omega (arith, s, c.put_digits-a.ensures.next)

pub returns : goal.returns
returns t c = digits_more c.args.n (search rules) (search rules) (search rules) c.put_digits-a.ensures c.put_u8-2.ensures
