-- `put_dotted` meets its contract: by `dotted_wrote`.
use Rattle.number_text.specs.laws.Text.{dotted_wrote}
use borrow.Author.Rules.{rules}
use native.Mathlib.Omega.{arith}
use Rattle.number_text.proofs.put_dotted.Goals as goal

pub put_part-x-requires : goal.put_part-x-requires
put_part-x-requires c = omega (arith, c.put_part-w.ensures.small)

pub put_part-y-requires : goal.put_part-y-requires
put_part-y-requires c = omega (arith, c.put_part-w.ensures.small, c.put_part-x.ensures.small)

pub put_octet-requires : goal.put_octet-requires
put_octet-requires c = omega (arith, c.put_part-w.ensures.small, c.put_part-x.ensures.small, c.put_part-y.ensures.small)

pub returns : goal.returns
returns c =
    dotted_wrote c.args.a (search rules) (rw c.to_be_bytes.ensures at c.put_part-w.ensures) (rw c.to_be_bytes.ensures at c.put_part-x.ensures)
    (rw c.to_be_bytes.ensures at c.put_part-y.ensures) (rw c.to_be_bytes.ensures at c.put_octet.ensures)
