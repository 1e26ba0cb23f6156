-- `octets_of` meets its contract: the bound of a product.
use Rattle.state_file.proofs.WholeForm.{octets_bound}
use borrow.Author.Rules.{rules}
use Rattle.state_file.proofs.form.octets_of.Goals as goal

pub overflow_mul-result : goal.overflow_mul-result
overflow_mul-result c = let b = octets_bound c.args.n c.args.z (search rules) (search rules) in search rules

pub returns : goal.returns
returns c = let b = octets_bound c.args.n c.args.z (search rules) (search rules) in search rules
