-- `put_refused` meets its contract: by `refused_wrote`.
use Rattle.number_text.specs.Text.{field}
use Rattle.number_text.specs.laws.Text.{line_as}
use Rattle.usage.specs.laws.Text.{refused_wrote}
use Rattle.std.proofs.Common.{ap, arith}
use Rattle.usage.proofs.text.put_refused.Goals as goal

pub returns : goal.returns
returns c = refused_wrote _ _ c.put_run-a.ensures (line_as (ap field c.from.ensures) (omega arith) c.put_field-b.ensures) c.put_field-c.ensures c.put_char.ensures
