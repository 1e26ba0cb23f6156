-- `values::names_server` meets its contract: by the definition, case by case.
use Rattle.lists.specs.laws.Both.{and_gots}
use Rattle.lists.specs.laws.Pick.{eqb_got}
use Rattle.message.specs.Values.{names_server}
use Rattle.std.proofs.Common.{rules}
use Rattle.message.proofs.values.names_server.Goals as goal
use Rattle.message.proofs.values.names_server.Goals.{then-read_u16-eq6, else-read_u16-eq6}

pub returns-then-read_u16-eq1 : goal.returns-then-read_u16-eq1
unfolding names_server
returns-then-read_u16-eq1 c = elim c.if-read_u16-eq6.branch [ then-read_u16-eq6 w ↦ search (and_gots, eqb_got, rules) | else-read_u16-eq6 w ↦ search (and_gots, eqb_got, rules) ]

pub returns-else-read_u16-eq1 : goal.returns-else-read_u16-eq1
unfolding names_server
returns-else-read_u16-eq1 c = elim c.if-read_u16-eq6.branch [ then-read_u16-eq6 w ↦ search (and_gots, eqb_got, rules) | else-read_u16-eq6 w ↦ search (and_gots, eqb_got, rules) ]
