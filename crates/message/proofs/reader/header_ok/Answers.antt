-- `reader::header_ok` meets its contract: by the definition, case by case.
use Rattle.lists.specs.laws.Both.{and_gots, ands}
use Rattle.message.proofs.Steps.{client_got}
use Rattle.message.specs.Read.{header_ok}
use Rattle.std.proofs.Common.{rules, ⊎_elim}
use Rattle.message.proofs.reader.header_ok.Goals as goal
use Rattle.message.proofs.reader.header_ok.Goals.{then-s-eq0, else-s-eq0}

pub returns-then-s-lt12 : goal.returns-then-s-lt12
unfolding header_ok
returns-then-s-lt12 c = ⊎_elim (λ h. search (ands, rules)) (λ h. search (ands, rules)) c.then-s-lt12.either

pub returns-then-read_u16-eq1 : goal.returns-then-read_u16-eq1
unfolding header_ok
returns-then-read_u16-eq1 c = search (ands, and_gots, client_got, rules)

pub returns-else-read_u16-eq1 : goal.returns-else-read_u16-eq1
unfolding header_ok
returns-else-read_u16-eq1 c = elim c.if-s-eq0.branch [ then-s-eq0 w ↦ search (ands, and_gots, rules) | else-s-eq0 w ↦ search (ands, and_gots, rules) ]
