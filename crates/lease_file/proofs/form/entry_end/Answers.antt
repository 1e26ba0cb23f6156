-- `entry_end` meets its contract: too short for each part, or its offsets rise or not.
use Rattle.lease_file.specs.laws.Form.{entry_falls, entry_rises, entry_short_1, entry_short_2, entry_short_3}
use Rattle.std.proofs.Common.{◌∙◌, arith, rules, sym}
use Rattle.lease_file.proofs.form.entry_end.Goals as goal

pub returns-then-left-lt3 : goal.returns-then-left-lt3
returns-then-left-lt3 c = entry_short_1 c.args.holds c.args.s.now _ (λ i. omega (arith, c.type_inv.s i)) (search rules)

pub returns-then-left-n : goal.returns-then-left-n
returns-then-left-n c = entry_short_2 c.args.holds c.args.s.now _ _ (λ i. omega (arith, c.type_inv.s i)) c.from-n.ensures (search rules)

pub returns-then-left-size : goal.returns-then-left-size
returns-then-left-size c = entry_short_3 c.args.holds c.args.s.now _ _ _ _ (λ i. omega (arith, c.type_inv.s i)) c.from-n.ensures c.from-k.ensures c.tail.ensures.0 (search rules)

pub returns-then-rising : goal.returns-then-rising
returns-then-rising c = entry_rises _ _ _ _ c.from-n.ensures c.from-k.ensures (search rules) (search rules) c.args.holds _ c.tail.ensures.0 (search rules) (sym c.if-rising.true ∙ c.rising.ensures)

pub returns : goal.returns
returns c = entry_falls _ _ _ _ c.from-n.ensures c.from-k.ensures (search rules) (search rules) c.args.holds (sym c.if-rising.false ∙ c.rising.ensures)
