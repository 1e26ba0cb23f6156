-- `add_tenant` meets its contract: a fold over the records in use.
use Rattle.std.proofs.Common.{rules, ◌∙◌, ap}
use Rattle.lists.specs.Fold.{fold}
use Rattle.lists.specs.laws.Fold.{fold_end, fold_next}
use Rattle.occupancy.specs.laws.Loop.{alterations, placed_tenant}
use Rattle.state.specs.Book.{board_with}
use Rattle.agreement.proofs.add_tenant.Goals as goal
use Rattle.agreement.proofs.add_tenant.Goals.{then-k-lt4, else-k-lt4}

pub lay-x-requires : goal.lay-x-requires
lay-x-requires c = search (placed_tenant, rules)

pub loop-l-preserved : goal.loop-l-preserved
unfolding board_with
loop-l-preserved c =
    fold_next c.loop-l.invariant c.loop-l-test.true
    (elim c.if-k-lt4.branch [
      | then-k-lt4 w ↦ search (alterations, placed_tenant, rules)
      | else-k-lt4 w ↦ search (alterations, rules)
    ])

pub returns : goal.returns
returns c = fold_end c.loop-l.invariant c.loop-l-test.false ∙ ap (fold (board_with c.args.h) c.args.b) c.in_use-own.ensures
