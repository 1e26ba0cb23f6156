-- `clear` meets its contract: a fold over the first records in use.
use Rattle.std.proofs.Common.{refl, ◌∙◌, ap, rules, take, length}
use Rattle.lists.specs.Fold.{fold}
use Rattle.lists.specs.laws.Fold.{fold_end}
use Rattle.lists.specs.laws.Part.{cut_take}
use Rattle.state.specs.Book.{board_without}
use Rattle.agreement.proofs.clear.Goals as goal

pub returns : goal.returns
returns c =
    let own = c.in_use-own.result.now in
    fold_end c.loop-l.invariant c.loop-l-test.false
    ∙ ap (fold (board_without c.args.h) c.args.b) (ap (λ k. take k own) c.min.ensures ∙ cut_take (length own) _ own refl ∙ ap (λ k. take k own) (search rules) ∙ ap (take c.args.n) c.in_use-own.ensures)
