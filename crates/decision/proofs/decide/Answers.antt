-- `decide` meets its contract: its tests in order, each lookup made where it is asked for.
use Rattle.decision.proofs.Count.{judged_is, refused_is, released_is, resent_is}
use borrow.Author.Rules.{rules}
use Rattle.decision.proofs.decide.Goals as goal

pub returns-then-is_resend : goal.returns-then-is_resend
returns-then-is_resend c = search (resent_is, rules)

pub returns-then-is_released_again : goal.returns-then-is_released_again
returns-then-is_released_again c = search (released_is, rules)

pub returns-then-early_1 : goal.returns-then-early_1
returns-then-early_1 c = search (refused_is, rules)

pub overflow_add-before : goal.overflow_add-before
overflow_add-before c = let p = c.look_up_if-first.ensures.1 in
    let q = c.look_up_if-second.ensures.1 in
    search (p, q, rules)

pub returns : goal.returns
returns c = judged_is _ _ _ _ _ _ c.asks_resend.ensures c.look_up_if-first.ensures.0 (search rules) c.if-is_resend.false c.is_released_again.ensures c.if-is_released_again.false c.early_1.ensures
    c.count_with-2.ensures c.judge-d.ensures c.look_up_if-second.ensures.0 c.asks_identifier.ensures c.if-early_1.false
