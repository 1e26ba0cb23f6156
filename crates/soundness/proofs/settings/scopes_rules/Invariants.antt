use Rattle.std.proofs.Common.{◌≡◌, drop}
use Rattle.lists.specs.Fold.{fold}
use Rattle.state.specs.Book.{scopes_of}
use Rattle.soundness.specs.Parts.{and_scopes, scopes_all}
use Rattle.soundness.proofs.settings.scopes_rules.Given as goal

abbrev pub invariant-loop-c : goal.invariant-loop-c
invariant-loop-c l = fold (and_scopes l.n) l.all (drop l.c-index l.c-items) ≡ scopes_all l.n (scopes_of l.fn.s)
