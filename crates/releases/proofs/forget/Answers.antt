-- `forget` meets its contract: a filter over what is remembered.
use Rattle.std.proofs.Common.{ap, ◌∙◌, rules, take}
use Rattle.lists.specs.Fold.{fold}
use Rattle.lists.specs.laws.Part.{unmapped}
use Rattle.lists.specs.laws.Rest.{rest_start, rest_end}
use Rattle.state.specs.Book.{other_release, remembered}
use Rattle.state.specs.Edit.{forget_of}
use Rattle.releases.specs.laws.Code.{turn, kept_r, kept_in, kept_out, forgotten_is}
use Rattle.releases.proofs.forget.Goals as goal
use Rattle.releases.proofs.forget.Goals.{then-is_other, else-is_other}

pub loop-r-init : goal.loop-r-init
loop-r-init c =
    rest_start (kept_r (other_release (take c.args.len c.args.id))) c.args.q.releases _ c.args.q.count 4 (search rules) (search (unmapped, rules))
    (ap (λ b. fold (kept_r (other_release (take c.args.len c.args.id))) b (remembered c.args.q)) c.no_releases-now.ensures
    ∙ forgotten_is (other_release (take c.args.len c.args.id)) c.args.q.count c.args.q.releases (search (unmapped, rules)))

pub loop-r-preserved : goal.loop-r-preserved
loop-r-preserved c =
    turn (kept_r (other_release (take c.args.len c.args.id))) _ _ _ _ c.loop-r-test.true
    (elim c.if-is_other.branch [
      | then-is_other w ↦ kept_in _ _ (other_release (take c.args.len c.args.id)) c.is_other.ensures w.if-is_other.true (w.now-is ∙ w.push_release-now.ensures)
      | else-is_other w ↦ w.now-is ∙ kept_out _ _ (other_release (take c.args.len c.args.id)) c.is_other.ensures w.if-is_other.false
    ]) c.loop-r.invariant

pub returns : goal.returns
unfolding forget_of
returns c = rest_end (kept_r (other_release (take c.args.len c.args.id))) _ _ c.loop-r-test.false c.loop-r.invariant
