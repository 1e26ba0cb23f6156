-- `pass` meets its contract: three loops, one after the other.
use Rattle.std.proofs.Common.{◌≡◌, ℕ, ◌-◌, List, ap, ◌∙◌, arith, rules, length, take, drop, take_all, length-drop}
use Rattle.lists.specs.All.{all_by}
use Rattle.state.specs.declared.Lease.{Lease}
use Rattle.lists.specs.Fold.{fold}
use Rattle.lists.specs.laws.Part.{unmapped}
use Rattle.lists.specs.laws.Rest.{rest_start, rest_end, all_behind}
use Rattle.state.specs.Book.{in_use}
use Rattle.soundness.specs.Sound.{unused_b}
use Rattle.soundness.specs.Parts.{added_lease}
use Rattle.soundness.specs.laws.Gathered.{gathered_are, swift_rises}
use Rattle.soundness.proofs.gather.pass.Goals as goal

-- what is behind the last record, as a part
behind : (l : List Lease) (n : ℕ) → take (length l - n) (drop n l) ≡ drop n l
behind l n = take_all (length l - n) (drop n l) (omega (arith, length-drop n l))

pub loop-l-init : goal.loop-l-init
loop-l-init c =
    rest_start (added_lease c.args.s) c.args.t.leases _ c.args.t.count 16 (search rules) (search (unmapped, rules))
    (ap (λ b. fold (added_lease c.args.s) b (in_use c.args.t)) c.no_lease_yet-gathered.ensures ∙ gathered_are c.args.s c.args.t)

pub returns : goal.returns
returns c = record {
  gathers = rest_end (added_lease c.args.s) _ _ c.loop-l-test.false c.loop-l.invariant;
  rises = swift_rises c.args.t.leases c.args.t.count 16 c.min-n.result (search rules) (search rules) (search (unmapped, rules));
  rest = all_behind unused_b c.args.t.leases c.args.t.count 16 c.min-n.result (c.every.ensures unused_b (λ x r h. search rules) ∙ ap (all_by unused_b) (behind c.args.t.leases c.min-n.result)) (search rules) (search (unmapped, rules));
}
