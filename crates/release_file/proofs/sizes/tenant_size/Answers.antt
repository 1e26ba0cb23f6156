-- `tenant_size` meets its contract: its loop keeps `SizeInv`; by `sizes`, `sum_row`.
use Rattle.format.specs.laws.Rows.{size_end, sizes, sum_row}
use Rattle.lists.specs.laws.Part.{cut_take, unmapped}
use Rattle.release_file.specs.Rows.{release_octets}
use Rattle.state.specs.laws.Layout.{no_release}
use Rattle.std.proofs.Common.{ap, arith, length-take, rules, take, ℕ, ◌∙◌}
use Rattle.release_file.proofs.sizes.tenant_size.Goals as goal

pub loop-e-init : goal.loop-e-init
unfolding release_octets
loop-e-init c = search (sizes, rules)

pub overflow_add-sum : goal.overflow_add-sum
overflow_add-sum c =
    let f = length-take c.min.result c.args.q.releases in
    omega (arith, f, c.min.ensures, c.loop-e.invariant.small, c.loop-e.invariant.within, c.release_size-sum.ensures.1)

pub loop-e-preserved : goal.loop-e-preserved
unfolding release_octets
loop-e-preserved c = search (sizes, rules)

pub returns : goal.returns
returns c =
    let e = ap (λ (k : ℕ). take k c.args.q.releases) c.min.ensures ∙ cut_take 4 c.args.q.count c.args.q.releases (search (unmapped, rules)) in
    let f = length-take c.min.result c.args.q.releases in
    (sum_row (release_octets 0) no_release _ e (size_end c.loop-e.invariant (search rules)), omega (arith, f, c.min.ensures, c.loop-e.invariant.small, c.loop-e.invariant.within))
