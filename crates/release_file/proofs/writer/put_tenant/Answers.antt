-- `put_tenant` meets its contract: its loop keeps `RowInv`; by `release_rows`.
use Rattle.format.specs.laws.Rows.{row_done, row_whole}
use Rattle.octets.specs.laws.Octets.{wrote_as}
use Rattle.release_file.specs.Rows.{release_octets}
use Rattle.release_file.specs.laws.Rows.{release_rows}
use Rattle.format.specs.Rows.{write_from}
use Rattle.state.specs.declared.Release.{Release}
use Rattle.lists.specs.laws.Part.{cut_take, unmapped}
use Rattle.std.proofs.Common.{List, ap, arith, length, refl, rules, take, ℕ, ◌∙◌}
use Rattle.release_file.proofs.writer.put_tenant.Goals as goal

pub loop-e-init : goal.loop-e-init
loop-e-init c =
    let p = ap (λ (k : ℕ). take k c.args.q.releases) c.min.ensures ∙ cut_take 4 c.args.q.count c.args.q.releases (search (unmapped, rules)) in
    let e = ap (λ (l : List Release). length (write_from (release_octets c.args.tenant) 0 l)) p in
    row_whole refl (omega (arith, e, c.requires))

pub put_release-to-requires : goal.put_release-to-requires
put_release-to-requires c = search (release_rows, rules)

pub loop-e-preserved : goal.loop-e-preserved
loop-e-preserved c = search (release_rows, rules)

pub returns : goal.returns
returns c =
    let p = ap (λ (k : ℕ). take k c.args.q.releases) c.min.ensures ∙ cut_take 4 c.args.q.count c.args.q.releases (search (unmapped, rules)) in
    wrote_as (ap (λ (l : List Release). write_from (release_octets c.args.tenant) 0 l) p) (row_done c.loop-e.invariant (search rules))
