-- `survey` meets its contract: row by row.
use Rattle.std.proofs.Common.{rules, ◌≡◌}
use Rattle.records.proofs.Typed.{memory_size}
use Rattle.record_survey.specs.laws.Rows.{built_first, built_row, built_whole, memory_row, survey_first, survey_row}
use Rattle.releases.specs.laws.Tenants.{memory_start, memory_whole}
use Rattle.state.specs.Book.{no_releases}
use Rattle.soundness.specs.Sound.{tenants_in}
use Rattle.soundness.specs.laws.Survey.{survey_end}
use Rattle.record_survey.proofs.survey.Goals as goal

pub loop-h-init : goal.loop-h-init
loop-h-init c =
    let n : c.min-n.result ≡ tenants_in c.args.s = search rules in
    (survey_first c.args.records.leases c.no_tenants-rules.ensures, memory_start n c.no_tenants-releases.ensures, built_first _ c.no_board-built.ensures)

pub bounds-memory-h : goal.bounds-memory-h
bounds-memory-h c = search (memory_size c.args.memory _ c.well_formed.1.0, rules)

pub loop-h-preserved : goal.loop-h-preserved
loop-h-preserved c =
    let v = c.loop-h.invariant in
    let known = c.loop-h-test.true in
    let own = c.row_at-t.ensures in (
      survey_row c.args.records.leases v.0 known own c.add_tenant-rules.ensures,
      memory_row c.args.records.leases no_releases v.1 (memory_size c.args.memory _ c.well_formed.1.0) known own c.add_tenant-releases.ensures,
      built_row c.args.records.leases _ v.2 own c.add_tenant-built.ensures,
    )

pub returns : goal.returns
returns c = search (survey_end, memory_whole, built_whole, rules)
