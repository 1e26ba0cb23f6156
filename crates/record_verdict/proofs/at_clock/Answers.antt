-- `at_clock` meets its contract: by test 3, and by whether something is edited.
use Rattle.std.proofs.Common.{rules, ◌≡◌, refl}
use Rattle.state.specs.Book.{no_releases}
use Rattle.soundness.specs.Sound.{tenants_in}
use Rattle.records.proofs.Typed.{memory_size, records_size}
use Rattle.record_verdict.specs.laws.Verdict.{at_edited, at_same, at_unknown, own_releases}
use Rattle.record_verdict.proofs.at_clock.Goals as goal

pub returns-then-h-min : goal.returns-then-h-min
returns-then-h-min c names = let cut : c.min.result ≡ tenants_in c.args.s = search rules in
    at_unknown _ _ _ _ (records_size c.args.records _ c.well_formed.1.1.0) c.tenant_of-h.ensures cut c.if-h-min.true refl c.dismiss.ensures names

pub returns-then-not-is_edit : goal.returns-then-not-is_edit
returns-then-not-is_edit c names = let cut : c.min.result ≡ tenants_in c.args.s = search rules in
    let known = c.if-h-min.false in
    at_same _ _ _ _ (records_size c.args.records _ c.well_formed.1.1.0) c.tenant_of-h.ensures cut known
    c.requires c.row_at-own.ensures (own_releases c.args.memory c.args.s no_releases (memory_size c.args.memory _ c.well_formed.1.0) cut known) c.judge_tenant-j.ensures
    c.is_edit.ensures c.if-not-is_edit.true refl names

pub returns : goal.returns
returns c names = let cut : c.min.result ≡ tenants_in c.args.s = search rules in
    let known = c.if-h-min.false in
    at_edited _ _ _ _ (records_size c.args.records _ c.well_formed.1.1.0) c.tenant_of-h.ensures cut known
    c.requires c.row_at-own.ensures (own_releases c.args.memory c.args.s no_releases (memory_size c.args.memory _ c.well_formed.1.0) cut known) c.judge_tenant-j.ensures
    c.edited.ensures c.put_row.ensures c.note.ensures c.edited-noted.ensures names
