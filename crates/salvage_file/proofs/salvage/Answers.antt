-- `salvage` meets its contract: a refusal writes nothing, and else `write` has written both.
use Rattle.std.proofs.Common.{◌∙◌, Err, ap, sym, refl, arith, rules}
use Rattle.std.proofs.lemmas.Result.{err_from_is_err_and}
use Rattle.salvage_file.specs.declared.Refusal.TheVariants.{UnsoundSettings}
use Rattle.salvage_file.specs.laws.File.{layout_formed, layout_wrong, refused_as, salvaged_as, settings_refused}
use Rattle.salvage_file.proofs.salvage.Goals as goal

pub returns-in_err-places : goal.returns-in_err-places
returns-in_err-places c =
    let p = err_from_is_err_and c.from_residual.result c.from_residual.ensures.1 in
    refused_as c.in_err-places.field-0.0 _ _ _ (layout_wrong _ c.form_of.ensures _ _ c.in_err-places.field-0.0 (grind arith) (grind arith)) (p.1 ∙ ap Err p.2)

pub settings_sound-requires : goal.settings_sound-requires
settings_sound-requires c = layout_formed _ c.form_of.ensures (grind arith)

pub returns-then-not-settings_sound : goal.returns-then-not-settings_sound
returns-then-not-settings_sound c =
    refused_as UnsoundSettings _ _ _ (settings_refused (layout_formed _ c.form_of.ensures (grind arith)) _ _ c.settings_sound.ensures (search rules)) refl

pub walk-kept-requires : goal.walk-kept-requires
walk-kept-requires c = (layout_formed _ c.form_of.ensures (grind arith), sym c.settings_sound.ensures ∙ search rules)

pub write-requires : goal.write-requires
write-requires c = (layout_formed _ c.form_of.ensures (grind arith), sym c.settings_sound.ensures ∙ search rules, c.walk-kept.ensures)

pub returns : goal.returns
returns c = salvaged_as _ _ _ _ _ (layout_formed _ c.form_of.ensures (grind arith)) c.write.ensures
