-- `judge` meets its contract: by test 1.
use mathlib.Core.Path.{refl}
use Rattle.records.proofs.Typed.{records_size}
use Rattle.record_verdict.specs.laws.Verdict.{judge_dismissed, judge_known, judge_out, surveyed_gathered}
use Rattle.record_survey.specs.laws.Tested.{tested_sound}
use Rattle.record_verdict.proofs.judge.Goals as goal

pub returns-then-n-ne128 : goal.returns-then-n-ne128
returns-then-n-ne128 c = judge_out _ c.args.ledger _ _ _ _ _ c.if-n-ne128.true refl (records_size c.args.records _ c.well_formed.1.0) c.dismiss.ensures

pub returns-then-not-is_sound : goal.returns-then-not-is_sound
returns-then-not-is_sound c = judge_dismissed _ c.args.ledger _ _ _ _ _ c.if-n-ne128.false c.survey-c.ensures c.is_sound.ensures c.if-not-is_sound.true refl (records_size c.args.records _ c.well_formed.1.0) c.dismiss-then-not-is_sound.ensures

pub judge_sound-requires : goal.judge_sound-requires
judge_sound-requires c = surveyed_gathered c.args.ledger _ _ c.survey-c.ensures c.is_sound.ensures c.if-not-is_sound.false

pub returns : goal.returns
returns c = judge_known _ c.args.ledger _ _ _ _ _ c.if-n-ne128.false (records_size c.args.records _ c.well_formed.1.0)
    (tested_sound c.args.ledger _ _ c.survey-c.ensures c.is_sound.ensures c.if-not-is_sound.false) c.judge_sound.ensures
