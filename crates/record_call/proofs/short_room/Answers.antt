-- `short_room` meets its contract: by the number of records and by test 1.
use mathlib.Core.Path.{refl}
use Rattle.records.proofs.Typed.{records_size}
use Rattle.record_call.specs.laws.Call.{serve_out, serve_short, serve_unsound}
use Rattle.record_survey.specs.laws.Tested.{tested_sound}
use Rattle.record_call.proofs.short_room.Goals as goal

pub returns-then-n-ne128 : goal.returns-then-n-ne128
returns-then-n-ne128 c k room short = serve_out _ c.args.ledger _ _ k c.if-n-ne128.true refl (records_size c.args.records _ c.well_formed.1.0) c.discard.ensures

pub returns-then-is_sound : goal.returns-then-is_sound
returns-then-is_sound c k room short = serve_short _ c.args.ledger _ _ k c.if-n-ne128.false (tested_sound c.args.ledger _ _ c.survey-c.ensures c.is_sound.ensures c.if-is_sound.true) short refl (records_size c.args.records _ c.well_formed.1.0) c.discard-then-is_sound.ensures

pub returns : goal.returns
returns c k room short = serve_unsound _ c.args.ledger _ _ k c.if-n-ne128.false c.survey-c.ensures c.is_sound.ensures c.if-is_sound.false refl (records_size c.args.records _ c.well_formed.1.0) c.discard-2.ensures
