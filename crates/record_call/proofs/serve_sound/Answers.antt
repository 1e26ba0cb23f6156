-- `serve_sound` meets its contract: test 2, then the two halves.
use mathlib.Core.Path.{refl}
use Rattle.records.proofs.Typed.{records_size}
use Rattle.record_call.specs.laws.Call.{serve_joined, serve_short}
use Rattle.record_verdict.specs.laws.Verdict.{sound_gathered}
use Rattle.record_call.proofs.serve_sound.Goals as goal

pub returns-then-reply-lt-LEAST_ROOM : goal.returns-then-reply-lt-LEAST_ROOM
returns-then-reply-lt-LEAST_ROOM c = let size = records_size c.args.records _ c.well_formed.1.0 in
    serve_short _ c.args.ledger _ _ _ size c.requires c.if-reply-lt-LEAST_ROOM.true refl size c.discard.ensures

pub judge_sound-j-requires : goal.judge_sound-j-requires
judge_sound-j-requires c = sound_gathered c.args.ledger _ _ c.requires c.holdings-held.ensures

pub returns : goal.returns
returns c = serve_joined _ _ _ _ _ c.if-reply-lt-LEAST_ROOM.false (c.judge_sound-j.ensures _ c.requires) c.raise-s.ensures c.write-o.ensures
