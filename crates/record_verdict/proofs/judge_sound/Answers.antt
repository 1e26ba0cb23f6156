-- `judge_sound` meets its contract: by whether a lease has ended.
use mathlib.Core.List.{[]}
use Rattle.records.proofs.Typed.{records_long, records_size}
use Rattle.record_verdict.specs.laws.Verdict.{drop_ready, idle_book, idle_gathered, judge_on, left_book, left_gathered}
use Rattle.record_verdict.proofs.judge_sound.Goals as goal

pub at_clock-requires : goal.at_clock-requires
at_clock-requires c = let size = records_size c.args.records _ c.well_formed.1.0 in
    let long = records_long c.args.records _ c.well_formed.1.0 in
    idle_gathered c.args.ledger _ [] _ c.raise-s.ensures size long c.requires c.none_ended.ensures c.if-none_ended.true

pub returns-then-none_ended : goal.returns-then-none_ended
returns-then-none_ended c names sound = let size = records_size c.args.records _ c.well_formed.1.0 in
    let long = records_long c.args.records _ c.well_formed.1.0 in
    judge_on _ c.args.ledger _ names _ _ _ size sound
    (idle_book c.args.ledger _ names _ c.raise-s.ensures size long c.requires c.none_ended.ensures c.if-none_ended.true) (c.at_clock.ensures names)

pub drop_ended-d-requires : goal.drop_ended-d-requires
drop_ended-d-requires c = let size = records_size c.args.records _ c.well_formed.1.0 in
    let long = records_long c.args.records _ c.well_formed.1.0 in
    drop_ready c.args.ledger _ [] _ c.raise-s.ensures size long c.requires

pub at_clock-requires-2 : goal.at_clock-requires-2
at_clock-requires-2 c = let size = records_size c.args.records _ c.well_formed.1.0 in
    let long = records_long c.args.records _ c.well_formed.1.0 in
    left_gathered c.args.ledger _ [] _ c.raise-s.ensures size long c.requires c.drop_ended-d.ensures

pub returns : goal.returns
returns c names sound = let size = records_size c.args.records _ c.well_formed.1.0 in
    let long = records_long c.args.records _ c.well_formed.1.0 in
    judge_on _ c.args.ledger _ names _ _ _ size sound
    (left_book c.args.ledger _ names _ c.raise-s.ensures size long c.requires c.drop_ended-d.ensures) (c.at_clock-2.ensures names)
