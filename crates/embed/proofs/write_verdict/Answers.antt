-- `write_verdict` meets its contract: a law for each of its four answers.
use Rattle.embed.proofs.Replied.{reply_right, reply_short, reply_unsound, reply_wrong}
use Rattle.state_file.proofs.Loads.{layout_right, names_from, names_within}
use Rattle.std.proofs.Common.{rules, sym, ◌∙◌}
use Rattle.embed.proofs.write_verdict.Goals as goal

pub returns-then-room-lt-LEAST_ROOM : goal.returns-then-room-lt-LEAST_ROOM
returns-then-room-lt-LEAST_ROOM c = search (reply_short, rules)

pub returns-in_default : goal.returns-in_default
returns-in_default c = search (reply_wrong, rules)

pub book_at-requires : goal.book_at-requires
book_at-requires c = search (layout_right, rules)

pub slice_bounds-reply-count : goal.slice_bounds-reply-count
slice_bounds-reply-count c = search (names_from, rules)

pub slice_bounds-reply-start : goal.slice_bounds-reply-start
slice_bounds-reply-start c = search (names_from, rules)

pub slice_bounds-reply-end : goal.slice_bounds-reply-end
slice_bounds-reply-end c = search (names_within, rules)

pub returns-in-Ok : goal.returns-in-Ok
returns-in-Ok c = let q = sym c.in-Ok.is ∙ c.book_at.ensures in search (reply_right, q, rules)

pub returns-in-Err : goal.returns-in-Err
returns-in-Err c = let q = sym c.in-Err.is ∙ c.book_at.ensures in search (reply_unsound, q, rules)
