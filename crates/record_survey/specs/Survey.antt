-- Definitions: what a survey of the lent lease records is asked: whether the book that they are a part of is sound, and the drop of ended leases.
use Rattle.std.specs.Prelude.{ℕ, Bool, true, ◌≡◌, ltb, List, length}
use Rattle.occupancy.specs.declared.Board.{Board}
use Rattle.state.specs.declared.Lease.{Lease}
use Rattle.state.specs.Book.{cleared, dropped}
use Rattle.soundness.specs.declared.Held.{Held}
use Rattle.soundness.specs.Parts.{holdings_of}
use Rattle.record_survey.specs.declared.Dropped.{Dropped}
use Rattle.state.specs.declared.Ledger.{Ledger}
use Rattle.releases.specs.Whole.{book_b}
use Rattle.records.specs.Records.{records_of, table_from}
use Rattle.records.specs.Lent.{book_from}

-- whether the book of a lent ledger, lent records and lent names is sound, by test 1: then a call need not ask
abbrev pub SoundFrom : Ledger → List Lease → List ℕ → Type 0
SoundFrom g ls names = book_b (book_from g ls names) ≡ true

-- ---- the drop
-- no lease of a tenant ends at or before a clock
abbrev pub ends_after : ℕ → Held → Bool
ends_after clock x = ltb clock x.first_end

-- what a function promises that drops the leases which end at or before a clock: the records, what is held afterwards, and the board
pub record Drops (clock : ℕ) (ls : List Lease) (b : Board) (r : Dropped) : Type 0 where
  pub records : r.records.leases ≡ records_of (dropped clock (table_from ls))
  pub long : length r.records.leases ≡ 128
  pub holdings : r.held ≡ holdings_of (dropped clock (table_from ls))
  pub board : r.board ≡ cleared clock (table_from ls) b
