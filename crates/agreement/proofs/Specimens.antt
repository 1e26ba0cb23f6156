-- Specimens: what the leases of two tenants say of the board, before and after a drop, and the boards that are built, kept and disagree; computed.
use mathlib.Core.Path.{◌≡◌, refl}
use mathlib.Core.Bool.{true, false}
use mathlib.Core.List.{List, [], ◌∷◌, map}
use Prim.Native.Nat.{ℕ}
use lib.ListN.{replicate, take}
use Rattle.lists.specs.Pick.{pick}
use Rattle.lists.specs.Filter.{filter_by}
use Rattle.lists.specs.Same.{same_by}
use Rattle.address_set.specs.AddressSet.{bit, offsets_from, up_to}
use Rattle.occupancy.specs.declared.Board.{Board}
use Rattle.occupancy.specs.declared.Entry.{Entry}
use Rattle.occupancy.specs.Board.{altered_by, entry_at, grown, less_on, more_on, on_offset, same_board, same_entry, same_scope_board, scope_board_at, shrunk}
use Rattle.state.specs.declared.Lease.{Lease}
use Rattle.state.specs.declared.LeaseTable.{LeaseTable}
use Rattle.state.specs.Book.{addresses_of, cleared, cleared_to, dropped, ended_of, is_hold, laid_out, lapsing_at, lease_with, leases_of, live_of, table_of, union_all, until, board_with, board_without}
use Rattle.state.specs.Board.{board_of, built_of, built_to, count_in, count_on, entry_by, is_on, owner_from, scope_by}
use Rattle.state.specs.Edit.{board_edited, board_left, giving_way, leaving}
use Rattle.agreement.specs.Agrees.{agrees_b}

-- a lease by the last octet of its identifier, its scope, start, end and addresses
abbrev lease : ℕ → ℕ → ℕ → ℕ → ℕ → Lease
lease i scope start end addresses = lease_with scope 2 (0 ∷ i ∷ replicate 30 0) 3 7 start end addresses

-- the first tenant has offsets 0 and 1 of scope 1 until 100, and 1 again from 200 on; the second has 5 of scope 1, and a hold on 0 of scope 2 that lapses at 40
abbrev early : Lease
early = lease 1 1 0 100 3

abbrev late : Lease
late = lease 2 1 200 300 2

abbrev second : Lease
second = lease 1 1 0 100000 32

abbrev hold : Lease
hold = lapsing_at 40 (lease_with 2 2 (0 ∷ 2 ∷ replicate 30 0) 1 7 0 500 1)

table : LeaseTable
table = table_of ((early ∷ late ∷ []) ∷ (second ∷ hold ∷ []) ∷ replicate 6 [])

board : Board
board = board_of (leases_of table)

-- ---- entries of offsets 0, 1, 2 and 5 and the holdings of three tenants, scope by scope
abbrev entry : ℕ → ℕ → Entry
entry owner count = record { owner = owner; count = count }

shown : Board → ℕ → List Entry
shown b k = entry_at (scope_board_at b k) 0 ∷ entry_at (scope_board_at b k) 1 ∷ entry_at (scope_board_at b k) 2 ∷ entry_at (scope_board_at b k) 5 ∷ []

holdings : Board → List (List ℕ)
holdings b = map (λ v. take 3 v.held) b.scopes

-- two leases on one address count two and are one address held
says : (shown board 0 ∷ shown board 1 ∷ shown board 2 ∷ [])
    ≡ (entry 1 1 ∷ entry 1 2 ∷ entry 0 0 ∷ entry 2 1 ∷ []) ∷ (entry 2 1 ∷ entry 0 0 ∷ entry 0 0 ∷ entry 0 0 ∷ []) ∷ (entry 0 0 ∷ entry 0 0 ∷ entry 0 0 ∷ entry 0 0 ∷ []) ∷ []
unfolding table board shown table_of laid_out board_of scope_by entry_by owner_from count_on count_in is_on addresses_of union_all filter_by up_to offsets_from bit pick
says = refl

holding : holdings board ≡ (2 ∷ 1 ∷ 0 ∷ []) ∷ (0 ∷ 1 ∷ 0 ∷ []) ∷ (0 ∷ 0 ∷ 0 ∷ []) ∷ (0 ∷ 0 ∷ 0 ∷ []) ∷ []
unfolding table board holdings table_of laid_out board_of scope_by entry_by owner_from count_on count_in is_on addresses_of union_all filter_by up_to offsets_from bit pick
holding = refl

-- ---- at 100 the first tenant's first lease has ended and the hold has lapsed
after : Board
after = cleared 100 table board

dropped_says : (shown after 0 ∷ shown after 1 ∷ []) ≡ (entry 0 0 ∷ entry 1 1 ∷ entry 0 0 ∷ entry 2 1 ∷ []) ∷ (entry 0 0 ∷ entry 0 0 ∷ entry 0 0 ∷ entry 0 0 ∷ []) ∷ []
unfolding table board after shown table_of laid_out board_of scope_by entry_by owner_from count_on count_in is_on addresses_of union_all filter_by up_to offsets_from bit pick cleared_to ended_of until is_hold board_without altered_by on_offset less_on shrunk
dropped_says = refl

dropped_holding : holdings after ≡ (1 ∷ 1 ∷ 0 ∷ []) ∷ (0 ∷ 0 ∷ 0 ∷ []) ∷ (0 ∷ 0 ∷ 0 ∷ []) ∷ (0 ∷ 0 ∷ 0 ∷ []) ∷ []
unfolding table board after holdings table_of laid_out board_of scope_by entry_by owner_from count_on count_in is_on addresses_of union_all filter_by up_to offsets_from bit pick cleared_to ended_of until is_hold board_without altered_by on_offset less_on shrunk
dropped_holding = refl

-- ---- which boards agree: the one that is built, and the one that is left after the drop with what it leaves; not one with a lease more, nor the one from before the drop
agree : (agrees_b table (built_of table) ∷ agrees_b (dropped 100 table) after ∷ agrees_b table (board_with 0 board early) ∷ agrees_b (dropped 100 table) board ∷ []) ≡ true ∷ true ∷ false ∷ false ∷ []
unfolding table board after agrees_b same_board same_scope_board same_entry same_by table_of laid_out dropped live_of board_of scope_by entry_by owner_from count_on count_in is_on addresses_of union_all filter_by up_to offsets_from bit pick built_to cleared_to ended_of until is_hold board_with board_without altered_by on_offset more_on less_on grown shrunk
agree = refl

-- ---- a release takes the lease off, and a renewal leaves the board as it is
edits : (shown (board_edited (leaving early 9 50) 0 board) 0 ∷ shown (board_edited (giving_way early (lease 1 1 0 900 3)) 0 board) 0 ∷ []) ≡ (entry 0 0 ∷ entry 1 1 ∷ entry 0 0 ∷ entry 2 1 ∷ []) ∷ shown board 0 ∷ []
unfolding table board shown table_of laid_out board_of scope_by entry_by owner_from count_on count_in is_on addresses_of union_all filter_by up_to offsets_from bit pick board_edited board_left board_with board_without altered_by on_offset more_on less_on grown shrunk
edits = refl
