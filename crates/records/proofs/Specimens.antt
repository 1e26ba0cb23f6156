-- Specimens: lent records by computation: one record found, inserted and removed; another number than 128; a gap, which makes a book unsound.
use Rattle.std.specs.Prelude.{None, Some}
use mathlib.Core.Path.{◌≡◌, refl}
use mathlib.Core.Bool.{true, false}
use mathlib.Core.List.{List, [], ◌∷◌, ◌++◌}
use Prim.Native.Nat.{ℕ}
use lib.ListN.{replicate}
use Rattle.lists.specs.Pick.{pick}
use Rattle.lists.specs.All.{all_by, pairs_by}
use Rattle.lists.specs.Arranged.{insert_in}
use Rattle.lists.specs.Filter.{filter_by}
use Rattle.lists.specs.Place.{place_by}
use Rattle.identifier.specs.Order.{order_of, same_of}
use Rattle.state.specs.declared.Lease.{Lease}
use Rattle.state.specs.declared.Ledger.{Ledger}
use Rattle.state.specs.Book.{by_identifier, compared_of, is_hold, laid_out, lease_with, no_lookup, remove_of, zero_lease, by_ending, until}
use Rattle.soundness.specs.Sound.{blank_b, layout_b, padded_b, unused_b, zero_from, layout_by}
use Rattle.state_file.specs.StateFile.{code_of, refusal_number}
use Rattle.records.specs.Records.{records_of, rows, rows_of, table_from, tenant_from}
use Rattle.records.specs.Lent.{find_lent, find_with, insert_lent, insert_with, remove_lent, remove_with, is128, written_lent, written_with}

-- a lease by the last octet of its identifier and its end
ending : ℕ → ℕ → Lease
ending i end = lease_with 1 2 (0 ∷ i ∷ replicate 30 0) 3 7 1000 end 1

abbrev lease : ℕ → Lease
lease i = ending i 2000

unused : ℕ → List Lease
unused n = replicate n zero_lease

-- the second house has some leases
ours : List Lease → ℕ → List Lease
ours p n = unused 16 ++ p ++ unused n

-- by end whatever the identifier, and ties in the order of identifiers; the later ones move down
insert_by_end : insert_lent 1 (ending 2 2001) (ours (lease 3 ∷ ending 1 2002 ∷ []) 110) ≡ ours (lease 3 ∷ ending 2 2001 ∷ ending 1 2002 ∷ []) 109
unfolding ending unused ours insert_with is128 pick table_from rows tenant_from place_by unused_b blank_b zero_from all_by insert_in by_identifier filter_by order_of laid_out records_of rows_of by_ending until is_hold
insert_by_end = refl

insert_between : insert_lent 1 (lease 2) (ours (lease 1 ∷ lease 3 ∷ []) 110) ≡ ours (lease 1 ∷ lease 2 ∷ lease 3 ∷ []) 109
unfolding ending unused ours insert_with is128 pick table_from rows tenant_from place_by unused_b blank_b zero_from all_by insert_in by_identifier filter_by order_of laid_out records_of rows_of by_ending until is_hold
insert_between = refl

-- no gap is left
remove_first : remove_lent 1 (0 ∷ 1 ∷ []) (ours (lease 1 ∷ lease 3 ∷ []) 110) ≡ ours (lease 3 ∷ []) 111
unfolding ending unused ours remove_with is128 pick table_from rows tenant_from place_by unused_b blank_b zero_from all_by remove_of filter_by order_of same_of laid_out records_of rows_of
remove_first = refl

-- at a place, the first too
find_second : find_lent 1 (0 ∷ 3 ∷ []) (ours (lease 1 ∷ lease 3 ∷ []) 110) ≡ record { place = Some 1; compared = 2 }
unfolding ending unused ours find_with compared_of is128 pick table_from rows tenant_from place_by unused_b blank_b zero_from all_by order_of same_of
find_second = refl

find_first : find_lent 1 (0 ∷ 1 ∷ []) (ours (lease 1 ∷ lease 3 ∷ []) 110) ≡ record { place = Some 0; compared = 1 }
unfolding ending unused ours find_with compared_of is128 pick table_from rows tenant_from place_by unused_b blank_b zero_from all_by order_of same_of
find_first = refl

-- another identifier, another house, a ninth house, 127 records
find_other : find_lent 1 (0 ∷ 2 ∷ []) (ours (lease 1 ∷ lease 3 ∷ []) 110) ≡ record { place = None; compared = 2 }
unfolding ending unused ours find_with compared_of is128 pick table_from rows tenant_from place_by unused_b blank_b zero_from all_by order_of same_of
find_other = refl

find_none : find_lent 0 (0 ∷ 3 ∷ []) (ours (lease 1 ∷ lease 3 ∷ []) 110) ≡ no_lookup
unfolding ending unused ours find_with compared_of is128 pick table_from rows tenant_from place_by unused_b blank_b zero_from all_by order_of same_of
find_none = refl

find_ninth : find_lent 8 (0 ∷ 3 ∷ []) (ours (lease 1 ∷ lease 3 ∷ []) 110) ≡ no_lookup
unfolding ending unused ours find_with compared_of is128 pick table_from rows tenant_from place_by unused_b blank_b zero_from all_by order_of same_of laid_out
find_ninth = refl

find_127 : find_lent 1 (0 ∷ 3 ∷ []) (ours (lease 1 ∷ lease 3 ∷ []) 109) ≡ no_lookup
unfolding ending unused ours find_with is128 pick
find_127 = refl

-- a ninth house, a house whose sixteen records are used, 127 records: nothing changes
ninth : insert_lent 8 (lease 2) (unused 128) ≡ unused 128
unfolding unused insert_with is128 pick
ninth = refl

full : insert_lent 1 (lease 0) (ours (replicate 16 (lease 3)) 96) ≡ ours (replicate 16 (lease 3)) 96
unfolding ending unused ours insert_with is128 pick table_from rows tenant_from place_by unused_b blank_b zero_from all_by
full = refl

short : insert_lent 1 (lease 2) (unused 127) ≡ unused 127
unfolding unused insert_with is128 pick
short = refl

-- 127 records are refusal 22, whatever the ledger, the names and the room
write_127 : (g : Ledger) (names : List ℕ) (room : ℕ) → refusal_number (written_lent g (unused 127) names room) ≡ 22
unfolding unused written_with is128 pick refusal_number code_of
write_127 g names room = refl

-- a lease after an unused record
gap : layout_b (tenant_from (lease 1 ∷ zero_lease ∷ lease 3 ∷ unused 13)) ≡ false
unfolding ending unused layout_by tenant_from place_by pick unused_b blank_b zero_from all_by pairs_by is_hold padded_b
gap = refl

-- leases out of order
disorder : layout_b (tenant_from (lease 3 ∷ lease 1 ∷ unused 14)) ≡ false
unfolding ending unused layout_by tenant_from place_by pick unused_b blank_b zero_from all_by pairs_by by_identifier order_of is_hold padded_b by_ending until
disorder = refl

rise : layout_b (tenant_from (lease 1 ∷ lease 3 ∷ unused 14)) ≡ true
unfolding ending unused layout_by tenant_from place_by pick unused_b blank_b zero_from all_by pairs_by by_identifier order_of is_hold padded_b by_ending until
rise = refl
