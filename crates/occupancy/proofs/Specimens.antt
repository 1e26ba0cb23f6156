-- Specimens: the board as leases come and go, computed: two on one address, the last taken off, and what stands beside them.
use Prim.Native.Nat.{ℕ}
use mathlib.Core.Path.{◌≡◌, refl}
use mathlib.Core.Bool.{true, false}
use mathlib.Core.List.{List, [], ◌∷◌, map}
use Rattle.lists.specs.Pick.{pick}
use Rattle.lists.specs.Same.{same_by}
use Rattle.address_set.specs.AddressSet.{bit, offsets_from}
use Rattle.occupancy.specs.declared.Board.{Board}
use Rattle.occupancy.specs.Board.{no_board, entry_at, held_in, scope_board_at, more_on, less_on, grown, shrunk, on_offset, altered_by, added_to, taken_from, same_entry, same_scope_board, same_board}

-- the second tenant, in the third scope: offset 5 is set 32, offsets 4 and 5 are set 48
abbrev one : Board
one = added_to no_board 1 3 32

abbrev two : Board
two = added_to one 1 3 48

-- owner and number of leases of some offsets of a scope, counted from 0
abbrev entries : Board → ℕ → List ℕ → List (List ℕ)
entries b k at = map (λ a. (entry_at (scope_board_at b k) a).owner ∷ (entry_at (scope_board_at b k) a).count ∷ []) at

-- what the first three tenants hold there
abbrev holdings : Board → ℕ → List ℕ
holdings b k = map (held_in (scope_board_at b k)) (0 ∷ 1 ∷ 2 ∷ [])

-- the owner counts from 1, and the offsets on both sides have none
first : entries one 2 (4 ∷ 5 ∷ 6 ∷ []) ≡ (0 ∷ 0 ∷ []) ∷ (2 ∷ 1 ∷ []) ∷ (0 ∷ 0 ∷ []) ∷ []
unfolding altered_by on_offset more_on grown offsets_from bit pick
first = refl

-- two leases on offset 5: one owner, and the tenant holds one address
twice : entries (added_to one 1 3 32) 2 (5 ∷ 6 ∷ []) ≡ (2 ∷ 2 ∷ []) ∷ (0 ∷ 0 ∷ []) ∷ []
unfolding altered_by on_offset more_on grown offsets_from bit pick
twice = refl

held_once : holdings (added_to one 1 3 32) 2 ≡ 0 ∷ 1 ∷ 0 ∷ []
unfolding altered_by on_offset more_on grown offsets_from bit pick
held_once = refl

-- and two where the second lease is on offset 4 as well
second : entries two 2 (3 ∷ 4 ∷ 5 ∷ 6 ∷ []) ≡ (0 ∷ 0 ∷ []) ∷ (2 ∷ 1 ∷ []) ∷ (2 ∷ 2 ∷ []) ∷ (0 ∷ 0 ∷ []) ∷ []
unfolding altered_by on_offset more_on grown offsets_from bit pick
second = refl

held : map (λ b. holdings b 2) (no_board ∷ one ∷ two ∷ []) ≡ (0 ∷ 0 ∷ 0 ∷ []) ∷ (0 ∷ 1 ∷ 0 ∷ []) ∷ (0 ∷ 2 ∷ 0 ∷ []) ∷ []
unfolding altered_by on_offset more_on grown offsets_from bit pick
held = refl

-- the other scopes have none of it
beside : map (holdings two) (0 ∷ 1 ∷ 3 ∷ []) ≡ (0 ∷ 0 ∷ 0 ∷ []) ∷ (0 ∷ 0 ∷ 0 ∷ []) ∷ (0 ∷ 0 ∷ 0 ∷ []) ∷ []
unfolding altered_by on_offset more_on grown offsets_from bit pick
beside = refl

-- the first lease ends: offset 5 stays the tenant's and held, by the second
one_less : entries (taken_from two 1 3 32) 2 (4 ∷ 5 ∷ 6 ∷ []) ≡ (2 ∷ 1 ∷ []) ∷ (2 ∷ 1 ∷ []) ∷ (0 ∷ 0 ∷ []) ∷ []
unfolding altered_by on_offset more_on less_on grown shrunk offsets_from bit pick
one_less = refl

still_held : holdings (taken_from two 1 3 32) 2 ≡ 0 ∷ 2 ∷ 0 ∷ []
unfolding altered_by on_offset more_on less_on grown shrunk offsets_from bit pick
still_held = refl

-- the second ends first: offset 4 has no owner any more
other_less : entries (taken_from two 1 3 48) 2 (4 ∷ 5 ∷ 6 ∷ []) ≡ (0 ∷ 0 ∷ []) ∷ (2 ∷ 1 ∷ []) ∷ (0 ∷ 0 ∷ []) ∷ []
unfolding altered_by on_offset more_on less_on grown shrunk offsets_from bit pick
other_less = refl

-- and with the last lease nothing is left
none_left : taken_from (taken_from two 1 3 48) 1 3 32 ≡ no_board
unfolding altered_by on_offset more_on less_on grown shrunk offsets_from bit pick
none_left = refl

-- the first and the last offset
ends : entries (added_to no_board 0 1 9223372036854775809) 0 (0 ∷ 1 ∷ 62 ∷ 63 ∷ []) ≡ (1 ∷ 1 ∷ []) ∷ (0 ∷ 0 ∷ []) ∷ (0 ∷ 0 ∷ []) ∷ (1 ∷ 1 ∷ []) ∷ []
unfolding altered_by on_offset more_on grown offsets_from bit pick
ends = refl

-- the last tenant and the last scope are known; a scope before the first or past the last alters nothing, nor does a tenant past the last
last : map (λ g. held_in (scope_board_at (added_to no_board g 4 1) 3) g) (7 ∷ 8 ∷ []) ≡ 1 ∷ 0 ∷ []
unfolding altered_by on_offset more_on grown offsets_from bit pick
last = refl

unknown : map (λ s. same_board (added_to no_board 7 s 1) no_board) (0 ∷ 1 ∷ 4 ∷ 5 ∷ []) ≡ true ∷ false ∷ false ∷ true ∷ []
unfolding altered_by on_offset more_on grown offsets_from bit pick same_board same_scope_board same_entry same_by
unknown = refl

no_tenant : added_to no_board 8 4 1 ≡ no_board
unfolding altered_by pick
no_tenant = refl

-- counts end at 255
full : more_on 0 (record { owner = 1; count = 255 }) ≡ record { owner = 1; count = 255 }
unfolding more_on
full = refl
