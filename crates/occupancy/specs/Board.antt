-- Definitions: the occupancy board (document 02, W-207), and how one lease of a house alters it: "A lease added or removed may alter only the entries of its
-- addresses and its house's holding in its scope". A house is a tenant here; tenants count from 0, but for an entry's owner, which counts from 1; scopes count
-- from 1, addresses are offsets.
use Rattle.std.specs.Prelude.{ℕ, ◌+◌, ◌-◌, min, Bool, false, ◌&&◌, ◌≡◌, [], ltb, leb, eqb, get_or, set, replicate}
use Rattle.lists.specs.Pick.{pick}
use Rattle.lists.specs.Filter.{is_in}
use Rattle.lists.specs.Fold.{fold}
use Rattle.lists.specs.Same.{same_by}
use Rattle.address_set.specs.AddressSet.{offsets}
use Rattle.occupancy.specs.declared.Entry.{Entry}
use Rattle.occupancy.specs.declared.ScopeBoard.{ScopeBoard}
use Rattle.occupancy.specs.declared.Board.{Board}

-- ---- boards
-- "the owning house, or none, and the number of leases": no owner and no lease
abbrev pub no_entry : Entry
no_entry = record { owner = 0; count = 0 }

abbrev pub empty_scope_board : ScopeBoard
empty_scope_board = record { entries = replicate 64 no_entry; held = replicate 8 0 }

abbrev pub no_board : Board
no_board = record { scopes = replicate 4 empty_scope_board }

-- what stands at a place, counted from 0; past the last, nothing
abbrev pub no_scope_board : ScopeBoard
no_scope_board = record { entries = []; held = [] }

abbrev pub entry_at : ScopeBoard → ℕ → Entry
entry_at v a = get_or v.entries a no_entry

abbrev pub held_in : ScopeBoard → ℕ → ℕ
held_in v g = get_or v.held g 0

abbrev pub scope_board_at : Board → ℕ → ScopeBoard
scope_board_at b k = get_or b.scopes k no_scope_board

-- ---- one lease of tenant g more or less on an offset: counts end at 255, so that every board has an answer
unfoldable pub more_on : ℕ → Entry → Entry
more_on g e = record { owner = g + 1; count = min (e.count + 1) 255 }

-- with the last lease the owner goes
unfoldable pub less_on : Entry → Entry
less_on e = record { owner = pick (leb e.count 1) 0 e.owner; count = e.count - 1 }

-- a tenant's holding is of addresses: one more with the first lease on an offset, one less with the last
unfoldable pub grown : ℕ → ℕ → ℕ
grown c d = pick (eqb c 0) (min (d + 1) 255) d

unfoldable pub shrunk : ℕ → ℕ → ℕ
shrunk c d = pick (leb c 1) (d - 1) d

-- the entry of one offset and the holding of tenant g, and nothing else
unfoldable pub on_offset : (Entry → Entry) → (ℕ → ℕ → ℕ) → ℕ → ScopeBoard → ℕ → ScopeBoard
on_offset e d g v a = record { entries = set v.entries a (e (entry_at v a)); held = set v.held g (d (entry_at v a).count (held_in v g)) }

abbrev pub laid_on : ℕ → ScopeBoard → ℕ → ScopeBoard
laid_on g = on_offset (more_on g) grown g

abbrev pub lifted_off : ℕ → ScopeBoard → ℕ → ScopeBoard
lifted_off g = on_offset less_on shrunk g

-- the place, counted from 0, of the scope that a lease of tenant g in scope s alters; 4 or more where there is no such scope or no such tenant
unfoldable pub place_in : ℕ → ℕ → ℕ
place_in g s = pick (ltb g 8) (pick (ltb 0 s) (s - 1) 4) 4

-- ---- a lease of tenant g more or less, on the set m of scope s's offsets; of no scope, or no tenant, nothing alters
unfoldable pub altered_by : (ScopeBoard → ℕ → ScopeBoard) → Board → ℕ → ℕ → ℕ → Board
altered_by f b g s m =
    pick (ltb 0 s)
    (pick (ltb (s - 1) 4)
    (pick (ltb g 8)
    (record { scopes = set b.scopes (s - 1) (fold f (scope_board_at b (s - 1)) (offsets m)) })
    b) b) b

abbrev pub added_to : Board → ℕ → ℕ → ℕ → Board
added_to b g s m = altered_by (laid_on g) b g s m

abbrev pub taken_from : Board → ℕ → ℕ → ℕ → Board
taken_from b g s m = altered_by (lifted_off g) b g s m

-- "A lease added or removed may alter only the entries of its addresses and its house's holding in its scope": r is b but for these. Places count from 0
pub record AltersOnly (b : Board) (g s m : ℕ) (r : Board) : Type 0 where
  pub entries : (k a : ℕ) → (s ≡ k + 1 → is_in a (offsets m) ≡ false) → entry_at (scope_board_at r k) a ≡ entry_at (scope_board_at b k) a
  pub holdings : (k i : ℕ) → (s ≡ k + 1 → i ≡ g → ⊥) → held_in (scope_board_at r k) i ≡ held_in (scope_board_at b k) i

-- ---- two boards are the same
unfoldable pub same_entry : Entry → Entry → Bool
same_entry a b = eqb a.owner b.owner && eqb a.count b.count

unfoldable pub same_scope_board : ScopeBoard → ScopeBoard → Bool
same_scope_board v w = same_by same_entry v.entries w.entries && same_by eqb v.held w.held

unfoldable pub same_board : Board → Board → Bool
same_board a b = same_by same_scope_board a.scopes b.scopes
