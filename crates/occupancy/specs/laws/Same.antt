-- Laws: two boards that compare as the same are equal, and a board is the same as itself.
use Rattle.std.specs.Prelude.{◌≡◌, refl, Bool, true, ◌&&◌, List, [], ◌∷◌, ℕ, eqb}
use Rattle.std.proofs.Common.{ap, ap₂, eqb-true, eq-eqb}
use Rattle.std.specs.Cmp.Lexicographic.{pointwise}
use Rattle.lists.specs.Same.{same_by}
use Rattle.lists.specs.laws.Both.{and_parts, and_both}
use Rattle.lists.specs.laws.Same.{same_self, same_is}
use Rattle.occupancy.specs.declared.Entry.{Entry}
use Rattle.occupancy.specs.declared.ScopeBoard.{ScopeBoard}
use Rattle.occupancy.specs.declared.Board.{Board}
use Rattle.occupancy.specs.Board.{same_entry, same_scope_board, same_board}

same_entry_law : (a b : Entry) → same_entry a b ≡ true → a ≡ b
unfolding same_entry
same_entry_law a b h =
    let p = and_parts (eqb a.owner b.owner) (eqb a.count b.count) h in
    ap₂ {C = Entry} (λ (o n : ℕ). record { owner = o; count = n }) (eqb-true _ _ p.0) (eqb-true _ _ p.1)

same_scope_law : (v w : ScopeBoard) → same_scope_board v w ≡ true → v ≡ w
unfolding same_scope_board
same_scope_law v w h =
    let p = and_parts (same_by same_entry v.entries w.entries) (same_by eqb v.held w.held) h in
    ap₂ {C = ScopeBoard} (λ (e : List Entry) (n : List ℕ). record { entries = e; held = n })
    (same_is same_entry same_entry_law v.entries w.entries p.0) (same_is eqb eqb-true v.held w.held p.1)

pub same_board_law : (a b : Board) → same_board a b ≡ true → a ≡ b
unfolding same_board
same_board_law a b h = ap {B = Board} (λ (l : List ScopeBoard). record { scopes = l }) (same_is same_scope_board same_scope_law a.scopes b.scopes h)

entry_same : (a : Entry) → same_entry a a ≡ true
unfolding same_entry
entry_same a = and_both (eq-eqb a.owner a.owner refl) (eq-eqb a.count a.count refl)

scope_same : (v : ScopeBoard) → same_scope_board v v ≡ true
unfolding same_scope_board
scope_same v = and_both (same_self same_entry entry_same v.entries) (same_self eqb (λ n. eq-eqb n n refl) v.held)

pub board_same : (a : Board) → same_board a a ≡ true
unfolding same_board
board_same a = same_self same_scope_board scope_same a.scopes

-- ---- std's equality of boards, which compares field by field and element by element, is it
pointwise_same : {A : Type 0} {e t : A → A → Bool} → ((x y : A) → e x y ≡ t x y) → (xs ys : List A) → pointwise e xs ys ≡ same_by t xs ys
unfolding same_by
pointwise_same h [] [] = refl
pointwise_same h [] (y ∷ ys) = refl
pointwise_same h (x ∷ xs) [] = refl
pointwise_same h (x ∷ xs) (y ∷ ys) = ap₂ (λ (p q : Bool). p && q) (h x y) (pointwise_same h xs ys)

abbrev entries_equal : Entry → Entry → Bool
entries_equal a b = eqb a.owner b.owner && eqb a.count b.count

abbrev scopes_equal : ScopeBoard → ScopeBoard → Bool
scopes_equal v w = pointwise entries_equal v.entries w.entries && pointwise eqb v.held w.held

scope_equal : (v w : ScopeBoard) → scopes_equal v w ≡ same_scope_board v w
unfolding same_scope_board same_entry
scope_equal v w =
    ap₂ (λ (p q : Bool). p && q) (pointwise_same {e = entries_equal} {t = same_entry} (λ x y. refl) v.entries w.entries)
    (pointwise_same {e = eqb} {t = eqb} (λ x y. refl) v.held w.held)

pub board_equal : (a b : Board) → pointwise scopes_equal a.scopes b.scopes ≡ same_board a b
unfolding same_board
board_equal a b = pointwise_same {e = scopes_equal} {t = same_scope_board} scope_equal a.scopes b.scopes
