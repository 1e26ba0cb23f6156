-- Laws: what a lease more or less leaves as it was: every entry but those of its addresses, and every holding but its tenant's in its scope. They ask
-- nothing of the board.
use Rattle.std.specs.Prelude.{ℕ, zero, suc, ◌+◌, ◌-◌, ◌≡◌, Bool, List, [], ◌∷◌, eqb, get_or}
use Rattle.std.proofs.Math.Path.{refl}
use Rattle.std.proofs.Common.{ap, ◌∙◌, arith}
use Rattle.std.proofs.Math.Bool.{true, false}
use Rattle.std.proofs.Math.Dec.{ltb}
use Rattle.std.proofs.Math.ListN.{set}
use borrow.Author.Tests.{ltb-true, eqb-false}
use Rattle.lists.specs.Pick.{pick}
use Rattle.lists.specs.Fold.{fold}
use Rattle.lists.specs.Filter.{is_in}
use Rattle.address_set.specs.AddressSet.{offsets}
use Rattle.occupancy.specs.declared.Entry.{Entry}
use Rattle.occupancy.specs.declared.ScopeBoard.{ScopeBoard}
use Rattle.occupancy.specs.declared.Board.{Board}
use Rattle.occupancy.specs.Board.{no_scope_board, entry_at, held_in, scope_board_at, more_on, less_on, grown, shrunk, on_offset, altered_by, added_to, taken_from, AltersOnly}
use Rattle.occupancy.specs.laws.Entries.{on_there, fold_others}

-- what is read of the element at place k, where one element is set that reads the same
set_read : {A B : Type 0} (q : A → B) (l : List A) (i k : ℕ) (x d : A) → (k ≡ i → q x ≡ q (get_or l i d)) → q (get_or (set l i x) k d) ≡ q (get_or l k d)
set_read q [] i k x d h = refl
set_read q (y ∷ l) zero zero x d h = h refl
set_read q (y ∷ l) zero (suc k) x d h = refl
set_read q (y ∷ l) (suc i) zero x d h = refl
set_read q (y ∷ l) (suc i) (suc k) x d h = set_read q l i k x d (λ e. h (ap suc e))

-- the entry of an offset that is not altered
fold_stays : (e : Entry → Entry) (d : ℕ → ℕ → ℕ) (g a : ℕ) (xs : List ℕ) (v : ScopeBoard) → is_in a xs ≡ false → entry_at (fold (on_offset e d g) v xs) a ≡ entry_at v a
unfolding is_in pick
fold_stays e d g a [] v h = refl
fold_stays e d g a (x ∷ xs) v h = go (eqb a x) refl h (fold_stays e d g a xs (on_offset e d g v x))
  where
    go : (b : Bool) → eqb a x ≡ b → pick b true (is_in a xs) ≡ false
        → (is_in a xs ≡ false → entry_at (fold (on_offset e d g) (on_offset e d g v x) xs) a ≡ entry_at (on_offset e d g v x) a)
        → entry_at (fold (on_offset e d g) (on_offset e d g v x) xs) a ≡ entry_at v a
    go true q h ih = absurd (let z : ◌≡◌ {A = ℕ} 0 1 = cc in omega arith)
    go false q h ih = ih h ∙ on_there e d g v x a (eqb-false a x q)

-- a tenant's lease more or less in scope s, and the scope at place k, which counts from 0
module _ (e : Entry → Entry) (d : ℕ → ℕ → ℕ) (b : Board) (g s m k : ℕ) where
  stays : {B : Type 0} (q : ScopeBoard → B) → (s ≡ k + 1 → q (fold (on_offset e d g) (scope_board_at b (s - 1)) (offsets m)) ≡ q (scope_board_at b (s - 1)))
      → q (scope_board_at (altered_by (on_offset e d g) b g s m) k) ≡ q (scope_board_at b k)
  unfolding altered_by pick
  stays {B} q h = go (ltb 0 s) refl (ltb (s - 1) 4) (ltb g 8)
    where
      go : (x : Bool) → ltb 0 s ≡ x → (y z : Bool)
          → q (scope_board_at (pick x (pick y (pick z (record { scopes = set b.scopes (s - 1) (fold (on_offset e d g) (scope_board_at b (s - 1)) (offsets m)) }) b) b) b) k) ≡ q (scope_board_at b k)
      go true p true true = let l = ltb-true 0 s p in set_read q b.scopes (s - 1) k _ no_scope_board (λ r. h (omega arith))
      go true p true false = refl
      go true p false z = refl
      go false p y z = refl

  pub altered_entry : (a : ℕ) → (s ≡ k + 1 → is_in a (offsets m) ≡ false) → entry_at (scope_board_at (altered_by (on_offset e d g) b g s m) k) a ≡ entry_at (scope_board_at b k) a
  altered_entry a h = stays (λ v. entry_at v a) (λ r. fold_stays e d g a (offsets m) (scope_board_at b (s - 1)) (h r))

  pub altered_held : (i : ℕ) → (s ≡ k + 1 → i ≡ g → ⊥) → held_in (scope_board_at (altered_by (on_offset e d g) b g s m) k) i ≡ held_in (scope_board_at b k) i
  altered_held i h = stays (λ v. held_in v i) (λ r. fold_others e d g (offsets m) (scope_board_at b (s - 1)) i (h r))

-- so of the two functions that alter a board
pub adds_only : (b : Board) (g s m : ℕ) → AltersOnly b g s m (added_to b g s m)
adds_only b g s m = record { entries = λ k a h. altered_entry (more_on g) grown b g s m k a h; holdings = λ k i h. altered_held (more_on g) grown b g s m k i h }

pub takes_only : (b : Board) (g s m : ℕ) → AltersOnly b g s m (taken_from b g s m)
takes_only b g s m = record { entries = λ k a h. altered_entry less_on shrunk b g s m k a h; holdings = λ k i h. altered_held less_on shrunk b g s m k i h }
