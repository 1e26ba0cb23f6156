-- Laws: nothing stands on an address of a scope that is not there, and nobody holds one.
use Rattle.std.specs.Prelude.{ℕ, ◌≤◌, ◌≡◌, refl, length}
use Rattle.std.proofs.Common.{ap}
use Rattle.lists.specs.laws.Row.{at_out}
use Rattle.occupancy.specs.declared.ScopeBoard.{ScopeBoard}
use Rattle.occupancy.specs.declared.Board.{Board}
use Rattle.occupancy.specs.Board.{entry_at, held_in, no_entry, no_scope_board, scope_board_at}

module _ (b : Board) (k : ℕ) (e : length b.scopes ≡ 4) (p : 4 ≤ k) where
  none_there : no_scope_board ≡ scope_board_at b k
  none_there = at_out b.scopes 4 k no_scope_board no_scope_board e p refl

  pub no_entry_law : (a : ℕ) → no_entry ≡ entry_at (scope_board_at b k) a
  no_entry_law a = ap (λ (v : ScopeBoard). entry_at v a) none_there

  pub no_holding : (g : ℕ) → 0 ≡ held_in (scope_board_at b k) g
  no_holding g = ap (λ (v : ScopeBoard). held_in v g) none_there
