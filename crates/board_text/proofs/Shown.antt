-- Laws: the lines that an occupancy board gives are those that the leases give, where it is what they say.
use mathlib.Core.List.{List, [], ◌++◌, ◌∷◌, map}
use mathlib.Core.Path.{◌∙◌, ◌≡◌, ap, ap₂, refl}
use Prim.Native.Nat.{◌+◌, ◌<◌, suc, zero, ℕ}
use native.Mathlib.Omega.{arith}
use lib.ListN.{get_or, get_or-map}
use Rattle.address_set.specs.AddressSet.{bit, offsets_from}
use Rattle.board_text.specs.Board.{book_lines, line, line_on, lines_on, scope_lines, scope_on}
use Rattle.lists.specs.Filter.{filter_by}
use Rattle.number_text.specs.Text.{dotted, field, lines_to}
use Rattle.occupancy.specs.Board.{held_in, scope_board_at}
use Rattle.occupancy.specs.declared.Board.{Board}
use Rattle.soundness.specs.Sound.{scopes_in, tenants_in}
use Rattle.state.specs.Board.{board_of, scope_by}
use Rattle.state.specs.Book.{addresses_of, held_count, in_use, laid_out, leases_of, limit_at, reserve_at, scope_at, tenant_at, union_all}
use Rattle.state.specs.declared.LeaseTable.{LeaseTable}
use Rattle.state.specs.declared.State.{State}

-- ---- one holding
module _ (t : LeaseTable) (g : ℕ) where
  tenant_held : (s : ℕ) → get_or (map (held_count s) (leases_of t)) g 0 ≡ held_count s (in_use (tenant_at t g))
  unfolding addresses_of filter_by union_all offsets_from bit laid_out
  tenant_held s = get_or-map (held_count s) (leases_of t) g [] ∙ ap (held_count s) (get_or-map in_use t.tenants g (laid_out []))

  held_said : (k : ℕ) → k < 4 → held_in (scope_board_at (board_of (leases_of t)) k) g ≡ held_count (k + 1) (in_use (tenant_at t g))
  unfolding board_of scope_by
  held_said zero h = tenant_held 1
  held_said (suc zero) h = tenant_held 2
  held_said (suc (suc zero)) h = tenant_held 3
  held_said (suc (suc (suc zero))) h = tenant_held 4
  held_said (suc (suc (suc (suc k)))) h = absurd (omega arith)

-- ---- the lines
lines_alike : (f g : ℕ → List ℕ) (n : ℕ) → ((i : ℕ) → i < n → f i ≡ g i) → lines_to f n ≡ lines_to g n
unfolding lines_to
lines_alike f g zero e = refl
lines_alike f g (suc n) e = ap₂ {C = List ℕ} (λ (x y : List ℕ). x ++ y) (lines_alike f g n (λ i h. e i (omega arith))) (e n (omega arith))

pub lines_same : (s : State) (t : LeaseTable) (b : Board) → b ≡ board_of (leases_of t) → lines_on s b ≡ book_lines s t
unfolding lines_on scope_on line_on book_lines scope_lines line
lines_same s t b e =
    ap (lines_on s) e
    ∙ lines_alike (scope_on s (board_of (leases_of t))) (scope_lines s t) (scopes_in s) (λ k h.
    lines_alike (line_on s (board_of (leases_of t)) k) (line s t k) (tenants_in s) (λ g _.
    ap (λ (n : ℕ). dotted (scope_at s k).lowest ++ field (g + 1) ++ field (reserve_at (scope_at s k) g) ++ field (limit_at (scope_at s k) g) ++ field n ++ 10 ∷ [])
    (held_said t g k (omega arith))))
