-- Laws: one for each kind of row that is written, an element a turn.
use mathlib.Core.List.{List, [], ◌∷◌}
use mathlib.Core.Path.{◌∙◌, ◌≡◌, ap, refl, sym}
use Prim.Native.Nat.{◌+◌, ◌<◌, ◌≤◌, min, suc, zero, ℕ}
use native.Mathlib.Omega.{arith}
use lib.ListN.{get_or, length, take}
use Rattle.octets.specs.laws.Octets.{wrote_as}
use Rattle.octets.specs.Octets.{Wrote}
use Rattle.state.specs.laws.Layout.{no_scope}
use Rattle.state.specs.declared.ClientRange.{ClientRange}
use Rattle.state.specs.declared.Scope.{Scope}
use Rattle.state_file.specs.File.{FilePart, scope_format, tenant_format}
use Rattle.state_file.specs.Records.{filed_scope, pair_up, zero_range}
use Rattle.format.specs.Rows.{write_from}
use Rattle.format.specs.laws.Rows.{RowInv, row_end, row_next, row_room, row_start, rows}
use Rattle.state_file.specs.Rows.{part_row, range_row, scope_row}

-- the same for each kind of row, where the search meets the octets and not their name
module _ {rs : List ClientRange} {m c n : ℕ} {r₀ : List ℕ} {at : ℕ} {buffer : List ℕ} {to i : ℕ} (v : RowInv range_row zero_range rs m c n r₀ at buffer to i) where
  pub range_room : i < n → to + 8 ≤ length buffer
  unfolding range_row
  range_room h = row_room v h

  pub range_next : {r₁ : List ℕ} {k : ℕ} → i < n → Wrote buffer to (tenant_format.write (get_or rs i zero_range)) r₁ k → length r₁ ≡ length buffer → RowInv range_row zero_range rs m c n r₀ at r₁ k (i + 1)
  unfolding range_row
  range_next h p q = row_next v h p q

module _ (h : ℕ) {cs : List Scope} {m c n : ℕ} {r₀ : List ℕ} {at : ℕ} {buffer : List ℕ} {to i : ℕ} (v : RowInv (scope_row h) no_scope cs m c n r₀ at buffer to i) where
  pub scope_room : i < n → to + length ((scope_format h).write (filed_scope h (get_or cs i no_scope))) ≤ length buffer
  unfolding scope_row
  scope_room l = row_room v l

  pub scope_next : {r₁ : List ℕ} {k : ℕ} → i < n → Wrote buffer to ((scope_format h).write (filed_scope h (get_or cs i no_scope))) r₁ k → length r₁ ≡ length buffer → RowInv (scope_row h) no_scope cs m c n r₀ at r₁ k (i + 1)
  unfolding scope_row
  scope_next l p q = row_next v l p q

-- a count that is made wider and then cut
pub wide_cut : (m : ℕ) {x y n : ℕ} → y ≡ x → n ≡ min y m → n ≡ min x m
wide_cut m p q = q ∙ ap (λ (z : ℕ). min z m) p

-- a scope's parts stand in two arrays
pub pair_length : (n : ℕ) (a b : List ℕ) → length a ≡ n → length b ≡ n → length (pair_up a b) ≡ n
unfolding pair_up
pair_length n [] b p q = p
pair_length zero (x ∷ a) b p q = absurd (omega arith)
pair_length (suc n) (x ∷ a) [] p q = absurd (omega arith)
pair_length (suc n) (x ∷ a) (y ∷ b) p q = ap suc (pair_length n a b (let e : length a ≡ n = omega arith in e) (let e : length b ≡ n = omega arith in e))

pub pair_get : (n i : ℕ) (a b : List ℕ) (d : FilePart) → length a ≡ n → length b ≡ n → i < n → get_or (pair_up a b) i d ≡ record { reserve = get_or a i 0; limit = get_or b i 0 }
unfolding pair_up
pair_get n i [] b d p q h = absurd (omega arith)
pair_get zero i (x ∷ a) b d p q h = absurd (omega arith)
pair_get (suc n) i (x ∷ a) [] d p q h = absurd (omega arith)
pair_get (suc n) zero (x ∷ a) (y ∷ b) d p q h = refl
pair_get (suc n) (suc i) (x ∷ a) (y ∷ b) d p q h = pair_get n i a b d (let e : length a ≡ n = omega arith in e) (let e : length b ≡ n = omega arith in e) (let e : i < n = omega arith in e)

abbrev pub no_part : FilePart
no_part = record { reserve = 0; limit = 0 }

pub record PairInv (a b : List ℕ) (c n : ℕ) (r₀ : List ℕ) (at : ℕ) (buffer : List ℕ) (to i : ℕ) : Type 0 where
  pub one : length a ≡ 8
  pub other : length b ≡ 8
  pub small : n ≤ 8
  pub row : RowInv part_row no_part (pair_up a b) 8 c n r₀ at buffer to i

pub pair_start : {a b : List ℕ} {c n : ℕ} {r₀ : List ℕ} {at : ℕ} → length a ≡ 8 → length b ≡ 8 → n ≡ min c 8 → at + length (write_from part_row 0 (take c (pair_up a b))) ≤ length r₀ → PairInv a b c n r₀ at r₀ at 0
pair_start {a} {b} p q e h = record { one = p; other = q; small = omega arith; row = row_start e (pair_length 8 a b p q) h }

module _ {a b : List ℕ} {c n : ℕ} {r₀ : List ℕ} {at : ℕ} {buffer : List ℕ} {to i : ℕ} (v : PairInv a b c n r₀ at buffer to i) where
  pub pair_room : i < n → to + 2 ≤ length buffer
  unfolding part_row
  pair_room h = row_room v.row h

  pub pair_next : {r₁ : List ℕ} {k : ℕ} → i < n → Wrote buffer to (get_or a i 0 ∷ get_or b i 0 ∷ []) r₁ k → length r₁ ≡ length buffer → PairInv a b c n r₀ at r₁ k (i + 1)
  unfolding part_row
  pair_next h p q = record {
    one = v.one;
    other = v.other;
    small = v.small;
    row = row_next v.row h (wrote_as (ap (part_row i) (sym (pair_get 8 i a b no_part v.one v.other (omega (arith, v.small))))) p) q;
  }

  pub pair_end : n ≤ i → Wrote r₀ at (write_from part_row 0 (take c (pair_up a b))) buffer to
  pair_end h = row_end v.row h

pub ruleset range_rows = (range_room, range_next, wide_cut, rows)

pub ruleset scope_rows = (scope_room, scope_next, wide_cut, rows)

pub ruleset pair_rows = (wide_cut, pair_start, pair_room, pair_next, pair_end)
