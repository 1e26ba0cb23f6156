-- Laws: what the board's leases say of an offset goes by the leases on it alone, and of a holding by the tenant's leases in the scope; and past what there is they
-- say nothing.
use Rattle.std.specs.Prelude.{ℕ, zero, suc, ◌+◌, ◌≤◌, ◌<◌, ◌≡◌, Bool, eqb, ltb, get_or}
use Rattle.std.proofs.Math.Path.{refl, sym, ap, ap₂}
use Rattle.std.proofs.Common.{◌∙◌, ne_eqb, lt-ltb}
use mathlib.Core.List.{List, [], ◌∷◌, map}
use native.Mathlib.Omega.{arith}
use Rattle.std.proofs.Math.ListN.{length}
use Rattle.lists.specs.Pick.{pick}
use Rattle.lists.specs.Filter.{filter_by}
use Rattle.address_set.specs.AddressSet.{bit, offsets}
use Rattle.address_set.specs.laws.Bits.{bit_le}
use Rattle.occupancy.specs.declared.Entry.{Entry}
use Rattle.occupancy.specs.declared.ScopeBoard.{ScopeBoard}
use Rattle.occupancy.specs.Board.{no_entry, entry_at, held_in, scope_board_at}
use Rattle.state.specs.declared.Lease.{Lease}
use Rattle.state.specs.Book.{addresses_of, held_of, held_count, in_scope, union_all}
use Rattle.state.specs.Board.{is_on, count_in, count_on, owner_from, entry_by, scope_by, board_of}
use Rattle.state.proofs.Board.{entry_said, held_said}
use Rattle.state.proofs.Said.{none_on, owner_none, some_on}

-- a tenant has an offset where it has a lease on it
has_some : (s a : ℕ) (x : List Lease) → eqb (bit (held_of s x) a) 1 ≡ ltb 0 (count_in s a x)
has_some s a x = go (bit (held_of s x) a) refl (bit_le (held_of s x) a) (count_in s a x) refl
  where
    go : (b : ℕ) → bit (held_of s x) a ≡ b → b ≤ 1 → (c : ℕ) → count_in s a x ≡ c → eqb b 1 ≡ ltb 0 c
    go zero e p c f = let z = none_on s a x e in ne_eqb 0 1 (λ q. absurd (omega arith)) ∙ sym (ap (ltb 0) (let w : c ≡ 0 = omega arith in w))
    go (suc zero) e p zero f = let z = some_on s a x f in absurd (omega arith)
    go (suc zero) e p (suc c) f = sym (lt-ltb 0 (suc c) (omega arith))
    go (suc (suc b)) e p c f = absurd (omega arith)

module _ (s a : ℕ) where
  same_owner : (i : ℕ) (ts us : List (List Lease)) → length ts ≡ length us → ((g : ℕ) → count_in s a (get_or ts g []) ≡ count_in s a (get_or us g [])) → owner_from i s a ts ≡ owner_from i s a us
  unfolding owner_from
  same_owner i [] [] n f = refl
  same_owner i [] (y ∷ us) n f = absurd (omega arith)
  same_owner i (x ∷ ts) [] n f = absurd (omega arith)
  same_owner i (x ∷ ts) (y ∷ us) n f =
      ap₂ (λ (b : Bool) (o : ℕ). pick b i o) (has_some s a x ∙ ap (ltb 0) (f 0) ∙ sym (has_some s a y)) (same_owner (suc i) ts us (omega arith) (λ g. f (suc g)))

  same_number : (ts us : List (List Lease)) → length ts ≡ length us → ((g : ℕ) → count_in s a (get_or ts g []) ≡ count_in s a (get_or us g [])) → count_on s a ts ≡ count_on s a us
  unfolding count_on
  same_number [] [] n f = refl
  same_number [] (y ∷ us) n f = absurd (omega arith)
  same_number (x ∷ ts) [] n f = absurd (omega arith)
  same_number (x ∷ ts) (y ∷ us) n f = ap₂ (λ (b c : ℕ). b + c) (f 0) (same_number ts us (omega arith) (λ g. f (suc g)))

  none_number : (ts : List (List Lease)) → ((g : ℕ) → bit (held_of s (get_or ts g [])) a ≡ 0) → count_on s a ts ≡ 0
  unfolding count_on
  none_number [] f = refl
  none_number (x ∷ ts) f = let p = none_on s a x (f 0) in let q = none_number ts (λ g. f (suc g)) in omega arith

  -- an offset whose leases stay
  pub entry_unmoved : (ts us : List (List Lease)) → length ts ≡ length us → ((g : ℕ) → filter_by (is_on s a) (get_or ts g []) ≡ filter_by (is_on s a) (get_or us g [])) → entry_by ts s a ≡ entry_by us s a
  unfolding entry_by count_in
  entry_unmoved ts us n f =
      let c : (g : ℕ) → count_in s a (get_or ts g []) ≡ count_in s a (get_or us g []) = λ g. ap length (f g) in
      ap₂ {C = Entry} (λ (o k : ℕ). record { owner = o; count = k }) (same_owner 1 ts us n c) (same_number ts us n c)

  -- one that no tenant has
  pub entry_none : (ts : List (List Lease)) → ((g : ℕ) → bit (held_of s (get_or ts g [])) a ≡ 0) → entry_by ts s a ≡ no_entry
  unfolding entry_by
  entry_none ts f = ap₂ {C = Entry} (λ (o k : ℕ). record { owner = o; count = k }) (owner_none s a ts f) (none_number ts f)

-- a tenant whose leases in the scope stay
pub held_unmoved : (s : ℕ) (x y : List Lease) → filter_by (in_scope s) x ≡ filter_by (in_scope s) y → held_count s x ≡ held_count s y
unfolding addresses_of
held_unmoved s x y e = ap (λ (ls : List Lease). length (offsets (union_all (map (λ l. l.addresses) ls)))) e

-- ---- what stands at a place of the board that the leases say
board_scope : (ts : List (List Lease)) (k : ℕ) → k < 4 → scope_board_at (board_of ts) k ≡ scope_by ts (k + 1)
unfolding board_of
board_scope ts zero h = refl
board_scope ts (suc zero) h = refl
board_scope ts (suc (suc zero)) h = refl
board_scope ts (suc (suc (suc zero))) h = refl
board_scope ts (suc (suc (suc (suc k)))) h = absurd (omega arith)

pub board_entry : (ts : List (List Lease)) (k a : ℕ) → k < 4 → a < 64 → entry_at (scope_board_at (board_of ts) k) a ≡ entry_by ts (k + 1) a
board_entry ts k a p q = ap (λ (v : ScopeBoard). entry_at v a) (board_scope ts k p) ∙ entry_said ts (k + 1) a q

pub board_held : (ts : List (List Lease)) (k g : ℕ) → k < 4 → g < length ts → held_in (scope_board_at (board_of ts) k) g ≡ held_count (k + 1) (get_or ts g [])
board_held ts k g p q = ap (λ (v : ScopeBoard). held_in v g) (board_scope ts k p) ∙ held_said ts (k + 1) g q
