-- Laws: of the address sets of lists of leases.
use Rattle.std.specs.Prelude.{◌≡◌, Bool, ◌&&◌, ℕ}
use Rattle.std.proofs.Math.Path.{refl, sym, ap}
use Rattle.std.proofs.Common.{◌∙◌, eq-eqb, ne_eqb}
use mathlib.Core.List.{List, [], ◌∷◌, ◌++◌, map}
use Rattle.std.proofs.Math.Bool.{true, false}
use Rattle.std.specs.Int.Bits.{bit_or, or_zero_r, or_zero_l}
use Rattle.std.proofs.lemmas.Nat.{or_comm}
use Rattle.lists.specs.Pick.{pick}
use Rattle.lists.specs.Fold.{fold}
use Rattle.lists.specs.Filter.{filter_by}
use Rattle.lists.specs.Reordered.{Reordered}
use Rattle.lists.specs.laws.Reordered.{gather, gather_same}
use Rattle.address_set.specs.laws.Bits.{or_assoc}
use Rattle.state.specs.declared.Lease.{Lease}
use Rattle.state.specs.Book.{union_all, addresses_of, in_scope, overlaps, used_in, added_if, insert_of}
use Rattle.state.specs.laws.Sorted.{insert_same}

-- what one lease adds
abbrev pub adds : (Lease → Bool) → Lease → ℕ
adds t l = pick (t l) l.addresses 0

module _ (t : Lease → Bool) where
  pub addresses_cons : (l : Lease) (ls : List Lease) → addresses_of t (l ∷ ls) ≡ bit_or (adds t l) (addresses_of t ls)
  unfolding addresses_of filter_by union_all pick
  addresses_cons l ls = go (t l)
    where
      go : (b : Bool) → union_all (map (λ l. l.addresses) (pick b (l ∷ filter_by t ls) (filter_by t ls))) ≡ bit_or (pick b l.addresses 0) (addresses_of t ls)
      go true = refl
      go false = sym (or_zero_l (addresses_of t ls))

  pub addresses_append : (x y : List Lease) → addresses_of t (x ++ y) ≡ bit_or (addresses_of t x) (addresses_of t y)
  unfolding addresses_of filter_by union_all
  addresses_append [] y = sym (or_zero_l (addresses_of t y))
  addresses_append (l ∷ x) y =
      addresses_cons l (x ++ y) ∙ ap (bit_or (adds t l)) (addresses_append x y) ∙ sym (or_assoc (adds t l) (addresses_of t x) (addresses_of t y))
      ∙ ap (λ (z : ℕ). bit_or z (addresses_of t y)) (sym (addresses_cons l x))

  -- the loop that gathers them
  added : (sum : ℕ) (l : Lease) → added_if t sum l ≡ bit_or sum (adds t l)
  unfolding added_if pick
  added sum l = go (t l)
    where
      go : (b : Bool) → pick b (bit_or sum l.addresses) sum ≡ bit_or sum (pick b l.addresses 0)
      go true = refl
      go false = sym (or_zero_r sum)

  added_from : (sum : ℕ) (ls : List Lease) → fold (added_if t) sum ls ≡ bit_or sum (addresses_of t ls)
  unfolding addresses_of filter_by union_all
  added_from sum [] = sym (or_zero_r sum)
  added_from sum (l ∷ ls) =
      added_from (added_if t sum l) ls ∙ ap (λ (x : ℕ). bit_or x (addresses_of t ls)) (added sum l) ∙ or_assoc sum (adds t l) (addresses_of t ls)
      ∙ ap (bit_or sum) (sym (addresses_cons l ls))

  pub added_is : (ls : List Lease) → fold (added_if t) 0 ls ≡ addresses_of t ls
  added_is ls = added_from 0 ls ∙ or_zero_l (addresses_of t ls)

  swap : (a b c : ℕ) → bit_or a (bit_or b c) ≡ bit_or b (bit_or a c)
  swap a b c = sym (or_assoc a b c) ∙ ap (λ (z : ℕ). bit_or z c) (or_comm a b) ∙ or_assoc b a c

  -- the order of leases is nothing to their addresses
  gathered : (ls : List Lease) → addresses_of t ls ≡ gather (λ l n. bit_or (adds t l) n) 0 ls
  unfolding addresses_of filter_by union_all
  gathered [] = refl
  gathered (l ∷ ls) = addresses_cons l ls ∙ ap (bit_or (adds t l)) (gathered ls)

  pub addresses_reordered : {x y : List Lease} → Reordered x y → addresses_of t x ≡ addresses_of t y
  addresses_reordered {x} {y} d = gathered x ∙ gather_same (λ l n. bit_or (adds t l) n) 0 (λ a b c. swap (adds t a) (adds t b) c) d ∙ sym (gathered y)

  -- a new lease adds its addresses
  pub insert_addresses : (l : Lease) (ls : List Lease) → addresses_of t (insert_of l ls) ≡ bit_or (adds t l) (addresses_of t ls)
  insert_addresses l ls = addresses_reordered (insert_same l ls) ∙ addresses_cons l ls

-- ---- the turns of the code
pub add_yes : (t : Lease → Bool) (sum : ℕ) (l : Lease) → t l ≡ true → bit_or sum l.addresses ≡ added_if t sum l
unfolding added_if pick
add_yes t sum l e = sym (ap (λ (b : Bool). pick b (bit_or sum l.addresses) sum) e)

pub add_no : (t : Lease → Bool) (sum : ℕ) (l : Lease) → t l ≡ false → sum ≡ added_if t sum l
unfolding added_if pick
add_no t sum l e = sym (ap (λ (b : Bool). pick b (bit_or sum l.addresses) sum) e)

module _ (s sum : ℕ) (l : Lease) where
  pub held_in : l.scope ≡ s → bit_or sum l.addresses ≡ added_if (in_scope s) sum l
  held_in e = add_yes (in_scope s) sum l (eq-eqb _ _ e)

  pub held_out : (l.scope ≡ s → ⊥) → sum ≡ added_if (in_scope s) sum l
  held_out e = add_no (in_scope s) sum l (ne_eqb _ _ e)

  module _ (from to : ℕ) where
    pub busy_in_law : {q : Bool} → l.scope ≡ s → q ≡ overlaps from to l → q ≡ true → bit_or sum l.addresses ≡ added_if (used_in s from to) sum l
    unfolding used_in
    busy_in_law e p y = add_yes (used_in s from to) sum l (ap (λ (b : Bool). b && overlaps from to l) (eq-eqb _ _ e) ∙ sym p ∙ y)

    pub busy_free : {q : Bool} → l.scope ≡ s → q ≡ overlaps from to l → q ≡ false → sum ≡ added_if (used_in s from to) sum l
    unfolding used_in
    busy_free e p n = add_no (used_in s from to) sum l (ap (λ (b : Bool). b && overlaps from to l) (eq-eqb _ _ e) ∙ sym p ∙ n)

    pub busy_out : (l.scope ≡ s → ⊥) → sum ≡ added_if (used_in s from to) sum l
    unfolding used_in
    busy_out e = add_no (used_in s from to) sum l (ap (λ (b : Bool). b && overlaps from to l) (ne_eqb _ _ e))
