-- Laws: what a walk over a section keeps are those of its entries that break no rule, in their order; and of an ordered section these are ordered.
use mathlib.Core.Bool.{Bool, false, true}
use mathlib.Core.List.{List, [], ◌++◌, ◌∷◌, append_assoc, append-nil}
use mathlib.Core.Path.{◌∙◌, ◌≡◌, ap, refl, subst, sym}
use Prim.Native.Nat.{◌≤◌, suc, ℕ}
use native.Mathlib.Omega.{arith}
use lib.Dec.{eqb}
use lib.ListN.{length, length-append}
use borrow.Author.Tests.{eqb-true}
use Rattle.lists.specs.All.{All}
use Rattle.lists.specs.Fold.{fold}
use Rattle.lists.specs.Pick.{pick}
use Rattle.lists.specs.laws.Pick.{neither}
use Rattle.format.specs.Format.{write_all}
use Rattle.format.specs.Section.{ordered_from}
use Rattle.salvage_walk.specs.Walk.{kept_after, kept_with, rules_in}
use Rattle.salvage_laws.specs.Statement.{kept_ones}

-- K says of what was kept which entries it has: it holds at the end where each step keeps it
module _ {A B : Type 0} (rule : B → A → ℕ) (add : B → A → B) (K : B → List A → Type 0) (P : A → Type 0)
    (step : (b : B) (ks : List A) (x : A) → K b ks → P x → rule b x ≡ 0 → K (add b x) (ks ++ x ∷ [])) where
  pub walk_holds : (b : B) (ks xs : List A) → K b ks → All P xs → K (kept_after rule add b xs) (ks ++ kept_ones (rules_in rule add b xs) xs)
  unfolding rules_in kept_ones All kept_with pick
  walk_holds b ks [] k p = subst (K b) (sym (append-nil ks)) k
  walk_holds b ks (x ∷ xs) k p = go (eqb (rule b x) 0) refl (λ e. walk_holds (add b x) (ks ++ x ∷ []) xs (step b ks x k p.0 e) p.1) (walk_holds b ks xs k p.1)
    where
      go : (t : Bool) → eqb (rule b x) 0 ≡ t → (rule b x ≡ 0 → K (kept_after rule add (add b x) xs) ((ks ++ x ∷ []) ++ kept_ones (rules_in rule add (add b x) xs) xs))
          → K (kept_after rule add b xs) (ks ++ kept_ones (rules_in rule add b xs) xs)
          → K (fold (kept_with rule add) (pick t (add b x) b) xs)
          (ks ++ pick t (x ∷ kept_ones (rules_in rule add (pick t (add b x) b) xs) xs) (kept_ones (rules_in rule add (pick t (add b x) b) xs) xs))
      go true e with_it without = subst (K (kept_after rule add (add b x) xs)) (append_assoc ks (x ∷ []) (kept_ones (rules_in rule add (add b x) xs) xs)) (with_it (eqb-true (rule b x) 0 e))
      go false e with_it without = without

-- ---- what holds of all entries holds of those kept
pub kept_each : {A : Type 0} (P : A → Type 0) (rs : List ℕ) (xs : List A) → All P xs → All P (kept_ones rs xs)
unfolding kept_ones All pick
kept_each P [] xs h = tt
kept_each P (r ∷ rs) [] h = tt
kept_each P (r ∷ rs) (x ∷ xs) h = go (eqb r 0) (kept_each P rs xs h.1)
  where
    go : (b : Bool) → All P (kept_ones rs xs) → All P (pick b (x ∷ kept_ones rs xs) (kept_ones rs xs))
    go true ih = (h.0, ih)
    go false ih = ih

pub kept_fewer : {A : Type 0} (rs : List ℕ) (xs : List A) → length (kept_ones rs xs) ≤ length xs
unfolding kept_ones pick
kept_fewer [] xs = omega arith
kept_fewer (r ∷ rs) [] = omega arith
kept_fewer (r ∷ rs) (x ∷ xs) = go (eqb r 0) (kept_fewer rs xs)
  where
    go : (b : Bool) → length (kept_ones rs xs) ≤ length xs → length (pick b (x ∷ kept_ones rs xs) (kept_ones rs xs)) ≤ suc (length xs)
    go true ih = omega arith
    go false ih = omega arith

-- nor have they more octets
pub kept_shorter : {A : Type 0} (w : A → List ℕ) (rs : List ℕ) (xs : List A) → length (write_all w (kept_ones rs xs)) ≤ length (write_all w xs)
unfolding kept_ones pick write_all
kept_shorter w [] xs = omega arith
kept_shorter w (r ∷ rs) [] = omega arith
kept_shorter w (r ∷ rs) (x ∷ xs) = go (eqb r 0) (kept_shorter w rs xs)
  where
    go : (b : Bool) → length (write_all w (kept_ones rs xs)) ≤ length (write_all w xs) → length (write_all w (pick b (x ∷ kept_ones rs xs) (kept_ones rs xs))) ≤ length (w x ++ write_all w xs)
    go true ih = let a = length-append (w x) (write_all w (kept_ones rs xs)) in let b = length-append (w x) (write_all w xs) in omega arith
    go false ih = let b = length-append (w x) (write_all w xs) in omega arith

-- ---- in order, where what is after the next but one is after the next
module _ {A K : Type 0} (key : A → K) (wrong : K → A → Bool) (trans : (k : K) (x y : A) → wrong k x ≡ false → wrong (key x) y ≡ false → wrong k y ≡ false) where
  order_skip : (k : K) (x : A) (xs : List A) → wrong k x ≡ false → ordered_from key wrong (key x) xs ≡ true → ordered_from key wrong k xs ≡ true
  unfolding ordered_from pick
  order_skip k x [] e o = refl
  order_skip k x (y ∷ ys) e o =
      let p = neither (wrong (key x) y) (ordered_from key wrong (key y) ys) o in
      ap (λ (b : Bool). pick b false (ordered_from key wrong (key y) ys)) (trans k x y e p.0) ∙ p.1

  pub kept_ordered : (k : K) (rs : List ℕ) (xs : List A) → ordered_from key wrong k xs ≡ true → ordered_from key wrong k (kept_ones rs xs) ≡ true
  unfolding kept_ones ordered_from pick
  kept_ordered k [] xs o = refl
  kept_ordered k (r ∷ rs) [] o = refl
  kept_ordered k (r ∷ rs) (x ∷ xs) o =
      let p = neither (wrong k x) (ordered_from key wrong (key x) xs) o in
      go (eqb r 0) p.0 (kept_ordered (key x) rs xs p.1) (kept_ordered k rs xs (order_skip k x xs p.0 p.1))
    where
      go : (b : Bool) → wrong k x ≡ false → ordered_from key wrong (key x) (kept_ones rs xs) ≡ true → ordered_from key wrong k (kept_ones rs xs) ≡ true
          → ordered_from key wrong k (pick b (x ∷ kept_ones rs xs) (kept_ones rs xs)) ≡ true
      go true e with_it without = ap (λ (c : Bool). pick c false (ordered_from key wrong (key x) (kept_ones rs xs))) e ∙ with_it
      go false e with_it without = without
