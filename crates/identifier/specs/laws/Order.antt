-- Laws: of the order of identifiers, that it is std's of lists, and what a loop that decides it keeps.
use Rattle.std.specs.Prelude.{◌≡◌, refl, Bool, true, false, List, [], ◌∷◌, ℕ, min, length, take, ltb, eqb, cond}
use Rattle.std.proofs.Math.Path.{ap₂}
use Rattle.std.proofs.Common.{ap, ◌∙◌, arith, le_antisymm}
use borrow.Author.Tests.{le-ltb, ltb-true, ltb-false, eqb-true, eqb-false, eq-eqb}
use Rattle.std.specs.declared.cmp.Ordering.{Ordering}
use Rattle.std.specs.declared.cmp.Ordering.TheVariants.{Less, Equal, Greater}
use Rattle.std.specs.Ordering.{is_eq, nat_cmp, ordering_index, ordering_then}
use Rattle.std.specs.Cmp.Lexicographic.{slice_cmp}
use Rattle.lists.specs.Pick.{pick}
use Rattle.lists.specs.laws.Part.{cut_take}
use Rattle.identifier.specs.Order.{order_of, same_of}

-- the order says 1 exactly where the lists are equal
pub order_refl : (x : List ℕ) → order_of x x ≡ 1
unfolding order_of pick
order_refl [] = refl
order_refl (x ∷ xs) = simp (le-ltb x x (omega arith), order_refl xs)

pub order_same : (x y : List ℕ) → order_of x y ≡ 1 → x ≡ y
unfolding order_of pick
order_same [] [] e = refl
order_same [] (y ∷ ys) e = absurd (omega arith)
order_same (x ∷ xs) [] e = absurd (omega arith)
order_same (x ∷ xs) (y ∷ ys) e = go (ltb x y) (ltb y x) refl refl (order_same xs ys) e
  where
    go : (p q : Bool) → ltb x y ≡ p → ltb y x ≡ q → (order_of xs ys ≡ 1 → xs ≡ ys) → pick p 0 (pick q 2 (order_of xs ys)) ≡ 1 → x ∷ xs ≡ y ∷ ys
    go true q a b r e = absurd (omega arith)
    go false true a b r e = absurd (omega arith)
    go false false a b r e = ap₂ {C = List ℕ} (λ (h : ℕ) (t : List ℕ). h ∷ t) (le_antisymm (ltb-false y x b) (ltb-false x y a)) (r e)

-- same exactly where the lists are equal
pub same_true : (x y : List ℕ) → same_of x y ≡ true → x ≡ y
unfolding same_of
same_true x y e = order_same x y (eqb-true _ _ e)

pub same_refl : (x : List ℕ) → same_of x x ≡ true
unfolding same_of
same_refl x = eq-eqb _ _ (order_refl x)

pub same_order : (x y : List ℕ) (o : Ordering) → ordering_index o ≡ order_of x y → is_eq o ≡ same_of x y
unfolding same_of
same_order x y Less e = ap (λ (k : ℕ). eqb k 1) e
same_order x y Equal e = ap (λ (k : ℕ). eqb k 1) e
same_order x y Greater e = ap (λ (k : ℕ). eqb k 1) e

-- ---- as std orders numbers and lists
-- the first two decide, or the rest does
decided : (x y k : ℕ) (o : Ordering) → ordering_index o ≡ k → ordering_index (ordering_then (nat_cmp x y) o) ≡ pick (ltb x y) 0 (pick (ltb y x) 2 k)
unfolding pick
decided x y k o e = go (ltb x y) refl (ltb y x) refl (eqb x y) refl
  where
    go : (p : Bool) → ltb x y ≡ p → (q : Bool) → ltb y x ≡ q → (r : Bool) → eqb x y ≡ r
        → ordering_index (ordering_then (cond p Less (cond r Equal Greater)) o) ≡ pick p 0 (pick q 2 k)
    go true a q b r c = refl
    go false a true b true c = let l = ltb-true y x b in let z = eqb-true x y c in absurd (omega arith)
    go false a true b false c = refl
    go false a false b true c = e
    go false a false b false c = absurd (eqb-false x y c (le_antisymm (ltb-false y x b) (ltb-false x y a)))

pub order_is : (x y : List ℕ) → ordering_index (slice_cmp nat_cmp x y) ≡ order_of x y
unfolding order_of
order_is [] [] = refl
order_is [] (y ∷ ys) = refl
order_is (x ∷ xs) [] = refl
order_is (x ∷ xs) (y ∷ ys) = decided x y (order_of xs ys) (slice_cmp nat_cmp xs ys) (order_is xs ys)

-- of the first octets of two arrays
pub order_cut : (a b : List ℕ) (n k j : ℕ) {p q : ℕ} → length a ≡ n → length b ≡ n → p ≡ min k n → q ≡ min j n
    → ordering_index (slice_cmp nat_cmp (take p a) (take q b)) ≡ order_of (take k a) (take j b)
order_cut a b n k j {p} {q} h g d e =
    order_is (take p a) (take q b)
    ∙ ap₂ order_of (ap (λ (z : ℕ). take z a) d ∙ cut_take n k a h) (ap (λ (z : ℕ). take z b) e ∙ cut_take n j b g)
