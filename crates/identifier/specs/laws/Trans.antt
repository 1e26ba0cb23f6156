-- Laws: the order of identifiers: transitive, and total.
use Rattle.std.specs.Prelude.{◌≡◌, refl, ◌⊎◌, Bool, true, false, List, [], ◌∷◌, ℕ, ◌<◌, ltb}
use Rattle.std.proofs.Common.{sym, ap, ap₂, ◌∙◌, inl, inr, ⊎_elim, arith, le_antisymm, lt-ltb, le-ltb, ltb-true, ltb-false}
use Rattle.lists.specs.Pick.{pick}
use Rattle.identifier.specs.Order.{order_of}

-- one octet decides, or the rest does
less_cases : (x y r : ℕ) → pick (ltb x y) 0 (pick (ltb y x) 2 r) ≡ 0 → (x < y) ⊎ ((x ≡ y) × (r ≡ 0))
unfolding pick
less_cases x y r h = go (ltb x y) (ltb y x) refl refl h
  where
    go : (p q : Bool) → ltb x y ≡ p → ltb y x ≡ q → pick p 0 (pick q 2 r) ≡ 0 → (x < y) ⊎ ((x ≡ y) × (r ≡ 0))
    go true q a b h = inl (ltb-true x y a)
    go false true a b h = absurd (omega arith)
    go false false a b h = inr (le_antisymm (ltb-false y x b) (ltb-false x y a), h)

less_lt : (x y r : ℕ) → x < y → pick (ltb x y) 0 (pick (ltb y x) 2 r) ≡ 0
unfolding pick
less_lt x y r h = ap (λ (p : Bool). pick p 0 (pick (ltb y x) 2 r)) (lt-ltb x y h)

less_eq : (x y r : ℕ) → x ≡ y → pick (ltb x y) 0 (pick (ltb y x) 2 r) ≡ r
unfolding pick
less_eq x y r e = ap₂ (λ (p q : Bool). pick p 0 (pick q 2 r)) (le-ltb x y (omega arith)) (le-ltb y x (omega arith))

pub order_trans : (x y z : List ℕ) → order_of x y ≡ 0 → order_of y z ≡ 0 → order_of x z ≡ 0
unfolding order_of pick
order_trans [] [] z p q = absurd (omega arith)
order_trans [] (y ∷ ys) [] p q = absurd (omega arith)
order_trans [] (y ∷ ys) (z ∷ zs) p q = refl
order_trans (x ∷ xs) [] z p q = absurd (omega arith)
order_trans (x ∷ xs) (y ∷ ys) [] p q = absurd (omega arith)
order_trans (x ∷ xs) (y ∷ ys) (z ∷ zs) p q =
    ⊎_elim
    (λ a. ⊎_elim (λ b. less_lt x z _ (omega arith)) (λ b. let e = b.0 in less_lt x z _ (omega arith)) (less_cases y z (order_of ys zs) q))
    (λ a. let d = a.0 in
    ⊎_elim (λ b. less_lt x z _ (omega arith)) (λ b. let e = b.0 in less_eq x z _ (d ∙ e) ∙ order_trans xs ys zs a.1 b.1) (less_cases y z (order_of ys zs) q))
    (less_cases x y (order_of xs ys) p)

-- neither before nor the same: after
pub order_total : (x y : List ℕ) → (order_of x y ≡ 0 → ⊥) → (order_of x y ≡ 1 → ⊥) → order_of y x ≡ 0
unfolding order_of pick
order_total [] [] n0 n1 = absurd (n1 refl)
order_total [] (y ∷ ys) n0 n1 = absurd (n0 refl)
order_total (x ∷ xs) [] n0 n1 = refl
order_total (x ∷ xs) (y ∷ ys) n0 n1 = go (ltb x y) (ltb y x) refl refl (order_total xs ys)
  where
    go : (p q : Bool) → ltb x y ≡ p → ltb y x ≡ q → ((order_of xs ys ≡ 0 → ⊥) → (order_of xs ys ≡ 1 → ⊥) → order_of ys xs ≡ 0) → pick (ltb y x) 0 (pick (ltb x y) 2 (order_of ys xs)) ≡ 0
    go true q a b ih = absurd (n0 (less_lt x y _ (ltb-true x y a)))
    go false true a b ih = less_lt y x _ (ltb-true y x b)
    go false false a b ih =
        let e : x ≡ y = le_antisymm (ltb-false y x b) (ltb-false x y a) in
        less_eq y x _ (sym e) ∙ ih (λ z. n0 (less_eq x y _ e ∙ z)) (λ z. n1 (less_eq x y _ e ∙ z))
