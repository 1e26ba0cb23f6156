-- Laws: of the largest number that passes a test.
use Rattle.std.specs.Prelude.{◌≡◌, refl, Bool, true, false, ℕ, zero, suc, ◌≤◌, ◌<◌, min, leb}
use Rattle.std.proofs.Common.{ap, ap₂, ◌∙◌, arith, leb-true, leb-false}
use Rattle.lists.specs.Pick.{pick}
use Rattle.lists.specs.Down.{largest}

-- it passes the test, and none above it does
pub largest_passes : (p : ℕ → Bool) (n : ℕ) → 0 < largest p n → p (largest p n) ≡ true
unfolding largest pick
largest_passes p zero h = absurd (omega arith)
largest_passes p (suc n) h = go (p (suc n)) refl (largest_passes p n) h
  where
    go : (b : Bool) → p (suc n) ≡ b → (0 < largest p n → p (largest p n) ≡ true) → 0 < pick b (suc n) (largest p n) → p (pick b (suc n) (largest p n)) ≡ true
    go true e ih h = e
    go false e ih h = ih h

-- where the numbers up to m pass and no other does
pub largest_closed : (p : ℕ → Bool) (m n : ℕ) → ((k : ℕ) → k ≤ m → p k ≡ true) → ((k : ℕ) → m < k → p k ≡ false) → largest p n ≡ min n m
unfolding largest pick
largest_closed p m zero ok ko = omega arith
largest_closed p m (suc n) ok ko = go (leb (suc n) m) refl (largest_closed p m n ok ko)
  where
    go : (t : Bool) → leb (suc n) m ≡ t → largest p n ≡ min n m → pick (p (suc n)) (suc n) (largest p n) ≡ min (suc n) m
    go true e ih = let h = leb-true (suc n) m e in ap (λ (b : Bool). pick b (suc n) (largest p n)) (ok (suc n) h) ∙ omega arith
    go false e ih = let h = leb-false (suc n) m e in ap (λ (b : Bool). pick b (suc n) (largest p n)) (ko (suc n) h) ∙ omega arith

-- where no number passes
pub largest_none : (p : ℕ → Bool) (n : ℕ) → ((k : ℕ) → p k ≡ false) → largest p n ≡ 0
unfolding largest pick
largest_none p zero ko = refl
largest_none p (suc n) ko = ap (λ (b : Bool). pick b (suc n) (largest p n)) (ko (suc n)) ∙ largest_none p n ko

-- the same test, the same number
pub largest_same : (p q : ℕ → Bool) (n : ℕ) → ((k : ℕ) → p k ≡ q k) → largest p n ≡ largest q n
unfolding largest
largest_same p q zero h = refl
largest_same p q (suc n) h = ap₂ (λ (b : Bool) (x : ℕ). pick b (suc n) x) (h (suc n)) (largest_same p q n h)
