-- Laws: of sums below a bound, and the loop that adds octets.
use Rattle.std.specs.Prelude.{◌≡◌, refl, Bool, true, false, ℕ, zero, suc, ◌+◌, ◌*◌, ◌≤◌, ◌<◌, eqb}
use Rattle.std.proofs.Common.{sym, ap, ap₂, ◌∙◌, arith, add-one, ne_eqb, eqb-true}
use Rattle.std.proofs.lemmas.Bool.{eqb-false}
use Rattle.lists.specs.Pick.{pick}
use Rattle.lists.specs.Sums.{sum_to, except}

pub sum_one_more : (f : ℕ → ℕ) (n : ℕ) → sum_to f (n + 1) ≡ sum_to f n + f n
unfolding sum_to
sum_one_more f n = ap (sum_to f) (add-one n)

pub sum_same : (f g : ℕ → ℕ) (n : ℕ) → ((i : ℕ) → i < n → f i ≡ g i) → sum_to f n ≡ sum_to g n
unfolding sum_to
sum_same f g zero h = refl
sum_same f g (suc n) h = ap₂ (λ (x y : ℕ). x + y) (sum_same f g n (λ i p. h i (omega arith))) (h n (omega arith))

pub sum_split : (f : ℕ → ℕ) (n h : ℕ) → h < n → sum_to f n ≡ sum_to (except h f) n + f h
unfolding sum_to except pick
sum_split f zero h p = absurd (omega arith)
sum_split f (suc n) h p = go (eqb n h) refl (sum_split f n h)
  where
    before : n ≤ h → sum_to f n ≡ sum_to (except h f) n
    before q = sum_same f (except h f) n (λ i r. sym (ap (λ (b : Bool). pick b 0 (f i)) (ne_eqb i h (λ z. absurd (omega arith)))))

    go : (b : Bool) → eqb n h ≡ b → (h < n → sum_to f n ≡ sum_to (except h f) n + f h) → sum_to f n + f n ≡ sum_to (except h f) n + pick b 0 (f n) + f h
    go true e ih =
        let z : n ≡ h = eqb-true n h e in
        let w : f n ≡ f h = ap f z in
        let u = before (omega arith) in
        omega arith
    go false e ih = let z = eqb-false n h e in let u = ih (omega arith) in omega arith

-- what a loop that adds octets keeps
pub record SumInv (f : ℕ → ℕ) (n acc i : ℕ) : Type 0 where
  pub within : i ≤ n
  pub whole : acc ≡ sum_to f i
  pub small : acc ≤ 255 * i

pub sum_start : {f : ℕ → ℕ} {n : ℕ} → SumInv f n 0 0
unfolding sum_to
sum_start = record { within = omega arith; whole = refl; small = omega arith }

module _ {f : ℕ → ℕ} {n acc i : ℕ} (v : SumInv f n acc i) where
  pub sum_next : {r : ℕ} → i < n → r ≡ f i → r < 256 → SumInv f n (acc + r) (i + 1)
  sum_next {r} h e s = record {
    within = omega arith;
    whole = ap₂ (λ (x y : ℕ). x + y) v.whole e ∙ sym (sum_one_more f i);
    small = omega (arith, v.small);
  }

  pub sum_end : n ≤ i → acc ≡ sum_to f n
  sum_end h = let e : i ≡ n = omega (arith, v.within) in v.whole ∙ ap (sum_to f) e

  pub sum_small : n ≤ i → acc ≤ 255 * n
  sum_small h = omega (arith, v.within, v.small)

pub ruleset sums = (sum_start, sum_next, sum_end, sum_small)
