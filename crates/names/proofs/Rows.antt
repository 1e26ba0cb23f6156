-- Laws: the loop over values in a row, each of which starts where the one before it ended.
use Rattle.std.specs.Prelude.{◌≡◌, None, Option, Some}
use Rattle.std.proofs.Common.{◌+◌, ◌-◌, ◌<◌, ◌≤◌, arith, inl, inr, refl, subst, suc, ℕ}
use Rattle.format.specs.Place.{Leads}

-- what the rest of n steps lead to, all of them do
pub record On (step : ℕ → Option ℕ → Type 0) (n at here i : ℕ) : Type 0 where
  pub all : (r : Option ℕ) → Leads step (n - i) here r → Leads step n at r

rest : (step : ℕ → Option ℕ → Type 0) (here : ℕ) (r : Option ℕ) {j k : ℕ} → j ≡ k → Leads step j here r → Leads step k here r
rest step here r e w = subst (λ (m : ℕ). Leads step m here r) e w

module _ {step : ℕ → Option ℕ → Type 0} {n at : ℕ} where
  pub on_start : On step n at at 0
  on_start = record { all = λ r w. rest step at r (let e : n - 0 ≡ n = omega arith in e) w }

  module _ {here i : ℕ} (v : On step n at here i) where
    pub on_next : {next : ℕ} → i < n → step here (Some next) → On step n at next (i + 1)
    unfolding Leads
    on_next {next} h p = record { all = λ r w. v.all r (rest step here r (let e : suc (n - (i + 1)) ≡ n - i = omega arith in e) (inl (next, p, w))) }

    pub on_broken : i < n → step here None → Leads step n at None
    unfolding Leads
    on_broken h p = v.all None (rest step here None (let e : suc (n - (i + 1)) ≡ n - i = omega arith in e) (inr (p, refl)))

    pub on_done : n ≤ i → Leads step n at (Some here)
    unfolding Leads
    on_done h = v.all (Some here) (rest step here (Some here) (let e : 0 ≡ n - i = omega arith in e) refl)
