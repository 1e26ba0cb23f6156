-- Laws: by which `search` goes through a definition that picks by a test on numbers.
use Rattle.std.specs.Prelude.{◌≡◌, refl, Bool, true, false, ℕ, ◌≤◌, ◌<◌, ltb, leb, eqb}
use Rattle.std.proofs.Common.{sym, ◌∙◌, arith, lt-ltb, le-ltb, le-leb, eq-eqb, ne_eqb, eqb-true}
use Rattle.std.proofs.Math.Path.{ap}
use Rattle.std.proofs.lemmas.Bool.{lt-leb, eqb-false}
use Rattle.lists.specs.Pick.{pick}

module _ {A : Type 0} (x y r : A) where
  pub pick_true : (t : Bool) → t ≡ true → r ≡ x → r ≡ pick t x y
  unfolding pick
  pick_true t e p = p ∙ ap (λ (t : Bool). pick t x y) (sym e)

  pub pick_false : (t : Bool) → t ≡ false → r ≡ y → r ≡ pick t x y
  unfolding pick
  pick_false t e p = p ∙ ap (λ (t : Bool). pick t x y) (sym e)

  -- a test that a call made
  pub pick_yes : {q t : Bool} → q ≡ t → q ≡ true → r ≡ x → r ≡ pick t x y
  pick_yes {q} {t} e h p = pick_true t (sym e ∙ h) p

  pub pick_no : {q t : Bool} → q ≡ t → q ≡ false → r ≡ y → r ≡ pick t x y
  pick_no {q} {t} e h p = pick_false t (sym e ∙ h) p

  pub pick_lt : (a b : ℕ) → a < b → r ≡ x → r ≡ pick (ltb a b) x y
  pick_lt a b h p = pick_true _ (lt-ltb a b h) p

  pub pick_not_lt : (a b : ℕ) → b ≤ a → r ≡ y → r ≡ pick (ltb a b) x y
  pick_not_lt a b h p = pick_false _ (le-ltb a b h) p

  pub pick_le : (a b : ℕ) → a ≤ b → r ≡ x → r ≡ pick (leb a b) x y
  pick_le a b h p = pick_true _ (le-leb a b h) p

  pub pick_not_le : (a b : ℕ) → b < a → r ≡ y → r ≡ pick (leb a b) x y
  pick_not_le a b h p = pick_false _ (lt-leb a b h) p

  pub pick_eq : (a b : ℕ) → a ≡ b → r ≡ x → r ≡ pick (eqb a b) x y
  pick_eq a b h p = pick_true _ (eq-eqb a b h) p

  pub pick_not_eq : (a b : ℕ) → (a ≡ b → ⊥) → r ≡ y → r ≡ pick (eqb a b) x y
  pick_not_eq a b h p = pick_false _ (ne_eqb a b h) p

  -- a test on a number that a call gave
  pub pick_eq_got : {q : ℕ} (a b : ℕ) → q ≡ a → q ≡ b → r ≡ x → r ≡ pick (eqb a b) x y
  pick_eq_got a b e h p = pick_true _ (eq-eqb a b (sym e ∙ h)) p

  pub pick_not_eq_got : {q : ℕ} (a b : ℕ) → q ≡ a → (q ≡ b → ⊥) → r ≡ y → r ≡ pick (eqb a b) x y
  pick_not_eq_got a b e h p = pick_false _ (ne_eqb a b (λ z. h (e ∙ z))) p

-- the test itself
pub eqb_got : {q : ℕ} (a b : ℕ) → q ≡ a → eqb q b ≡ eqb a b
eqb_got a b e = ap (λ (k : ℕ). eqb k b) e

pub ruleset gots = (pick_eq_got, pick_not_eq_got, eqb_got)

pub ruleset picks = (pick_lt, pick_not_lt, pick_le, pick_not_le, pick_eq, pick_not_eq)

-- tests that are Booleans: a field or a local, and a call
pub ruleset tests = (pick_true, pick_false)

pub ruleset calls = (pick_yes, pick_no)

-- what tests that hold one after the other say
pub neither : (b c : Bool) → pick b false c ≡ true → (b ≡ false) × (c ≡ true)
unfolding pick
neither true c e = let z : ◌≡◌ {A = ℕ} 0 1 = cc in absurd (omega arith)
neither false c e = (refl, e)

pub both : (b c : Bool) → pick b c false ≡ true → (b ≡ true) × (c ≡ true)
unfolding pick
both true c e = (refl, e)
both false c e = let z : ◌≡◌ {A = ℕ} 0 1 = cc in absurd (omega arith)

-- of a chain of tests, each with the number of its rule, that gives 0: the first holds, and the rest gives 0
pub pick_zero : (b : Bool) (x n : ℕ) → 0 < n → pick b x n ≡ 0 → (b ≡ true) × (x ≡ 0)
unfolding pick
pick_zero true x n h e = (refl, e)
pick_zero false x n h e = absurd (omega arith)

-- and where one more is asked after such a chain
pub pick_zero_last : (n last : ℕ) (b : Bool) → 0 < last → pick (eqb n 0) (pick b 0 last) n ≡ 0 → (n ≡ 0) × (b ≡ true)
unfolding pick
pick_zero_last n last b h e = go (eqb n 0) refl e
  where
    go : (t : Bool) → eqb n 0 ≡ t → pick t (pick b 0 last) n ≡ 0 → (n ≡ 0) × (b ≡ true)
    go true q e = (eqb-true n 0 q, (pick_zero b 0 last h e).0)
    go false q e = absurd (eqb-false n 0 q e)
