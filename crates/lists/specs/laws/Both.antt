-- Laws: by which `search` goes through tests joined by `&&` and `||`.
use Rattle.std.specs.Prelude.{◌≡◌, refl, Bool, true, false, ◌&&◌, ◌||◌, List, [], ◌∷◌, ℕ, ◌≤◌, ◌<◌, ltb, leb, eqb}
use Rattle.std.proofs.Common.{sym, ap, ap₂, ◌∙◌, arith, lt-ltb, le-ltb, le-leb, eq-eqb, ne_eqb}
use Rattle.lists.specs.Pick.{pick}
use Rattle.lists.specs.All.{all_by, pairs_by}
use Rattle.std.proofs.lemmas.Bool.{lt-leb}

module _ (y r : Bool) where
  pub and_true : (t : Bool) → t ≡ true → r ≡ y → r ≡ (t && y)
  and_true t e p = p ∙ ap (λ (t : Bool). t && y) (sym e)

  pub and_false : (t : Bool) → t ≡ false → r ≡ false → r ≡ (t && y)
  and_false t e p = p ∙ ap (λ (t : Bool). t && y) (sym e)

  pub or_true : (t : Bool) → t ≡ true → r ≡ true → r ≡ (t || y)
  or_true t e p = p ∙ ap (λ (t : Bool). t || y) (sym e)

  pub or_false : (t : Bool) → t ≡ false → r ≡ y → r ≡ (t || y)
  or_false t e p = p ∙ ap (λ (t : Bool). t || y) (sym e)

  -- a test that a call made
  pub and_yes : {q t : Bool} → q ≡ t → q ≡ true → r ≡ y → r ≡ (t && y)
  and_yes {q} {t} e h p = and_true t (sym e ∙ h) p

  pub and_no : {q t : Bool} → q ≡ t → q ≡ false → r ≡ false → r ≡ (t && y)
  and_no {q} {t} e h p = and_false t (sym e ∙ h) p

  pub or_yes : {q t : Bool} → q ≡ t → q ≡ true → r ≡ true → r ≡ (t || y)
  or_yes {q} {t} e h p = or_true t (sym e ∙ h) p

  pub or_no : {q t : Bool} → q ≡ t → q ≡ false → r ≡ y → r ≡ (t || y)
  or_no {q} {t} e h p = or_false t (sym e ∙ h) p

  module _ (a b : ℕ) where
    pub and_lt : a < b → r ≡ y → r ≡ (ltb a b && y)
    and_lt h p = and_true _ (lt-ltb a b h) p

    pub and_not_lt : b ≤ a → r ≡ false → r ≡ (ltb a b && y)
    and_not_lt h p = and_false _ (le-ltb a b h) p

    pub and_le : a ≤ b → r ≡ y → r ≡ (leb a b && y)
    and_le h p = and_true _ (le-leb a b h) p

    pub and_not_le : b < a → r ≡ false → r ≡ (leb a b && y)
    and_not_le h p = and_false _ (lt-leb a b h) p

    pub and_eq : a ≡ b → r ≡ y → r ≡ (eqb a b && y)
    and_eq h p = and_true _ (eq-eqb a b h) p

    pub and_not_eq : (a ≡ b → ⊥) → r ≡ false → r ≡ (eqb a b && y)
    and_not_eq h p = and_false _ (ne_eqb a b h) p

    pub or_lt : a < b → r ≡ true → r ≡ (ltb a b || y)
    or_lt h p = or_true _ (lt-ltb a b h) p

    pub or_not_lt : b ≤ a → r ≡ y → r ≡ (ltb a b || y)
    or_not_lt h p = or_false _ (le-ltb a b h) p

    pub or_le : a ≤ b → r ≡ true → r ≡ (leb a b || y)
    or_le h p = or_true _ (le-leb a b h) p

    pub or_not_le : b < a → r ≡ y → r ≡ (leb a b || y)
    or_not_le h p = or_false _ (lt-leb a b h) p

    pub or_eq : a ≡ b → r ≡ true → r ≡ (eqb a b || y)
    or_eq h p = or_true _ (eq-eqb a b h) p

    pub or_not_eq : (a ≡ b → ⊥) → r ≡ y → r ≡ (eqb a b || y)
    or_not_eq h p = or_false _ (ne_eqb a b h) p

  -- a number that a call gave
  module _ {q : ℕ} (a b : ℕ) (e : q ≡ a) where
    pub and_eq_got : q ≡ b → r ≡ y → r ≡ (eqb a b && y)
    and_eq_got h p = and_true _ (eq-eqb a b (sym e ∙ h)) p

    pub and_not_eq_got : (q ≡ b → ⊥) → r ≡ false → r ≡ (eqb a b && y)
    and_not_eq_got h p = and_false _ (ne_eqb a b (λ z. h (e ∙ z))) p

pub ruleset and_gots = (and_eq_got, and_not_eq_got)

pub ruleset ands = (and_lt, and_not_lt, and_le, and_not_le, and_eq, and_not_eq)

pub ruleset ors = (or_lt, or_not_lt, or_le, or_not_le, or_eq, or_not_eq)

-- tests that are calls
pub ruleset joins = (and_yes, and_no, or_yes, or_no)

-- ---- taking a joined test apart
pub and_parts : (a b : Bool) → (a && b) ≡ true → (a ≡ true) × (b ≡ true)
and_parts true b h = (refl, h)
and_parts false b h = absurd (let z : ◌≡◌ {A = ℕ} 0 1 = cc in omega arith)

pub and_both : {a b : Bool} → a ≡ true → b ≡ true → (a && b) ≡ true
and_both {a} {b} p q = ap (λ (t : Bool). t && b) p ∙ q

-- ---- joined tests over a list
swap4 : (a b c d : Bool) → ((a && b) && (c && d)) ≡ ((a && c) && (b && d))
swap4 true true c d = refl
swap4 true false true d = refl
swap4 true false false d = refl
swap4 false b c d = refl

step : (a r : Bool) → pick a r false ≡ (a && r)
unfolding pick
step true r = refl
step false r = refl

pub all_and : {A : Type 0} (t u : A → Bool) (l : List A) → all_by (λ x. t x && u x) l ≡ (all_by t l && all_by u l)
unfolding all_by
all_and t u [] = refl
all_and t u (x ∷ l) =
    step (t x && u x) (all_by (λ x. t x && u x) l) ∙ ap (λ (b : Bool). (t x && u x) && b) (all_and t u l) ∙ swap4 (t x) (u x) (all_by t l) (all_by u l)
    ∙ sym (ap₂ (λ (a b : Bool). a && b) (step (t x) (all_by t l)) (step (u x) (all_by u l)))

pub pairs_and : {A : Type 0} (t u : A → A → Bool) (l : List A) → pairs_by (λ x y. t x y && u x y) l ≡ (pairs_by t l && pairs_by u l)
unfolding pairs_by
pairs_and t u [] = refl
pairs_and t u (x ∷ l) =
    step (all_by (λ y. t x y && u x y) l) (pairs_by (λ x y. t x y && u x y) l) ∙ ap₂ (λ (a b : Bool). a && b) (all_and (t x) (u x) l) (pairs_and t u l)
    ∙ swap4 (all_by (t x) l) (all_by (u x) l) (pairs_by t l) (pairs_by u l)
    ∙ sym (ap₂ (λ (a b : Bool). a && b) (step (all_by (t x) l) (pairs_by t l)) (step (all_by (u x) l) (pairs_by u l)))
