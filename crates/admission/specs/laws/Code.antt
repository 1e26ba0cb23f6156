-- Laws: between the tests and the code.
use Rattle.std.specs.Prelude.{◌≡◌, refl, ℕ, suc, ◌+◌, ◌<◌, ◌≤◌, Bool, true, false, not, cond, Option, Some, None, MatchOption, unwrap_or, List, [], ◌∷◌, length, ltb}
use Rattle.std.specs.List.{position_or_len}
use Rattle.std.proofs.Common.{ap, ap₂, ◌∙◌, arith, ltb-false, ltb-true}
use Rattle.lists.specs.Pick.{pick}
use Rattle.lists.specs.Place.{place_by}
use Rattle.message.specs.declared.Fields.{Fields}
use Rattle.state.specs.declared.State.{State}
use Rattle.soundness.specs.Sound.{scopes_in}
use Rattle.admission.specs.Tests.{there_and, scope_in, scope_place, knows_scope}

pub not_got : {q t : Bool} → q ≡ t → not q ≡ not t
not_got e = ap not e

-- ---- a value that is there
-- what `is_some_and` says: P is what its closure ensures
pub there_got : {A : Type 0} {P : A → Type 0} (t : A → Bool) (o : Option A) (r : Bool) → MatchOption o (r ≡ false) P → ((x : A) → P x → r ≡ t x) → r ≡ there_and t o
there_got t None r e f = e
there_got t (Some x) r e f = f x e

-- a scope that is ours has a place among them
pub knows_place : (s : State) (m : Fields) → knows_scope s m ≡ true → scope_place s (scope_in m) < scopes_in s
unfolding knows_scope
knows_place s m e = go m.scope e
  where
    go : (o : Option ℕ) → there_and (λ lowest. ltb (scope_place s lowest) (scopes_in s)) o ≡ true → scope_place s (unwrap_or o 0) < scopes_in s
    go None e = let z : ◌≡◌ {A = ℕ} 0 1 = cc in absurd (omega arith)
    go (Some n) e = ltb-true _ _ e

-- ---- the place of a scope
place_is : {A : Type 0} (t : A → Bool) (l : List A) → position_or_len t l ≡ place_by t l
unfolding place_by pick
place_is t [] = refl
place_is t (x ∷ l) = go (t x) (place_is t l)
  where
    go : (b : Bool) → position_or_len t l ≡ place_by t l → cond (not b) (1 + position_or_len t l) 0 ≡ pick b 0 (suc (place_by t l))
    go true h = refl
    go false h = omega arith

at_most : {A : Type 0} (t : A → Bool) (l : List A) → position_or_len t l ≤ length l
at_most t [] = omega arith
at_most t (x ∷ l) = go (t x) (at_most t l)
  where
    go : (b : Bool) → position_or_len t l ≤ length l → cond (not b) (1 + position_or_len t l) 0 ≤ suc (length l)
    go true h = omega arith
    go false h = omega arith

or_length : (k n : ℕ) (b : Bool) → ltb k n ≡ b → k ≤ n → unwrap_or (cond b (Some k) None) n ≡ k
or_length k n true e h = refl
or_length k n false e h = let g = ltb-false k n e in omega arith

-- what `position` and `unwrap_or` of the length say
pub place_got : {A : Type 0} (t : A → Bool) (l : List A) (n r : ℕ) (o : Option ℕ) → n ≡ length l → o ≡ cond (ltb (position_or_len t l) (length l)) (Some (position_or_len t l)) None → r ≡ unwrap_or o n
    → r ≡ place_by t l
place_got t l n r o e p q =
    q ∙ ap₂ (λ (x : Option ℕ) (k : ℕ). unwrap_or x k) p e ∙ or_length (position_or_len t l) (length l) _ refl (at_most t l) ∙ place_is t l
