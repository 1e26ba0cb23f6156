-- Laws: each element with the next one: for a transitive test that decides every pair.
use Rattle.std.proofs.Math.Path.{◌≡◌, refl, sym, ap}
use Rattle.std.proofs.Common.{◌∙◌, arith}
use Rattle.std.specs.Prelude.{Bool, ℕ}
use Rattle.std.proofs.Math.Bool.{true, false}
use mathlib.Core.List.{List, [], ◌∷◌}
use Rattle.lists.specs.Pick.{pick}
use Rattle.lists.specs.All.{all_by, pairs_by}
use Rattle.lists.specs.laws.All.{all_head, all_cons, pairs_head, pairs_cons, all_both}
use Rattle.lists.specs.Next.{next_by}

-- ---- a transitive test
module _ {A : Type 0} (t : A → A → Bool) (trans : (x y z : A) → t x y ≡ true → t y z ≡ true → t x z ≡ true) where
  next_pairs : (l : List A) → next_by t l ≡ true → pairs_by t l ≡ true
  unfolding next_by pairs_by all_by pick
  next_pairs [] h = refl
  next_pairs (x ∷ []) h = refl
  next_pairs (x ∷ y ∷ l) h = go (t x y) refl h (next_pairs (y ∷ l))
    where
      go : (b : Bool) → t x y ≡ b → pick b (next_by t (y ∷ l)) false ≡ true → (next_by t (y ∷ l) ≡ true → pairs_by t (y ∷ l) ≡ true) → pairs_by t (x ∷ y ∷ l) ≡ true
      go true e h ih =
          let p = ih h in
          let q = pairs_head t y l p in
          pairs_cons t x (y ∷ l) (all_cons (t x) y l e (all_both (t y) (t y) (t x) l (λ z u v. trans x y z e u) q.0 q.0)) p
      go false e h ih = absurd (let z : ◌≡◌ {A = ℕ} 0 1 = cc in omega arith)

  pairs_are_next : (l : List A) → pairs_by t l ≡ true → next_by t l ≡ true
  unfolding next_by pick
  pairs_are_next [] h = refl
  pairs_are_next (x ∷ []) h = refl
  pairs_are_next (x ∷ y ∷ l) h =
      let p = pairs_head t x (y ∷ l) h in
      let q = all_head (t x) y l p.0 in
      ap (λ (b : Bool). pick b (next_by t (y ∷ l)) false) q.0 ∙ pairs_are_next (y ∷ l) p.1

  pub next_is_pairs : (l : List A) → next_by t l ≡ pairs_by t l
  next_is_pairs l = go (next_by t l) refl (pairs_by t l) refl
    where
      go : (a : Bool) → next_by t l ≡ a → (b : Bool) → pairs_by t l ≡ b → a ≡ b
      go true e b f = sym (sym f ∙ next_pairs l e)
      go false e true f = sym e ∙ pairs_are_next l f
      go false e false f = refl
