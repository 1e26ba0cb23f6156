-- Laws: numbers that are all zero, or all zero past a place.
use mathlib.Core.Bool.{true}
use mathlib.Core.List.{List, [], ◌∷◌}
use mathlib.Core.Path.{◌∙◌, ◌≡◌, ap, ap₂, refl}
use Prim.Native.Nat.{◌-◌, ℕ}
use lib.Dec.{eqb}
use lib.ListN.{drop, length, length-drop, replicate}
use borrow.Author.Tests.{eqb-true}
use Rattle.lists.specs.All.{all_by}
use Rattle.lists.specs.laws.All.{all_head}
use Rattle.soundness.specs.Sound.{zero_from}

zeros_are : (l : List ℕ) → all_by (λ x. eqb x 0) l ≡ true → l ≡ replicate (length l) 0
zeros_are [] e = refl
zeros_are (x ∷ l) e =
    let p = all_head (λ x. eqb x 0) x l e in
    ap₂ {C = List ℕ} (λ (y : ℕ) (r : List ℕ). y ∷ r) (eqb-true x 0 p.0) (zeros_are l p.1)

pub zero_tail : (n k : ℕ) (l : List ℕ) → length l ≡ k → zero_from n l ≡ true → drop n l ≡ replicate (k - n) 0
unfolding zero_from
zero_tail n k l e h = zeros_are (drop n l) h ∙ ap (λ (j : ℕ). replicate j 0) (length-drop n l ∙ ap (λ (j : ℕ). j - n) e)

pub zero_whole : (k : ℕ) (l : List ℕ) → length l ≡ k → zero_from 0 l ≡ true → l ≡ replicate k 0
unfolding zero_from
zero_whole k l e h = zeros_are l h ∙ ap (λ (j : ℕ). replicate j 0) e
