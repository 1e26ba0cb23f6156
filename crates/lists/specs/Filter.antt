-- Definitions: the elements that pass a test, in their order; whether a number is in a list.
use Rattle.std.specs.Prelude.{Bool, true, false, List, [], ◌∷◌, ℕ, eqb}
use Rattle.lists.specs.Pick.{pick}

unfoldable pub filter_by : {A : Type 0} → (A → Bool) → List A → List A
filter_by t [] = []
filter_by t (x ∷ xs) = pick (t x) (x ∷ filter_by t xs) (filter_by t xs)

unfoldable pub is_in : ℕ → List ℕ → Bool
is_in a [] = false
is_in a (x ∷ xs) = pick (eqb a x) true (is_in a xs)
