-- Definitions: each element passes a test with the next one.
use Rattle.std.specs.Prelude.{Bool, true, false, List, [], ◌∷◌}
use Rattle.lists.specs.Pick.{pick}

unfoldable pub next_by : {A : Type 0} → (A → A → Bool) → List A → Bool
next_by t [] = true
next_by t (x ∷ []) = true
next_by t (x ∷ y ∷ l) = pick (t x y) (next_by t (y ∷ l)) false
