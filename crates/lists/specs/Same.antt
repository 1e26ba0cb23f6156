-- Definitions: two lists compared element by element.
use Rattle.std.specs.Prelude.{Bool, true, false, ◌&&◌, List, [], ◌∷◌}

-- as many elements in both, and t holds of each and the one at its place
unfoldable pub same_by : {A : Type 0} → (A → A → Bool) → List A → List A → Bool
same_by t [] [] = true
same_by t [] (y ∷ ys) = false
same_by t (x ∷ xs) [] = false
same_by t (x ∷ xs) (y ∷ ys) = t x y && same_by t xs ys
