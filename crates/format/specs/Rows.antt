-- Definitions: the octets of a row of records, as a writer goes over it: each element's going by its place.
use Rattle.std.specs.Prelude.{List, [], ◌++◌, ◌∷◌, suc, ℕ}

unfoldable pub write_from : {A : Type 0} → (ℕ → A → List ℕ) → ℕ → List A → List ℕ
write_from w k [] = []
write_from w k (x ∷ l) = w k x ++ write_from w (suc k) l
