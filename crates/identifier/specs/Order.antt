-- Definitions: the order of identifiers, as document 01 has it for the campus file: octet by octet, a prefix first.
use Rattle.std.specs.Prelude.{ℕ, ◌+◌, ◌*◌, ◌<◌, Bool, List, [], ◌∷◌, ltb, eqb}
use Rattle.lists.specs.Pick.{pick}
use Rattle.lists.specs.All.{All}

-- 0 is before, 1 the same, 2 after: the `ordering_index` of what std's order of lists says
unfoldable pub order_of : List ℕ → List ℕ → ℕ
order_of [] [] = 1
order_of [] (y ∷ ys) = 0
order_of (x ∷ xs) [] = 2
order_of (x ∷ xs) (y ∷ ys) = pick (ltb x y) 0 (pick (ltb y x) 2 (order_of xs ys))

unfoldable pub same_of : List ℕ → List ℕ → Bool
same_of x y = eqb (order_of x y) 1

-- the number that octets make, high octet first, with w before them
unfoldable pub number_from : ℕ → List ℕ → ℕ
number_from w [] = w
number_from w (x ∷ xs) = number_from (w * 256 + x) xs

abbrev pub Octets : List ℕ → Type 0
Octets l = All (λ x. x < 256) l
