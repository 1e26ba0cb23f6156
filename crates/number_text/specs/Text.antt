-- Definitions: numbers and addresses as text, and lines one after the other.
use Rattle.std.specs.Prelude.{ℕ, zero, suc, ◌+◌, ◌/◌, ◌%◌, ◌≤◌, List, [], ◌∷◌, ◌++◌, ltb}
use Rattle.lists.specs.Pick.{pick}
use Rattle.octets.specs.Octets.{Wrote}

-- the decimal digits of a number of at most k digits, without zeros in front
unfoldable pub numeral_in : ℕ → ℕ → List ℕ
numeral_in zero n = []
numeral_in (suc k) n = pick (ltb n 10) ((48 + n) ∷ []) (numeral_in k (n / 10) ++ (48 + n % 10) ∷ [])

-- of a number below 10 ^ 20, as every u64 is
abbrev pub numeral : ℕ → List ℕ
numeral n = numeral_in 20 n

-- an address: its octets with points between them
unfoldable pub dotted : ℕ → List ℕ
dotted a = numeral (a / 16777216 % 256) ++ 46 ∷ numeral (a / 65536 % 256) ++ 46 ∷ numeral (a / 256 % 256) ++ 46 ∷ numeral (a % 256)

-- a blank and a number
unfoldable pub field : ℕ → List ℕ
field n = 32 ∷ numeral n

-- the lines f 0 to f (n - 1)
unfoldable pub lines_to : (ℕ → List ℕ) → ℕ → List ℕ
lines_to f zero = []
lines_to f (suc n) = lines_to f n ++ f n

-- xs was written, and takes at most so many octets
pub record Line (before : List ℕ) (at : ℕ) (xs : List ℕ) (after : List ℕ) (n most : ℕ) : Type 0 where
  pub wrote : Wrote before at xs after n
  pub small : n ≤ at + most
