-- Definitions: numbers in octets, "high octet first throughout" (document 01, "The datagram"), and what a buffer holds after octets were written.
use Rattle.std.specs.Prelude.{◌≡◌, List, [], ◌∷◌, ◌++◌, ℕ, ◌+◌, ◌*◌, ◌/◌, ◌%◌, length, get_or, take, drop}

abbrev pub be16 : ℕ → ℕ → ℕ
be16 a b = a * 256 + b

abbrev pub be32 : ℕ → ℕ → ℕ → ℕ → ℕ
be32 a b c d = a * 16777216 + b * 65536 + c * 256 + d

-- the number that the two octets of s at a place make
unfoldable pub at16 : List ℕ → ℕ → ℕ
at16 s at = be16 (get_or s at 0) (get_or s (at + 1) 0)

-- the number that the four octets of s at a place make
unfoldable pub at32 : List ℕ → ℕ → ℕ
at32 s at = be32 (get_or s at 0) (get_or s (at + 1) 0) (get_or s (at + 2) 0) (get_or s (at + 3) 0)

-- the octets of the low 16 bits of a number
abbrev pub octets16 : ℕ → List ℕ
octets16 v = v / 256 % 256 ∷ v % 256 ∷ []

-- the octets of the low 32 bits of a number
abbrev pub octets32 : ℕ → List ℕ
octets32 v = v / 16777216 % 256 ∷ v / 65536 % 256 ∷ v / 256 % 256 ∷ v % 256 ∷ []

-- the buffer b with xs in the places from `at` on
unfoldable pub put : List ℕ → ℕ → List ℕ → List ℕ
put b at xs = take at b ++ xs ++ drop (at + length xs) b

-- after xs was written into the buffer `before` from `at` on, the buffer is `after` and the place after xs is n
pub record Wrote (before : List ℕ) (at : ℕ) (xs : List ℕ) (after : List ℕ) (n : ℕ) : Type 0 where
  pub next : n ≡ at + length xs
  pub buffer : after ≡ put before at xs
