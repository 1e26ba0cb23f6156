-- Definitions: a set of offsets below 64 is a number below 2 ^ 64: offset a is in it where its bit a is 1. Document 01's addresses of a scope are
-- offsets from the scope's lowest address.
use Rattle.std.specs.Prelude.{ℕ, zero, suc, ◌+◌, ◌/◌, ◌%◌, ◌^◌, Bool, true, false, not, List, [], ◌∷◌, ◌++◌, eqb, ltb, leb, take}
use Rattle.std.specs.Int.Bits.{bit_or}
use Rattle.lists.specs.Pick.{pick}
use Rattle.lists.specs.Filter.{filter_by, is_in}
use Rattle.address_set.specs.declared.Range.{Range}

-- bit a of m, 0 or 1
unfoldable pub bit : ℕ → ℕ → ℕ
bit m a = m / 2 ^ a % 2

-- a in front of l where b is not 0
abbrev pub keep : ℕ → ℕ → List ℕ → List ℕ
keep zero a l = l
keep (suc b) a l = a ∷ l

-- the offsets of m from `at` on, rising, among the k there
unfoldable pub offsets_from : ℕ → ℕ → ℕ → List ℕ
offsets_from m at zero = []
offsets_from m at (suc k) = keep (bit m at) at (offsets_from m (suc at) k)

-- the offsets of m, rising
abbrev pub offsets : ℕ → List ℕ
offsets m = offsets_from m 0 64

-- the set of a list of offsets
unfoldable pub set_of : List ℕ → ℕ
set_of [] = 0
set_of (a ∷ l) = bit_or (2 ^ a) (set_of l)

-- ---- what the functions give, by the offsets of their sets

unfoldable pub difference_of : ℕ → ℕ → ℕ
difference_of m n = set_of (filter_by (λ a. not (is_in a (offsets n))) (offsets m))

-- the n lowest
abbrev pub lowest_of : ℕ → ℕ → ℕ
lowest_of m n = set_of (take n (offsets m))

-- the k offsets that a grant chooses: the lowest of own and, where these are fewer, then the lowest of nobodys
abbrev pub chosen : ℕ → ℕ → ℕ → List ℕ
chosen k own nobodys = take k (offsets own ++ offsets nobodys)

-- the numbers below n, rising: the offsets of a scope of size n
unfoldable pub up_to : ℕ → List ℕ
up_to zero = []
up_to (suc n) = up_to n ++ n ∷ []

-- a list of octets as a set: an octet that is no offset adds nothing
unfoldable pub read_offsets : List ℕ → ℕ
read_offsets l = set_of (filter_by (λ a. ltb a 64) l)

-- one offset more
unfoldable pub with_offset : ℕ → ℕ → ℕ
with_offset m a = pick (ltb a 64) (bit_or m (2 ^ a)) m

-- ---- document 01's "fewest ranges, rising": a range is its first offset and its count
abbrev pub extend : Bool → ℕ → Range → List Range → List Range
extend true x r rs = record { first = x; count = suc r.count } ∷ rs
extend false x r rs = record { first = x; count = 1 } ∷ r ∷ rs

-- an offset before others: it begins the first range if that follows it, or is a range by itself
unfoldable pub joined : ℕ → List Range → List Range
joined x [] = record { first = x; count = 1 } ∷ []
joined x (r ∷ rs) = extend (eqb r.first (suc x)) x r rs

unfoldable pub fewest_ranges : List ℕ → List Range
fewest_ranges [] = []
fewest_ranges (x ∷ xs) = joined x (fewest_ranges xs)

-- the offsets that ranges name, one range after the other
unfoldable pub onwards : ℕ → ℕ → List ℕ
onwards x zero = []
onwards x (suc n) = x ∷ onwards (suc x) n

unfoldable pub named_by : List Range → List ℕ
named_by [] = []
named_by (r ∷ rs) = onwards r.first r.count ++ named_by rs

-- the first range; one of no address where there is none
unfoldable pub first_range : List Range → Range
first_range [] = record { first = 0; count = 0 }
first_range (r ∷ rs) = r

-- the offsets of m behind a range
unfoldable pub behind : ℕ → Range → ℕ
behind m r = set_of (filter_by (λ a. leb (r.first + r.count) a) (offsets m))

-- ---- rising lists
-- each is at least m, and each above the one before it
unfoldable pub rises_from : ℕ → List ℕ → Bool
rises_from m [] = true
rises_from m (y ∷ l) = pick (ltb y m) false (rises_from (suc y) l)

abbrev pub rises : List ℕ → Bool
rises = rises_from 0
