-- Definitions: option 10 of a message, decoded from its octets: the addresses that it names.
use Rattle.std.specs.Prelude.{ℕ, zero, suc, ◌+◌, ◌/◌, List, [], ◌∷◌, Option, Some, None}
use Rattle.octets.specs.Octets.{at16, at32}
use Rattle.address_set.specs.declared.Range.{Range}
use Rattle.address_set.specs.AddressSet.{named_by}
use Rattle.message.specs.Values.{find_of}
use Rattle.message.specs.Walk.{length_at, walk_of}

-- k ranges from p on: first address(4), count(2)
unfoldable pub ranges_from : List ℕ → ℕ → ℕ → List Range
ranges_from s p zero = []
ranges_from s p (suc k) = record { first = at32 s p; count = at16 s (p + 4) } ∷ ranges_from s (p + 6) k

-- those of the option at a place: six octets each
abbrev pub ranges_at : List ℕ → Option ℕ → List Range
ranges_at s (Some at) = ranges_from s (at + 4) (length_at s at / 6)
ranges_at s None = []

-- the addresses that option 10 names, found as the reader finds an option; none where it is absent
unfoldable pub addresses_in : List ℕ → List ℕ
addresses_in s = named_by (ranges_at s (find_of (walk_of s).places 10))
