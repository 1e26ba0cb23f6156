-- Specimens: sets and their fewest ranges, computed: P1's two addresses, two ranges with a gap, the first and last offset, and all 64; the lowest; the choice.
use mathlib.Core.Path.{◌≡◌, refl}
use mathlib.Core.List.{[], ◌∷◌, map}
use Rattle.lists.specs.Pick.{pick}
use Rattle.lists.specs.Filter.{filter_by, is_in}
use Rattle.address_set.specs.AddressSet.{bit, offsets_from, offsets, set_of, difference_of, lowest_of, chosen, joined, fewest_ranges}
use Rattle.address_set.specs.laws.Bits.{intersection_of}

p1 : fewest_ranges (offsets 3) ≡ record { first = 0; count = 2 } ∷ []
unfolding fewest_ranges joined offsets_from bit
p1 = refl

gap : fewest_ranges (offsets 59) ≡ record { first = 0; count = 2 } ∷ record { first = 3; count = 3 } ∷ []
unfolding fewest_ranges joined offsets_from bit
gap = refl

ends : fewest_ranges (offsets 9223372036854775809) ≡ record { first = 0; count = 1 } ∷ record { first = 63; count = 1 } ∷ []
unfolding fewest_ranges joined offsets_from bit
ends = refl

whole : fewest_ranges (offsets 18446744073709551615) ≡ record { first = 0; count = 64 } ∷ []
unfolding fewest_ranges joined offsets_from bit
whole = refl

lowest_two : lowest_of 59 2 ≡ 3
unfolding set_of offsets_from bit
lowest_two = refl

-- k from 0 to 5, own offsets 2 and 3, nobody's 0 and 1: own ones first, though higher; none new where k is at most 2; and all where k is more than there are
choice : map (λ k. set_of (chosen k 12 3)) (0 ∷ 1 ∷ 2 ∷ 3 ∷ 4 ∷ 5 ∷ []) ≡ 0 ∷ 4 ∷ 12 ∷ 13 ∷ 15 ∷ 15 ∷ []
unfolding set_of offsets_from bit
choice = refl

common : intersection_of 59 14 ≡ 10
unfolding intersection_of set_of offsets_from bit filter_by is_in pick
common = refl

left : difference_of 59 14 ≡ 49
unfolding difference_of set_of offsets_from bit filter_by is_in pick
left = refl
