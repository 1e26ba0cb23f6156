-- Definitions: document 01's "fewest ranges, rising" as a claim about a list of ranges: it names just the offsets of the set, its ranges
-- rise and do not touch, and no list of ranges that names the same offsets is shorter.
use Rattle.std.specs.Prelude.{◌≡◌, Bool, true, List, ℕ, ◌+◌, ◌≤◌, ltb, length}
use Rattle.lists.specs.Filter.{is_in}
use Rattle.lists.specs.Next.{next_by}
use Rattle.address_set.specs.declared.Range.{Range}
use Rattle.address_set.specs.AddressSet.{named_by, fewest_ranges}

-- ---- what is stated
-- a range, and behind it at least one offset that neither has before the next begins
unfoldable pub gap : Range → Range → Bool
gap r q = ltb (r.first + r.count) q.first

pub record Fewest (l : List ℕ) : Type 0 where
  -- the ranges name just the offsets of l, each once and rising as in l
  pub names : named_by (fewest_ranges l) ≡ l
  -- neighbouring ranges do not touch
  pub apart : next_by gap (fewest_ranges l) ≡ true
  -- ranges that name the same offsets, in any order and as often as they like, are at least as many
  pub fewest : (rs : List Range) → ((a : ℕ) → is_in a (named_by rs) ≡ is_in a l) → length (fewest_ranges l) ≤ length rs
