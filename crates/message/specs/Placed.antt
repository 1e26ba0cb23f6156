-- Definitions: what the reader's places promise: each is 0 or that of an option that lies within the datagram and has a value that its code allows.
-- Who looks values up rests on this; `read_good` gives it for every message that was read.
use Rattle.std.specs.Prelude.{◌≡◌, List, [], ◌∷◌, Bool, true, ◌⊎◌, ℕ, ◌+◌, ◌≤◌, length, get_or, ltb}
use Rattle.lists.specs.Pick.{pick}
use Rattle.lists.specs.Filter.{is_in}
use Rattle.message.specs.Walk.{code_at, after_at, past_list, value_ok}

-- past a list of option 12 that starts at p, or past the value's end where none fits before it
unfoldable pub past_within : List ℕ → ℕ → ℕ → ℕ
past_within s end p = pick (ltb end (p + 2)) (end + 1) (past_list s p)

-- the options whose value is one number of four octets
abbrev pub four_octets : ℕ → Bool
four_octets code = is_in code (1 ∷ 4 ∷ 6 ∷ 11 ∷ 13 ∷ 14 ∷ 15 ∷ [])

-- the option with a code stands at a place: within the datagram, with a right value
pub record Placed (s : List ℕ) (code at : ℕ) : Type 0 where
  pub fits : after_at s at ≤ length s
  pub named : code_at s at ≡ code
  pub right : value_ok s at ≡ true

unfoldable pub GoodPlaces : List ℕ → List ℕ → Type 0
GoodPlaces s places = (code : ℕ) → (get_or places code 0 ≡ 0) ⊎ Placed s code (get_or places code 0)
