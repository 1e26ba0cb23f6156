-- Definitions: message types and option codes (document 01, "The datagram"): the numbers, the length of each option's value, and which options a
-- message type allows.
use Rattle.std.specs.Prelude.{Bool, true, ◌&&◌, ◌||◌, List, [], ◌∷◌, ℕ, ◌%◌, eqb, leb, ltb}
use Rattle.lists.specs.Pick.{pick}
use Rattle.lists.specs.Filter.{is_in}

-- the types that a client sends: DISCOVER, REQUEST, RENEW, RELEASE, GETINFO
abbrev pub client_types : List ℕ
client_types = 1 ∷ 3 ∷ 4 ∷ 7 ∷ 8 ∷ []

-- the table of options: is n a length that the value of an option may have
unfoldable pub length_ok : ℕ → ℕ → Bool
length_ok code n =
    -- End
    pick (eqb code 0) (eqb n 0)
    -- Lease Time, Start Time, Current Time
    (pick (is_in code (1 ∷ 6 ∷ 11 ∷ [])) (eqb n 4)
    -- Server Identifier
    (pick (eqb code 2) (eqb n 6 || eqb n 18)
    -- Lease Identifier
    (pick (eqb code 3) (leb 2 n && leb n 32)
    -- Scope
    (pick (eqb code 4) (eqb n 4)
    -- Option Request List: even, from 2
    (pick (eqb code 5) (leb 2 n && eqb (n % 2) 0)
    -- Number
    (pick (eqb code 7) (eqb n 4)
    -- Requested Language, Scope List
    (pick (is_in code (8 ∷ 9 ∷ [])) (leb 1 n)
    -- Ranges: a multiple of 6, from 6
    (pick (eqb code 10) (leb 6 n && eqb (n % 6) 0)
    -- Features: from 6 (that its three lists fill it is `exactly_filled`)
    (pick (eqb code 12) (leb 6 n)
    -- Retry, Minimum Lease, Maximum Start
    (pick (is_in code (13 ∷ 14 ∷ 15 ∷ [])) (eqb n 4)
    -- Error
    (pick (eqb code 16) (leb 2 n)
    -- codes above 16 have no rule
    true)))))))))))

-- the options allowed besides 3 and 12, by message type
unfoldable pub allowed_in : ℕ → List ℕ
allowed_in kind =
    -- GETINFO
    pick (eqb kind 8) (5 ∷ 8 ∷ [])
    -- DISCOVER
    (pick (eqb kind 1) (1 ∷ 4 ∷ 6 ∷ 7 ∷ 10 ∷ 11 ∷ 14 ∷ 15 ∷ [])
    -- REQUEST: the same and 2
    (pick (eqb kind 3) (2 ∷ 1 ∷ 4 ∷ 6 ∷ 7 ∷ 10 ∷ 11 ∷ 14 ∷ 15 ∷ [])
    -- RENEW
    (pick (eqb kind 4) (1 ∷ 6 ∷ 11 ∷ 14 ∷ 15 ∷ [])
    -- RELEASE, and the types that no client sends
    [])))

-- codes above 16 are stepped over in any message, and End ends every one
unfoldable pub allows : ℕ → ℕ → Bool
allows kind code = ltb 16 code || is_in code (0 ∷ 3 ∷ 12 ∷ allowed_in kind)
