-- Definitions: what `replay`, `van` and `salvage` print: a line for each call, the outcome's number and, for a reply, a blank and its octets in lower-case hex; after discard 5
-- a blank, `@` and the offset that it carries (document 02, W-206); each ends in a blank, `#` and the count of records that were read (W-210); at the end `book`, a blank and the hex of the campus file; or `refused`, a blank and a number; and a line for each that a salvage dropped.
use Rattle.std.specs.Prelude.{ℕ, ◌+◌, ◌/◌, ◌%◌, List, [], ◌∷◌, ◌++◌, ltb, eqb}
use Rattle.lists.specs.Pick.{pick}
use Rattle.number_text.specs.Text.{numeral}

-- 0 to 9, a to f
abbrev pub hex_digit : ℕ → ℕ
hex_digit d = pick (ltb d 10) (48 + d) (87 + d)

-- two digits an octet, the high one first
unfoldable pub hex_of : List ℕ → List ℕ
hex_of [] = []
hex_of (x ∷ xs) = hex_digit (x / 16) ∷ hex_digit (x % 16) ∷ hex_of xs

-- the outcome number and, for a reply, a blank and its octets; outcomes have one digit
unfoldable pub number_text : ℕ → List ℕ → List ℕ
number_text outcome reply = pick (eqb outcome 0) (48 ∷ 32 ∷ hex_of reply) ((48 + outcome % 10) ∷ [])

-- the van's line (document 02, W-211)
abbrev pub outcome_line : ℕ → List ℕ → List ℕ
outcome_line outcome reply = number_text outcome reply ++ 10 ∷ []

-- the campus's outcome: "5 @" and the offset, or as the van has it
unfoldable pub outcome_text : ℕ → ℕ → List ℕ → List ℕ
outcome_text outcome offset reply = pick (eqb outcome 5) (53 ∷ 32 ∷ 64 ∷ numeral offset) (number_text outcome reply)

-- " #" and the count, and the line's end
unfoldable pub count_text : ℕ → List ℕ
count_text count = 32 ∷ 35 ∷ numeral count ++ 10 ∷ []

abbrev pub call_line : ℕ → ℕ → ℕ → List ℕ → List ℕ
call_line outcome offset count reply = outcome_text outcome offset reply ++ count_text count

-- "book" and a blank
abbrev pub book_line : List ℕ → List ℕ
book_line file = 98 ∷ 111 ∷ 111 ∷ 107 ∷ 32 ∷ hex_of file ++ 10 ∷ []

-- "refused", a blank and a number of two digits
abbrev pub refused_line : ℕ → List ℕ
refused_line n = 114 ∷ 101 ∷ 102 ∷ 117 ∷ 115 ∷ 101 ∷ 100 ∷ 32 ∷ (48 + n / 10 % 10) ∷ (48 + n % 10) ∷ 10 ∷ []

-- ---- what `salvage` prints of one that was dropped (document 02, W-212): "lease", "hold" or "release", its place, "rule" and the rule's number
unfoldable pub kind_text : ℕ → List ℕ
kind_text kind = pick (eqb kind 1) (108 ∷ 101 ∷ 97 ∷ 115 ∷ 101 ∷ 32 ∷ []) (pick (eqb kind 2) (104 ∷ 111 ∷ 108 ∷ 100 ∷ 32 ∷ []) (114 ∷ 101 ∷ 108 ∷ 101 ∷ 97 ∷ 115 ∷ 101 ∷ 32 ∷ []))

-- a blank, "rule", a blank and the number, and the line's end
unfoldable pub rule_text : ℕ → List ℕ
rule_text rule = 32 ∷ 114 ∷ 117 ∷ 108 ∷ 101 ∷ 32 ∷ numeral rule ++ 10 ∷ []

abbrev pub dropped_line : ℕ → ℕ → ℕ → List ℕ
dropped_line kind place rule = (kind_text kind ++ numeral place) ++ rule_text rule
