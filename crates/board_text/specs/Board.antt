-- Definitions: what `board` prints (document 01, "Specimens"): a header and, by scope then house, lowest address, house, share, limit, holding.
use Rattle.std.specs.Prelude.{List, [], ◌++◌, ◌∷◌, ◌+◌, ℕ, ltb, drop, length, Result, Ok, Err}
use Rattle.lists.specs.Pick.{pick}
use Rattle.number_text.specs.Text.{dotted, field, lines_to}
use Rattle.occupancy.specs.Board.{held_in, scope_board_at}
use Rattle.occupancy.specs.declared.Board.{Board}
use Rattle.soundness.specs.Sound.{scopes_in, tenants_in}
use Rattle.state.specs.Book.{held_count, in_use, scope_at, tenant_at, reserve_at, limit_at}
use Rattle.state.specs.declared.LeaseTable.{LeaseTable}
use Rattle.state.specs.declared.State.{State}
use Rattle.state_file.specs.StateFile.{code_of}
use Rattle.state_file.specs.declared.Loaded.{Loaded}
use Rattle.state_file.specs.declared.Refusal.{Refusal}

-- "scope house share limit holds"
abbrev pub header_line : List ℕ
header_line =
    115 ∷ 99 ∷ 111 ∷ 112 ∷ 101 ∷ 32 ∷ 104 ∷ 111 ∷ 117 ∷ 115 ∷ 101 ∷ 32 ∷ 115 ∷ 104 ∷ 97 ∷ 114 ∷ 101 ∷ 32 ∷ 108 ∷ 105 ∷ 109 ∷ 105 ∷ 116 ∷ 32 ∷ 104 ∷ 111 ∷ 108 ∷ 100 ∷ 115 ∷ 10 ∷ []

-- "refused" and the number
unfoldable pub refused_line : ℕ → List ℕ
refused_line n = 114 ∷ 101 ∷ 102 ∷ 117 ∷ 115 ∷ 101 ∷ 100 ∷ field n ++ 10 ∷ []

-- the line of tenant g + 1 in scope k + 1
unfoldable pub line : State → LeaseTable → ℕ → ℕ → List ℕ
line s b k g =
    dotted (scope_at s k).lowest ++ field (g + 1) ++ field (reserve_at (scope_at s k) g) ++ field (limit_at (scope_at s k) g)
    ++ field (held_count (k + 1) (in_use (tenant_at b g))) ++ 10 ∷ []

-- the lines of scope k + 1
unfoldable pub scope_lines : State → LeaseTable → ℕ → List ℕ
scope_lines s b k = lines_to (line s b k) (tenants_in s)

unfoldable pub book_lines : State → LeaseTable → List ℕ
book_lines s b = lines_to (scope_lines s b) (scopes_in s)

-- the same by what an occupancy board says that each tenant holds, as the code has it: in an accepted book these are the lines above (`lines_same`)
unfoldable pub line_on : State → Board → ℕ → ℕ → List ℕ
line_on s b k g =
    dotted (scope_at s k).lowest ++ field (g + 1) ++ field (reserve_at (scope_at s k) g) ++ field (limit_at (scope_at s k) g)
    ++ field (held_in (scope_board_at b k) g) ++ 10 ∷ []

unfoldable pub scope_on : State → Board → ℕ → List ℕ
scope_on s b k = lines_to (line_on s b k) (tenants_in s)

unfoldable pub lines_on : State → Board → List ℕ
lines_on s b = lines_to (scope_on s b) (scopes_in s)

-- all that is printed for what the reader answers
unfoldable pub text_of : Result Loaded Refusal → List ℕ
text_of (Ok b) = header_line ++ book_lines b.state b.table
text_of (Err e) = refused_line (code_of e)

-- a room below 1,100 octets is left as it is
unfoldable pub length_in : Result Loaded Refusal → List ℕ → ℕ
length_in r room = pick (ltb (length room) 1100) 0 (length (text_of r))

unfoldable pub room_with_text : Result Loaded Refusal → List ℕ → List ℕ
room_with_text r room = pick (ltb (length room) 1100) room (text_of r ++ drop (length (text_of r)) room)
