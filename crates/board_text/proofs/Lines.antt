-- Laws: the lines of a board, and the room that they are written into.
use Rattle.std.specs.Prelude.{ℕ, ◌+◌, ◌<◌, ◌≤◌, ◌≡◌, refl, min, Bool, List, [], ◌∷◌, ◌++◌, drop, length, Result, Ok, Err}
use Rattle.std.proofs.Common.{sym, ap, ap₂, ◌∙◌, subst, append_assoc, arith, get_or, le-ltb, lt-ltb}
use Rattle.board_text.proofs.Shown.{lines_same}
use Rattle.board_text.specs.Board.{header_line, length_in, line_on, lines_on, refused_line, room_with_text, scope_on, text_of}
use Rattle.lists.specs.Pick.{pick}
use Rattle.number_text.specs.Text.{Line, dotted, field, lines_to}
use Rattle.number_text.specs.laws.Text.{LinesInv, line_as, line_join, lines_end}
use Rattle.occupancy.specs.Board.{held_in, scope_board_at}
use Rattle.occupancy.specs.declared.Board.{Board}
use Rattle.octets.specs.laws.Octets.{wrote_joined, wrote_whole, whole_length, wrote_as}
use Rattle.octets.specs.Octets.{Wrote}
use Rattle.state.specs.Board.{board_of}
use Rattle.state.specs.Book.{leases_of, scope_at}
use Rattle.state.specs.declared.Scope.{Scope}
use Rattle.state.specs.declared.State.{State}
use Rattle.state_file.proofs.RoundTrip.{read_board}
use Rattle.state_file.specs.StateFile.{book_in, code_of, read_file, refusal_number}
use Rattle.state_file.specs.declared.Loaded.{Loaded}
use Rattle.state_file.specs.declared.Refusal.{Refusal}

pub line_wrote : {r₀ r₁ r₂ r₃ r₄ r₅ r₆ : List ℕ} {at a b c d e f : ℕ} (x g r l n : ℕ) → at ≤ length r₀ → Line r₀ at (dotted x) r₁ a 15 → Line r₁ a (field g) r₂ b 4 → Line r₂ b (field r) r₃ c 4
    → Line r₃ c (field l) r₄ d 4 → Line r₄ d (field n) r₅ e 4 → Line r₅ e (10 ∷ []) r₆ f 1 → Line r₀ at (dotted x ++ field g ++ field r ++ field l ++ field n ++ 10 ∷ []) r₆ f 32
line_wrote x g r l n h p q u v w z = line_as (simp append_assoc) (omega arith) (line_join h (line_join h (line_join h (line_join h (line_join h p q) u) v) w) z)

pub tenant_wrote : {r₀ r₁ : List ℕ} {at f : ℕ} (s : State) (b : Board) (k g : ℕ) (c : Scope) (n : ℕ) → c ≡ scope_at s k → n ≡ held_in (scope_board_at b k) g
    → Line r₀ at (dotted c.lowest ++ field (g + 1) ++ field (get_or c.reserve g 0) ++ field (get_or c.limit g 0) ++ field n ++ 10 ∷ []) r₁ f 32 → Line r₀ at (line_on s b k g) r₁ f 32
unfolding line_on
tenant_wrote s b k g c n e p w =
    line_as (ap₂ (λ (x : Scope) (y : ℕ). dotted x.lowest ++ field (g + 1) ++ field (get_or x.reserve g 0) ++ field (get_or x.limit g 0) ++ field y ++ 10 ∷ []) e p) (omega arith) w

pub scope_done : {r₀ r₁ : List ℕ} {at to i n : ℕ} (s : State) (b : Board) (k : ℕ) → LinesInv (line_on s b k) 32 n r₀ at r₁ to i → n ≡ min s.tenant_count 8 → n ≤ i → Line r₀ at (scope_on s b k) r₁ to 256
unfolding scope_on
scope_done s b k v e h = line_as (ap (lines_to (line_on s b k)) e) (omega arith) (lines_end v h)

pub book_done : {r₀ r₁ : List ℕ} {at to i n : ℕ} (s : State) (b : Board) → LinesInv (scope_on s b) 256 n r₀ at r₁ to i → n ≡ min s.scope_count 4 → n ≤ i → Line r₀ at (lines_on s b) r₁ to 1024
unfolding lines_on
book_done s b v e h = line_as (ap (lines_to (scope_on s b)) e) (omega arith) (lines_end v h)

-- ---- the whole
-- an accepted file's board is what its leases say
read_says : (f : List ℕ) (b : Loaded) → Ok b ≡ read_file f → b.memory.board ≡ board_of (leases_of b.table)
unfolding refusal_number book_in
read_says f b e = subst (λ (x : Result Loaded Refusal). refusal_number x ≡ 0 → (book_in x).memory.board ≡ board_of (leases_of (book_in x).table)) (sym e) (read_board f) refl

pub board_wrote : {r₀ r₁ r₂ : List ℕ} {a c : ℕ} (s : State) (b : Board) → Wrote r₀ 0 header_line r₁ a → Line r₁ a (lines_on s b) r₂ c 1024 → Wrote r₀ 0 (header_line ++ lines_on s b) r₂ c
board_wrote s b p q = wrote_joined (omega arith) p q.wrote

pub refused_wrote : {r₀ r₁ r₂ r₃ : List ℕ} {a b c : ℕ} (n : ℕ) → Wrote r₀ 0 (114 ∷ 101 ∷ 102 ∷ 117 ∷ 115 ∷ 101 ∷ 100 ∷ []) r₁ a → Line r₁ a (field n) r₂ b 4 → Line r₂ b (10 ∷ []) r₃ c 1 → Wrote r₀ 0 (refused_line n) r₃ c
unfolding refused_line
refused_wrote n p q w = wrote_as (append_assoc (114 ∷ 101 ∷ 102 ∷ 117 ∷ 115 ∷ 101 ∷ 100 ∷ []) (field n) (10 ∷ [])) (wrote_joined (omega arith) (wrote_joined (omega arith) p q.wrote) w.wrote)

module _ (r : Result Loaded Refusal) (room : List ℕ) where
  pub board_none : length room < 1100 → (◌≡◌ {A = ℕ} 0 (length_in r room)) × (room ≡ room_with_text r room)
  unfolding length_in room_with_text pick
  board_none h = let e = lt-ltb (length room) 1100 h in
      (sym (ap (λ (t : Bool). pick t 0 (length (text_of r))) e), sym (ap (λ (t : Bool). pick t room (text_of r ++ drop (length (text_of r)) room)) e))

  done : (now : List ℕ) (k : ℕ) → 1100 ≤ length room → Wrote room 0 (text_of r) now k → (k ≡ length_in r room) × (now ≡ room_with_text r room)
  unfolding length_in room_with_text pick
  done now k h w = let e = le-ltb (length room) 1100 h in
      (whole_length w ∙ sym (ap (λ (t : Bool). pick t 0 (length (text_of r))) e), wrote_whole w ∙ sym (ap (λ (t : Bool). pick t room (text_of r ++ drop (length (text_of r)) room)) e))

-- what was read
module _ (f room now : List ℕ) (k : ℕ) (h : 1100 ≤ length room) where
  pub board_answer : (b : Loaded) → Ok b ≡ read_file f → Wrote room 0 (header_line ++ lines_on b.state b.memory.board) now k → (k ≡ length_in (read_file f) room) × (now ≡ room_with_text (read_file f) room)
  unfolding text_of
  board_answer b e w =
      subst (λ (x : Result Loaded Refusal). (k ≡ length_in x room) × (now ≡ room_with_text x room)) e
      (done (Ok b) room now k h (wrote_as (ap (λ (x : List ℕ). header_line ++ x) (lines_same b.state b.table b.memory.board (read_says f b e))) w))

  pub refused_answer : (e : Refusal) (n : ℕ) → Err e ≡ read_file f → n ≡ code_of e → Wrote room 0 (refused_line n) now k → (k ≡ length_in (read_file f) room) × (now ≡ room_with_text (read_file f) room)
  unfolding text_of
  refused_answer e n p q w = subst (λ (x : Result Loaded Refusal). (k ≡ length_in x room) × (now ≡ room_with_text x room)) p (done (Err e) room now k h (wrote_as (ap refused_line q) w))
