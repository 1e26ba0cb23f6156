-- Laws: a sound book's parts, and that the clock keeps them.
use Rattle.std.specs.Prelude.{ℕ, Bool, true, false, ◌&&◌, ◌≡◌, refl}
use Rattle.std.proofs.Common.{sym, ◌∙◌}
use Rattle.std.proofs.Math.Path.{ap}
use Rattle.lists.specs.laws.Both.{and_both, and_parts}
use Rattle.state.specs.declared.LeaseTable.{LeaseTable}
use Rattle.state.specs.Book.{Book, advanced, leases_of}
use Rattle.state.specs.Board.{board_of}
use Rattle.soundness.specs.Sound.{sound_b}
use Rattle.soundness.proofs.Lists.{sound_lists, advanced_sound}
use Rattle.agreement.specs.laws.Agrees.{advanced_agrees, agrees_is}
use Rattle.releases.specs.Whole.{board_good, book_b, memory_good, names_good}
use Rattle.releases.specs.laws.Whole.{advanced_memory, advanced_named}

with_false : (x : Bool) → (x && false) ≡ false
with_false true = refl
with_false false = refl

module _ (b : Book) where
  pub book_sound : book_b b ≡ true → sound_b b.state b.table ≡ true
  unfolding book_b
  book_sound v = (and_parts (sound_b b.state b.table) (memory_good b && (board_good b && names_good b)) v).0

  kept : book_b b ≡ true → (memory_good b && (board_good b && names_good b)) ≡ true
  unfolding book_b
  kept v = (and_parts (sound_b b.state b.table) (memory_good b && (board_good b && names_good b)) v).1

  pub book_remembers : book_b b ≡ true → memory_good b ≡ true
  book_remembers v = (and_parts (memory_good b) (board_good b && names_good b) (kept v)).0

  rest : book_b b ≡ true → (board_good b && names_good b) ≡ true
  rest v = (and_parts (memory_good b) (board_good b && names_good b) (kept v)).1

  pub book_agrees : book_b b ≡ true → board_good b ≡ true
  book_agrees v = (and_parts (board_good b) (names_good b) (rest v)).0

  pub book_named : book_b b ≡ true → names_good b ≡ true
  book_named v = (and_parts (board_good b) (names_good b) (rest v)).1

  -- one bad part makes a bad book
  bad_rest : (memory_good b && (board_good b && names_good b)) ≡ false → book_b b ≡ false
  unfolding book_b
  bad_rest e = ap (λ (x : Bool). sound_b b.state b.table && x) e ∙ with_false (sound_b b.state b.table)

  pub bad_book : names_good b ≡ false → book_b b ≡ false
  bad_book e =
      bad_rest (ap (λ (x : Bool). memory_good b && (board_good b && x)) e ∙ ap (λ (x : Bool). memory_good b && x) (with_false (board_good b)) ∙ with_false (memory_good b))

  pub bad_memory : memory_good b ≡ false → book_b b ≡ false
  bad_memory e = bad_rest (ap (λ (x : Bool). x && (board_good b && names_good b)) e)

  pub bad_board : board_good b ≡ false → book_b b ≡ false
  bad_board e = bad_rest (ap (λ (x : Bool). memory_good b && (x && names_good b)) e ∙ with_false (memory_good b))

  pub both_book : sound_b b.state b.table ≡ true → memory_good b ≡ true → board_good b ≡ true → names_good b ≡ true → book_b b ≡ true
  unfolding book_b
  both_book v m g w = and_both v (and_both m (and_both g w))

  -- its board is what its leases say
  pub book_board : book_b b ≡ true → b.memory.board ≡ board_of (leases_of b.table)
  book_board v = agrees_is b.table b.memory.board (book_agrees v)

-- so of the same leases there is one board
pub same_board_law : (a b : Book) → book_b a ≡ true → book_b b ≡ true → a.table ≡ b.table → a.memory.board ≡ b.memory.board
same_board_law a b v w e = book_board a v ∙ ap (λ (t : LeaseTable). board_of (leases_of t)) e ∙ sym (book_board b w)

-- ---- the clock is raised and the ended leases are dropped
pub advanced_book : (b : Book) (time : ℕ) → book_b b ≡ true → book_b (advanced b time) ≡ true
advanced_book b time v =
    both_book (advanced b time) (advanced_sound b time (book_sound b v)) (advanced_memory b time (book_remembers b v))
    (advanced_agrees b time (sound_lists b.state b.table (book_sound b v)) (book_agrees b v)) (advanced_named b time (book_named b v))
