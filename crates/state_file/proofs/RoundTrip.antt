-- Proof of the round trips: a file that is accepted, read and written again has the same octets; a sound book with good names, written and read
-- again, is the same book, so that what the writer writes is always accepted.
use mathlib.Core.Bool.{Bool, ◌&&◌, false, true}
use mathlib.Core.List.{List, [], ◌++◌, ◌∷◌}
use mathlib.Core.Path.{◌∙◌, ◌≡◌, ap, ap₂, refl, subst, sym}
use Prim.Native.Nat.{◌≤◌, ℕ}
use native.Mathlib.Omega.{arith}
use lib.Dec.{leb, ltb}
use lib.ListN.{drop, length, take}
use lib.Seq.{take-append_seam}
use borrow.Author.Tests.{le-ltb}
use Rattle.agreement.specs.laws.Agrees.{agrees_is, is_agrees}
use Rattle.format.specs.Format.{Got, Octets, bad, closed, got}
use Rattle.lists.specs.laws.Both.{and_both, and_parts}
use Rattle.lists.specs.Pick.{pick}
use Rattle.names.specs.Names.{names_b}
use Rattle.occupancy.specs.declared.Board.{Board}
use Rattle.release_file.specs.Section.{stored_memory}
use Rattle.releases.specs.Rules.{broken_memory, memory_b, release_rules_of, rules_to}
use Rattle.releases.specs.Whole.{book_b}
use Rattle.soundness.specs.Sound.{rule8, rules_by, sound_b}
use Rattle.soundness.specs.laws.Book.{rules_of_law}
use Rattle.releases.proofs.Whole.{book_agrees, book_named, book_remembers, book_sound, both_book}
use Rattle.state.specs.Board.{board_of}
use Rattle.state.specs.Book.{Book, leases_of}
use Rattle.state.specs.declared.LeaseTable.{LeaseTable}
use Rattle.state.specs.declared.Memory.{Memory}
use Rattle.state.specs.declared.State.{State}
use Rattle.state.specs.declared.TenantReleases.{TenantReleases}
use Rattle.state_file.proofs.ReadAgain.{book_again}
use Rattle.state_file.proofs.Short.{names_few, sound_short}
use Rattle.state_file.proofs.WriteAgain.{book_fits, book_ok, releases_same, state_same, table_same}
use Rattle.state_file.specs.File.{File, file_format, file_limit, file_of, longest_file}
use Rattle.state_file.specs.laws.File.{file_reads, file_written}
use Rattle.state_file.specs.laws.Local.{file_names}
use Rattle.state_file.specs.Records.{filed_as, filed_book, fits_b, stored_state, stored_table}
use Rattle.state_file.specs.StateFile.{accepted, judged, loaded, loaded_got, names_got, names_of, octets_of, read_file, book_in, code_of, length_written, refusal_number, room_after, with_board, written_of}
use Rattle.state_file.specs.Typed.{Typed}
use Rattle.std.specs.Prelude.{Result, Ok, Err}
use Rattle.state_file.specs.declared.Loaded.{Loaded}
use Rattle.state_file.specs.declared.Refusal.{Refusal}
use Rattle.state_file.specs.declared.Refusal.TheVariants.{ShortRoom, UnsoundBook, UnsoundFile, WrongForm}

-- the book of its parts
abbrev with : State → LeaseTable → Memory → List ℕ → Book
with s b m names = record { state = s; table = b; memory = m; names = names }

-- the releases of a file, and with them its memory
abbrev releases_in : File → Memory
releases_in f = stored_memory f.releases

abbrev memory_in : File → Memory
memory_in f = with_board (stored_table f) (releases_in f)

-- ---- the board
-- the rules on what is remembered, and the verdict on a file, know the releases alone
rules_alone : (s : State) (t : LeaseTable) (m : Memory) (x : Board) → memory_b s t (record { releases = m.releases; board = x }) ≡ memory_b s t m
unfolding memory_b broken_memory release_rules_of rules_to
rules_alone s t m x = refl

judged_alone : (s : State) (t : LeaseTable) (m n : Memory) → m.releases ≡ n.releases → judged s t m ≡ judged s t n
unfolding judged memory_b broken_memory release_rules_of rules_to
judged_alone s t m n e = ap (λ (l : List TenantReleases). judged s t (record { releases = l; board = n.board })) e

-- the board of a sound book is the one that its file is given
board_same : (b : Book) → book_b b ≡ true → with_board b.table b.memory ≡ b.memory
board_same b e = ap {B = Memory} (λ (x : Board). record { releases = b.memory.releases; board = x }) (sym (agrees_is b.table b.memory.board (book_agrees b e)))

-- an accepted answer is a sound file's
refused_not : {A : Type 0} (n : Refusal) (s : State) (b : LeaseTable) (m : Memory) → Err n ≡ accepted s b m → A
unfolding accepted refusal_number code_of
refused_not n s b m e = go n (ap refusal_number e)
  where
    go : {A : Type 0} (n : Refusal) → code_of n ≡ 0 → A
    go WrongForm z = absurd (omega arith)
    go UnsoundFile z = absurd (omega arith)
    go UnsoundBook z = absurd (omega arith)
    go ShortRoom z = absurd (omega arith)

judged_is : (s t : State) (b c : LeaseTable) (m n : Memory) → judged s b m ≡ accepted t c n → (sound_b s b && memory_b s b m ≡ true) × (s ≡ t) × (b ≡ c) × (with_board b m ≡ n)
unfolding judged pick accepted book_in
judged_is s t b c m n e = go (sound_b s b && memory_b s b m) refl e
  where
    go : (q : Bool) → sound_b s b && memory_b s b m ≡ q → pick q (accepted s b (with_board b m)) (Err UnsoundFile) ≡ accepted t c n → (q ≡ true) × (s ≡ t) × (b ≡ c) × (with_board b m ≡ n)
    go true p e = (refl, ap (λ (r : Result Loaded Refusal). (book_in r).state) e, ap (λ (r : Result Loaded Refusal). (book_in r).table) e, ap (λ (r : Result Loaded Refusal). (book_in r).memory) e)
    go false p e = refused_not UnsoundFile t c n e

loaded_is : (f : File) (t : State) (c : LeaseTable) (n : Memory) → loaded f ≡ accepted t c n → (fits_b f ≡ true) × (judged (stored_state f) (stored_table f) (releases_in f) ≡ accepted t c n)
unfolding loaded pick
loaded_is f t c n e = go (fits_b f) refl e
  where
    go : (q : Bool) → fits_b f ≡ q → pick q (judged (stored_state f) (stored_table f) (releases_in f)) (Err UnsoundFile) ≡ accepted t c n → (q ≡ true) × (judged (stored_state f) (stored_table f) (releases_in f) ≡ accepted t c n)
    go true p e = (refl, e)
    go false p e = refused_not UnsoundFile t c n e

-- nothing is left over
file_whole : (s : List ℕ) (f : File) (r : List ℕ) → file_of s ≡ got f r → (file_of s ≡ got f []) × (closed (file_format.read s) ≡ got f [])
unfolding file_of pick closed
file_whole s f r e = go (leb (length s) file_limit) (file_format.read s) e
  where
    go : (b : Bool) (g : Got File) → pick b (closed g) bad ≡ got f r → (pick b (closed g) bad ≡ got f []) × (closed g ≡ got f [])
    go true (got x []) e = let p : x ≡ f = cc in (ap (λ (y : File). got y []) p, ap (λ (y : File). got y []) p)
    go true (got x (y ∷ l)) e = let z : ◌≡◌ {A = ℕ} 0 1 = cc in absurd (omega arith)
    go true bad e = let z : ◌≡◌ {A = ℕ} 0 1 = cc in absurd (omega arith)
    go false g e = let z : ◌≡◌ {A = ℕ} 0 1 = cc in absurd (omega arith)

-- the names of a file are good for its settings
names_good_law : (s : List ℕ) (f : File) (r : List ℕ) → file_of s ≡ got f r → names_b (stored_state f).scope_count (stored_state f).tenant_count f.names ≡ true
unfolding stored_state
names_good_law s f r e = file_names s f [] (file_whole s f r e).1

again : (f : File) (st : State) (tb : LeaseTable) (m : Memory) → stored_state f ≡ st → stored_table f ≡ tb → memory_in f ≡ m → file_format.ok f → fits_b f ≡ true → sound_b (stored_state f) (stored_table f) ≡ true → octets_of (with st tb m f.names) ≡ file_format.write f
unfolding octets_of rules_by rule8
again f st tb m es eb em ok fit sound =
    ap₂ (λ (x : State) (y : LeaseTable). file_format.write (filed_book (with x y m f.names))) (sym es) (sym eb)
    ∙ ap (λ (x : Memory). file_format.write (filed_book (with (stored_state f) (stored_table f) x f.names))) (sym em) ∙ ap file_format.write (book_again f ok fit (rules_of_law (stored_state f) (stored_table f) sound).identifiers)

-- what is answered to a file that the records can hold, and that is sound, or not
abbrev answer : File → Bool → Bool → Result Loaded Refusal
answer f p q = pick p (pick q (accepted (stored_state f) (stored_table f) (memory_in f)) (Err UnsoundFile)) (Err UnsoundFile)

-- the book of octets that are accepted, with the names in them, is sound
pub read_sound : (s : List ℕ) → refusal_number (read_file s) ≡ 0 → book_b (record { state = (book_in (read_file s)).state; table = (book_in (read_file s)).table; memory = (book_in (read_file s)).memory; names = names_of s }) ≡ true
unfolding read_file loaded_got loaded judged accepted pick names_of names_got book_in refusal_number code_of
read_sound s e = go (file_of s) refl e
  where
    kept : (f : File) (p q : Bool) → sound_b (stored_state f) (stored_table f) && memory_b (stored_state f) (stored_table f) (releases_in f) ≡ q
        → names_b (stored_state f).scope_count (stored_state f).tenant_count f.names ≡ true
        → refusal_number (answer f p q) ≡ 0 → book_b (with (book_in (answer f p q)).state (book_in (answer f p q)).table (book_in (answer f p q)).memory f.names) ≡ true
    kept f true true v w e = let (a, b) = and_parts _ _ v in both_book (with (stored_state f) (stored_table f) (memory_in f) f.names) a (rules_alone (stored_state f) (stored_table f) (releases_in f) _ ∙ b) (is_agrees (stored_table f) _ refl) w
    kept f true false v w e = absurd (omega arith)
    kept f false q v w e = absurd (omega arith)

    go : (g : Got File) → file_of s ≡ g → refusal_number (loaded_got g) ≡ 0 → book_b (with (book_in (loaded_got g)).state (book_in (loaded_got g)).table (book_in (loaded_got g)).memory (names_got g)) ≡ true
    go bad p e = absurd (omega arith)
    go (got f r) p e = kept f (fits_b f) (sound_b (stored_state f) (stored_table f) && memory_b (stored_state f) (stored_table f) (releases_in f)) refl (names_good_law s f r p) e

-- so its board is what its leases say
pub read_board : (s : List ℕ) → refusal_number (read_file s) ≡ 0 → (book_in (read_file s)).memory.board ≡ board_of (leases_of (book_in (read_file s)).table)
read_board s e = agrees_is (book_in (read_file s)).table (book_in (read_file s)).memory.board (book_agrees (with (book_in (read_file s)).state (book_in (read_file s)).table (book_in (read_file s)).memory (names_of s)) (read_sound s e))

-- and its names have no more octets than four scopes' and eight houses' can
pub names_short : (s : List ℕ) → refusal_number (read_file s) ≡ 0 → length (names_of s) ≤ 6229
names_short s e = names_few (record { state = (book_in (read_file s)).state; table = (book_in (read_file s)).table; memory = (book_in (read_file s)).memory; names = names_of s }) (read_sound s e)

-- and its octets are those
pub read_write : (s : List ℕ) (st : State) (tb : LeaseTable) (m : Memory) → Octets s → read_file s ≡ accepted st tb m
    → (book_b (record { state = st; table = tb; memory = m; names = names_of s }) ≡ true) × (octets_of (record { state = st; table = tb; memory = m; names = names_of s }) ≡ s)
unfolding read_file loaded_got names_of names_got
read_write s st tb m o e = go (file_of s) refl e
  where
    go : (g : Got File) → file_of s ≡ g → loaded_got g ≡ accepted st tb m → (book_b (with st tb m (names_got g)) ≡ true) × (octets_of (with st tb m (names_got g)) ≡ s)
    go bad p e = refused_not WrongForm st tb m e
    go (got f r) p e =
        let (fit, j) = loaded_is f st tb m e in
        let (good, es, eb, em) = judged_is (stored_state f) st (stored_table f) tb (releases_in f) m j in
        let (sound, remembers) = and_parts (sound_b (stored_state f) (stored_table f)) (memory_b (stored_state f) (stored_table f) (releases_in f)) good in
        let (ok, w, short) = file_reads s f o (file_whole s f r p).0 in (
          both_book (with st tb m f.names) (sym (ap₂ sound_b es eb) ∙ sound)
              (sym (ap₂ (λ (x : State) (y : LeaseTable). memory_b x y (memory_in f)) es eb ∙ ap (memory_b st tb) em) ∙ rules_alone (stored_state f) (stored_table f) (releases_in f) _ ∙ remembers)
              (is_agrees tb m.board (sym (ap (λ (x : Memory). x.board) em) ∙ ap (λ (x : LeaseTable). board_of (leases_of x)) eb))
              (subst (λ (x : State). names_b x.scope_count x.tenant_count f.names ≡ true) es (names_good_law s f r p)),
          again f st tb m es eb em ok fit sound ∙ sym w,
        )

-- so the writer gives them back, in any room that they fit
module _ (s room : List ℕ) (st : State) (tb : LeaseTable) (m : Memory) (o : Octets s) (e : read_file s ≡ accepted st tb m) (h : length s ≤ length room) where
  b : Book
  b = record { state = st; table = tb; memory = m; names = names_of s }

  pub read_written : (written_of (record { state = st; table = tb; memory = m; names = names_of s }) (length room) ≡ Ok (length s))
      × (room_after (record { state = st; table = tb; memory = m; names = names_of s }) room ≡ s ++ drop (length s) room)
  unfolding written_of room_after pick b
  read_written =
      let (p, w) = read_write s st tb m o e in
      let k : ltb (length room) (length (octets_of b)) ≡ false = le-ltb _ _ (subst (λ (x : List ℕ). length x ≤ length room) (sym w) h) in (
        ap₂ (λ (x y : Bool). pick x (pick y (Err ShortRoom) (Ok (length (octets_of b)))) (Err UnsoundBook)) p k
            ∙ ap {B = Result ℕ Refusal} (λ (x : List ℕ). Ok (length x)) w,
        ap₂ (λ (x y : Bool). pick x (pick y room (octets_of b ++ drop (length (octets_of b)) room)) room) p k
            ∙ ap (λ (x : List ℕ). x ++ drop (length x) room) w,
      )

-- a sound book's octets are accepted, and give the book
module _ (b : Book) (v : Typed b.state b.table b.memory) (o : Octets b.names) where
  file_is : book_b b ≡ true → file_of (octets_of b) ≡ got (filed_book b) []
  unfolding octets_of
  file_is e =
      file_written (filed_book b) (book_ok b.state b.table b.memory v (book_sound b e) (book_remembers b e) b.names o (book_named b e))
      (let k : length (octets_of b) ≤ longest_file = sound_short b (let t = v.tenants in omega arith) (let t = v.memory in omega arith) e in omega arith)

  pub write_read : book_b b ≡ true → (read_file (octets_of b) ≡ accepted b.state b.table b.memory) × (names_of (octets_of b) ≡ b.names)
  unfolding read_file loaded_got loaded judged names_of names_got filed_book filed_as pick
  write_read e =
      let q = book_sound b e in
      let w = book_remembers b e in (
        ap loaded_got (file_is e)
            ∙ ap (λ (x : Bool). pick x (judged (stored_state (filed_book b)) (stored_table (filed_book b)) (releases_in (filed_book b))) (Err UnsoundFile)) (book_fits b.state b.table b.memory v q w b.names)
            ∙ ap₂ (λ (x : State) (y : LeaseTable). judged x y (releases_in (filed_book b))) (state_same b.state b.table b.memory v q w b.names) (table_same b.state b.table b.memory v q w b.names)
            ∙ judged_alone b.state b.table (releases_in (filed_book b)) b.memory (releases_same b.state b.table b.memory v q w b.names)
            ∙ ap₂ (λ (x : Bool) (m : Memory). pick x (accepted b.state b.table m) (Err UnsoundFile)) (and_both q w) (board_same b e),
        ap names_got (file_is e),
      )

  -- so is what the writer leaves in a room
  pub written_read : (room : List ℕ) → refusal_number (written_of b (length room)) ≡ 0
      → (read_file (take (length_written (written_of b (length room))) (room_after b room)) ≡ accepted b.state b.table b.memory) × (names_of (take (length_written (written_of b (length room))) (room_after b room)) ≡ b.names)
  unfolding written_of room_after pick refusal_number code_of length_written
  written_read room e = go (book_b b) refl (ltb (length room) (length (octets_of b))) e
    where
      Gives : List ℕ → Type 0
      Gives l = (read_file l ≡ accepted b.state b.table b.memory) × (names_of l ≡ b.names)

      go : (p : Bool) → book_b b ≡ p → (q : Bool)
          → refusal_number (pick {A = Result ℕ Refusal} p (pick q (Err ShortRoom) (Ok (length (octets_of b)))) (Err UnsoundBook)) ≡ 0
          → Gives (take (length_written (pick {A = Result ℕ Refusal} p (pick q (Err ShortRoom) (Ok (length (octets_of b)))) (Err UnsoundBook))) (pick p (pick q room (octets_of b ++ drop (length (octets_of b)) room)) room))
      go true a true e = absurd (omega arith)
      go true a false e = subst Gives (sym (take-append_seam (octets_of b) (drop (length (octets_of b)) room))) (write_read a)
      go false a q e = absurd (omega arith)

-- and in a room for the longest file the writer refuses no sound book of eight tenants' records and releases
pub never_refused : (b : Book) (n : ℕ) → length b.table.tenants ≡ 8 → length b.memory.releases ≡ 8 → book_b b ≡ true → longest_file ≤ n → written_of b n ≡ Ok (length (octets_of b))
unfolding written_of pick
never_refused b n v w e h =
    ap₂ (λ (x y : Bool). pick x (pick y (Err ShortRoom) (Ok (length (octets_of b)))) (Err UnsoundBook))
    e (le-ltb n (length (octets_of b)) (let k = sound_short b (omega arith) (omega arith) e in omega arith))
