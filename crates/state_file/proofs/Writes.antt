-- Laws: writing: the octets of the settings and of the whole file piece by piece.
use mathlib.Core.Bool.{Bool, ◌&&◌, false, true}
use mathlib.Core.List.{List, [], ◌++◌, ◌∷◌, append_assoc, map}
use mathlib.Core.Path.{◌∙◌, ◌≡◌, ap, ap₂, refl, sym}
use Prim.Native.Nat.{◌*◌, ◌+◌, ◌<◌, ◌≤◌, min, suc, ℕ}
use native.Mathlib.Omega.{arith}
use lib.Dec.{ltb}
use lib.ListN.{drop, length, length-append, length-map, length-take, take}
use lib.Seq.{take_all}
use borrow.Author.Tests.{le-ltb, lt-ltb}
use Rattle.agreement.specs.laws.Agrees.{made_agrees}
use Rattle.format.specs.Format.{write_all}
use Rattle.format.specs.Rows.{write_from}
use Rattle.format.specs.laws.Rows.{row_all}
use Rattle.lease_file.specs.Records.{in_file_order, table_octets}
use Rattle.lease_file.specs.laws.Table.{holds_octets, leases_octets}
use Rattle.lists.specs.Pick.{pick}
use Rattle.occupancy.specs.Board.{same_board}
use Rattle.octets.specs.laws.Octets.{wrote_joined, wrote_whole, wrote_as}
use Rattle.octets.specs.Octets.{Wrote, octets32}
use Rattle.release_file.specs.Section.{memory_octets}
use Rattle.releases.specs.Whole.{board_good, book_b, memory_good, names_good}
use Rattle.soundness.specs.Sound.{sound_b}
use Rattle.state.specs.Board.{built_of}
use Rattle.state.specs.Book.{Book, ranges_of, scopes_of}
use Rattle.state.specs.declared.ClientRange.{ClientRange}
use Rattle.state.specs.declared.LeaseTable.{LeaseTable}
use Rattle.state.specs.declared.Memory.{Memory}
use Rattle.state.specs.declared.Scope.{Scope}
use Rattle.state.specs.declared.State.{State}
use Rattle.state_file.proofs.RowLaws.{pair_length}
use Rattle.state_file.specs.File.{FilePart, part_format, scope_format, tenant_format}
use Rattle.state_file.specs.Records.{filed_as, filed_book, filed_scope, pair_up}
use Rattle.state_file.specs.Rows.{file_range_octets, file_scope_octets, part_octets, part_row, range_row, scope_row, section_octets}
use Rattle.state_file.specs.StateFile.{octets_as, octets_of, room_after, written_of}
use Rattle.std.specs.Prelude.{Result, Ok, Err}
use Rattle.state_file.specs.declared.Refusal.{Refusal}
use Rattle.state_file.specs.declared.Refusal.TheVariants.{ShortRoom, UnsoundBook}

-- ---- settings
pub part_wrote : {r₀ r₁ r₂ : List ℕ} {at a b x y : ℕ} → at ≤ length r₀ → Wrote r₀ at (x ∷ []) r₁ a → Wrote r₁ a (y ∷ []) r₂ b → Wrote r₀ at (x ∷ y ∷ []) r₂ b
part_wrote h p q = wrote_joined h p q

pub range_wrote : {r₀ r₁ r₂ : List ℕ} {at a b : ℕ} (x : ClientRange) → at ≤ length r₀ → Wrote r₀ at (octets32 x.low) r₁ a → Wrote r₁ a (octets32 x.high) r₂ b → Wrote r₀ at (tenant_format.write x) r₂ b
range_wrote x h p q = wrote_joined h p q

scope_octets_law : (h : ℕ) (x : Scope) → ((octets32 x.lowest ++ (x.size ∷ [])) ++ (x.ttl ∷ [])) ++ part_octets h x ≡ (scope_format h).write (filed_scope h x)
unfolding filed_scope part_row
scope_octets_law h x = ap (λ (l : List ℕ). octets32 x.lowest ++ x.size ∷ x.ttl ∷ l) (row_all part_format.write 0 (take h (pair_up x.reserve x.limit)))

-- how many octets a scope has
pub scope_size : (h n : ℕ) (x : Scope) → length x.reserve ≡ 8 → length x.limit ≡ 8 → n ≡ min h 8 → length ((scope_format h).write (filed_scope h x)) ≡ 6 + n * 2
unfolding filed_scope write_all
scope_size h n x p q e =
    let l : length (write_all part_format.write (take h (pair_up x.reserve x.limit))) ≡ length (take h (pair_up x.reserve x.limit)) * 2 = pairs_size (take h (pair_up x.reserve x.limit)) in
    let m = length-take h (pair_up x.reserve x.limit) in
    let k = pair_length 8 x.reserve x.limit p q in
    let z : length (take h (pair_up x.reserve x.limit)) ≡ n = omega arith in
    omega arith
  where
    pairs_size : (l : List FilePart) → length (write_all part_format.write l) ≡ length l * 2
    pairs_size [] = refl
    pairs_size (y ∷ l) = let ih = pairs_size l in omega arith

-- what comes before its parts
pub scope_least : (h : ℕ) (x : Scope) → length ((scope_format h).write (filed_scope h x)) ≡ 6 + length (part_octets h x)
scope_least h x = ap length (sym (scope_octets_law h x)) ∙ simp length-append (omega arith)

pub scope_wrote : {r₀ r₁ r₂ r₃ r₄ : List ℕ} {at a b c d : ℕ} (h : ℕ) (x : Scope) → at ≤ length r₀ → Wrote r₀ at (octets32 x.lowest) r₁ a → Wrote r₁ a (x.size ∷ []) r₂ b → Wrote r₂ b (x.ttl ∷ []) r₃ c
    → Wrote r₃ c (part_octets h x) r₄ d → Wrote r₀ at ((scope_format h).write (filed_scope h x)) r₄ d
scope_wrote h x l p q w z = wrote_as (scope_octets_law h x) (wrote_joined l (wrote_joined l (wrote_joined l p q) w) z)

pub server_wrote : {r₀ r₁ r₂ r₃ : List ℕ} {a b c : ℕ} (x y : ℕ) → Wrote r₀ 0 (1 ∷ []) r₁ a → Wrote r₁ a (octets32 x) r₂ b → Wrote r₂ b (octets32 y) r₃ c → Wrote r₀ 0 (1 ∷ octets32 x ++ octets32 y) r₃ c
server_wrote x y p q w = wrote_joined (omega arith) (wrote_joined (omega arith) p q) w

-- ---- lengths
pub ranges_length : (k : ℕ) (l : List ClientRange) → length (write_from range_row k l) ≡ length l * 8
unfolding write_from range_row
ranges_length k [] = refl
ranges_length k (x ∷ l) = let ih = ranges_length (suc k) l in omega arith

pub scope_length : (c : Scope) (h n : ℕ) → length c.reserve ≡ 8 → length c.limit ≡ 8 → n ≡ min h 8 → (6 + n * 2 ≡ length ((scope_format h).write (filed_scope h c))) × (6 + n * 2 ≤ 22)
scope_length c h n p q e = (sym (scope_size h n c p q e), omega arith)

-- ---- the sections as they are written
scopes_octets_law : (n h k : ℕ) (l : List Scope) → write_all (scope_format n).write (map (filed_scope h) l) ≡ write_from (scope_row h) k l
unfolding write_from write_all scope_row
scopes_octets_law n h k [] = refl
scopes_octets_law n h k (c ∷ l) = ap (λ (r : List ℕ). (scope_format h).write (filed_scope h c) ++ r) (scopes_octets_law n h (suc k) l)

ranges_octets_law : (k : ℕ) (l : List ClientRange) → write_all tenant_format.write l ≡ write_from range_row k l
unfolding write_from write_all range_row
ranges_octets_law k [] = refl
ranges_octets_law k (r ∷ l) = ap (λ (x : List ℕ). tenant_format.write r ++ x) (ranges_octets_law (suc k) l)

seven : (a b c d e f g : List ℕ) → a ++ (b ++ (c ++ (d ++ (e ++ (f ++ g))))) ≡ (((((a ++ b) ++ c) ++ d) ++ e) ++ f) ++ g
seven a b c d e f g =
    sym (append_assoc ((((a ++ b) ++ c) ++ d) ++ e) f g ∙ append_assoc (((a ++ b) ++ c) ++ d) e (f ++ g) ∙ append_assoc ((a ++ b) ++ c) d (e ++ (f ++ g)) ∙ append_assoc (a ++ b) c (d ++ (e ++ (f ++ g)))
    ∙ append_assoc a b (c ++ (d ++ (e ++ (f ++ g)))))

-- ---- the sections before the names
pub sections_length : (s : State) (b : LeaseTable) → length (section_octets s b) ≡ 11 + length (file_range_octets s) + length (file_scope_octets s) + length (table_octets false b)
unfolding section_octets
sections_length s b = simp length-append (omega arith)

pub sections_wrote : (s : State) (b : LeaseTable) {r₀ r₁ r₂ r₃ r₄ : List ℕ} {a c d f : ℕ} → Wrote r₀ 0 (1 ∷ octets32 s.server ++ octets32 s.clock) r₁ a → Wrote r₁ a (length (ranges_of s) ∷ file_range_octets s) r₂ c
    → Wrote r₂ c (length (scopes_of s) ∷ file_scope_octets s) r₃ d → Wrote r₃ d (table_octets false b) r₄ f → Wrote r₀ 0 (section_octets s b) r₄ f
unfolding section_octets
sections_wrote s b p q w z = wrote_joined (omega arith) (wrote_joined (omega arith) (wrote_joined (omega arith) p q) w) z

pub size_is : (s : State) (b : LeaseTable) (h x y r : ℕ) → length s.tenants ≡ 8 → h ≡ min s.tenant_count 8 → (x ≡ length (file_scope_octets s)) × (x ≤ 88) → (y ≡ length (table_octets false b)) × (y ≤ 14977)
    → r ≡ 11 + h * 8 + x + y → (r ≡ length (section_octets s b)) × (r ≤ 15140)
size_is s b h x y r l p q w z =
    let f = sections_length s b in
    let k = ranges_length 0 (ranges_of s) in
    let m = length-take s.tenant_count s.tenants in
    let e = q.0 in
    let g = w.0 in
    let i = q.1 in
    let j = w.1 in
    (omega arith, omega arith)

-- ---- the whole file
module _ (s : State) (b : LeaseTable) (m : Memory) (names : List ℕ) where
  file_octets : octets_as (record { state = s; table = b; memory = m; names = names }) ≡ ((section_octets s b ++ names) ++ memory_octets m) ++ table_octets true b
  unfolding octets_as filed_as section_octets memory_octets
  file_octets =
      ap₂ {C = List ℕ} (λ (x y : List ℕ). server ++ ((length (ranges_of s) ∷ x) ++ y)) (ranges_octets_law 0 (ranges_of s))
      (ap₂ {C = List ℕ} (λ (x y : List ℕ). x ++ y)
      (ap₂ {C = List ℕ} (λ (n : ℕ) (x : List ℕ). n ∷ x) (length-map (scopes_of s) (filed_scope s.tenant_count)) (scopes_octets_law (length (ranges_of s)) s.tenant_count 0 (scopes_of s)))
      (ap₂ {C = List ℕ} (λ (x y : List ℕ). x ++ (names ++ (memory_octets m ++ y))) (leases_octets b) (holds_octets b)))
      ∙ seven server (length (ranges_of s) ∷ file_range_octets s) (length (scopes_of s) ∷ file_scope_octets s) (table_octets false b) names (memory_octets m) (table_octets true b)
    where
      server : List ℕ
      server = 1 ∷ octets32 s.server ++ octets32 s.clock

  pub file_length : length (octets_as (record { state = s; table = b; memory = m; names = names })) ≡ length (section_octets s b) + length names + length (memory_octets m) + length (table_octets true b)
  file_length =
      ap length file_octets ∙ length-append ((section_octets s b ++ names) ++ memory_octets m) (table_octets true b)
      ∙ ap (λ (k : ℕ). k + length (table_octets true b)) (length-append (section_octets s b ++ names) (memory_octets m) ∙ ap (λ (k : ℕ). k + length (memory_octets m)) (length-append (section_octets s b) names))

  pub file_sum : (n k j : ℕ) → n ≡ length (section_octets s b) → k ≡ length (memory_octets m) → j ≡ length (table_octets true b)
      → n + length names + k + j ≡ length (octets_as (record { state = s; table = b; memory = m; names = names }))
  file_sum n k j p q w = let f = file_length in let e : n + length names + k + j ≡ length (octets_as (record { state = s; table = b; memory = m; names = names })) = omega arith in e

  -- the room that is left for what is remembered, and for the holds
  module _ {r₀ r₁ r₂ : List ℕ} {a c n : ℕ} (h : length (octets_as (record { state = s; table = b; memory = m; names = names })) ≤ length r₀) (p : Wrote r₀ 0 (section_octets s b) r₁ a)
      (l : n ≡ length names) (q : Wrote r₁ a (take n names) r₂ c) where
    names_next : c ≡ length (section_octets s b) + length names
    names_next =
        let x = p.next in
        let y = q.next in
        let z = ap length (take_all n names (omega arith)) in
        let e : c ≡ length (section_octets s b) + length names = omega arith in
        e

    pub file_rest : length r₂ ≡ length r₀ → c + length (memory_octets m) ≤ length r₂
    file_rest e = let f = file_length in let x = names_next in omega arith

    pub file_last : {r₃ : List ℕ} {d : ℕ} → Wrote r₂ c (memory_octets m) r₃ d → length r₃ ≡ length r₀ → d + length (table_octets true b) ≤ length r₃
    file_last w e = let f = file_length in let x = names_next in let y = w.next in omega arith

  pub file_wrote : {r₀ r₁ r₂ r₃ r₄ : List ℕ} {a c d f n : ℕ} → Wrote r₀ 0 (section_octets s b) r₁ a → n ≡ length names → Wrote r₁ a (take n names) r₂ c → Wrote r₂ c (memory_octets m) r₃ d → Wrote r₃ d (table_octets true b) r₄ f
      → Wrote r₀ 0 (octets_as (record { state = s; table = b; memory = m; names = names })) r₄ f
  file_wrote {n = n} p l q w z =
      wrote_as (sym file_octets) (wrote_joined (omega arith) (wrote_joined (omega arith) (wrote_joined (omega arith) p (wrote_as (take_all n names (omega arith)) q)) w) z)

-- ---- the answers
module _ (b : Book) (q : Bool) (e : q ≡ sound_b b.state b.table) where
  sound_tested : (c : Bool) → q ≡ c → (c && (memory_good b && (board_good b && names_good b))) ≡ book_b b
  unfolding book_b
  sound_tested c t = ap (λ (x : Bool). x && (memory_good b && (board_good b && names_good b))) (sym t ∙ e)

  pub book_not : q ≡ false → false ≡ book_b b
  book_not t = sound_tested false t

  module _ (w : Bool) (f : w ≡ memory_good b) (t : q ≡ true) where
    memory_tested : (c : Bool) → w ≡ c → (c && (board_good b && names_good b)) ≡ book_b b
    memory_tested c u = ap (λ (x : Bool). x && (board_good b && names_good b)) (sym u ∙ f) ∙ sound_tested true t

    pub book_memory : w ≡ false → false ≡ book_b b
    book_memory u = memory_tested false u

    -- the board is compared with the one that the leases make
    module _ (v : Bool) (l : length b.table.tenants ≡ 8) (g : v ≡ same_board b.memory.board (built_of b.table)) (u : w ≡ true) where
      board_tested : (c : Bool) → v ≡ c → (c && names_good b) ≡ book_b b
      board_tested c z = ap (λ (x : Bool). x && names_good b) (sym z ∙ g ∙ made_agrees b.state b.table b.memory.board l (sym e ∙ t)) ∙ memory_tested true u

      pub book_board : v ≡ false → false ≡ book_b b
      book_board z = board_tested false z

      pub book_yes : (r : Bool) → v ≡ true → r ≡ names_good b → r ≡ book_b b
      book_yes r z p = p ∙ board_tested true z

module _ (b : Book) {q : Bool} (e : q ≡ book_b b) where
  pub book_known : q ≡ true → book_b b ≡ true
  book_known t = sym e ∙ t

  pub write_unsound : (room : List ℕ) → q ≡ false → (◌≡◌ {A = Result ℕ Refusal} (Err UnsoundBook) (written_of b (length room))) × (room ≡ room_after b room)
  unfolding written_of room_after pick
  write_unsound room t =
      let p : book_b b ≡ false = sym e ∙ t in (
        sym (ap (λ (x : Bool). pick x (pick (ltb (length room) (length (octets_of b))) (Err ShortRoom) (Ok (length (octets_of b)))) (Err UnsoundBook)) p),
        sym (ap (λ (x : Bool). pick x (pick (ltb (length room) (length (octets_of b))) room (octets_of b ++ drop (length (octets_of b)) room)) room) p),
      )

module _ (b : Book) (p : book_b b ≡ true) (n : ℕ) (room : List ℕ) {x : LeaseTable} (order : x ≡ in_file_order b.table) (size : n ≡ length (octets_as (record { state = b.state; table = x; memory = b.memory; names = b.names }))) where
  -- the records were put into the order of the file
  abbrev As : LeaseTable → List ℕ
  As y = octets_as (record { state = b.state; table = y; memory = b.memory; names = b.names })

  filed : As x ≡ octets_of b
  unfolding octets_as octets_of filed_book
  filed = ap As order

  l : n ≡ length (octets_of b)
  l = size ∙ ap length filed

  pub write_short : length room < n → (◌≡◌ {A = Result ℕ Refusal} (Err ShortRoom) (written_of b (length room))) × (room ≡ room_after b room)
  unfolding written_of room_after pick
  write_short h =
      let k : ltb (length room) (length (octets_of b)) ≡ true = lt-ltb _ _ (let c = l in let g : length room < length (octets_of b) = omega arith in g) in (
        sym (ap₂ (λ (x y : Bool). pick x (pick y (Err ShortRoom) (Ok (length (octets_of b)))) (Err UnsoundBook)) p k),
        sym (ap₂ (λ (x y : Bool). pick x (pick y room (octets_of b ++ drop (length (octets_of b)) room)) room) p k),
      )

  pub write_done : (now : List ℕ) (f : ℕ) → n ≤ length room → Wrote room 0 (octets_as (record { state = b.state; table = x; memory = b.memory; names = b.names })) now f → (◌≡◌ {A = Result ℕ Refusal} (Ok n) (written_of b (length room))) × (now ≡ room_after b room)
  unfolding written_of room_after pick
  write_done now f h w =
      let k : ltb (length room) (length (octets_of b)) ≡ false = le-ltb _ _ (let c = l in let g : length (octets_of b) ≤ length room = omega arith in g) in (
        ap {B = Result ℕ Refusal} (λ (x : ℕ). Ok x) l ∙ sym (ap₂ (λ (x y : Bool). pick x (pick y (Err ShortRoom) (Ok (length (octets_of b)))) (Err UnsoundBook)) p k),
        wrote_whole (wrote_as filed w) ∙ sym (ap₂ (λ (x y : Bool). pick x (pick y room (octets_of b ++ drop (length (octets_of b)) room)) room) p k),
      )
