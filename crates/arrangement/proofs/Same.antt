-- Laws: the call by any order that decides, beside the call on the same book in the order of records: the same answer, and books equal but for the order. So the
-- theorem, for the old arrangement.
use Rattle.std.specs.Prelude.{Option, None, Some}
use Rattle.std.specs.Option.{option_map_or}
use Prim.Native.Nat.{ℕ, ◌<◌, max}
use mathlib.Core.Path.{◌≡◌, refl, sym, ap, ap₂, ◌∙◌, subst}
use mathlib.Core.Bool.{Bool, true, false, ◌&&◌}
use mathlib.Core.List.Permᴰ
use mathlib.Core.List.{List, [], ◌∷◌, map}
use native.Mathlib.Omega.{arith}
use lib.Dec.{ltb, eqb}
use lib.ListN.{length, get_or, set, length-map, length-set}
use borrow.Author.Tests.{ltb-true}
use Rattle.lists.specs.Pick.{pick}
use Rattle.lists.specs.All.{all_by, pairs_by}
use Rattle.lists.specs.Arranged.{insert_in}
use Rattle.lists.specs.laws.All.{all_same}
use Rattle.lists.specs.laws.Arranged.{Ordering, insert_reordered}
use Rattle.lists.specs.laws.Both.{and_both, and_parts}
use Rattle.lists.specs.laws.Each.{map_set}
use Rattle.lists.specs.Reordered.{Reordered}
use Rattle.lists.specs.laws.Reordered.{reordered_all, reordered_filter, reordered_length}
use Rattle.occupancy.specs.declared.Board.{Board}
use Rattle.message.specs.declared.Fields.{Fields}
use Rattle.message.specs.Read.{read_of}
use Rattle.message.specs.Values.{fields_of}
use Rattle.reply.specs.Reply.{least_room}
use Rattle.state.specs.declared.Edit.{Edit}
use Rattle.state.specs.declared.Lease.{Lease}
use Rattle.state.specs.declared.LeaseTable.{LeaseTable}
use Rattle.state.specs.declared.Memory.{Memory}
use Rattle.state.specs.declared.State.{State}
use Rattle.state.specs.declared.TenantLeases.{TenantLeases}
use Rattle.state.specs.declared.TenantReleases.{TenantReleases}
use Rattle.state.specs.Book.{Book, Order, advanced, by_ending, by_identifier, changed_to, differ, dropped, id_of, in_use, inserted_by, laid_out, leases_of, live_of, ordered, other, releases_at, release_id, remembered, remove_of, table_of, tenant_at}
use Rattle.state.specs.Edit.{applied_by, edited_book_by, edited_by, left_in}
use Rattle.state.specs.laws.Edited.{applied_laid}
use Rattle.state.specs.laws.Layout.{read_back, table_back}
use Rattle.state.specs.laws.Sorted.{by_identifier_law}
use Rattle.soundness.specs.Sound.{sound_by, tenants_in}
use Rattle.soundness.specs.laws.Book.{Sound, rises_by}
use Rattle.soundness.proofs.Lists.{by_lists, lists_by, sound_lists}
use Rattle.soundness.specs.laws.Kept.{live_rises}
use Rattle.soundness.specs.laws.Rises.{applied_rises, differ_at}
use Rattle.agreement.specs.Agrees.{agrees_b}
use Rattle.agreement.specs.laws.Agrees.{advanced_agrees, agrees_is, is_agrees}
use Rattle.agreement.specs.laws.Tenants.{at_tenant}
use Rattle.releases.specs.Rules.{differs, memory_b, not_leased, once_b, own_leases, rules_at}
use Rattle.releases.specs.Whole.{board_good, book_b, memory_good, names_good}
use Rattle.releases.specs.laws.Tenants.{Holds, each_memory, memory_each}
use Rattle.releases.proofs.Whole.{book_board, book_sound}
use Rattle.decision.specs.declared.Decided.{Decided}
use Rattle.admission.specs.Tests.{own_of}
use Rattle.server.specs.Serve.{Answer, Call, answered, at_clock, decided_for, discarded, discarded_at, for_server, serve_of, tenant_of, with_reading}
use Rattle.guarantee.specs.Statement.{SoundBook, run}
use Rattle.guarantee.proofs.Reached.{pick_then}
use Rattle.guarantee.proofs.Kept.{advanced_laid, call_sound, now_sound}
use Rattle.arrangement.specs.Arrangement.{Heard, answered_by, at_clock_by, book_by, for_server_by, heard, run_by, serve_by, told_by, with_reading_by}
use Rattle.arrangement.specs.Statement.{Alike, Pair, SameAnswer, SameRuns, SameService, SoundBy}
use Rattle.arrangement.proofs.Lists.{Same, at_same, board_same, same_live, same_set, same_symm, sound_same}
use Rattle.arrangement.proofs.Decided.{decide_same, own_same}

-- ---- at the order of records it is the call
pub serve_ordered : (b : Book) (c : Call) → serve_by ordered b c ≡ serve_of b c
unfolding serve_by at_clock_by with_reading_by for_server_by book_by serve_of at_clock with_reading for_server book_b
serve_ordered b c = refl

pub run_ordered : (b : Book) (cs : List Call) → run_by ordered b cs ≡ run b cs
unfolding run_by run
run_ordered b [] = refl
run_ordered b (c ∷ cs) = ap (λ (a : Answer). run_by ordered a.book cs) (serve_ordered b c) ∙ run_ordered (serve_of b c).book cs

pub book_ordered : (b : Book) → SoundBy ordered b → SoundBook b
unfolding book_by book_b
book_ordered b v = record { tenants = v.tenants; memory = v.memory; sound = v.sound }

ordered_book : (b : Book) → SoundBook b → SoundBy ordered b
unfolding book_by book_b
ordered_book b v = record { tenants = v.tenants; memory = v.memory; sound = v.sound }

-- ---- the book with another table
abbrev pub twin : Book → LeaseTable → Book
twin y t = changed_to y y.state t y.memory

-- ---- an edit of the same records in another order
edited_same : (o p : Order) (e : Edit) (t u : TenantLeases) → Reordered (in_use t) (in_use u) → Reordered (in_use (edited_by o e t)) (in_use (edited_by p e u))
unfolding edited_by left_in inserted_by remove_of pick
edited_same o p e t u d =
    enter e.enters (option_map_or (λ l. laid_out (remove_of (id_of l) (in_use t))) e.leaves t) (option_map_or (λ l. laid_out (remove_of (id_of l) (in_use u))) e.leaves u) (leave e.leaves)
  where
    leave : (c : Option Lease) → Reordered (in_use (option_map_or (λ l. laid_out (remove_of (id_of l) (in_use t))) c t)) (in_use (option_map_or (λ l. laid_out (remove_of (id_of l) (in_use u))) c u))
    leave (Some l) =
        subst (λ (x : List Lease). Reordered x (in_use (laid_out (remove_of (id_of l) (in_use u))))) (sym (read_back (remove_of (id_of l) (in_use t))))
        (subst (λ (x : List Lease). Reordered (remove_of (id_of l) (in_use t)) x) (sym (read_back (remove_of (id_of l) (in_use u)))) (reordered_filter (other (id_of l)) d))
    leave None = d

    inserted : (l : Lease) (b c : Bool) (x y : TenantLeases) → b ≡ c → Reordered (in_use x) (in_use y)
        → Reordered (in_use (pick b (laid_out (insert_in o l (in_use x))) x)) (in_use (pick c (laid_out (insert_in p l (in_use y))) y))
    inserted l true true x y q r =
        subst (λ (z : List Lease). Reordered z (in_use (laid_out (insert_in p l (in_use y))))) (sym (read_back (insert_in o l (in_use x))))
        (subst (λ (z : List Lease). Reordered (insert_in o l (in_use x)) z) (sym (read_back (insert_in p l (in_use y))))
        (Permᴰ.trans (insert_reordered o l (in_use x)) (Permᴰ.trans (Permᴰ.cons refl r) (Permᴰ.symm (insert_reordered p l (in_use y))))))
    inserted l false false x y q r = r
    inserted l true false x y q r = absurd (let z : ◌≡◌ {A = ℕ} 0 1 = cc in omega arith)
    inserted l false true x y q r = absurd (let z : ◌≡◌ {A = ℕ} 0 1 = cc in omega arith)

    enter : (c : Option Lease) (x y : TenantLeases) → Reordered (in_use x) (in_use y) → Reordered (in_use (option_map_or (λ l. inserted_by o l x) c x)) (in_use (option_map_or (λ l. inserted_by p l y) c y))
    enter (Some l) x y r = inserted l (ltb (length (in_use x)) 16) (ltb (length (in_use y)) 16) x y (ap (λ (n : ℕ). ltb n 16) (reordered_length r)) r
    enter None x y r = r

applied_same : (o p : Order) (e : Edit) (h : ℕ) (t u : LeaseTable) → Same (leases_of t) (leases_of u) → Same (leases_of (applied_by o e h t)) (leases_of (applied_by p e h u))
unfolding applied_by
applied_same o p e h t u v =
    subst (λ (x : List (List Lease)). Same x (leases_of (applied_by p e h u))) (map_set in_use t.tenants h (edited_by o e (tenant_at t h)))
    (subst (λ (x : List (List Lease)). Same (set (leases_of t) h (in_use (edited_by o e (tenant_at t h)))) x) (map_set in_use u.tenants h (edited_by p e (tenant_at u h)))
    (same_set (leases_of t) (leases_of u) h (in_use (edited_by o e (tenant_at t h))) (in_use (edited_by p e (tenant_at u h))) v (edited_same o p e (tenant_at t h) (tenant_at u h) (own_same t u v h))))

-- ---- what is remembered knows the identifiers of the records alone
once_same : (x y : List Lease) (q : TenantReleases) → Reordered x y → once_b x q ≡ once_b y q
unfolding once_b not_leased
once_same x y q d = ap (λ (b : Bool). pairs_by differs (remembered q) && b) (all_same (not_leased x) (not_leased y) (remembered q) (λ r. reordered_all (other (release_id r)) d))

memory_same : (s : State) (t u : LeaseTable) (m : Memory) → Same (leases_of t) (leases_of u) → memory_b s t m ≡ true → memory_b s u m ≡ true
unfolding rules_at
memory_same s t u m v e = each_memory s u m (λ h p. keep h (memory_each s t m e h p))
  where
    off : (h : ℕ) → once_b (own_leases t h) (releases_at m h) ≡ once_b (own_leases u h) (releases_at m h)
    off h = once_same (own_leases t h) (own_leases u h) (releases_at m h) (own_same t u v h)

    keep : (h : ℕ) → Holds (rules_at (tenants_in s) s.clock h (own_leases t h) (releases_at m h)) → Holds (rules_at (tenants_in s) s.clock h (own_leases u h) (releases_at m h))
    keep h w = record { tenants = w.tenants; few = w.few; lengths = w.lengths; once = sym (off h) ∙ w.once; times = w.times; layout = w.layout }

-- ---- the parts of a book that is sound by an order
module _ (o : Order) (y : Book) (v : SoundBy o y) where
  halves : (sound_by o y.state y.table ≡ true) × ((memory_good y && (board_good y && names_good y)) ≡ true)
  unfolding book_by
  halves = and_parts (sound_by o y.state y.table) (memory_good y && (board_good y && names_good y)) v.sound

  besides : (memory_good y ≡ true) × ((board_good y && names_good y) ≡ true)
  besides = and_parts (memory_good y) (board_good y && names_good y) halves.1

  pub sound_part : sound_by o y.state y.table ≡ true
  sound_part = halves.0

  memory_part : memory_good y ≡ true
  memory_part = besides.0

  board_part : board_good y ≡ true
  board_part = (and_parts (board_good y) (names_good y) besides.1).0

  names_part : names_good y ≡ true
  names_part = (and_parts (board_good y) (names_good y) besides.1).1

-- ---- so the book with such a table is sound by another order, where its records rise by it
module _ (p o : Order) (y : Book) (t : LeaseTable) (v : SoundBy p y) (eight : length t.tenants ≡ 8) (laid : t ≡ table_of (leases_of t)) (same : Same (leases_of y.table) (leases_of t)) where
  twin_lists : Sound y.state (leases_of t)
  twin_lists = sound_same y.state (leases_of y.table) (leases_of t) same (lists_by p y.state y.table (sound_part p y v))

  pub twin_sound : all_by (pairs_by o) (leases_of t) ≡ true → SoundBy o (twin y t)
  unfolding book_by
  twin_sound rises = record {
    tenants = eight;
    memory = v.memory;
    sound =
        and_both (ap (sound_by o y.state) laid ∙ by_lists o y.state (leases_of t) twin_lists rises)
        (and_both (memory_same y.state y.table t y.memory same (memory_part p y v))
        (and_both (is_agrees t y.memory.board (agrees_is y.table y.memory.board (board_part p y v) ∙ board_same (leases_of y.table) (leases_of t) same)) (names_part p y v)));
  }

pub twin_alike : (y : Book) (t : LeaseTable) → Same (leases_of t) (leases_of y.table) → Alike (twin y t) y
twin_alike y t w = record { state = refl; names = refl; memory = refl; records = own_same t y.table w }

-- ---- two books equal but for the order
module _ (o : Order) (x y : Book) (old : SoundBy o x) (new : SoundBook y) (a : Alike x y) where
  pub lists_alike : Same (leases_of x.table) (leases_of y.table)
  lists_alike =
      at_same (leases_of x.table) (leases_of y.table) (length-map x.table.tenants in_use ∙ old.tenants ∙ sym (length-map y.table.tenants in_use ∙ new.tenants))
      (λ g. subst (λ (l : List Lease). Reordered l (get_or (leases_of y.table) g [])) (at_tenant x.table g) (subst (λ (l : List Lease). Reordered (own_of x.table g) l) (at_tenant y.table g) (a.records g)))

  -- x is y with its own table
  pub is_twin : x ≡ twin y x.table
  is_twin =
      ap₂ (λ (s : State) (m : Memory). record { state = s; table = x.table; memory = m; names = x.names }) a.state a.memory
      ∙ ap (λ (n : List ℕ). record { state = y.state; table = x.table; memory = y.memory; names = n }) a.names

-- ---- two answers
record Leaf (o : Order) (a b : Answer) : Type 0 where
  outcome : a.outcome ≡ b.outcome
  offset : a.offset ≡ b.offset
  reply : a.reply ≡ b.reply
  alike : Alike a.book b.book
  sound : SoundBook b.book → SoundBy o a.book

both_pick : {A : Type 0} (P : A → A → Type 0) (b : Bool) (x x' y y' : A) → (b ≡ true → P x y) → (b ≡ false → P x' y') → P (pick b x x') (pick b y y')
unfolding pick
both_pick P true x x' y y' f g = f refl
both_pick P false x x' y y' f g = g refl

module _ (o : Order) (decides : Ordering differ o) where
  -- ---- after the drop
  module _ (y : Book) (v : SoundBook y) (t : LeaseTable) (eight : length t.tenants ≡ 8) (laid : t ≡ table_of (leases_of t)) (w : Same (leases_of t) (leases_of y.table))
      (rises : all_by (pairs_by o) (leases_of t) ≡ true) where
    back : Same (leases_of y.table) (leases_of t)
    back = same_symm (leases_of t) (leases_of y.table) w

    kept : (n f : ℕ) → Leaf o (discarded_at n f (twin y t)) (discarded_at n f y)
    kept n f = record { outcome = refl; offset = refl; reply = refl; alike = twin_alike y t w; sound = λ u. twin_sound ordered o y t (ordered_book y u) eight laid back rises }

    -- the book after an edit e of tenant h
    module _ (h : ℕ) (there : h < length t.tenants) (e : Edit) where
      eight_after : length (applied_by o e h t).tenants ≡ 8
      unfolding applied_by
      eight_after = length-set t.tenants h (edited_by o e (tenant_at t h)) ∙ eight

      same_after : Same (leases_of (applied_by o e h t)) (leases_of (applied_by ordered e h y.table))
      same_after = applied_same o ordered e h t y.table w

      edited_sound : SoundBook (edited_book_by ordered e h y) → SoundBy o (edited_book_by o e h (twin y t))
      edited_sound u =
          let s = same_symm (leases_of (applied_by o e h t)) (leases_of (applied_by ordered e h y.table)) same_after in
          let l = applied_laid o e h t laid in
          let q = ordered_book (edited_book_by ordered e h y) u in
          twin_sound ordered o (edited_book_by ordered e h y) (applied_by o e h t) q eight_after l s
          (applied_rises o decides e y.state t h there rises (twin_lists ordered o (edited_book_by ordered e h y) (applied_by o e h t) q eight_after l s))

    decided : (h : ℕ) (m : Fields) → h < length t.tenants → Leaf o (answered_by o (twin y t) h m (decided_for (twin y t) h m)) (answered y h m (decided_for y h m))
    decided h m there =
        subst (λ (d : Decided). Leaf o (answered_by o (twin y t) h m d) (answered y h m (decided_for y h m))) (sym same)
        (record {
          outcome = refl;
          offset = refl;
          reply = refl;
          alike = twin_alike (edited_book_by ordered (decided_for y h m).edit h y) (applied_by o (decided_for y h m).edit h t) (same_after h there (decided_for y h m).edit);
          sound = edited_sound h there (decided_for y h m).edit;
        })
      where
        apart : pairs_by differ (own_of y.table h) ≡ true
        apart = ap (pairs_by differ) (at_tenant y.table h) ∙ differ_at y.state (leases_of y.table) (sound_lists y.state y.table (book_sound y v.sound)) h

        same : decided_for (twin y t) h m ≡ decided_for y h m
        same = decide_same y.state t y.table w h m apart (remembered (releases_at y.memory h))

    at_clock_law : (client : ℕ) (s : List ℕ) → Leaf o (at_clock_by o (twin y t) client s) (at_clock y client s)
    unfolding at_clock_by with_reading_by for_server_by at_clock with_reading for_server
    at_clock_law client s =
        both_pick (Leaf o) (ltb (tenant_of y.state client) (tenants_in y.state)) _ _ _ _
        (λ known. both_pick (Leaf o) (eqb (read_of s).discard 0) _ _ _ _
        (λ _. both_pick (Leaf o) _ _ _ _ _ (λ _. kept 7 0)
        (λ _. decided (tenant_of y.state client) (fields_of s y.state.server (read_of s).message) (let k = ltb-true (tenant_of y.state client) (tenants_in y.state) known in omega arith)))
        (λ _. kept (read_of s).discard (read_of s).fault))
        (λ _. kept 3 0)

  -- ---- the call
  module _ (x y : Book) (old : SoundBy o x) (new : SoundBook y) (a : Alike x y) where
    x_sound : Sound x.state (leases_of x.table)
    x_sound = lists_by o x.state x.table (sound_part o x old)

    module _ (c : Call) where
      abbrev clock : ℕ
      clock = max y.state.clock c.time

      lists_then : leases_of (advanced (twin y x.table) c.time).table ≡ map (live_of clock) (leases_of x.table)
      unfolding advanced dropped
      lists_then = table_back (map (live_of clock) (leases_of x.table))

      lists_now : leases_of (advanced y c.time).table ≡ map (live_of clock) (leases_of y.table)
      unfolding advanced dropped
      lists_now = table_back (map (live_of clock) (leases_of y.table))

      same_now : Same (leases_of (advanced (twin y x.table) c.time).table) (leases_of (advanced y c.time).table)
      same_now =
          subst (λ (l : List (List Lease)). Same l (leases_of (advanced y c.time).table)) (sym lists_then)
          (subst (λ (l : List (List Lease)). Same (map (live_of clock) (leases_of x.table)) l) (sym lists_now) (same_live clock (leases_of x.table) (leases_of y.table) (lists_alike o x y old new a)))

      -- both boards are what the same leases say
      boards : (advanced (twin y x.table) c.time).memory.board ≡ (advanced y c.time).memory.board
      boards =
          agrees_is (advanced (twin y x.table) c.time).table _ (advanced_agrees (twin y x.table) c.time (subst (λ (s : State). Sound s (leases_of x.table)) a.state x_sound) (subst (λ (m : Memory). agrees_b x.table m.board ≡ true) a.memory (board_part o x old)))
          ∙ board_same (leases_of (advanced (twin y x.table) c.time).table) (leases_of (advanced y c.time).table) same_now
          ∙ sym (book_board (advanced y c.time) (now_sound y c new).sound)

      then_twin : advanced (twin y x.table) c.time ≡ twin (advanced y c.time) (advanced (twin y x.table) c.time).table
      unfolding advanced
      then_twin = ap (λ (z : Board). record { state = (advanced y c.time).state; table = (advanced (twin y x.table) c.time).table; memory = record { releases = y.memory.releases; board = z }; names = y.names }) boards

      eight_then : length (advanced (twin y x.table) c.time).table.tenants ≡ 8
      unfolding advanced dropped table_of
      eight_then = length-map (map (live_of clock) (leases_of x.table)) laid_out ∙ length-map (leases_of x.table) (live_of clock) ∙ length-map x.table.tenants in_use ∙ old.tenants

      rises_then : all_by (pairs_by o) (leases_of (advanced (twin y x.table) c.time).table) ≡ true
      rises_then = ap (all_by (pairs_by o)) lists_then ∙ live_rises o clock (leases_of x.table) (rises_by o x.state x.table (sound_part o x old))

      served : Leaf o (at_clock_by o (advanced (twin y x.table) c.time) c.client c.datagram) (at_clock (advanced y c.time) c.client c.datagram)
      served =
          subst (λ (b : Book). Leaf o (at_clock_by o b c.client c.datagram) (at_clock (advanced y c.time) c.client c.datagram)) (sym then_twin)
          (at_clock_law (advanced y c.time) (now_sound y c new) (advanced (twin y x.table) c.time).table eight_then (advanced_laid (twin y x.table) c.time) same_now rises_then c.client c.datagram)

      call : Leaf o (serve_by o x c) (serve_of y c)
      unfolding serve_by serve_of
      call =
          subst (λ (z : Answer). Leaf o (serve_by o x c) z) (sym (pick_then (book_b y) (pick (ltb c.room least_room) (discarded 2 y) (at_clock (advanced y c.time) c.client c.datagram)) (discarded 1 y) new.sound))
          (subst (λ (z : Answer). Leaf o z (pick (ltb c.room least_room) (discarded 2 y) (at_clock (advanced y c.time) c.client c.datagram)))
          (sym (pick_then (book_by o x) (pick (ltb c.room least_room) (discarded 2 x) (at_clock_by o (advanced x c.time) c.client c.datagram)) (discarded 1 x) old.sound))
          (both_pick (Leaf o) (ltb c.room least_room) _ _ _ _
          (λ _. record { outcome = refl; offset = refl; reply = refl; alike = a; sound = λ _. old })
          (λ _. subst (λ (b : Book). Leaf o (at_clock_by o (advanced b c.time) c.client c.datagram) (at_clock (advanced y c.time) c.client c.datagram)) (sym (is_twin o x y old new a)) served)))

-- ---- the theorem
pub same_service : SameService
unfolding SameService
same_service x y p c =
    let new = book_ordered y p.new in
    let l = call by_identifier by_identifier_law x y p.old new p.alike c in
    let u = call_sound y c new in
    subst (SameAnswer (serve_by by_identifier x c)) (sym (serve_ordered y c))
    (record { outcome = l.outcome; offset = l.offset; reply = l.reply; books = record { old = l.sound u; new = ordered_book (serve_of y c).book u; alike = l.alike } })

told_same : (x y : Book) → Pair x y → (cs : List Call) → told_by by_identifier x cs ≡ told_by by_ending y cs
unfolding told_by SameService
told_same x y p [] = refl
told_same x y p (c ∷ cs) =
    let s = same_service x y p c in
    let a : heard (serve_by by_identifier x c) ≡ heard (serve_by by_ending y c) =
    ap₂ {C = Heard} (λ (n f : ℕ). record { outcome = n; offset = f; reply = (serve_by by_identifier x c).reply }) s.outcome s.offset
    ∙ ap {B = Heard} (λ (r : List ℕ). record { outcome = (serve_by by_ending y c).outcome; offset = (serve_by by_ending y c).offset; reply = r }) s.reply in
    ap₂ {C = List Heard} (λ (h : Heard) (r : List Heard). h ∷ r) a (told_same (serve_by by_identifier x c).book (serve_by by_ending y c).book s.books cs)

run_same : (x y : Book) → Pair x y → (cs : List Call) → Pair (run_by by_identifier x cs) (run_by by_ending y cs)
unfolding run_by SameService
run_same x y p [] = p
run_same x y p (c ∷ cs) = run_same (serve_by by_identifier x c).book (serve_by by_ending y c).book (same_service x y p c).books cs

pub same_runs : SameRuns
unfolding SameRuns
same_runs x y p cs = record { told = told_same x y p cs; books = run_same x y p cs }
