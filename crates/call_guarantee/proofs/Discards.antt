-- Proof of demand 1: whichever way the tests go, a call has one of the outcomes 0 to 8, and a discard changes no more than the clock and the ended leases.
use Prim.Native.Nat.{ℕ, zero, suc, ◌≤◌, max}
use mathlib.Core.Path.{◌≡◌, refl, sym, ap, ◌∙◌, subst}
use mathlib.Core.Bool.{Bool, true, false, not, ◌&&◌}
use mathlib.Core.List.{List, [], ◌∷◌, map}
use native.Mathlib.Omega.{arith}
use lib.Dec.{ltb, eqb}
use lib.ListN.{get_or, length}
use borrow.Author.Tests.{eqb-false}
use Rattle.reply.specs.Reply.{least_room}
use Rattle.lists.specs.Pick.{pick}
use Rattle.message.specs.declared.Fields.{Fields}
use Rattle.message.specs.declared.Reading.{Reading}
use Rattle.message.specs.declared.Stage.{Stage}
use Rattle.message.specs.declared.Stage.TheVariants.{Walking, Done, Broken}
use Rattle.message.specs.declared.Walk.{Walk}
use Rattle.message.specs.Placed.{GoodPlaces}
use Rattle.message.specs.laws.Placed.{header_long, header_short, none_good, pick_cases, step_onto}
use Rattle.message.specs.Read.{by_stage, ended, header_ok, longest_datagram, none_required, read_of}
use Rattle.message.specs.Read as read
use Rattle.message.specs.Walk.{onward, start, step_of, walk_from, walk_of}
use Rattle.state.specs.declared.Lease.{Lease}
use Rattle.state.specs.declared.LeaseTable.{LeaseTable}
use Rattle.state.specs.laws.Layout.{table_back}
use Rattle.lists.specs.Filter.{filter_by}
use Rattle.state.specs.Book.{Book, advanced, dropped, leases_of, live, live_of, releases_at, remembered, table_of}
use Rattle.lists.specs.laws.Filter.{filter_length}
use Rattle.soundness.specs.laws.Added.{few_at}
use Rattle.soundness.proofs.Lists.{sound_lists}
use Rattle.admission.specs.Tests.{own_of}
use Rattle.decision.proofs.Count.{count_few}
use Rattle.decision_laws.specs.laws.Kept.{own_is}
use Rattle.state.specs.declared.Edit.{Edit}
use Rattle.state.specs.Edit.{edited_book}
use Rattle.state.specs.laws.Edited.{edited_none}
use Rattle.releases.specs.Whole.{board_good, book_b, memory_good, names_good}
use Rattle.releases.specs.laws.Whole.{advanced_names}
use Rattle.releases.proofs.Whole.{bad_board, bad_book, bad_memory, book_sound}
use Rattle.soundness.specs.Sound.{tenants_in}
use Rattle.decision.specs.declared.Decided.{Decided}
use Rattle.server.specs.Serve.{Answer, Call, answered, at_clock, by_reply, discarded, discarded_at, for_server, reply_of, serve_of, tenant_of, with_reading}
use Rattle.server.specs.laws.Outcomes.{Concluded, Numbered, concluded, read_number}
use Rattle.guarantee.specs.Statement.{book_at}

-- ---- the reader's offset lies in the datagram
Inside : List ℕ → ℕ → Type 0
Inside s o = (o ≤ length s) × (o ≤ longest_datagram)

from_inside : (k : ℕ) (s : List ℕ) (w : Walk) → w.at ≤ length s → GoodPlaces s w.places → (walk_from k s w).at ≤ length s
unfolding walk_from
from_inside zero s w h g = h
from_inside (suc k) s w h g = let o = step_onto s w h g in go w.stage (from_inside k s (step_of s w) o.within o.good)
  where
    go : (t : Stage) → (walk_from k s (step_of s w)).at ≤ length s → (onward t w (walk_from k s (step_of s w))).at ≤ length s
    go Walking r = r
    go Done r = h
    go Broken r = h

read_inside : (s : List ℕ) → Inside s (read_of s).fault
unfolding Inside read_of ended walk_of
read_inside s =
    pick_cases P (header_ok s) _ _ (λ e. at_stage (walk_of s).stage (header_short s e) (let h = header_long s e in from_inside (length s) s start (omega arith) (none_good s)))
    (λ _. (omega arith, omega arith))
  where
    P : Reading → Type 0
    P r = Inside s r.fault

    at_stage : (t : Stage) → length s ≤ longest_datagram → (walk_of s).at ≤ length s → P (by_stage t (ended s (walk_of s).places) (read.no_message 5 (walk_of s).at))
    at_stage Walking l h = (h, omega arith)
    at_stage Done l h =
        pick_cases P (eqb (get_or (walk_of s).places 3 0) 0) _ _ (λ _. (omega arith, l)) (λ _.
        pick_cases P (none_required s (walk_of s).places) _ _ (λ _. (omega arith, omega arith)) (λ _. (omega arith, omega arith)))
    at_stage Broken l h = (h, omega arith)

-- ---- the drop
get_d_live : (k : ℕ) (l : List (List Lease)) (g : ℕ) → get_or (map (live_of k) l) g [] ≡ live_of k (get_or l g [])
unfolding live_of filter_by
get_d_live k [] g = refl
get_d_live k (x ∷ l) zero = refl
get_d_live k (x ∷ l) (suc g) = get_d_live k l g

pub own_dropped : (k : ℕ) (t : LeaseTable) (g : ℕ) → own_of (dropped k t) g ≡ live_of k (own_of t g)
unfolding dropped
own_dropped k t g =
    own_is (table_of (map (live_of k) (leases_of t))) g
    ∙ ap (λ (l : List (List Lease)). get_or l g []) (table_back (map (live_of k) (leases_of t)))
    ∙ get_d_live k (leases_of t) g ∙ ap (live_of k) (sym (own_is t g))

-- ---- the call
pub record Tested (b : Book) (c : Call) (a : Answer) : Type 0 where
  pub outcome : a.outcome ≤ 8
  pub silent : (a.outcome ≡ 0 → ⊥) → a.reply ≡ []
  pub untouched : a.outcome ≡ 1 → a.book ≡ b
  pub untouched_too : a.outcome ≡ 2 → a.book ≡ b
  pub advances : 3 ≤ a.outcome → a.book ≡ book_at b c
  pub carries : a.outcome ≡ 5 → a.offset ≡ (read_of c.datagram).fault
  pub carries_none : (a.outcome ≡ 5 → ⊥) → a.offset ≡ 0
  pub inside : (a.offset ≤ length c.datagram) × (a.offset ≤ longest_datagram)
  pub few_read : a.count ≤ 32
  pub none_read : 1 ≤ a.outcome → a.outcome ≤ 7 → a.count ≡ 0
  pub names : a.book.names ≡ b.names

module _ (b : Book) (c : Call) where
  early : (n : ℕ) → 1 ≤ n → n ≤ 2 → Tested b c (discarded n b)
  early n p q = record {
    outcome = omega arith;
    silent = λ z. refl;
    untouched = λ e. refl;
    untouched_too = λ e. refl;
    advances = λ h. absurd (omega arith);
    carries = λ e. absurd (omega arith);
    carries_none = λ z. refl;
    inside = (omega arith, omega arith);
    few_read = omega arith;
    none_read = λ _ _. refl;
    names = refl;
  }

  late : (n o : ℕ) → 3 ≤ n → n ≤ 8 → (n ≡ 5 → o ≡ (read_of c.datagram).fault) → ((n ≡ 5 → ⊥) → o ≡ 0) → Inside c.datagram o → Tested b c (discarded_at n o (book_at b c))
  unfolding Inside
  late n o p q at none within = record {
    outcome = q;
    silent = λ z. refl;
    untouched = λ e. absurd (omega arith);
    untouched_too = λ e. absurd (omega arith);
    advances = λ h. refl;
    carries = at;
    carries_none = none;
    inside = within;
    few_read = omega arith;
    none_read = λ _ _. refl;
    names = advanced_names b c.time;
  }

  out : (n : ℕ) → 3 ≤ n → n ≤ 8 → (n ≡ 5 → ⊥) → Tested b c (discarded n (book_at b c))
  unfolding Inside
  out n p q z = late n 0 p q (λ e. absurd (z e)) (λ _. refl) (omega arith, omega arith)

  -- a sound book has at most sixteen records of a house, and the drop leaves no more
  now_few : book_b b ≡ true → (h : ℕ) → length (own_of (book_at b c).table h) ≤ 16
  unfolding advanced live_of
  now_few sound h =
      let few : length (own_of b.table h) ≤ 16 = subst (λ (x : List Lease). length x ≤ 16) (sym (own_is b.table h)) (few_at b.state (leases_of b.table) (sound_lists b.state b.table (book_sound b sound)) h) in
      let less = filter_length (live (max b.state.clock c.time)) (own_of b.table h) in
      let same = ap length (own_dropped (max b.state.clock c.time) b.table h) in
      omega arith

  served : book_b b ≡ true → (h : ℕ) (m : Fields) (d : Decided) → Concluded d → Tested b c (answered (book_at b c) h m d)
  unfolding reply_of
  served sound h m d j = record {
    outcome = j.few;
    silent = λ z. ap (by_reply (book_at b c).state (book_at b c).names h m d.verdict) (j.rest z).1.0;
    untouched = λ e. absurd (let r = (j.rest (λ z. omega arith)).0 in omega arith);
    untouched_too = λ e. absurd (let r = (j.rest (λ z. omega arith)).0 in omega arith);
    advances = λ n.
        ap (λ (e : Edit). edited_book e h (book_at b c)) (j.rest (λ z. omega arith)).1.1 ∙ edited_none (book_at b c) h;
    carries = λ e. absurd (let r = (j.rest (λ z. omega arith)).0 in omega arith);
    carries_none = λ z. refl;
    inside = (omega arith, omega arith);
    few_read = count_few (book_at b c).state (own_of (book_at b c).table h) (remembered (releases_at (book_at b c).memory h)) m (now_few sound h);
    none_read = λ p q. absurd (let r = (j.rest (λ z. omega arith)).0 in omega arith);
    names = advanced_names b c.time;
  }

  P : Answer → Type 0
  P a = Tested b c a

  for_server_law : book_b b ≡ true → (h : ℕ) (m : Fields) → Tested b c (for_server (book_at b c) h m)
  unfolding for_server P
  for_server_law sound h m =
      pick_cases P (eqb m.kind 3 && not m.ours) _ _ (λ _. out 7 (omega arith) (omega arith) (λ e. omega arith))
      (λ _. served sound h m _ (concluded (book_at b c).state (book_at b c).table (remembered (releases_at (book_at b c).memory h)) h m))

  with_reading_law : book_b b ≡ true → (h : ℕ) → Tested b c (with_reading (book_at b c) h c.datagram (read_of c.datagram))
  unfolding with_reading P Numbered
  with_reading_law sound h =
      pick_cases P (eqb (read_of c.datagram).discard 0) _ _ (λ _. for_server_law sound h _)
      (λ e. let n = read_number c.datagram (eqb-false (read_of c.datagram).discard 0 e) in late (read_of c.datagram).discard (read_of c.datagram).fault n.0 n.1 (λ _. refl) n.2 (read_inside c.datagram))

  at_clock_law : book_b b ≡ true → Tested b c (at_clock (book_at b c) c.client c.datagram)
  unfolding at_clock P
  at_clock_law sound =
      pick_cases P (ltb (tenant_of (book_at b c).state c.client) (tenants_in (book_at b c).state)) _ _ (λ _. with_reading_law sound _) (λ _. out 3 (omega arith) (omega arith) (λ e. omega arith))

  pub call_tested : Tested b c (serve_of b c)
  unfolding serve_of P
  call_tested =
      pick_cases P (book_b b) _ _
      (λ sound. pick_cases P (ltb c.room least_room) _ _ (λ _. early 2 (omega arith) (omega arith)) (λ _. at_clock_law sound)) (λ _. early 1 (omega arith) (omega arith))

-- ---- bad names are discard 1, and so are bad releases and a bad board
unsound_refused : (b : Book) (c : Call) → book_b b ≡ false → (serve_of b c).outcome ≡ 1
unfolding serve_of pick
unsound_refused b c e = ap {A = Bool} (λ (x : Bool). (pick x (pick (ltb c.room least_room) (discarded 2 b) (at_clock (advanced b c.time) c.client c.datagram)) (discarded 1 b)).outcome) e

pub names_refused : (b : Book) (c : Call) → names_good b ≡ false → (serve_of b c).outcome ≡ 1
names_refused b c e = unsound_refused b c (bad_book b e)

pub releases_refused : (b : Book) (c : Call) → memory_good b ≡ false → (serve_of b c).outcome ≡ 1
releases_refused b c e = unsound_refused b c (bad_memory b e)

pub board_refused : (b : Book) (c : Call) → board_good b ≡ false → (serve_of b c).outcome ≡ 1
board_refused b c e = unsound_refused b c (bad_board b e)
