-- Proof of the claim that an offer which is taken up at once is as if the REQUEST alone had been sent.
use Prim.Native.Nat.{ℕ, ◌≤◌, ◌<◌, max}
use mathlib.Core.Path.{◌≡◌, refl, sym, ap, ap₂, ◌∙◌, subst}
use mathlib.Core.Bool.{Bool, true, false, not, ◌&&◌, ◌||◌}
use mathlib.Core.List.{List, [], ◌∷◌, map}
use native.Mathlib.Omega.{arith}
use lib.Dec.{eqb, ltb}
use lib.ListN.{length}
use lib.Seq.{set-get_or, set-set}
use borrow.Author.Tests.{lt-ltb, ltb-true}
use Rattle.lists.specs.Pick.{pick}
use Rattle.lists.specs.All.{all_by}
use Rattle.lists.specs.laws.All.{all_both, all_head}
use Rattle.lists.specs.laws.Both.{and_parts}
use Rattle.lists.specs.laws.Filter.{filter_none_out}
use Rattle.occupancy.specs.declared.Board.{Board}
use Rattle.message.specs.declared.Fields.{Fields}
use Rattle.message.specs.Read.{read_of}
use Rattle.message.specs.Values.{fields_of}
use Rattle.state.specs.declared.Lease.{Lease}
use Rattle.state.specs.declared.LeaseTable.{LeaseTable}
use Rattle.state.specs.declared.Memory.{Memory}
use Rattle.state.specs.declared.State.{State}
use Rattle.state.specs.declared.TenantLeases.{TenantLeases}
use Rattle.state.specs.declared.TenantReleases.{TenantReleases}
use Rattle.state.specs.Book.{Book, ordered, advanced, changed_to, dropped, id_of, insert_of, is_hold, laid_out, laid_releases, leases_of, live, live_of, put_at, put_releases, raised, releases_at, remembered, remove_of, table_of, until, with_clock}
use Rattle.state.specs.laws.Edit.{applied}
use Rattle.state.specs.Edit.{edited_book, entering, forget_of, giving_way, noted, noted_in}
use Rattle.state.specs.laws.Edited.{applied_entering, applied_laid, applied_way}
use Rattle.releases.proofs.Whole.{advanced_book, book_sound, same_board_law}
use Rattle.soundness.specs.Sound.{hold_b, lapse_b}
use Rattle.soundness.specs.laws.Book.{lease_ok}
use Rattle.soundness.proofs.Lists.{sound_lists}
use Rattle.soundness.specs.laws.Facts.{lease_facts}
use Rattle.decision.specs.declared.Reply.TheVariants.{LeaseAck}
use Rattle.proposal.specs.Proposals.{ask_at, meets, too_late, too_short, error0_of, fits_new, held_from, lease_from, length_of, new_at, new_of, new_with, start_of, turned}
use Rattle.admission.specs.Tests.{bad_counts, lacks_current, latest_first, lease_id_in, early1_of, error1_of, error2_of, held_already, is_held, is_leased, is_new, knows_scope, lacks_scope, own_of, recorded_of, resends, zero_length, found_of}
use Rattle.decision.specs.Verdicts.{with_lease}
use Rattle.decision.specs.Decide.{changed}
use Rattle.decision.specs.laws.Code.{or_none, no}
use Rattle.decision_laws.specs.laws.Ensured.{sent_as}
use Rattle.decision_laws.specs.laws.Kept.{held_good}
use Rattle.server.specs.Serve.{Answer, Call, answered, decided_for, serve_of, tenant_of}
use Rattle.guarantee.specs.Statement.{NoHold, SoundBook, book_at, says_of, state_at, table_at, tenant_for}
use Rattle.offer_guarantee.specs.Statement.{AnswersAlike, Discovers, Offered, OfferRule, OfferTaken, as_request, hold_for, requested}
use Rattle.offer_guarantee.proofs.Alike.{Alike, both_numbers}
use Rattle.offer_guarantee.proofs.Drawn.{Fresh}
use Rattle.guarantee.proofs.Granted.{decided}
use Rattle.offer_guarantee.proofs.Held.{Has, now_set}
use Rattle.guarantee.proofs.Inserted.{entered, others_stay}
use Rattle.guarantee.proofs.Kept.{advanced_laid, call_sound}
use Rattle.offer_guarantee.proofs.Offers.{offer_rule}
use Rattle.guarantee.proofs.Reached.{Reaches, decided_there}
use Rattle.offer_guarantee.proofs.Taken as taken
use Rattle.std.specs.Prelude.{Option, Some, None, is_some}

-- ---- a sound book has nothing to drop at its own clock
alive : (s : State) (l : Lease) → lease_ok s l ≡ true → live s.clock l ≡ true
unfolding until hold_b lapse_b pick
alive s l e = let f = lease_facts s l e in go (is_hold l) (lt-ltb s.clock l.end f.alive) f.hold
  where
    go : (b : Bool) → ltb s.clock l.end ≡ true → pick b (lapse_b s.clock l) true ≡ true → ltb s.clock (pick b l.lapse l.end) ≡ true
    go true p q = (and_parts (ltb s.clock l.lapse) _ q).0
    go false p q = p

all_alive : (s : State) (ls : List (List Lease)) → all_by (all_by (lease_ok s)) ls ≡ true → map (live_of s.clock) ls ≡ ls
unfolding live_of
all_alive s [] h = refl
all_alive s (l ∷ ls) h =
    let p = all_head (all_by (lease_ok s)) l ls h in
    ap₂ {C = List (List Lease)} (λ (x : List Lease) (y : List (List Lease)). x ∷ y)
    (filter_none_out (live s.clock) l (all_both (lease_ok s) (lease_ok s) (live s.clock) l (λ x a _. alive s x a) p.0 p.0)) (all_alive s ls p.1)

still_table : (w : Book) (time : ℕ) → SoundBook w → w.table ≡ table_of (leases_of w.table) → time ≤ w.state.clock → (advanced w time).table ≡ w.table
unfolding advanced dropped
still_table w time v laid e =
    let k : max w.state.clock time ≡ w.state.clock = omega arith in
    ap (λ (c : ℕ). table_of (map (live_of c) (leases_of w.table))) k
    ∙ ap table_of (all_alive w.state (leases_of w.table) (sound_lists w.state w.table (book_sound w v.sound)).each) ∙ sym laid

-- so the call that follows at the same time finds it as it is, its board too, which is that of the same leases
advanced_still : (w : Book) (time : ℕ) → SoundBook w → w.table ≡ table_of (leases_of w.table) → time ≤ w.state.clock → advanced w time ≡ w
unfolding advanced raised
advanced_still w time v laid e =
    let k : max w.state.clock time ≡ w.state.clock = omega arith in
    let t = still_table w time v laid e in
    ap (λ (c : ℕ). changed_to w (with_clock w.state c) (advanced w time).table (advanced w time).memory) k
    ∙ ap₂ (λ (y : LeaseTable) (z : Board). changed_to w w.state y (record { releases = w.memory.releases; board = z })) t
    (same_board_law (advanced w time) w (advanced_book w time v.sound) v.sound t)

-- the clock is not before the time of the call that has raised it
now_late : (b : Book) (c : Call) → c.time ≤ (state_at b c).clock
unfolding advanced raised
now_late b c = omega arith

-- ---- a hold that enters and then gives way to l: as if l had entered
module _ (s : State) (t : LeaseTable) (g : ℕ) (o l : Lease) (there : g < length t.tenants) (few : length (own_of t g) < 16) (same : id_of l ≡ id_of o)
    (gone : remove_of (id_of o) (insert_of o (own_of t g)) ≡ own_of t g) where
  rest : remove_of (id_of o) (own_of (applied (entering o) g t) g) ≡ own_of t g
  rest = ap (remove_of (id_of o)) (entered t g o there few) ∙ gone

  same_table : applied (giving_way o l) g (applied (entering o) g t) ≡ applied (entering l) g t
  same_table =
      applied_way (applied (entering o) g t) g o l (let e : length (remove_of (id_of o) (own_of (applied (entering o) g t) g)) ≡ length (own_of t g) = ap length rest in omega arith)
      ∙ ap₂ (λ (x : LeaseTable) (y : List Lease). put_at x g (laid_out (insert_of l y))) (applied_entering t g o few) rest
      ∙ ap {B = LeaseTable} (λ (x : List TenantLeases). record { tenants = x }) (set-set t.tenants g (laid_out (insert_of o (own_of t g))) (laid_out (insert_of l (own_of t g))))
      ∙ sym (applied_entering t g l few)

  same_memory : (m : Memory) → (noted (giving_way o l) g (noted (entering o) g m)).board ≡ (noted (entering l) g m).board → noted (giving_way o l) g (noted (entering o) g m) ≡ noted (entering l) g m
  unfolding noted noted_in pick
  same_memory m e =
      ap₂ {C = Memory} (λ (x : List TenantReleases) (y : Board). record { releases = x; board = y })
      (set-get_or (noted (entering o) g m).releases g (laid_releases []) ∙ ap (λ (i : List ℕ). (put_releases m g (laid_releases (forget_of i (remembered (releases_at m g))))).releases) (sym same)) e

-- ---- one message, as a DISCOVER and as a REQUEST
module _ (s : State) (t : LeaseTable) (g : ℕ) (m : Fields) where
  same_error2 : error2_of s (sent_as 3 m) ≡ error2_of s (sent_as 1 m)
  unfolding error2_of sent_as
  same_error2 = refl

  same_early : early1_of s (sent_as 3 m) ≡ early1_of s (sent_as 1 m)
  unfolding early1_of lacks_scope is_new knows_scope zero_length bad_counts lacks_current latest_first sent_as
  same_early = refl

  same_error0 : error0_of s (sent_as 3 m) (new_of s t g (sent_as 3 m)) ≡ error0_of s (sent_as 1 m) (new_of s t g (sent_as 1 m))
  unfolding error0_of meets too_short too_late new_of new_at new_with fits_new ask_at start_of length_of sent_as
  same_error0 = refl

  -- the lease is what the hold is turned into
  same_lease : lease_from (sent_as 3 m) (new_of s t g (sent_as 3 m)) ≡ turned (sent_as 3 m) (held_from s.clock (lease_from (sent_as 1 m) (new_of s t g (sent_as 1 m))))
  unfolding lease_from turned held_from new_of new_at new_with fits_new ask_at start_of length_of sent_as
  same_lease = refl

-- ---- the two ways
module _ (b : Book) (c : Call) (v : SoundBook b) (discovers : Discovers c) (free : NoHold b c) (offered : Offered (serve_of b c)) where
  abbrev s : State
  s = state_at b c

  abbrev t : LeaseTable
  t = table_at b c

  abbrev h : ℕ
  h = tenant_for b c

  abbrev m : Fields
  m = says_of b c

  -- the REQUEST
  abbrev r : Fields
  r = says_of b (requested c)

  f : Fresh (state_at b c) (table_at b c) (tenant_for b c) (says_of b c) (decided_for (book_at b c) (tenant_for b c) (says_of b c))
  f = taken.is_fresh b c v discovers offered free

  k : Alike (state_at b c) c.datagram
  k = taken.alike b c v discovers offered

  reached : Reaches b c
  reached = taken.reached b c v discovers offered

  no_error2 : error2_of s r ≡ false
  no_error2 = ap (error2_of s) k.request ∙ same_error2 s t h k.words ∙ sym (ap (error2_of s) k.discover) ∙ f.error2

  abbrev L : Lease
  L = turned (says_of b (requested c)) (hold_for b c)

  none_found : (o : Option Lease) → is_some o ≡ false → o ≡ None
  none_found None e = refl
  none_found (Some l) e = no e

  -- ---- the REQUEST alone
  none : is_some (found_of (own_of t h) k.words) ≡ false
  unfolding sent_as
  none = ap (λ (x : Fields). is_some (found_of (own_of t h) x)) (sym k.discover) ∙ f.none

  free_too : NoHold b (requested c)
  unfolding sent_as
  free_too = ap (λ (x : Fields). is_held (found_of (own_of t h) x)) k.request ∙ ap (λ (x : Fields). is_held (found_of (own_of t h) x)) (sym k.discover) ∙ free

  no_error1 : error1_of s r (found_of (own_of t h) r) ≡ false
  unfolding error1_of held_already is_new is_leased is_held sent_as
  no_error1 =
      ap (λ (x : Fields). error1_of s x (found_of (own_of t h) x)) k.request
      ∙ ap (λ (o : Option Lease). error1_of s (sent_as 3 k.words) o) (none_found (found_of (own_of t h) k.words) none)
      ∙ ap (λ (e : Bool). e || held_already s (sent_as 3 k.words) None) (same_early s t h k.words ∙ sym (ap (early1_of s) k.discover) ∙ (or_none (early1_of s m) _ f.error1).0)

  recorded : lease_from r (new_of s t h r) ≡ L
  unfolding held_from
  recorded =
      ap (λ (x : Fields). lease_from x (new_of s t h x)) k.request ∙ same_lease s t h k.words
      ∙ ap (λ (x : Fields). turned (sent_as 3 k.words) (held_from s.clock (lease_from x (new_of s t h x)))) (sym k.discover)
      ∙ ap₂ (λ (x : Fields) (l : Lease). turned x (held_from s.clock l)) (sym k.request) (taken.offers b c v discovers offered f)

  request : r.kind ≡ 3
  unfolding sent_as
  request = ap (λ (x : Fields). x.kind) k.request

  no_resend : resends r (recorded_of (own_of t h) r) ≡ false
  unfolding OfferRule
  no_resend = ((offer_rule b c discovers free).only offered).new

  alone : serve_of b (requested c) ≡ answered (book_at b c) h r (changed (entering L) (with_lease LeaseAck L))
  unfolding sent_as
  alone =
      decided_there b (requested c) (record {
        sound = v.sound;
        room = reached.room;
        house = reached.house;
        read = sym (both_numbers c.datagram discovers.type) ∙ reached.read;
        ours = ap (λ (x : Fields). eqb x.kind 3 && not x.ours) k.request ∙ ap not k.ours;
      })
      ∙ ap (answered (book_at b c) h r)
      (decided s t h r (taken.S b c v discovers offered) reached.house request no_resend free_too no_error1 no_error2 (remembered (releases_at (book_at b c).memory h)) L
      (ap (λ (x : Fields). error0_of s x (new_of s t h x)) k.request ∙ same_error0 s t h k.words ∙ sym (ap (λ (x : Fields). error0_of s x (new_of s t h x)) k.discover) ∙ f.error0) recorded)

  -- ---- after the OFFER
  abbrev H : Lease
  H = hold_for b c

  abbrev w : Book
  w = edited_book (entering (hold_for b c)) (tenant_for b c) (book_at b c)

  book_is : (serve_of b c).book ≡ w
  book_is = ap (λ (a : Answer). a.book) (taken.fresh_served b c v discovers offered f)

  w_sound : SoundBook w
  w_sound = subst SoundBook book_is (call_sound b c v)

  still : book_at w (requested c) ≡ w
  still = advanced_still w c.time w_sound (applied_laid ordered (entering H) h t (advanced_laid b c.time)) (now_late b c)

  has : Has h (lease_id_in m) H w.table
  has = subst (λ (y : Book). Has h (lease_id_in m) H y.table) book_is (taken.fresh_leaves b c v discovers offered f).has

  soon : (state_at w (requested c)).clock < until H
  soon =
      subst (λ (y : Book). y.state.clock < until H) (sym still)
      (ltb-true s.clock (until H)
      (alive s H (subst (λ (l : Lease). lease_ok s l ≡ true) (taken.has_record h (lease_id_in m) H w.table m refl has)
      (held_good s w.table h m (taken.has_there h (lease_id_in m) H w.table m refl has) (sound_lists s w.table (book_sound w w_sound.sound))))))

  -- the message as the book y has it read
  abbrev says : Book → Fields
  says y = fields_of (as_request c.datagram) y.state.server (read_of (as_request c.datagram)).message

  after : serve_of w (requested c) ≡ answered w h r (changed (giving_way H L) (with_lease LeaseAck L))
  after =
      taken.taken_served b c v discovers offered H (taken.fresh_leaves b c v discovers offered f) w w_sound (now_set b.state b c refl) (requested c) has refl
      (ap (λ (y : Book). tenant_of y.state c.client) still) reached.room soon (ap (λ (y : Book). error2_of y.state (says y)) still ∙ no_error2)
      ∙ ap (λ (y : Book). answered y (tenant_of y.state c.client) (says y) (changed (giving_way H (turned (says y) H)) (with_lease LeaseAck (turned (says y) H)))) still

  gone : remove_of (id_of H) (insert_of H (own_of t h)) ≡ own_of t h
  gone = others_stay s t h m H (book_sound (book_at b c) (taken.now b c v discovers offered).sound) refl f.none

  same_id : id_of L ≡ id_of H
  unfolding turned
  same_id = refl

  table_too : applied (giving_way H L) h w.table ≡ applied (entering L) h t
  table_too = same_table s t h H L (taken.there b c v discovers offered) (taken.left b c v discovers offered f).left same_id gone

  -- both books are sound, and of the same leases there is one board
  board_too : (noted (giving_way H L) h w.memory).board ≡ (noted (entering L) h (book_at b c).memory).board
  board_too =
      ap (λ (a : Answer). a.book.memory.board) (sym after)
      ∙ same_board_law (serve_of w (requested c)).book (serve_of b (requested c)).book (call_sound w (requested c) w_sound).sound (call_sound b (requested c) v).sound
      (ap (λ (a : Answer). a.book.table) after ∙ table_too ∙ ap (λ (a : Answer). a.book.table) (sym alone))
      ∙ ap (λ (a : Answer). a.book.memory.board) alone

  then : serve_of (serve_of b c).book (requested c) ≡ answered w h r (changed (giving_way H L) (with_lease LeaseAck L))
  then = ap (λ (y : Book). serve_of y (requested c)) book_is ∙ after

  taken_at_once : AnswersAlike (serve_of (serve_of b c).book (requested c)) (serve_of b (requested c))
  taken_at_once =
      let there = taken.there b c v discovers offered in
      let few = (taken.left b c v discovers offered f).left in
      record {
        outcome = ap (λ (a : Answer). a.outcome) then ∙ sym (ap (λ (a : Answer). a.outcome) alone);
        offset = ap (λ (a : Answer). a.offset) then ∙ sym (ap (λ (a : Answer). a.offset) alone);
        reply = ap (λ (a : Answer). a.reply) then ∙ sym (ap (λ (a : Answer). a.reply) alone);
        book =
            ap (λ (a : Answer). a.book) then
            ∙ ap₂ (λ (x : LeaseTable) (y : Memory). changed_to (book_at b c) s x y) table_too (same_memory s t h H L there few same_id gone (book_at b c).memory board_too)
            ∙ sym (ap (λ (a : Answer). a.book) alone);
      }

pub offer_taken : OfferTaken
unfolding OfferTaken
offer_taken b c v discovers free offered = taken_at_once b c v discovers free offered
