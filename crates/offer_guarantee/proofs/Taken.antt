-- Proof of the claim that an offer is held: an OFFER leaves a hold that waits for its message, and a REQUEST takes it up.
use Prim.Native.Nat.{ℕ, ◌+◌, ◌-◌, ◌≤◌, ◌<◌, min}
use mathlib.Core.Path.{◌≡◌, refl, sym, ap, ap₂, ◌∙◌, subst}
use mathlib.Core.Bool.{Bool, true, false, not, ◌&&◌, ◌||◌}
use mathlib.Core.List.{List, []}
use mathlib.Core.Logic.{◌⊎◌, ⊎_elim}
use native.Mathlib.Omega.{arith}
use lib.Dec.{eqb, leb, ltb}
use lib.ListN.{get_or, length}
use lib.Seq.{get_or-set_same}
use borrow.Author.Tests.{eq-eqb, eqb-false, eqb-true, le-leb, leb-true, ltb-true}
use Rattle.lists.specs.Pick.{pick}
use Rattle.lists.specs.All.{pairs_by}
use Rattle.lists.specs.Filter.{filter_by}
use Rattle.lists.specs.laws.Both.{and_both, and_parts, pairs_and}
use Rattle.address_set.specs.AddressSet.{offsets}
use Rattle.message.specs.declared.Fields.{Fields}
use Rattle.message.specs.Read.{read_of}
use Rattle.message.specs.Values.{fields_of}
use Rattle.reply.specs.declared.Terms.{Terms}
use Rattle.reply.specs.Ranges.{addresses_in}
use Rattle.reply.specs.Reply.{info_ack_of, lease_ack_of, least_room, message_octets, nak_of, offer_of, release_ack_of}
use Rattle.state.specs.declared.Lease.{Lease}
use Rattle.state.specs.declared.LeaseTable.{LeaseTable}
use Rattle.state.specs.declared.Release.{Release}
use Rattle.state.specs.declared.State.{State}
use Rattle.state.specs.declared.TenantLeases.{TenantLeases}
use Rattle.state.specs.Book.{Book, advanced, differ, id_of, in_use, insert_of, is_hold, laid_out, laid_releases, lease_at, leases_of, named, ordered, place_of, put_releases, raised, releases_at, remembered, remove_of, scope_at, until, with_clock, zero_lease}
use Rattle.state.specs.laws.Edit.{applied}
use Rattle.state.specs.Edit.{entering, forget_of, giving_way, noted, noted_in}
use Rattle.state.specs.laws.Edited.{applied_none, applied_others, applied_way}
use Rattle.state.specs.laws.Layout.{read_back, removed_fewer}
use Rattle.state.specs.laws.Named.{inserted_own, none_named, one_named, place_first, place_some, removed_own}
use Rattle.releases.proofs.Whole.{book_board, book_sound}
use Rattle.soundness.specs.Sound.{compatible, scopes_in, tenants_in}
use Rattle.soundness.specs.laws.Book.{Sound, pair_ok}
use Rattle.soundness.proofs.Lists.{sound_lists}
use Rattle.soundness.specs.laws.Added.{few_at, pairs_at}
use Rattle.decision.specs.declared.Decided.{Decided}
use Rattle.decision.specs.declared.Reply.{Reply}
use Rattle.decision.specs.declared.Reply.TheVariants.{Nothing, Offer, LeaseAck, ReleaseAck, InfoAck, Nak}
use Rattle.decision.specs.declared.Verdict.{Verdict}
use Rattle.admission.specs.Tests.{bad_counts, early1_of, error1_of, error2_of, held_already, is_held, is_leased, is_new, knows_scope, lease_id_in, own_of, recorded_of, same_scope, found_in, found_of}
use Rattle.admission.specs.laws.Code.{knows_place}
use Rattle.proposal.specs.Proposals.{default_lease, held_from, hold_meets, lease_from, meets, new_of, length_of, turned}
use Rattle.decision.specs.Verdicts.{with_lease}
use Rattle.decision.specs.Decide.{changed, unchanged}
use Rattle.decision_laws.specs.laws.Cases.{Passed, passed}
use Rattle.decision.specs.laws.Code.{no, or_none}
use Rattle.decision_laws.specs.laws.Ensured.{sent_as}
use Rattle.decision_laws.specs.laws.Kept.{held_named, own_is}
use Rattle.server.specs.Serve.{Answer, Call, answered, by_reply, decided_for, head_of, reply_of, serve_of, terms_of}
use Rattle.guarantee.specs.Statement.{NoHold, SoundBook, book_at, end_for, grant_for, lease_of_type, place_for, releases_for, run, says_of, scope_for, start_for, state_at, table_at, tenant_for}
use Rattle.offer_guarantee.specs.Statement.{Discovers, GrantedAsOffered, LeavesHold, Offered, OfferHeld, OfferHolds, as_request, hold_for, hold_left}
use Rattle.offer_guarantee.proofs.Alike.{Alike, both_numbers, both_say, words_of}
use Rattle.offer_guarantee.proofs.Drawn.{Fresh, Repeats, Waits, drawn, still_waits, taken_up}
use Rattle.offer_guarantee.proofs.Held.{Has, SetAs, call_later, now_has, now_set, run_has, run_later}
use Rattle.guarantee.proofs.Inserted.{entered}
use Rattle.guarantee.proofs.Kept.{call_sound, now_sound, run_sound}
use Rattle.guarantee.proofs.Proposed as proposed
use Rattle.guarantee.proofs.Ranges.{ack_names, named_head, offer_names, pool_fits}
use Rattle.guarantee.proofs.Reached.{Reaches, decided_there, reaches}
use Rattle.std.specs.Prelude.{Option, Some, None, is_some, unwrap_or, ◌∷◌}
use Rattle.admission.specs.laws.Found.{found_at, found_there}

-- ---- a record by its identifier
module _ (h : ℕ) (i : List ℕ) (o : Lease) (t : LeaseTable) (m : Fields) (e : lease_id_in m ≡ i) (has : Has h i o t) where
  pub has_found : found_of (own_of t h) m ≡ Some o
  unfolding found_in pick
  has_found =
      ap₂ {C = Option Lease} (λ (b : Bool) (l : Lease). pick b (Some l) None)
      (place_some (lease_id_in m) (own_of t h) ∙ ap (λ (j : List ℕ). ltb 0 (length (filter_by (named j) (own_of t h)))) e ∙ ap (λ (l : List Lease). ltb 0 (length l)) has)
      (place_first (lease_id_in m) (own_of t h) ∙ ap (λ (j : List ℕ). lease_at (filter_by (named j) (own_of t h)) 0) e ∙ ap (λ (l : List Lease). lease_at l 0) has)

  pub has_record : recorded_of (own_of t h) m ≡ o
  has_record = ap (λ (x : Option Lease). unwrap_or x zero_lease) has_found

  pub has_there : is_some (found_of (own_of t h) m) ≡ true
  has_there = ap (λ (x : Option Lease). is_some x) has_found

-- a record that is a hold
held_by : (o : Option Lease) → is_some o ≡ true → is_hold (unwrap_or o zero_lease) ≡ true → is_held o ≡ true
unfolding is_held
held_by (Some l) e f = f
held_by None e f = e

-- ---- what an OFFER leaves
offer_only : (s : State) (names : List ℕ) (h : ℕ) (m : Fields) (v : Verdict) (k : Reply) → get_or (by_reply s names h m v k) 1 0 ≡ 2 → k ≡ Offer
unfolding offer_of lease_ack_of release_ack_of info_ack_of nak_of message_octets
offer_only s names h m v Nothing e = absurd (omega arith)
offer_only s names h m v Offer e = refl
offer_only s names h m v LeaseAck e = absurd (omega arith)
offer_only s names h m v ReleaseAck e = absurd (omega arith)
offer_only s names h m v InfoAck e = absurd (omega arith)
offer_only s names h m v Nak e = absurd (omega arith)

pub record Leaves (b : Book) (d : Call) (o : Lease) : Type 0 where
  pub waits : Waits (state_at b d) (says_of b d) o
  pub has : Has (tenant_for b d) (lease_id_in (says_of b d)) o (serve_of b d).book.table
  pub reply : (serve_of b d).reply ≡ offer_of (head_of (state_at b d) (says_of b d)) (terms_of (state_at b d) (with_lease Offer o))

-- ---- the DISCOVER d draws an OFFER from a sound book b
module _ (b : Book) (d : Call) (v : SoundBook b) (discovers : Discovers d) (offered : Offered (serve_of b d)) where
  abbrev s : State
  s = state_at b d

  abbrev t : LeaseTable
  t = table_at b d

  abbrev h : ℕ
  h = tenant_for b d

  abbrev m : Fields
  m = says_of b d

  abbrev i : List ℕ
  i = lease_id_in (says_of b d)

  abbrev q : List Release
  q = remembered (releases_at (book_at b d).memory (tenant_for b d))

  abbrev D : Decided
  D = decided_for (book_at b d) (tenant_for b d) (says_of b d)

  pub reached : Reaches b d
  reached = reaches b d offered.outcome

  served : serve_of b d ≡ answered (book_at b d) h m D
  served = decided_there b d reached

  pub alike : Alike s d.datagram
  alike = both_say s d.datagram discovers.type reached.read discovers.alone

  pub discover : m.kind ≡ 1
  unfolding sent_as
  discover = ap (λ (f : Fields). f.kind) alike.discover

  comes : Fresh s t h m D ⊎ Repeats s t h m D
  unfolding reply_of
  comes =
      drawn s t q h m discover
      (offer_only s (book_at b d).names h m D.verdict D.verdict.reply (ap (λ (a : Answer). get_or a.reply 1 0) (sym served) ∙ offered.type))

  pub now : SoundBook (book_at b d)
  now = now_sound b d v

  pub S : Sound (state_at b d) (leases_of (table_at b d))
  S = sound_lists s t (book_sound (book_at b d) now.sound)

  pub there : h < length t.tenants
  there = let e = now.tenants in let k = reached.house in omega arith

  -- ---- a new grant
  module _ (f : Fresh (state_at b d) (table_at b d) (tenant_for b d) (says_of b d) (decided_for (book_at b d) (tenant_for b d) (says_of b d))) where
    pub ours : knows_scope s m ≡ true
    unfolding is_new
    ours = (passed s m (found_of (own_of t h) m) f.error1).scope (ap (λ (k : ℕ). eqb k 1 || eqb k 3) discover)

    pub good : bad_counts m ≡ false
    good = (passed s m (found_of (own_of t h) m) f.error1).counts

    pub left : proposed.Left s t h m S reached.house ours good
    left = proposed.leaves s t h m S reached.house ours good f.error0

    pub offers : lease_from m (new_of s t h m) ≡ lease_of_type 1 b d
    offers = proposed.recorded s t h m S reached.house ours good discover left.fits

    decided : D ≡ changed (entering (hold_for b d)) (with_lease Offer (lease_of_type 1 b d))
    unfolding held_from
    decided = f.is ∙ ap (λ (l : Lease). changed (entering (held_from s.clock l)) (with_lease Offer l)) offers

    pub fresh_served : serve_of b d ≡ answered (book_at b d) h m (changed (entering (hold_for b d)) (with_lease Offer (lease_of_type 1 b d)))
    fresh_served = served ∙ ap (answered (book_at b d) h m) decided

    fresh_waits : Waits s m (hold_for b d)
    unfolding is_hold same_scope hold_meets error1_of
    fresh_waits = record {
      hold = refl;
      scope = eq-eqb (place_for b d + 1) (min (place_for b d) 4 + 1) (let p = proposed.here s t h m S reached.house ours good in omega arith);
      meets =
          and_both (le-leb m.counts.least (length (offsets (grant_for b d).addresses)) (let p = left.least in let e = proposed.exact s t h m S reached.house ours good left.least in omega arith))
          (ap (meets m (start_for b d)) (let e : end_for b d - start_for b d ≡ length_of m default_lease = omega arith in e) ∙ left.met);
      early = (or_none (early1_of s m) _ f.error1).0;
    }

    pub fresh_own : own_of (serve_of b d).book.table h ≡ insert_of (hold_for b d) (own_of t h)
    fresh_own = ap (λ (a : Answer). own_of a.book.table h) fresh_served ∙ entered t h (hold_for b d) there left.left

    fresh_has : Has h i (hold_for b d) (serve_of b d).book.table
    fresh_has =
        ap (filter_by (named i)) fresh_own ∙ inserted_own ordered (hold_for b d) (own_of t h) (none_named i (own_of t h) (sym (found_there i (own_of t h)) ∙ f.none))

    fresh_reply : (serve_of b d).reply ≡ offer_of (head_of s m) (terms_of s (with_lease Offer (hold_for b d)))
    unfolding reply_of with_lease
    fresh_reply = ap (λ (a : Answer). a.reply) fresh_served

    pub fresh_leaves : Leaves b d (hold_for b d)
    fresh_leaves = record { waits = fresh_waits; has = fresh_has; reply = fresh_reply }

    -- what is remembered of the tenant, but for the identifier
    forgotten : (noted (entering (hold_for b d)) h (book_at b d).memory).releases ≡ (put_releases b.memory h (laid_releases (forget_of (id_of (hold_for b d)) (releases_for b d)))).releases
    unfolding noted noted_in pick advanced
    forgotten = refl

    pub leaves_hold : LeavesHold b d (serve_of b d)
    unfolding with_lease
    leaves_hold = record {
      reply = fresh_reply ∙ ap (offer_of (head_of s m)) (proposed.told s t h m S reached.house ours good Offer 1);
      left = has_record h i (hold_for b d) (serve_of b d).book.table m refl fresh_has;
      state = ap (λ (a : Answer). a.book.state) fresh_served;
      others = λ g n. ap (λ (a : Answer). own_of a.book.table g) fresh_served ∙ ap in_use (applied_others (entering (hold_for b d)) h g t n);
      own = fresh_own;
      forgets = ap (λ (a : Answer). a.book.memory.releases) fresh_served ∙ forgotten;
      board = book_board (serve_of b d).book (call_sound b d v).sound;
    }

  -- ---- the hold
  module _ (f : Repeats (state_at b d) (table_at b d) (tenant_for b d) (says_of b d) (decided_for (book_at b d) (tenant_for b d) (says_of b d))) where
    abbrev O : Lease
    O = recorded_of (own_of t h) m

    again_served : serve_of b d ≡ answered (book_at b d) h m (unchanged (with_lease Offer O))
    again_served = served ∙ ap (answered (book_at b d) h m) f.is

    again_has : Has h i O (serve_of b d).book.table
    unfolding pair_ok
    again_has =
        ap (λ (a : Answer). filter_by (named i) (own_of a.book.table h)) again_served
        ∙ ap (λ (x : LeaseTable). filter_by (named i) (own_of x h)) (applied_none t h)
        ∙ one_named i (own_of t h)
        (and_parts (pairs_by differ (own_of t h)) (pairs_by compatible (own_of t h)) (sym (pairs_and differ compatible (own_of t h)) ∙ ap (pairs_by pair_ok) (own_is t h) ∙ pairs_at s (leases_of t) S h)).0
        (ltb-true (place_of i (own_of t h)) (length (own_of t h)) (sym (found_there i (own_of t h)) ∙ f.there))
        ∙ ap (λ (l : Lease). l ∷ []) (sym (found_at i (own_of t h)))

    again_leaves : Leaves b d O
    unfolding reply_of with_lease
    again_leaves = record { waits = f.waits; has = again_has; reply = ap (λ (a : Answer). a.reply) again_served }

  pub offer_leaves : (o : Lease) × Leaves b d o
  offer_leaves = ⊎_elim (λ f. (hold_for b d, fresh_leaves f)) (λ f. (recorded_of (own_of t h) m, again_leaves f)) comes

  -- without a hold it is a new one
  pub is_fresh : NoHold b d → Fresh s t h m D
  is_fresh free = ⊎_elim (λ f. f) (λ f. no (sym (held_by (found_of (own_of t h) m) f.there f.waits.hold) ∙ free)) comes

pub offer_holds : OfferHolds
unfolding OfferHolds
offer_holds b c v discovers free offered = leaves_hold b c v discovers offered (is_fresh b c v discovers offered free)

-- the tenant's records after one has given way to another of its identifier
gave_way : (t : LeaseTable) (h : ℕ) (o l : Lease) → h < length t.tenants → length (remove_of (id_of o) (own_of t h)) < 16 → id_of l ≡ id_of o → Has h (id_of o) l (applied (giving_way o l) h t)
gave_way t h o l there few e =
    ap (λ (x : LeaseTable). filter_by (named (id_of o)) (own_of x h)) (applied_way t h o l few)
    ∙ ap (λ (x : TenantLeases). filter_by (named (id_of o)) (in_use x)) (get_or-set_same t.tenants h (laid_out rest) (laid_out []) there) ∙ ap (filter_by (named (id_of o))) (read_back rest)
    ∙ ap (λ (j : List ℕ). filter_by (named j) rest) (sym e) ∙ inserted_own ordered l (remove_of (id_of o) (own_of t h))
    (ap (λ (j : List ℕ). filter_by (named j) (remove_of (id_of o) (own_of t h))) e ∙ removed_own (id_of o) (own_of t h))
  where
    rest : List Lease
    rest = insert_of l (remove_of (id_of o) (own_of t h))

-- ---- a REQUEST r, the same message, takes up the hold o from a sound book w
module _ (b : Book) (d : Call) (v : SoundBook b) (discovers : Discovers d) (offered : Offered (serve_of b d)) (o : Lease) (l : Leaves b d o)
    (w : Book) (x : SoundBook w) (settings : SetAs b.state w.state) (r : Call) (has : Has (tenant_for b d) (lease_id_in (says_of b d)) o w.table)
    (message : r.datagram ≡ as_request d.datagram) (house : tenant_for w r ≡ tenant_for b d) (room : least_room ≤ r.room)
    (soon : (state_at w r).clock < until o) (current : error2_of (state_at w r) (says_of w r) ≡ false) where
  k : Alike (state_at b d) d.datagram
  k = alike b d v discovers offered

  -- the state then, but for the clock
  then : state_at w r ≡ with_clock (state_at b d) (state_at w r).clock
  unfolding advanced raised
  then = now_set b.state w r settings

  says : says_of w r ≡ sent_as 3 k.words
  says =
      ap (λ (y : List ℕ). fields_of y (state_at w r).server (read_of y).message) message
      ∙ ap (λ (y : State). words_of y (as_request d.datagram)) then ∙ k.request

  request : (says_of w r).kind ≡ 3
  unfolding sent_as
  request = ap (λ (f : Fields). f.kind) says

  same_id : lease_id_in (says_of w r) ≡ lease_id_in (says_of b d)
  unfolding sent_as
  same_id = ap lease_id_in says ∙ sym (ap lease_id_in k.discover)

  known : tenant_for w r < tenants_in (state_at w r)
  known = let p = (reached b d v discovers offered).house in let e : (state_at w r).tenant_count ≡ (state_at b d).tenant_count = ap (λ (y : State). y.tenant_count) then in omega arith

  reads : (read_of r.datagram).discard ≡ 0
  reads = ap (λ (y : List ℕ). (read_of y).discard) message ∙ sym (both_numbers d.datagram discovers.type) ∙ (reached b d v discovers offered).read

  arrives : Reaches w r
  unfolding sent_as
  arrives = record {
    sound = x.sound;
    room = room;
    house = known;
    read = reads;
    ours = ap (λ (f : Fields). eqb f.kind 3 && not f.ours) says ∙ ap not k.ours;
  }

  waits : Waits (state_at w r) (says_of w r) o
  waits =
      subst (λ (y : State). Waits y (says_of w r) o) (sym then)
      (subst (λ (f : Fields). Waits (with_clock (state_at b d) (state_at w r).clock) f o) (sym says)
      (still_waits (state_at b d) (state_at w r).clock k.words o (subst (λ (f : Fields). Waits (state_at b d) f o) k.discover l.waits)))

  has_now : Has (tenant_for w r) (lease_id_in (says_of w r)) o (table_at w r)
  has_now =
      ap₂ (λ (g : ℕ) (j : List ℕ). filter_by (named j) (own_of (table_at w r) g)) house same_id
      ∙ now_has (tenant_for b d) (lease_id_in (says_of b d)) o w r.time soon has

  abbrev N : Lease
  N = turned (says_of w r) o

  pub taken_served : serve_of w r ≡ answered (book_at w r) (tenant_for w r) (says_of w r) (changed (giving_way o (turned (says_of w r) o)) (with_lease LeaseAck (turned (says_of w r) o)))
  taken_served =
      decided_there w r arrives
      ∙ ap (answered (book_at w r) (tenant_for w r) (says_of w r))
      (taken_up (state_at w r) (says_of w r) o waits request (table_at w r) (remembered (releases_at (book_at w r).memory (tenant_for w r))) (tenant_for w r)
      (has_found (tenant_for w r) (lease_id_in (says_of w r)) o (table_at w r) (says_of w r) refl has_now) current)

  -- ---- the record afterwards
  W : Sound (state_at w r) (leases_of (table_at w r))
  W = sound_lists (state_at w r) (table_at w r) (book_sound (book_at w r) (now_sound w r x).sound)

  pub named_so : id_of o ≡ lease_id_in (says_of w r)
  named_so =
      ap id_of (sym (has_record (tenant_for w r) (lease_id_in (says_of w r)) o (table_at w r) (says_of w r) refl has_now))
      ∙ held_named (state_at w r) (table_at w r) (tenant_for w r) (says_of w r) (has_there (tenant_for w r) (lease_id_in (says_of w r)) o (table_at w r) (says_of w r) refl has_now)

  few : length (remove_of (id_of o) (own_of (table_at w r) (tenant_for w r))) < 16
  few =
      let e : length (own_of (table_at w r) (tenant_for w r)) ≡ length (get_or (leases_of (table_at w r)) (tenant_for w r) []) = ap length (own_is (table_at w r) (tenant_for w r)) in
      let n = few_at (state_at w r) (leases_of (table_at w r)) W (tenant_for w r) in
      let p = removed_fewer (lease_id_in (says_of w r)) (own_of (table_at w r) (tenant_for w r)) (ltb-true _ _ (sym (found_there (lease_id_in (says_of w r)) (own_of (table_at w r) (tenant_for w r))) ∙ has_there (tenant_for w r) (lease_id_in (says_of w r)) o (table_at w r) (says_of w r) refl has_now)) in
      let z : length (remove_of (id_of o) (own_of (table_at w r) (tenant_for w r))) ≡ length (remove_of (lease_id_in (says_of w r)) (own_of (table_at w r) (tenant_for w r))) = ap (λ (j : List ℕ). length (remove_of j (own_of (table_at w r) (tenant_for w r)))) named_so in
      omega arith

  has_lease : Has (tenant_for b d) (lease_id_in (says_of b d)) N (serve_of w r).book.table
  unfolding turned
  has_lease =
      ap (λ (a : Answer). filter_by (named (lease_id_in (says_of b d))) (own_of a.book.table (tenant_for b d))) taken_served
      ∙ ap₂ (λ (g : ℕ) (j : List ℕ). filter_by (named j) (own_of (applied (giving_way o N) (tenant_for w r) (table_at w r)) g)) (sym house) (sym (named_so ∙ same_id))
      ∙ gave_way (table_at w r) (tenant_for w r) o N (let e = (now_sound w r x).tenants in let p = known in omega arith) few refl

  -- ---- the replies
  left_is : hold_left b d ≡ o
  left_is = has_record (tenant_for b d) (lease_id_in (says_of b d)) o (serve_of b d).book.table (says_of b d) refl l.has

  none_early : error1_of (state_at b d) (says_of b d) None ≡ false
  unfolding error1_of held_already is_new is_leased is_held
  none_early =
      ap (λ (e : Bool). e || held_already (state_at b d) (says_of b d) None) l.waits.early
      ∙ ap (λ (n : ℕ). ((eqb n 1 || eqb n 3) && false) || (eqb n 1 && (false && not (same_scope (state_at b d) (says_of b d) None)))) (discover b d v discovers offered)

  ok : Passed (state_at b d) (says_of b d) None
  ok = passed (state_at b d) (says_of b d) None none_early

  known_place : place_for b d < scopes_in (state_at b d)
  unfolding is_new
  known_place =
      knows_place (state_at b d) (says_of b d) (ok.scope (ap (λ (n : ℕ). eqb n 1 || eqb n 3) (discover b d v discovers offered)))

  place_is : o.scope - 1 ≡ place_for b d
  unfolding same_scope
  place_is = let e = eqb-true o.scope (min (place_for b d) 4 + 1) l.waits.scope in let p = known_place in omega arith

  some : 1 ≤ length (offsets o.addresses)
  unfolding hold_meets bad_counts
  some =
      let p = leb-true (says_of b d).counts.least (length (offsets o.addresses)) (and_parts (leb (says_of b d).counts.least (length (offsets o.addresses))) _ l.waits.meets).0 in
      let q = eqb-false (says_of b d).counts.least 0 (or_none (eqb (says_of b d).counts.least 0) _ ok.counts).0 in
      omega arith

  -- what both say, at a clock
  terms : ℕ → Terms
  terms clock = record { length = o.end - o.start; start = o.start; scope = (scope_for b d).lowest; addresses = o.addresses; clock = clock }

  ack : (serve_of w r).reply ≡ lease_ack_of (head_of (state_at w r) (says_of w r)) (terms (state_at w r).clock)
  unfolding reply_of with_lease turned terms
  ack =
      ap (λ (a : Answer). a.reply) taken_served
      ∙ ap (λ (n : ℕ). lease_ack_of (head_of (state_at w r) (says_of w r)) (record { length = o.end - o.start; start = o.start; scope = n; addresses = o.addresses; clock = (state_at w r).clock }))
      (ap (λ (y : State). (scope_at y (o.scope - 1)).lowest) then ∙ ap (λ (n : ℕ). (scope_at (state_at b d) n).lowest) place_is)

  offer : (serve_of b d).reply ≡ offer_of (head_of (state_at b d) (says_of b d)) (terms (state_at b d).clock)
  unfolding with_lease terms
  offer =
      l.reply
      ∙ ap (λ (n : ℕ). offer_of (head_of (state_at b d) (says_of b d)) (record { length = o.end - o.start; start = o.start; scope = (scope_at (state_at b d) n).lowest; addresses = o.addresses; clock = (state_at b d).clock })) place_is

  fits : (scope_for b d).lowest + 64 < 4294967296
  fits = pool_fits (state_at b d) (leases_of (table_at b d)) (S b d v discovers offered) (place_for b d) known_place

  pub taken_granted : GrantedAsOffered b d w r (serve_of b d) (serve_of w r)
  unfolding with_lease terms
  taken_granted = record {
    outcome = ap (λ (a : Answer). a.outcome) taken_served;
    reply =
        ack
        ∙ ap (λ (y : Lease). lease_ack_of (head_of (state_at w r) (says_of w r)) (record { length = y.end - y.start; start = y.start; scope = (scope_for b d).lowest; addresses = y.addresses; clock = (state_at w r).clock })) (sym left_is);
    names =
        ap addresses_in ack ∙ ack_names (head_of (state_at w r) (says_of w r)) (terms (state_at w r).clock) (named_head r.datagram (state_at w r) reads) some fits
        ∙ sym (ap addresses_in offer ∙ offer_names (head_of (state_at b d) (says_of b d)) (terms (state_at b d).clock) (named_head d.datagram (state_at b d) (reached b d v discovers offered).read) some fits);
    lease = has_record (tenant_for b d) (lease_id_in (says_of b d)) N (serve_of w r).book.table (says_of b d) refl has_lease ∙ ap (turned (says_of w r)) (sym left_is);
  }

-- a hold is live until it lapses
until_lapse : (o : Lease) → is_hold o ≡ true → until o ≡ o.lapse
unfolding until pick
until_lapse o e = ap (λ (c : Bool). pick c o.lapse o.end) e

later : (w : Book) (r : Call) → w.state.clock ≤ (state_at w r).clock
unfolding advanced raised
later w r = omega arith

pub offer_held : OfferHeld
unfolding OfferHeld
offer_held b v d discovers offered cs away r u =
    let p = offer_leaves b d v discovers offered in
    let o : Lease = p.0 in
    let l : Leaves b d o = p.1 in
    let w : Book = run (serve_of b d).book cs in
    let first : SetAs b.state (serve_of b d).book.state = (call_later b.state b d refl).0 in
    let left : hold_left b d ≡ o = has_record (tenant_for b d) (lease_id_in (says_of b d)) o (serve_of b d).book.table (says_of b d) refl l.has in
    let lapse : (hold_left b d).lapse ≡ until o = ap (λ (y : Lease). y.lapse) left ∙ sym (until_lapse o l.waits.hold) in
    let soon : (state_at w r).clock < until o = subst (λ (n : ℕ). (state_at w r).clock < n) lapse u.soon in
    let before : w.state.clock ≤ (state_at w r).clock = later w r in
    taken_granted b d v discovers offered o l w (run_sound (serve_of b d).book cs (call_sound b d v)) (run_later b.state (serve_of b d).book cs first).0 r
    (run_has (tenant_for b d) (lease_id_in (says_of b d)) o b.state cs (serve_of b d).book first away (omega arith) l.has)
    u.message u.house u.room soon u.current
