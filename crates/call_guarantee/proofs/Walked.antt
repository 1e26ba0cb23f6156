-- Proof of demand 1, of the reply's layout: the reader's walk over a reply comes to its End.
use Prim.Native.Nat.{ℕ, zero, suc, ◌≤◌, ◌<◌, ◌^◌}
use mathlib.Core.Path.{◌≡◌, refl, sym, ap, ◌∙◌, subst}
use mathlib.Core.Bool.{Bool, true, false, ◌&&◌, ◌||◌}
use mathlib.Core.List.{List, [], ◌∷◌}
use native.Mathlib.Omega.{arith}
use lib.Dec.{ltb, eqb}
use lib.ListN.{length, get_or, set, length-take, get_or-eq_default}
use borrow.Author.Tests.{eqb-true, eqb-false, ltb-true, ltb-false}
use Rattle.lists.specs.Pick.{pick}
use Rattle.lists.specs.All.{All}
use Rattle.lists.specs.Filter.{filter_by}
use Rattle.message.specs.declared.Fields.{Fields}
use Rattle.message.specs.laws.Placed.{pick_cases}
use Rattle.message.specs.Read.{read_of}
use Rattle.reply.specs.Reply.{least_room, info_ack_of, lease_ack_of, nak_of, offer_of, release_ack_of, info_options, lease_options, nak_options, release_options}
use Rattle.reply.proofs.ReadBack.{Named, info_back, lease_back, nak_back, release_back}
use Rattle.state.specs.declared.Lease.{Lease}
use Rattle.state.specs.declared.LeaseTable.{LeaseTable}
use Rattle.state.specs.declared.Release.{Release}
use Rattle.state.specs.declared.State.{State}
use Rattle.state.specs.Book.{Book, advanced, leases_of, live_of, place_of, releases_at, remembered, remove_of, zero_lease}
use Rattle.releases.specs.Whole.{book_b}
use Rattle.releases.proofs.Whole.{book_sound}
use Rattle.soundness.specs.Sound.{tenants_in}
use Rattle.soundness.specs.laws.Book.{Sound}
use Rattle.soundness.proofs.Lists.{sound_lists, advanced_sound}
use Rattle.soundness.specs.laws.Facts.{lease_at_facts}
use Rattle.soundness.specs.laws.Kept.{sound_removed}
use Rattle.decision.specs.declared.Decided.{Decided}
use Rattle.decision.specs.declared.Reply.{Reply}
use Rattle.decision.specs.declared.Reply.TheVariants.{Nothing, Offer, LeaseAck, ReleaseAck, InfoAck, Nak}
use Rattle.decision.specs.declared.Verdict.{Verdict}
use Rattle.decision_laws.specs.laws.Kept.{own_is, updated_leases}
use Rattle.decision_laws.specs.laws.Cases.{decided_by, held_there, leased_there, new_type, without, found_for}
use Rattle.decision.specs.laws.Code.{no}
use Rattle.admission.specs.Tests.{bad_counts, knows_scope, lease_id_in, own_of, recorded_of, resends, found_of}
use Rattle.decision.specs.Verdicts.{discard_with, nak_with, plain_reply, refusal_of, with_lease}
use Rattle.proposal.specs.Proposals.{error0_of, lease_from, new_of, renewed_of, renewed_to, turned}
use Rattle.decision.specs.Decide.{decide_of}
use Rattle.server.specs.Serve.{Answer, Call, answered, at_clock, by_reply, decided_for, discarded_at, for_server, head_of, info_of, reply_of, serve_of, tenant_of, terms_of, with_reading}
use Rattle.guarantee.specs.Statement.{book_at}
use Rattle.call_guarantee.specs.Statement.{Narrow, ReadAs}
use Rattle.call_guarantee.proofs.Codes.{info_found, lease_found, nak_found, offer_found, read_as, release_found}
use Rattle.guarantee.proofs.Proposed as proposed
use Rattle.guarantee.proofs.Ranges.{grant_small, named_head, offsets_some}
use Rattle.call_guarantee.proofs.Discards.{own_dropped}
use Rattle.admission.specs.laws.Found.{found_at, found_there}
use Rattle.std.specs.Prelude.{is_some}

-- ---- a verdict with a lease has some addresses, in 64 bits
Sized : ℕ → Type 0
Sized n = (0 < n) × (n < 2 ^ 64)

Leases : Reply → ℕ → Type 0
Leases Nothing n = ⊥
Leases Offer n = Sized n
Leases LeaseAck n = Sized n
Leases ReleaseAck n = Unit {0}
Leases InfoAck n = Unit {0}
Leases Nak n = Unit {0}

Q : Verdict → Type 0
Q v = v.outcome ≡ 0 → Leases v.reply v.addresses

P : Decided → Type 0
P d = Q d.verdict

at_all : {A : Type 0} (F : A → Type 0) (l : List A) (i : ℕ) (d : A) → All F l → i < length l → F (get_or l i d)
unfolding All
at_all F [] i d h p = absurd (omega arith)
at_all F (x ∷ l) zero d h p = h.0
at_all F (x ∷ l) (suc i) d h p = at_all F l i d h.1 (omega arith)

refused : (m : Fields) (e : ℕ) → Q (refusal_of m e)
unfolding refusal_of discard_with nak_with Q Leases
refused m e = pick_cases Q (eqb m.kind 1) _ _ (λ _ z. absurd (omega arith)) (λ _. pick_cases Q (eqb m.kind 8) _ _ (λ _ z. absurd (omega arith)) (λ _ z. tt))

-- an unused record is nobody's Resend
no_resend : (m : Fields) → resends m zero_lease ≡ false
unfolding resends
no_resend m = go (eqb 0 m.kind) refl
  where
    none : (a : Bool) → (a && (false && eqb 0 m.xid)) ≡ false
    none true = refl
    none false = refl

    go : (b : Bool) → eqb 0 m.kind ≡ b → ((eqb m.kind 3 || eqb m.kind 4) && (eqb 0 m.kind && eqb 0 m.xid)) ≡ false
    go true e = ap (λ (k : ℕ). (eqb k 3 || eqb k 4) && (eqb 0 k && eqb 0 m.xid)) (sym (eqb-true 0 m.kind e))
    go false e = ap (λ (b : Bool). (eqb m.kind 3 || eqb m.kind 4) && (b && eqb 0 m.xid)) e ∙ none (eqb m.kind 3 || eqb m.kind 4)

-- the lease that a new message would get
new_sized : (s : State) (t : LeaseTable) (h : ℕ) (m : Fields) → Sound s (leases_of t) → h < tenants_in s → knows_scope s m ≡ true → bad_counts m ≡ false → error0_of s m (new_of s t h m) ≡ false
    → Sized (new_of s t h m).addresses
unfolding Sized
new_sized s t h m v known ours good e =
    let l = proposed.leaves s t h m v known ours good e in
    let n = proposed.exact s t h m v known ours good l.least in
    let c = (proposed.counts s t h m v known ours good).0 in
    let k = l.least in
    subst Sized (sym (proposed.given s t h m v known ours good)) (offsets_some _ (omega arith), grant_small _ _ _ _)

module _ (s : State) (t : LeaseTable) (h : ℕ) (m : Fields) (v : Sound s (leases_of t)) (known : h < tenants_in s) (narrow : All (λ l. l.addresses < 2 ^ 64) (own_of t h)) where
  -- the lease that is held
  held_sized : place_of (lease_id_in m) (own_of t h) < length (own_of t h) → Sized (recorded_of (own_of t h) m).addresses
  unfolding Sized
  held_sized p =
      let f = lease_at_facts s (leases_of t) v h (place_of (lease_id_in m) (own_of t h)) zero_lease (let e = ap length (own_is t h) in omega arith) in
      let e : (get_or (own_of t h) (place_of (lease_id_in m) (own_of t h)) zero_lease).addresses ≡ (get_or (get_or (leases_of t) h []) (place_of (lease_id_in m) (own_of t h)) zero_lease).addresses =
      ap (λ (l : List Lease). (get_or l (place_of (lease_id_in m) (own_of t h)) zero_lease).addresses) (own_is t h) in
      let g = f.addresses in
      subst (λ (x : Lease). Sized x.addresses) (sym (found_at (lease_id_in m) (own_of t h)))
      (omega arith, at_all (λ l. l.addresses < 2 ^ 64) (own_of t h) (place_of (lease_id_in m) (own_of t h)) zero_lease narrow p)

  is_held : is_some (found_of (own_of t h) m) ≡ true → Sized (recorded_of (own_of t h) m).addresses
  is_held e = held_sized (ltb-true (place_of (lease_id_in m) (own_of t h)) (length (own_of t h)) (sym (found_there (lease_id_in m) (own_of t h)) ∙ e))

  -- the book without it is sound
  without_sound : Sound s (leases_of (without t h m))
  without_sound =
      subst (Sound s) (sym (updated_leases t h (remove_of (lease_id_in m) (own_of t h)) ∙ ap (λ (x : List Lease). set (leases_of t) h (remove_of (lease_id_in m) x)) (own_is t h)))
      (sound_removed s (leases_of t) h (lease_id_in m) v)

  resent : resends m (recorded_of (own_of t h) m) ≡ true → Sized (recorded_of (own_of t h) m).addresses
  resent e = go (ltb (place_of (lease_id_in m) (own_of t h)) (length (own_of t h))) refl
    where
      go : (b : Bool) → ltb (place_of (lease_id_in m) (own_of t h)) (length (own_of t h)) ≡ b → Sized (recorded_of (own_of t h) m).addresses
      go true p = held_sized (ltb-true (place_of (lease_id_in m) (own_of t h)) (length (own_of t h)) p)
      go false p =
          let z : recorded_of (own_of t h) m ≡ zero_lease = found_at (lease_id_in m) (own_of t h) ∙ get_or-eq_default (own_of t h) zero_lease {n = place_of (lease_id_in m) (own_of t h)} (ltb-false (place_of (lease_id_in m) (own_of t h)) (length (own_of t h)) p) in
          no (sym e ∙ ap (resends m) z ∙ no_resend m)

  decided : (q : List Release) → P (decide_of s t q h m)
  unfolding with_lease lease_from plain_reply renewed_of renewed_to turned P Q Leases
  decided q = decided_by s t h m P (record {
    resent = λ e _. resent e;
    again = λ _. tt;
    refused = refused m;
    repeated = λ _ f _. is_held (held_there (found_for t h m) f);
    taken = λ _ f _. is_held (held_there (found_for t h m) f);
    offered = λ k ok _ e _. new_sized s t h m v known (ok.scope (new_type m k refl)) ok.counts e;
    requested = λ k ok _ e _. new_sized s t h m v known (ok.scope (new_type m k refl)) ok.counts e;
    dropped = λ _ _. refused m 0;
    moved = λ k ok _ e _. new_sized s (without t h m) h m without_sound known (ok.scope (new_type m k refl)) ok.counts e;
    renewed = λ _ _ f _ _. is_held (leased_there (found_for t h m) f);
    released = λ _ _ _. tt;
    informed = λ _. tt;
  }) q

-- ---- the octets
octets_read : (s : State) (names : List ℕ) (g : ℕ) (m : Fields) (v : Verdict) (k : Reply) → Named (head_of s m) → Leases k v.addresses → ReadAs (by_reply s names g m v k)
unfolding Leases Sized offer_of lease_ack_of release_ack_of info_ack_of nak_of
octets_read s names g m v Nothing n h = absurd h
octets_read s names g m v Offer n h = read_as 2 m.xid (lease_options (head_of s m) (terms_of s v)) (lease_back (head_of s m) n 2 (terms_of s v) h.0 h.1) (offer_found _ _ _ _ _ _ _ _ m.features)
octets_read s names g m v LeaseAck n h = read_as 5 m.xid (lease_options (head_of s m) (terms_of s v)) (lease_back (head_of s m) n 5 (terms_of s v) h.0 h.1) (lease_found _ _ _ _ _ _ _ _ m.features)
octets_read s names g m v ReleaseAck n h = read_as 5 m.xid (release_options (head_of s m)) (release_back (head_of s m) n) (release_found _ _ _ m.features)
octets_read s names g m v InfoAck n h =
    read_as 5 m.xid (info_options (head_of s m) (info_of s g m) names) (info_back (head_of s m) n (info_of s g m) names (let e = length-take (info_of s g m).count (info_of s g m).scopes in omega arith))
    (info_found _ _ _ _ _ m.list_asked m.time_asked m.features)
octets_read s names g m v Nak n h = read_as 6 m.xid (nak_options (head_of s m) v.error) (nak_back (head_of s m) n v.error) (nak_found _ _ _ _ m.features)

pub all_filter : {A : Type 0} (F : A → Type 0) (u : A → Bool) (l : List A) → All F l → All F (filter_by u l)
unfolding All filter_by pick
all_filter F u [] h = tt
all_filter {A} F u (x ∷ l) h = go (u x) (all_filter F u l h.1)
  where
    go : (b : Bool) → All F (filter_by u l) → All F (pick b (x ∷ filter_by u l) (filter_by u l))
    go true r = (h.0, r)
    go false r = r

module _ (b : Book) (c : Call) (narrow : Narrow b) where
  R : Answer → Type 0
  R a = a.outcome ≡ 0 → ReadAs a.reply

  pub now_narrow : (g : ℕ) → All (λ l. l.addresses < 2 ^ 64) (own_of (book_at b c).table g)
  unfolding advanced live_of Narrow
  now_narrow g = subst (λ (x : List Lease). All (λ l. l.addresses < 2 ^ 64) x) (sym (own_dropped _ b.table g)) (all_filter (λ l. l.addresses < 2 ^ 64) _ (own_of b.table g) (narrow g))

  none : (n o : ℕ) (x : Book) → 1 ≤ n → R (discarded_at n o x)
  unfolding R
  none n o x h z = absurd (omega arith)

  some_number : (n : ℕ) → (n ≡ 0 → ⊥) → 1 ≤ n
  some_number zero h = absurd (h refl)
  some_number (suc n) h = omega arith

  sent : book_b b ≡ true → (h : ℕ) (m : Fields) → h < tenants_in (book_at b c).state → Named (head_of (book_at b c).state m) → R (answered (book_at b c) h m (decided_for (book_at b c) h m))
  unfolding R reply_of P Q
  sent v h m known n z =
      octets_read (book_at b c).state (book_at b c).names h m (decided_for (book_at b c) h m).verdict (decided_for (book_at b c) h m).verdict.reply n
      (decided (book_at b c).state (book_at b c).table h m (sound_lists (book_at b c).state (book_at b c).table (advanced_sound b c.time (book_sound b v))) known (now_narrow h) (remembered (releases_at (book_at b c).memory h)) z)

  call_read : R (serve_of b c)
  unfolding serve_of at_clock with_reading for_server
  call_read =
      pick_cases R (book_b b) _ _
      (λ v. pick_cases R (ltb c.room least_room) _ _ (λ _. none 2 0 b (omega arith))
      (λ _. pick_cases R (ltb (tenant_of (book_at b c).state c.client) (tenants_in (book_at b c).state)) _ _
      (λ known. pick_cases R (eqb (read_of c.datagram).discard 0) _ _
      (λ e. pick_cases R _ _ _ (λ _. none 7 0 (book_at b c) (omega arith))
      (λ _. sent v _ _ (ltb-true _ _ known) (named_head c.datagram (book_at b c).state (eqb-true (read_of c.datagram).discard 0 e))))
      (λ e. none (read_of c.datagram).discard (read_of c.datagram).fault (book_at b c) (some_number (read_of c.datagram).discard (eqb-false (read_of c.datagram).discard 0 e))))
      (λ _. none 3 0 (book_at b c) (omega arith))))
      (λ _. none 1 0 b (omega arith))

pub read_back : (b : Book) (c : Call) → Narrow b → (serve_of b c).outcome ≡ 0 → ReadAs (serve_of b c).reply
unfolding R
read_back b c n = call_read b c n
