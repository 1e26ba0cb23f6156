-- Proof of demand 1, of the reply and of the leases: outcome 0 has a reply, and a discard leaves the live leases.
use Prim.Native.Nat.{ℕ, zero, suc, ◌≤◌, max}
use mathlib.Core.Path.{◌≡◌, refl, sym, ap, ◌∙◌, subst}
use mathlib.Core.List.{List, []}
use native.Mathlib.Omega.{arith}
use lib.Dec.{ltb, eqb}
use lib.ListN.{length, length-append}
use borrow.Author.Tests.{eqb-true, eqb-false}
use Rattle.lists.specs.Pick.{pick}
use Rattle.lists.specs.Filter.{filter_by, is_in}
use Rattle.lists.specs.laws.Filter.{filter_none_out, filter_passes}
use Rattle.message.specs.declared.Fields.{Fields}
use Rattle.message.specs.laws.Placed.{pick_cases}
use Rattle.message.specs.Read.{read_of}
use Rattle.reply.specs.Reply.{least_room, Option, info_ack_of, info_options, lease_ack_of, lease_options, message_octets, nak_of, nak_options, offer_of, option, option_octets, options_octets, release_ack_of, release_options}
use Rattle.reply.proofs.Short.{info_ack_short, lease_ack_short, nak_short, offer_short, release_ack_short}
use Rattle.state.specs.declared.Lease.{Lease}
use Rattle.state.specs.declared.LeaseTable.{LeaseTable}
use Rattle.state.specs.declared.Release.{Release}
use Rattle.state.specs.declared.State.{State}
use Rattle.state.specs.Book.{Book, advanced, live, live_of, raised, releases_at, remembered}
use Rattle.releases.specs.Whole.{book_b}
use Rattle.soundness.specs.Sound.{tenants_in}
use Rattle.decision.specs.declared.Decided.{Decided}
use Rattle.decision.specs.declared.Reply.{Reply}
use Rattle.decision.specs.declared.Reply.TheVariants.{Nothing, Offer, LeaseAck, ReleaseAck, InfoAck, Nak}
use Rattle.decision.specs.declared.Verdict.{Verdict}
use Rattle.decision_laws.specs.laws.Reads.{read_array}
use Rattle.decision.specs.Verdicts.{discard_with, nak_with, plain_reply, refusal_of, with_lease}
use Rattle.admission.specs.Tests.{own_of}
use Rattle.decision_laws.specs.laws.Cases.{decided_by}
use Rattle.decision.specs.Decide.{decide_of}
use Rattle.server.specs.Serve.{Answer, Call, answered, at_clock, by_reply, decided_for, discarded_at, for_server, head_of, info_of, reply_of, serve_of, tenant_of, terms_of, with_reading}
use Rattle.guarantee.specs.Statement.{book_at}
use Rattle.call_guarantee.specs.Statement.{IsReply, live_under}
use Rattle.call_guarantee.proofs.Discards.{Tested, call_tested, own_dropped}

-- ---- a verdict with outcome 0 sends something
Sends : Reply → Type 0
Sends Nothing = ⊥
Sends Offer = Unit {0}
Sends LeaseAck = Unit {0}
Sends ReleaseAck = Unit {0}
Sends InfoAck = Unit {0}
Sends Nak = Unit {0}

Q : Verdict → Type 0
Q v = v.outcome ≡ 0 → Sends v.reply

P : Decided → Type 0
P d = Q d.verdict

refused : (m : Fields) (e : ℕ) → Q (refusal_of m e)
unfolding refusal_of discard_with nak_with Q Sends
refused m e = pick_cases Q (eqb m.kind 1) _ _ (λ _ z. absurd (omega arith)) (λ _. pick_cases Q (eqb m.kind 8) _ _ (λ _ z. absurd (omega arith)) (λ _ z. tt))

decided : (s : State) (t : LeaseTable) (q : List Release) (h : ℕ) (m : Fields) → P (decide_of s t q h m)
unfolding with_lease plain_reply P Q Sends
decided s t q h m = decided_by s t h m P (record {
  resent = λ _ _. tt;
  again = λ _. tt;
  refused = refused m;
  repeated = λ _ _ _. tt;
  taken = λ _ _ _. tt;
  offered = λ _ _ _ _ _. tt;
  requested = λ _ _ _ _ _. tt;
  dropped = λ _ _. refused m 0;
  moved = λ _ _ _ _ _. tt;
  renewed = λ _ _ _ _ _. tt;
  released = λ _ _ _. tt;
  informed = λ _. tt;
}) q

-- ---- the octets of each reply
message_long : (kind xid : ℕ) (os : List Option) → 12 ≤ length (message_octets kind xid os)
unfolding message_octets
message_long kind xid os = let e = length-append (options_octets os) (option_octets (option 0 [])) in omega arith

octets_of_law : (s : State) (names : List ℕ) (g : ℕ) (m : Fields) (v : Verdict) (k : Reply) → length m.id.octets ≡ 32 → Sends k → IsReply (by_reply s names g m v k)
unfolding Sends offer_of lease_ack_of release_ack_of info_ack_of nak_of message_octets is_in pick
octets_of_law s names g m v Nothing a h = absurd h
octets_of_law s names g m v Offer a h = record { some = message_long 2 m.xid (lease_options (head_of s m) (terms_of s v)); short = offer_short (head_of s m) a (terms_of s v); type = refl }
octets_of_law s names g m v LeaseAck a h = record { some = message_long 5 m.xid (lease_options (head_of s m) (terms_of s v)); short = lease_ack_short (head_of s m) a (terms_of s v); type = refl }
octets_of_law s names g m v ReleaseAck a h = record { some = message_long 5 m.xid (release_options (head_of s m)); short = release_ack_short (head_of s m) a; type = refl }
octets_of_law s names g m v InfoAck a h = record { some = message_long 5 m.xid (info_options (head_of s m) (info_of s g m) names); short = info_ack_short (head_of s m) a (info_of s g m) names refl; type = refl }
octets_of_law s names g m v Nak a h = record { some = message_long 6 m.xid (nak_options (head_of s m) v.error); short = nak_short (head_of s m) a v.error; type = refl }

-- ---- the call
module _ (b : Book) (c : Call) where
  R : Answer → Type 0
  R a = a.outcome ≡ 0 → IsReply a.reply

  none : (n o : ℕ) (x : Book) → 1 ≤ n → R (discarded_at n o x)
  unfolding R
  none n o x h z = absurd (omega arith)

  sent : (h : ℕ) (m : Fields) → length m.id.octets ≡ 32 → R (answered (book_at b c) h m (decided_for (book_at b c) h m))
  unfolding R reply_of P Q
  sent h m a z =
      octets_of_law (book_at b c).state (book_at b c).names h m (decided_for (book_at b c) h m).verdict (decided_for (book_at b c) h m).verdict.reply a
      (decided (book_at b c).state (book_at b c).table (remembered (releases_at (book_at b c).memory h)) h m z)

  call_replies : R (serve_of b c)
  unfolding serve_of at_clock with_reading for_server
  call_replies =
      pick_cases R (book_b b) _ _
      (λ _. pick_cases R (ltb c.room least_room) _ _ (λ _. none 2 0 b (omega arith))
      (λ _. pick_cases R (ltb (tenant_of (book_at b c).state c.client) (tenants_in (book_at b c).state)) _ _
      (λ _. pick_cases R (eqb (read_of c.datagram).discard 0) _ _
      (λ e. pick_cases R _ _ _ (λ _. none 7 0 (book_at b c) (omega arith))
      (λ _. sent _ _ (read_array c.datagram (book_at b c).state.server (eqb-true (read_of c.datagram).discard 0 e))))
      (λ e. none (read_of c.datagram).discard (read_of c.datagram).fault (book_at b c) (let n = eqb-false (read_of c.datagram).discard 0 e in some_number (read_of c.datagram).discard n)))
      (λ _. none 3 0 (book_at b c) (omega arith))))
      (λ _. none 1 0 b (omega arith))
    where
      some_number : (n : ℕ) → (n ≡ 0 → ⊥) → 1 ≤ n
      some_number zero h = absurd (h refl)
      some_number (suc n) h = omega arith

pub replied : (b : Book) (c : Call) → (serve_of b c).outcome ≡ 0 → IsReply (serve_of b c).reply
unfolding R
replied b c = call_replies b c

-- ---- the leases that are live at the clock
live_twice : (k : ℕ) (ls : List Lease) → live_of k (live_of k ls) ≡ live_of k ls
unfolding live_of
live_twice k ls = filter_none_out (live k) (filter_by (live k) ls) (filter_passes (live k) ls)

advanced_live : (b : Book) (time g : ℕ) → live_of (advanced b time).state.clock (own_of (advanced b time).table g) ≡ live_of (advanced b time).state.clock (own_of b.table g)
unfolding advanced raised
advanced_live b time g = ap (live_of (max b.state.clock time)) (own_dropped (max b.state.clock time) b.table g) ∙ live_twice (max b.state.clock time) (own_of b.table g)

pub leases_stay : (b : Book) (c : Call) → ((serve_of b c).outcome ≡ 0 → ⊥) → (g : ℕ) (i : List ℕ)
    → live_under (serve_of b c).book.state.clock (serve_of b c).book.table g i ≡ live_under (serve_of b c).book.state.clock b.table g i
leases_stay b c n g i = go (serve_of b c).outcome refl
  where
    v : Tested b c (serve_of b c)
    v = call_tested b c

    same : (x : Book) → (serve_of b c).book ≡ x → live_of x.state.clock (own_of x.table g) ≡ live_of x.state.clock (own_of b.table g)
        → live_under (serve_of b c).book.state.clock (serve_of b c).book.table g i ≡ live_under (serve_of b c).book.state.clock b.table g i
    same x e h = subst (λ (y : Book). live_under y.state.clock y.table g i ≡ live_under y.state.clock b.table g i) (sym e) (ap (filter_by _) h)

    go : (k : ℕ) → (serve_of b c).outcome ≡ k → live_under (serve_of b c).book.state.clock (serve_of b c).book.table g i ≡ live_under (serve_of b c).book.state.clock b.table g i
    go zero e = absurd (n e)
    go (suc zero) e = same b (v.untouched e) refl
    go (suc (suc zero)) e = same b (v.untouched_too e) refl
    go (suc (suc (suc k))) e = same (book_at b c) (v.advances (omega arith)) (advanced_live b c.time g)
