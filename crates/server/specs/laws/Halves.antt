-- Laws: the definitions of the call are its two halves, one after the other (document 02, W-208).
use Rattle.std.specs.Prelude.{ℕ, ◌≤◌, ◌<◌, min, ◌≡◌, Bool, true, false, ◌&&◌, List, ltb, eqb}
use Rattle.std.proofs.Math.Path.{refl, ap}
use Rattle.std.proofs.Common.{sym, ap₂, ◌∙◌, arith}
use Rattle.std.proofs.Math.Bool.{not}
use borrow.Author.Tests.{eqb-false, eqb-true, lt-ltb, ltb-true}
use Rattle.lists.specs.Pick.{pick}
use Rattle.lists.specs.laws.Both.{and_both}
use Rattle.lists.specs.laws.Pick.{picks}
use Rattle.message.specs.declared.Fields.{Fields}
use Rattle.message.specs.laws.Placed.{pick_cases}
use Rattle.message.specs.Read.{read_of}
use Rattle.message.specs.Values.{fields_of}
use Rattle.names.specs.Names.{names_b}
use Rattle.reply.specs.Reply.{least_room}
use Rattle.state.specs.declared.State.{State}
use Rattle.state.specs.Book.{Book, releases_at, remembered}
use Rattle.state.specs.Edit.{edited_book}
use Rattle.soundness.specs.Sound.{tenants_in}
use Rattle.decision.specs.declared.Decided.{Decided}
use Rattle.decision.specs.declared.Reply.{Reply}
use Rattle.decision.specs.declared.Reply.TheVariants.{Nothing, Offer, LeaseAck, ReleaseAck, InfoAck, Nak}
use Rattle.decision.specs.declared.Verdict.{Verdict}
use Rattle.decision.specs.Verdicts.{discard_with}
use Rattle.server.specs.declared.Ruling.{Ruling}
use Rattle.server.specs.Serve.{Answer, Said, answered, at_clock, by_reply, count_for, decided_for, discarded_at, for_server, reply_of, tenant_of, with_reading}
use Rattle.server.specs.Halves.{Judgement, both, discard_ruling, info_with, judge_clock, judge_reading, judge_server, judged_at, judged_by, replied_by, ruled_by, ruled_reply, ruling_on, sendable, shows, silent, write_of}
use Rattle.server.specs.laws.Outcomes.{Concluded, Numbered, concluded, read_number}

-- ---- a test that both sides make
pub pick_same : {A : Type 0} {a a' b b' : A} (t : Bool) → (t ≡ true → a ≡ a') → (t ≡ false → b ≡ b') → pick t a b ≡ pick t a' b'
unfolding pick
pick_same true p q = p refl
pick_same false p q = q refl

pick_through : {A B : Type 0} {a b : B} (f : A → B) (t : Bool) (x y : A) → (t ≡ true → a ≡ f x) → (t ≡ false → b ≡ f y) → pick t a b ≡ f (pick t x y)
unfolding pick
pick_through f true x y p q = p refl
pick_through f false x y p q = q refl

-- ---- the second half
module _ (r : Ruling) (s : State) (names : List ℕ) (room : ℕ) where
  -- test by test
  pub written_short : room < least_room → silent 2 0 0 ≡ write_of r s names room
  unfolding write_of
  written_short g = search picks

  pub written_reply : least_room ≤ room → r.verdict.outcome ≡ 0 → replied_by r s names ≡ write_of r s names room
  unfolding write_of
  written_reply g z = search picks

  pub written_other : least_room ≤ room → (r.verdict.outcome ≡ 0 → ⊥) → silent (min r.verdict.outcome 8) r.offset r.count ≡ write_of r s names room
  unfolding write_of
  written_other g z = search picks

  pub written_discard : least_room ≤ room → (r.verdict.outcome ≡ 0 → ⊥) → r.verdict.outcome ≤ 8 → silent r.verdict.outcome r.offset r.count ≡ write_of r s names room
  written_discard g z l = ap {B = Said} (λ (n : ℕ). silent n r.offset r.count) (let e : r.verdict.outcome ≡ min r.verdict.outcome 8 = omega arith in e) ∙ written_other g z

-- where the names can be shown, the reply is the verdict's
replied_sendable : (r : Ruling) (s : State) (names : List ℕ) → sendable s names r ≡ true → replied_by r s names ≡ record { outcome = 0; offset = 0; count = r.count; reply = ruled_reply s names r }
unfolding replied_by pick
replied_sendable r s names e = ap (λ (t : Bool). pick (shows r.verdict.reply && not t) (silent 1 0 0) sent) e ∙ go (shows r.verdict.reply)
  where
    sent : Said
    sent = record { outcome = 0; offset = 0; count = r.count; reply = ruled_reply s names r }

    go : (t : Bool) → pick (t && false) (silent 1 0 0) sent ≡ sent
    go true = refl
    go false = refl

-- a reply that shows no names
pub replied_plain : (r : Ruling) (s : State) (names : List ℕ) (k : Reply) → r.verdict.reply ≡ k → shows k ≡ false → replied_by r s names ≡ record { outcome = 0; offset = 0; count = r.count; reply = ruled_by s names r k }
unfolding replied_by ruled_reply pick
replied_plain r s names k e f =
    ap (λ (k : Reply). pick (shows k && not (sendable s names r)) (silent 1 0 0) (sent k)) e ∙ ap (λ (t : Bool). pick (t && not (sendable s names r)) (silent 1 0 0) (sent k)) f
  where
    sent : Reply → Said
    sent k = record { outcome = 0; offset = 0; count = r.count; reply = ruled_by s names r k }

-- and the one that does
pub replied_info : (r : Ruling) (s : State) (names : List ℕ) → r.verdict.reply ≡ InfoAck → replied_by r s names ≡ info_with r s names
unfolding replied_by ruled_reply info_with pick
replied_info r s names e = ap (λ (k : Reply). pick (shows k && not (sendable s names r)) (silent 1 0 0) (sent k)) e ∙ go (sendable s names r)
  where
    sent : Reply → Said
    sent k = record { outcome = 0; offset = 0; count = r.count; reply = ruled_by s names r k }

    go : (t : Bool) → pick (not t) (silent 1 0 0) (sent InfoAck) ≡ pick t (sent InfoAck) (silent 1 0 0)
    go true = refl
    go false = refl

-- ---- the two together, where test 1 has shown that the names are good and test 3 that h is a tenant
joined : State → List ℕ → ℕ → Judgement → Answer
joined s names room j = both j (write_of j.ruling s names room)

ruled_as : (s : State) (names : List ℕ) (h : ℕ) (m : Fields) (n : ℕ) (v : Verdict) (k : Reply) → by_reply s names h m v k ≡ ruled_by s names (ruling_on h m n v) k
ruled_as s names h m n v Nothing = refl
ruled_as s names h m n v Offer = refl
ruled_as s names h m n v LeaseAck = refl
ruled_as s names h m n v ReleaseAck = refl
ruled_as s names h m n v InfoAck = refl
ruled_as s names h m n v Nak = refl

module _ (b : Book) (h : ℕ) (room : ℕ) (enough : least_room ≤ room) where
  -- a discard is told as it is
  discard_told : (n o : ℕ) → (n ≡ 0 → ⊥) → n ≤ 8 → discarded_at n o b ≡ joined b.state b.names room (judged_at n o b)
  unfolding joined discard_with
  discard_told n o z l = ap (both (judged_at n o b)) (written_discard (discard_ruling n o) b.state b.names room enough z l)

  module _ (named : names_b b.state.scope_count b.state.tenant_count b.names ≡ true) (known : h < b.state.tenant_count) where
    -- the decision: a reply, or discard 8
    decided_told : (m : Fields) (d : Decided) → Concluded d → answered b h m d ≡ joined b.state b.names room (judged_by b h m d)
    unfolding joined reply_of ruled_reply
    decided_told m d c = go (eqb d.verdict.outcome 0) refl
      where
        r : Ruling
        r = ruling_on h m (count_for b h m) d.verdict

        told : ℕ → List ℕ → Answer
        told n reply = record { outcome = n; offset = 0; count = count_for b h m; reply = reply; book = edited_book d.edit h b }

        written : Said
        written = write_of (ruling_on h m (count_for b h m) d.verdict) b.state b.names room

        go : (t : Bool) → eqb d.verdict.outcome 0 ≡ t → answered b h m d ≡ both (judged_by b h m d) written
        go true e =
            let z : d.verdict.outcome ≡ 0 = eqb-true d.verdict.outcome 0 e in
            ap₂ told z (ruled_as b.state b.names h m (count_for b h m) d.verdict d.verdict.reply)
            ∙ ap (both (judged_by b h m d)) (sym (replied_sendable r b.state b.names (and_both named (lt-ltb h b.state.tenant_count known))) ∙ written_reply r b.state b.names room enough z)
        go false e =
            let z = eqb-false d.verdict.outcome 0 e in
            ap (told d.verdict.outcome) (ap (by_reply b.state b.names h m d.verdict) (c.rest z).1.0)
            ∙ ap (both (judged_by b h m d)) (written_discard r b.state b.names room enough z c.few)

    server_told : (m : Fields) → for_server b h m ≡ joined b.state b.names room (judge_server b h m)
    unfolding for_server judge_server
    server_told m =
        pick_through (joined b.state b.names room) (eqb m.kind 3 && not m.ours) _ _ (λ _. discard_told 7 0 (λ e. omega arith) (omega arith))
        (λ _. decided_told m (decided_for b h m) (concluded b.state b.table (remembered (releases_at b.memory h)) h m))

    reading_told : (s : List ℕ) → with_reading b h s (read_of s) ≡ joined b.state b.names room (judge_reading b h s (read_of s))
    unfolding with_reading judge_reading Numbered
    reading_told s =
        pick_through (joined b.state b.names room) (eqb (read_of s).discard 0) _ _ (λ _. server_told (fields_of s b.state.server (read_of s).message))
        (λ e. let z = eqb-false (read_of s).discard 0 e in discard_told (read_of s).discard (read_of s).fault z (read_number s z).1)

-- ---- from test 3 on: no half changes the state, so that the second may be given the book afterwards
reading_state : (b : Book) (h : ℕ) (s : List ℕ) → (judge_reading b h s (read_of s)).book.state ≡ b.state
unfolding judge_reading judge_server
reading_state b h s = pick_cases P _ _ _ (λ _. pick_cases P _ _ _ (λ _. refl) (λ _. refl)) (λ _. refl)
  where
    P : Judgement → Type 0
    P j = j.book.state ≡ b.state

pub halves_clock : (b : Book) (client : ℕ) (s : List ℕ) → names_b b.state.scope_count b.state.tenant_count b.names ≡ true → (room : ℕ) → least_room ≤ room
    → at_clock b client s ≡ both (judge_clock b client s) (write_of (judge_clock b client s).ruling (judge_clock b client s).book.state b.names room)
unfolding at_clock judge_clock joined
halves_clock b client s named room enough =
    pick_through on (ltb h (tenants_in b.state)) j (judged_at 3 0 b)
    (λ e.
    reading_told b h room enough named (let g = ltb-true h (tenants_in b.state) e in omega arith) s
    ∙ ap (λ (x : State). both j (write_of j.ruling x b.names room)) (sym (reading_state b h s)))
    (λ _. discard_told b h room enough 3 0 (λ e. omega arith) (omega arith))
  where
    h : ℕ
    h = tenant_of b.state client

    j : Judgement
    j = judge_reading b h s (read_of s)

    on : Judgement → Answer
    on j = both j (write_of j.ruling j.book.state b.names room)
