-- Laws: the statements on the two halves of a call hold.
use Prim.Native.Nat.{ℕ, ◌+◌, ◌-◌, ◌≤◌}
use mathlib.Core.Path.{◌≡◌, refl, sym, ap, ◌∙◌}
use mathlib.Core.Bool.{Bool, true, false, not, ◌&&◌}
use mathlib.Core.List.{List, ◌++◌}
use native.Mathlib.Omega.{arith}
use lib.Dec.{ltb, eqb}
use lib.ListN.{drop, length}
use lib.Seq.{drop-append-add, drop-drop}
use borrow.Author.Tests.{eqb-false, le-ltb, ltb-false}
use Rattle.lists.specs.Pick.{pick}
use Rattle.message.specs.laws.Placed.{pick_cases}
use Rattle.message.specs.Read.{read_of}
use Rattle.message.specs.Values.{fields_of}
use Rattle.message.specs.declared.Fields.{Fields}
use Rattle.reply.proofs.Short.{info_ack_short, lease_ack_short, nak_short, offer_short, release_ack_short}
use Rattle.reply.specs.Reply.{least_room}
use Rattle.state.specs.declared.State.{State}
use Rattle.state.specs.Book.{Book, advanced, releases_at, remembered}
use Rattle.releases.specs.Whole.{book_b}
use Rattle.releases.specs.laws.Whole.{advanced_named, advanced_names}
use Rattle.releases.proofs.Whole.{book_named}
use Rattle.soundness.specs.Sound.{tenants_in}
use Rattle.decision.specs.declared.Reply.{Reply}
use Rattle.decision.specs.declared.Reply.TheVariants.{Nothing, Offer, LeaseAck, ReleaseAck, InfoAck, Nak}
use Rattle.decision.specs.Verdicts.{discard_with}
use Rattle.server.specs.declared.Ruling.{Ruling}
use Rattle.server.specs.Serve.{Answer, Call, discarded, Said, at_clock, decided_for, for_server, serve_of, tenant_of, terms_of, with_reading}
use Rattle.server.specs.Halves.{Judgement, both, discard_ruling, judged_at, head_in, info_in, judge_clock, judge_of, judge_reading, judge_server, replied_by, ruled_by, ruled_reply, sendable, shows, write_of}
use Rattle.server.specs.Statement.{JudgesNumbered, LeavesRest, NeverShort, ServeHalves, VerdictTold, WritesDiscard, WritesShort, WritesWithin, in_halves}
use Rattle.server.specs.laws.Outcomes.{Numbered, concluded, read_number}
use Rattle.server.specs.laws.Tests.{judge_sound, judge_unsound}
use Rattle.server.specs.laws.Halves.{halves_clock, pick_same, written_discard, written_short}

-- ---- the old call
pub serve_halves : ServeHalves
unfolding ServeHalves serve_of
serve_halves b c = pick_same (book_b b) (λ v. pick_same (ltb c.room least_room) (λ _. refl) (λ e. after v (ltb-false c.room least_room e))) (λ _. refl)
  where
    a : Book
    a = advanced b c.time

    j : Judgement
    j = judge_clock a c.client c.datagram

    on : List ℕ → Judgement → Answer
    on names j = both j (write_of j.ruling j.book.state names c.room)

    after : book_b b ≡ true → least_room ≤ c.room → at_clock a c.client c.datagram ≡ in_halves b c
    after v g =
        halves_clock a c.client c.datagram (advanced_named b c.time (book_named b v)) c.room g
        ∙ ap (λ (names : List ℕ). on names j) (advanced_names b c.time)
        ∙ ap (on b.names) (judge_sound b c.client c.time c.datagram v)

-- in room enough, on any book: of an unsound one the second half tells discard 1 as well
pub enough_halves : (b : Book) (c : Call) → least_room ≤ c.room → serve_of b c ≡ in_halves b c
unfolding ServeHalves pick discard_with
enough_halves b c g =
    serve_halves b c ∙ ap (λ (t : Bool). pick (book_b b) (pick t (discarded 2 b) (in_halves b c)) (discarded 1 b)) (le-ltb c.room least_room g) ∙ go (book_b b) refl
  where
    told : Judgement → Answer
    told j = both j (write_of j.ruling j.book.state b.names c.room)

    go : (t : Bool) → book_b b ≡ t → pick t (in_halves b c) (discarded 1 b) ≡ in_halves b c
    go true e = refl
    go false e =
        ap (both (judged_at 1 0 b)) (written_discard (discard_ruling 1 0) b.state b.names c.room g (λ z. omega arith) (omega arith))
        ∙ ap told (judge_unsound b c.client c.time c.datagram e)

-- ---- the first half
abbrev Told : Answer → Judgement → Type 0
Told a j = (a.outcome ≡ j.ruling.verdict.outcome) × ((a.offset ≡ j.ruling.offset) × ((a.count ≡ j.ruling.count) × (a.book ≡ j.book)))

told_by_law : (t : Bool) (a a' : Answer) (j j' : Judgement) → Told a j → Told a' j' → Told (pick t a a') (pick t j j')
unfolding pick
told_by_law true a a' j j' p q = p
told_by_law false a a' j j' p q = q

pub verdict_told : VerdictTold
unfolding VerdictTold serve_of judge_of at_clock judge_clock with_reading judge_reading for_server judge_server discard_with pick
verdict_told b c g = told_by_law (book_b b) _ _ _ _ (rw (le-ltb c.room least_room g) at_clock_law) (refl, (refl, (refl, refl)))
  where
    a : Book
    a = advanced b c.time

    h : ℕ
    h = tenant_of a.state c.client

    for_server_law : (m : Fields) → Told (for_server a h m) (judge_server a h m)
    for_server_law m = told_by_law (eqb m.kind 3 && not m.ours) _ _ _ _ (refl, (refl, (refl, refl))) (refl, (refl, (refl, refl)))

    at_clock_law : Told (at_clock a c.client c.datagram) (judge_clock a c.client c.datagram)
    at_clock_law =
        told_by_law (ltb h (tenants_in a.state)) _ _ _ _
        (told_by_law (eqb (read_of c.datagram).discard 0) _ _ _ _ (for_server_law (fields_of c.datagram a.state.server (read_of c.datagram).message)) (refl, (refl, (refl, refl)))) (refl, (refl, (refl, refl)))

pub judges_numbered : JudgesNumbered
unfolding JudgesNumbered judge_of judge_clock judge_reading judge_server discard_with Numbered
judges_numbered b client time s =
    pick_cases P (book_b b) _ _
    (λ _. pick_cases P (ltb h (tenants_in a.state)) _ _
    (λ _. pick_cases P (eqb (read_of s).discard 0) _ _ (λ _. pick_cases P _ _ _ (λ _. omega arith) (λ _. (concluded a.state a.table (remembered (releases_at a.memory h)) h _).few))
    (λ e. (read_number s (eqb-false (read_of s).discard 0 e)).1))
    (λ _. omega arith)) (λ _. omega arith)
  where
    a : Book
    a = advanced b time

    h : ℕ
    h = tenant_of a.state client

    P : Judgement → Type 0
    P j = j.ruling.verdict.outcome ≤ 8

pub never_short : NeverShort
unfolding NeverShort judge_of judge_clock judge_reading judge_server discard_with Numbered
never_short b client time s =
    pick_cases P (book_b b) _ _
    (λ _. pick_cases P (ltb h (tenants_in a.state)) _ _
    (λ _. pick_cases P (eqb (read_of s).discard 0) _ _ (λ _. pick_cases P _ _ _ (λ _. λ e. omega arith) (λ _. decided _))
    (λ e. let n = (read_number s (eqb-false (read_of s).discard 0 e)).0 in λ (z : (read_of s).discard ≡ 2). omega arith))
    (λ _. λ e. omega arith)) (λ _. λ e. omega arith)
  where
    a : Book
    a = advanced b time

    h : ℕ
    h = tenant_of a.state client

    P : Judgement → Type 0
    P j = j.ruling.verdict.outcome ≡ 2 → ⊥

    decided : (m : Fields) → (decided_for a h m).verdict.outcome ≡ 2 → ⊥
    decided m e = let n = ((concluded a.state a.table (remembered (releases_at a.memory h)) h m).rest (λ z. omega arith)).0 in omega arith

-- ---- the second half
pub writes_short : WritesShort
unfolding WritesShort
writes_short r s names room g = sym (written_short r s names room g)

pub writes_discard : WritesDiscard
unfolding WritesDiscard
writes_discard r s names room g z l = sym (written_discard r s names room g z l)

-- whatever the verdict asks for; info_in lists four scopes of every state
ruled_short : (r : Ruling) (s : State) (names : List ℕ) → length r.id.octets ≡ 32 → (k : Reply) → length (ruled_by s names r k) ≤ least_room
ruled_short r s names e Nothing = omega arith
ruled_short r s names e Offer = offer_short (head_in s r) e (terms_of s r.verdict)
ruled_short r s names e LeaseAck = lease_ack_short (head_in s r) e (terms_of s r.verdict)
ruled_short r s names e ReleaseAck = release_ack_short (head_in s r) e
ruled_short r s names e InfoAck = info_ack_short (head_in s r) e (info_in s r) names refl
ruled_short r s names e Nak = nak_short (head_in s r) e r.verdict.error

within : (r : Ruling) → length r.id.octets ≡ 32 → (s : State) (names : List ℕ) (room : ℕ) → ((write_of r s names room).outcome ≤ 8) × (length (write_of r s names room).reply ≤ least_room)
unfolding write_of replied_by ruled_reply
within r e s names room =
    pick_cases P (ltb room least_room) _ _ (λ _. (omega arith, omega arith))
    (λ _. pick_cases P (eqb r.verdict.outcome 0) _ _
    (λ _. pick_cases P (shows r.verdict.reply && not (sendable s names r)) _ _ (λ _. (omega arith, omega arith)) (λ _. (omega arith, ruled_short r s names e r.verdict.reply)))
    (λ _. (omega arith, omega arith)))
  where
    P : Said → Type 0
    P w = (w.outcome ≤ 8) × (length w.reply ≤ least_room)

pub writes_within : WritesWithin
unfolding WritesWithin
writes_within r e s names room = within r e s names room

pub leaves_rest : LeavesRest
unfolding LeavesRest
leaves_rest r e s names before after room x t =
    let reply : List ℕ = (write_of r s names room).reply in
    let n : ℕ = length reply in
    let k : ℕ = least_room - n in
    let short : n ≤ least_room = (within r e s names room).1 in
    let whole : n + k ≡ least_room = omega arith in
    ap (drop least_room) t.buffer
    ∙ ap (λ (i : ℕ). drop i (reply ++ drop n before)) (sym whole)
    ∙ drop-append-add reply (drop n before) k
    ∙ drop-drop k n before
    ∙ ap (λ (i : ℕ). drop i before) whole
