-- Proof of the guarantee for the lent ledger and records, by `same`.
use Prim.Native.Nat.{ℕ, ◌≤◌}
use mathlib.Core.Path.{◌≡◌, refl, sym, ap, ◌∙◌, subst}
use mathlib.Core.Bool.{Bool, true, false}
use mathlib.Core.List.{List, [], ◌∷◌}
use native.Mathlib.Omega.{arith}
use lib.Dec.{eqb}
use lib.ListN.{length}
use borrow.Author.Tests.{eqb-true, eqb-false}
use Rattle.state.specs.Book.{Book}
use Rattle.state.specs.declared.Lease.{Lease}
use Rattle.state.specs.declared.Ledger.{Ledger}
use Rattle.releases.specs.Whole.{book_b}
use Rattle.releases.proofs.Whole.{book_board}
use Rattle.message.specs.Read.{longest_datagram}
use Rattle.server.specs.Serve.{Answer, Call, serve_of}
use Rattle.guarantee.specs.Statement.{BoardKept, BoardStays, Demand3, Granted, NewRequest, SoundBook, WithinLimits, run}
use Rattle.call_guarantee.specs.Statement.{Answered, IsReply, ReadAs, live_under}
use Rattle.offer_guarantee.specs.Statement.{GrantedAsOffered, Offered, OfferedAs, OfferHeld, OfferRule, TakesUp, requested}
use Rattle.call_guarantee.proofs.Answers.{call_answered}
use Rattle.guarantee.proofs.Board.{board_stays}
use Rattle.guarantee.proofs.Granted.{demand3}
use Rattle.guarantee.proofs.Kept.{call_sound}
use Rattle.offer_guarantee.proofs.Offers.{offer_rule}
use Rattle.offer_guarantee.proofs.Taken.{offer_held}
use Rattle.records.specs.Records.{records_of, table_from}
use Rattle.record_verdict.specs.Verdict.{ledger_of}
use Rattle.record_call.specs.Call.{lent_answer, LentAnswer, serve_with}
use Rattle.records.specs.laws.Steps.{off_whole}
use Rattle.lent_guarantee.specs.Statement.{answer_of, lent_book, Lent, LentAnswered, LentBoardAgrees, LentBoardStays, LentDemand1, LentDemand3, LentOfferHeld, LentOfferRule, run_lent, served, SoundLent}
use Rattle.lent_guarantee.proofs.Same.{at_whole, kept_back, same, sound_book, still_whole}

-- ---- the list of calls
unfoldable pub next : Lent → Call → Lent
next l c = record { ledger = (served l c).ledger; leases = (served l c).leases; names = l.names }

next_book : (l : Lent) (c : Call) → SoundLent l → lent_book (next l c) ≡ (serve_of (lent_book l) c).book
unfolding next
next_book l c v = ap (λ (a : Answer). a.book) (same l.ledger l.leases l.names c v.whole)

pub next_sound : (l : Lent) (c : Call) → SoundLent l → SoundLent (next l c)
unfolding next
next_sound l c v = record {
  whole = still_whole l.ledger l.leases l.names c v.whole;
  eight = ap (λ (b : Book). length b.memory.releases) (next_book l c v) ∙ after.memory;
  sound = ap book_b (next_book l c v) ∙ after.sound;
}
  where
    after : SoundBook (serve_of (lent_book l) c).book
    after = call_sound (lent_book l) c (sound_book l.ledger l.leases l.names c v.whole v.eight v.sound)

pub run_lent_law : (l : Lent) (cs : List Call) → SoundLent l → SoundLent (run_lent l cs) × (lent_book (run_lent l cs) ≡ run (lent_book l) cs)
unfolding run_lent run next
run_lent_law l [] v = (v, refl)
run_lent_law l (c ∷ cs) v =
    let r = run_lent_law (next l c) cs (next_sound l c v) in
    (r.0, r.1 ∙ ap (λ (b : Book). run b cs) (next_book l c v))

-- ---- demand 3
pub lent_demand3 : LentDemand3
unfolding LentDemand3 Demand3
lent_demand3 l v cs =
    let r = run_lent_law l cs v in
    let d = demand3 (lent_book l) (sound_book l.ledger l.leases l.names (record { datagram = []; client = 0; time = 0; room = 0 }) v.whole v.eight v.sound) cs in
    let e : run (lent_book l) cs ≡ lent_book (run_lent l cs) = sym r.1 in
    record {
      sound = r.0;
      limits = subst WithinLimits e d.limits;
      next = λ c n. subst (λ (a : Answer). Granted (lent_book (run_lent l cs)) c a) (sym (same (run_lent l cs).ledger (run_lent l cs).leases (run_lent l cs).names c r.0.whole))
          (subst (λ (b : Book). (m : NewRequest b c) → Granted b c (serve_of b c)) e (d.next c) n);
    }

-- ---- demand 1
module _ (l : Lent) (c : Call) where
  abbrev k : Ledger
  k = l.ledger

  abbrev ls : List Lease
  ls = l.leases

  out : (length ls ≡ 128 → ⊥) → served l c ≡ record { outcome = 1; offset = 0; count = 0; reply = []; ledger = k; leases = ls }
  unfolding serve_with
  out e = sym (off_whole (lent_answer (serve_of (lent_book l) c)) (record { outcome = 1; offset = 0; count = 0; reply = []; ledger = k; leases = ls }) e)

  other_answered : (length ls ≡ 128 → ⊥) → LentAnswered l c (record { outcome = 1; offset = 0; count = 0; reply = []; ledger = k; leases = ls })
  other_answered e = record {
    outcome = omega arith;
    reply = λ z. absurd (omega arith);
    reads = λ _ z. absurd (omega arith);
    silent = λ _. refl;
    leases = λ _ g i. refl;
    untouched = λ _. (refl, refl);
    untouched_too = λ _. (refl, refl);
    advances = λ h. absurd (omega arith);
    carries = λ e. absurd (omega arith);
    carries_none = λ _. refl;
    inside = (omega arith, omega arith);
    few_read = omega arith;
    none_read = λ _ _. refl;
    other = λ _. refl;
    bad_names = λ _. refl;
    bad_releases = λ _. refl;
    bad_board = λ _. refl;
  }

  whole_answered : length ls ≡ 128 → LentAnswered l c (served l c)
  whole_answered long = record {
    outcome = subst (λ (a : Answer). a.outcome ≤ 8) back v.outcome;
    reply = subst (λ (a : Answer). a.outcome ≡ 0 → IsReply a.reply) back v.reply;
    reads = λ n. subst (λ (a : Answer). a.outcome ≡ 0 → ReadAs a.reply) back (v.reads n);
    silent = λ z. ap (λ (a : Answer). a.reply) (sym back) ∙ v.silent (λ y. z (ap (λ (a : Answer). a.outcome) (sym back) ∙ y));
    leases = subst (λ (a : Answer). (a.outcome ≡ 0 → ⊥) → (g : ℕ) (i : List ℕ)
        → live_under a.book.state.clock a.book.table g i ≡ live_under a.book.state.clock (table_from ls) g i) back v.leases;
    untouched = λ e. still (v.untouched (number ∙ e));
    untouched_too = λ e. still (v.untouched_too (number ∙ e));
    advances = λ h. let e = v.advances (let n = number in omega arith) in (
      ap (λ (a : LentAnswer). a.ledger) (at_whole k ls l.names c long) ∙ ap ledger_of e,
      ap (λ (a : LentAnswer). a.leases) (at_whole k ls l.names c long) ∙ ap (λ (b : Book). records_of b.table) e,
    );
    carries = λ e. sym place ∙ v.carries (number ∙ e);
    carries_none = λ z. sym place ∙ v.carries_none (λ e. z (sym number ∙ e));
    inside = subst (λ (k : ℕ). (k ≤ length c.datagram) × (k ≤ longest_datagram)) place v.inside;
    few_read = subst (λ (a : Answer). a.count ≤ 32) back v.few_read;
    none_read = subst (λ (a : Answer). 1 ≤ a.outcome → a.outcome ≤ 7 → a.count ≡ 0) back v.none_read;
    other = λ no. absurd (no long);
    bad_names = λ e. sym number ∙ v.bad_names e;
    bad_releases = λ e. sym number ∙ v.bad_releases e;
    bad_board = λ e. sym number ∙ v.bad_board e;
  }
    where
      v : Answered (lent_book l) c (serve_of (lent_book l) c)
      v = call_answered (lent_book l) c

      back : serve_of (lent_book l) c ≡ answer_of l.names (served l c)
      back = sym (same k ls l.names c long)

      number : (serve_of (lent_book l) c).outcome ≡ (served l c).outcome
      number = ap (λ (a : Answer). a.outcome) back

      place : (serve_of (lent_book l) c).offset ≡ (served l c).offset
      place = ap (λ (a : Answer). a.offset) back

      still : (serve_of (lent_book l) c).book ≡ lent_book l → ((served l c).ledger ≡ k) × ((served l c).leases ≡ ls)
      still e = (
        ap (λ (a : LentAnswer). a.ledger) (at_whole k ls l.names c long) ∙ ap ledger_of e,
        ap (λ (a : LentAnswer). a.leases) (at_whole k ls l.names c long) ∙ kept_back k ls l.names c long (serve_of (lent_book l) c).book.table (ap (λ (b : Book). b.table) e),
      )

  -- by the number of records
  by_number : (P : LentAnswer → Type 0) → (length ls ≡ 128 → P (served l c)) → ((length ls ≡ 128 → ⊥) → P (record { outcome = 1; offset = 0; count = 0; reply = []; ledger = k; leases = ls })) → P (served l c)
  by_number P f g = go (eqb (length ls) 128) refl
    where
      go : (t : Bool) → eqb (length ls) 128 ≡ t → P (served l c)
      go true e = f (eqb-true _ _ e)
      go false e = subst P (sym (out (eqb-false _ _ e))) (g (eqb-false _ _ e))

  pub call_lent : LentAnswered l c (served l c)
  call_lent = by_number (LentAnswered l c) whole_answered other_answered

pub lent_demand1 : LentDemand1
unfolding LentDemand1
lent_demand1 l c = call_lent l c

-- ---- the board
pub lent_board_agrees : LentBoardAgrees
unfolding LentBoardAgrees
lent_board_agrees l v cs = let r = run_lent_law l cs v in book_board (lent_book (run_lent l cs)) r.0.sound

pub lent_board_stays : LentBoardStays
unfolding LentBoardStays BoardStays
lent_board_stays l v c =
    subst (BoardKept (lent_book l)) (sym (same l.ledger l.leases l.names c v.whole))
    (board_stays (lent_book l) (sound_book l.ledger l.leases l.names c v.whole v.eight v.sound) c)

-- ---- the OFFER rule
pub lent_offer_rule : LentOfferRule
unfolding LentOfferRule OfferRule
lent_offer_rule l c long v free =
    let at : (d : Call) → answer_of l.names (served l d) ≡ serve_of (lent_book l) d = λ d. same l.ledger l.leases l.names d long in
    subst (λ (a : Answer). OfferedAs (lent_book l) c a (answer_of l.names (served l (requested c)))) (sym (at c))
    (subst (λ (a : Answer). OfferedAs (lent_book l) c (serve_of (lent_book l) c) a) (sym (at (requested c))) (offer_rule (lent_book l) c v free))

-- ---- the held offer
pub lent_offer_held : LentOfferHeld
unfolding LentOfferHeld OfferHeld run
lent_offer_held l v d discovers offered cs away r u =
    let w : Lent = run_lent l (d ∷ cs) in
    let e = run_lent_law l (d ∷ cs) v in
    let first : answer_of l.names (served l d) ≡ serve_of (lent_book l) d = same l.ledger l.leases l.names d v.whole in
    let last : answer_of w.names (served w r) ≡ serve_of (lent_book w) r = same w.ledger w.leases w.names r e.0.whole in
    let b : SoundBook (lent_book l) = sound_book l.ledger l.leases l.names d v.whole v.eight v.sound in
    subst (λ (a : Answer). GrantedAsOffered (lent_book l) d (lent_book w) r a (answer_of w.names (served w r))) (sym first)
    (subst (λ (a : Answer). GrantedAsOffered (lent_book l) d (lent_book w) r (serve_of (lent_book l) d) a) (sym last)
    (subst (λ (y : Book). TakesUp (lent_book l) d y r → GrantedAsOffered (lent_book l) d y r (serve_of (lent_book l) d) (serve_of y r)) (sym e.1)
    (offer_held (lent_book l) b d discovers (subst Offered first offered) cs away r) u))
