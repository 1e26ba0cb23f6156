-- Proof of the statements on the two halves of the lent call, by those of the server.
use mathlib.Core.Path.{◌≡◌, refl, sym, ap, ap₂, ◌∙◌, subst}
use mathlib.Core.Bool.{Bool, true, false, ◌&&◌}
use mathlib.Core.List.{[]}
use Prim.Native.Nat.{ℕ, ◌≤◌}
use native.Mathlib.Omega.{arith}
use lib.Dec.{eqb, ltb}
use lib.ListN.{length}
use borrow.Author.Tests.{eqb-true}
use Rattle.lists.specs.Pick.{pick}
use Rattle.message.specs.laws.Placed.{pick_cases}
use Rattle.reply.specs.Reply.{least_room}
use Rattle.state.specs.Book.{Book}
use Rattle.releases.specs.Whole.{book_b}
use Rattle.decision.specs.Verdicts.{discard_with}
use Rattle.server.specs.declared.Ruling.{Ruling}
use Rattle.server.specs.Serve.{Answer, Call, discarded, serve_of}
use Rattle.server.specs.Halves.{Judgement, discard_ruling, write_of}
use Rattle.server.specs.Statement.{LeavesRest, NeverShort, ServeHalves, WritesWithin, in_halves, judged_for}
use Rattle.server.proofs.Halves.{enough_halves, leaves_rest, never_short, serve_halves, writes_within}
use Rattle.records.specs.Lent.{book_from, is128}
use Rattle.record_call.specs.Call.{LentAnswer, lent_answer, lent_both, serve_with}
use Rattle.record_verdict.specs.Verdict.{LentJudgement, judge_with, lent_judgement}
use Rattle.record_call.specs.laws.Call.{lent_joined}
use Rattle.records.specs.laws.Steps.{on_whole}
use Rattle.lent_guarantee.specs.Statement.{Lent, LentHalves, LentNeverShort, LentWritesWithin, SameJudge, lent_book, discarded_lent, judged, lent_in_halves}
use Rattle.lent_guarantee.proofs.Same.{kept_back, same}

-- ---- on 128 records
module _ (l : Lent) (c : Call) (long : length l.leases ≡ 128) where
  judged_whole : judged l c ≡ lent_judgement (judged_for (lent_book l) c)
  unfolding judge_with
  judged_whole = sym (on_whole (lent_judgement (judged_for (lent_book l) c)) (record { ruling = discard_ruling 1 0; ledger = l.ledger; leases = l.leases }) long)

  still : (n : ℕ) → lent_answer (discarded n (lent_book l)) ≡ discarded_lent n l
  still n = ap {B = LentAnswer} (λ ls. record { outcome = n; offset = 0; count = 0; reply = []; ledger = l.ledger; leases = ls }) (kept_back l.ledger l.leases l.names c long (lent_book l).table refl)

  joined : LentJudgement → LentAnswer
  joined j = lent_both j (write_of j.ruling j.ledger.state l.names c.room)

  by_tests : (t u : Bool) → lent_answer (pick t (pick u (discarded 2 (lent_book l)) (in_halves (lent_book l) c)) (discarded 1 (lent_book l))) ≡ pick t (pick u (discarded_lent 2 l) (lent_in_halves l c)) (discarded_lent 1 l)
  unfolding pick joined
  by_tests true true = still 2
  by_tests true false = ap joined (sym judged_whole)
  by_tests false u = still 1

-- ---- the call
pub lent_halves : LentHalves
unfolding LentHalves ServeHalves serve_with is128 pick
lent_halves l c = go (eqb (length l.leases) 128) refl
  where
    go : (t : Bool) → eqb (length l.leases) 128 ≡ t
        → pick t (lent_answer (serve_of (lent_book l) c)) (discarded_lent 1 l) ≡ pick (t && book_b (lent_book l)) (pick (ltb c.room least_room) (discarded_lent 2 l) (lent_in_halves l c)) (discarded_lent 1 l)
    go true e = ap lent_answer (serve_halves (lent_book l) c) ∙ by_tests l c (eqb-true _ _ e) (book_b (lent_book l)) (ltb c.room least_room)
    go false e = refl

-- ---- the first half: the book afterwards is that of a call in a room of 512
abbrev roomy : Call → Call
roomy c = record { datagram = c.datagram; client = c.client; time = c.time; room = least_room }

judged_book : (l : Lent) (c : Call) → length l.leases ≡ 128 → book_from (judged l c).ledger (judged l c).leases l.names ≡ (judged_for (lent_book l) c).book
judged_book l c long =
    sym (ap (λ (a : LentAnswer). book_from a.ledger a.leases l.names) (lent_joined (length l.leases) l.ledger l.leases l.names (roomy c) (omega arith)))
    ∙ ap (λ (a : Answer). a.book) (same l.ledger l.leases l.names (roomy c) long ∙ enough_halves (lent_book l) (roomy c) (omega arith))

pub same_judge : SameJudge
unfolding SameJudge
same_judge l c long = ap₂ {C = Judgement} (λ (r : Ruling) (b : Book). record { ruling = r; book = b }) (ap (λ (j : LentJudgement). j.ruling) (judged_whole l c long)) (judged_book l c long)

pub lent_never_short : LentNeverShort
unfolding LentNeverShort NeverShort judge_with discard_with
lent_never_short l c =
    pick_cases (λ (j : LentJudgement). j.ruling.verdict.outcome ≡ 2 → ⊥) (is128 (length l.leases)) _ _ (λ _. never_short (lent_book l) c.client c.time c.datagram) (λ _. λ e. omega arith)

-- ---- the second half
pub lent_writes_within : LentWritesWithin
unfolding LentWritesWithin WritesWithin LeavesRest
lent_writes_within r e g names before after x t =
    (subst (λ (n : ℕ). n ≤ 8) (sym t.outcome) (writes_within r e g.state names (length before)).0, leaves_rest r e g.state names before after (length before) x t)
