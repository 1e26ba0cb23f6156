-- Laws: the call on 128 records by value: tests 1 and 2, and its two halves.
use Rattle.std.specs.Prelude.{◌≡◌, refl, Bool, List, [], ℕ, ◌≤◌, ◌<◌, length}
use Rattle.std.proofs.Common.{sym, ap₂, ◌∙◌, subst, arith}
use Rattle.std.proofs.Math.Path.{ap}
use Rattle.std.proofs.Math.Bool.{true, false}
use Rattle.lists.specs.Pick.{pick}
use Rattle.reply.specs.Reply.{least_room}
use Rattle.state.specs.declared.Lease.{Lease}
use Rattle.state.specs.declared.Ledger.{Ledger}
use Rattle.state.specs.declared.State.{State}
use Rattle.state.specs.Book.{raised}
use Rattle.decision.specs.Verdicts.{discard_with}
use Rattle.server.specs.declared.Outcome.{Outcome}
use Rattle.server.specs.declared.Ruling.{Ruling}
use Rattle.server.specs.Serve.{Call, Tells, discarded, serve_of}
use Rattle.server.specs.Halves.{discard_ruling, judge_of, write_of}
use Rattle.server.specs.laws.Halves.{written_discard}
use Rattle.server.specs.laws.Tests.{call_short, call_unsound}
use Rattle.server.specs.laws.Told.{tells_as}
use Rattle.server.proofs.Halves.{enough_halves}
use Rattle.record_verdict.specs.declared.JudgedRecords.{JudgedRecords}
use Rattle.records.specs.declared.Records.{Records}
use Rattle.record_call.specs.declared.ServedRecords.{ServedRecords}
use Rattle.record_survey.specs.declared.Surveyed.{Surveyed}
use Rattle.records.specs.Lent.{book_from, is128}
use Rattle.record_verdict.specs.Verdict.{JudgesRecords, LentJudgement, judge_with, lent_judgement}
use Rattle.record_call.specs.Call.{LentAnswer, ServesRecords, lent_answer, lent_both, serve_with}
use Rattle.record_survey.specs.Survey.{SoundFrom}
use Rattle.records.specs.laws.Back.{records_back}
use Rattle.record_verdict.specs.laws.Lent.{lent_clock}
use Rattle.records.specs.laws.Steps.{off_whole, on_whole}
use Rattle.record_survey.specs.laws.Tested.{Surveys, Tested, tested}
use Rattle.record_verdict.specs.laws.Verdict.{unjudged}

serves_as : {a b : LentAnswer} {x y : List ℕ} {r : ServedRecords} → a ≡ b → ServesRecords a x y r → ServesRecords b x y r
serves_as {x = x} {y} {r} e v = subst (λ (z : LentAnswer). ServesRecords z x y r) e v

-- a discard gives back what it got
abbrev none : ℕ → Ledger → List Lease → LentAnswer
none k g ls = record { outcome = k; offset = 0; count = 0; reply = []; ledger = g; leases = ls }

abbrev Discards : ℕ → Ledger → Records → ServedRecords → Type 0
Discards k g m r = r ≡ record { outcome = record { outcome = k; length = 0; offset = 0; count = 0 }; clock = g.state.clock; memory = g.memory; records = m }

stays : (k : ℕ) (g : Ledger) (ls : List Lease) {m : Records} {x : List ℕ} {r : ServedRecords} → m.leases ≡ ls → length ls ≡ 128 → Discards k g m r → ServesRecords (none k g ls) x x r
stays k g ls a q e = record {
  tells = record { outcome = ap (λ (z : ServedRecords). z.outcome.outcome) e; offset = ap (λ (z : ServedRecords). z.outcome.offset) e; count = ap (λ (z : ServedRecords). z.outcome.count) e; size = ap (λ (z : ServedRecords). z.outcome.length) e; buffer = refl };
  clock = ap (λ (z : ServedRecords). z.clock) e;
  memory = ap (λ (z : ServedRecords). z.memory) e;
  leases = ap (λ (z : ServedRecords). z.records.leases) e ∙ a;
  long = ap (λ (z : ServedRecords). length z.records.leases) e ∙ ap length a ∙ q;
}

discarded_is : (k : ℕ) (g : Ledger) (ls : List Lease) (names : List ℕ) → length ls ≡ 128 → none k g ls ≡ lent_answer (discarded k (book_from g ls names))
discarded_is k g ls names q = ap (none k g) (sym (records_back ls q))

-- ---- tests 1 and 2
module _ (n : ℕ) (g : Ledger) (ls : List Lease) (names : List ℕ) (c : Call) where
  on : n ≡ 128 → lent_answer (serve_of (book_from g ls names) c) ≡ serve_with n g ls names c
  unfolding serve_with
  on e = on_whole (lent_answer (serve_of (book_from g ls names) c)) (none 1 g ls) e

  pub serve_out : {m : Records} {x : List ℕ} {r : ServedRecords} → (n ≡ 128 → ⊥) → m.leases ≡ ls → length ls ≡ 128 → Discards 1 g m r → ServesRecords (serve_with n g ls names c) x x r
  unfolding serve_with
  serve_out e a q v = serves_as (off_whole (lent_answer (serve_of (book_from g ls names) c)) (none 1 g ls) e) (stays 1 g ls a q v)

  module _ {k : Surveyed} {t : Bool} (e : n ≡ 128) (p : Surveys g ls k) (w : t ≡ Tested g names k) where
    pub serve_unsound : {m : Records} {x : List ℕ} {r : ServedRecords} → t ≡ false → m.leases ≡ ls → length ls ≡ 128 → Discards 1 g m r → ServesRecords (serve_with n g ls names c) x x r
    serve_unsound f a q v = serves_as (discarded_is 1 g ls names q ∙ ap lent_answer (call_unsound (book_from g ls names) c (sym (tested g ls names k p w) ∙ f)) ∙ on e) (stays 1 g ls a q v)

  pub serve_short : {m : Records} {x : List ℕ} {r : ServedRecords} → n ≡ 128 → SoundFrom g ls names → c.room < least_room → m.leases ≡ ls → length ls ≡ 128 → Discards 2 g m r
      → ServesRecords (serve_with n g ls names c) x x r
  serve_short e y h a q v = serves_as (discarded_is 2 g ls names q ∙ ap lent_answer (call_short (book_from g ls names) c y h) ∙ on e) (stays 2 g ls a q v)

-- ---- the call is its two halves
module _ (n : ℕ) (g : Ledger) (ls : List Lease) (names : List ℕ) (c : Call) (enough : least_room ≤ c.room) where
  abbrev first : LentJudgement
  first = judge_with n g ls names c.client c.time c.datagram

  joined : LentJudgement → LentAnswer
  joined j = lent_both j (write_of j.ruling j.ledger.state names c.room)

  -- in room enough, on any number of records
  pub lent_joined : serve_with n g ls names c ≡ lent_both first (write_of first.ruling first.ledger.state names c.room)
  unfolding serve_with judge_with pick joined discard_with
  lent_joined = go (is128 n)
    where
      go : (t : Bool) → pick t (lent_answer (serve_of (book_from g ls names) c)) (none 1 g ls) ≡ joined (pick t (lent_judgement (judge_of (book_from g ls names) c.client c.time c.datagram)) (unjudged 1 g ls))
      go true = ap lent_answer (enough_halves (book_from g ls names) c enough)
      go false = ap (lent_both (unjudged 1 g ls)) (written_discard (discard_ruling 1 0) g.state names c.room enough (λ z. omega arith) (omega arith))

  pub serve_joined : {j : JudgedRecords} {s : State} {x y : List ℕ} {o : Outcome} → JudgesRecords first j → s ≡ raised g.state j.clock → Tells (write_of j.ruling s names c.room) x y o
      → ServesRecords (serve_with n g ls names c) x y (record { outcome = o; clock = j.clock; memory = j.memory; records = j.records })
  serve_joined v p w =
      let e = p ∙ ap (raised g.state) v.clock ∙ sym (lent_clock n g ls names c.client c.time c.datagram) in
      let t = tells_as (ap₂ (λ (r : Ruling) (s : State). write_of r s names c.room) v.ruling e) w in
      serves_as (sym lent_joined)
      (record { tells = record { outcome = t.outcome; offset = t.offset; count = t.count; size = t.size; buffer = t.buffer }; clock = v.clock; memory = v.memory; leases = v.leases; long = v.long })
