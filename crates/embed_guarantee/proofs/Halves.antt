-- Proof of `FileHalves`: the two halves of a call on a file, the second on what the first left, are the call.
use Prim.Native.Nat.{ℕ, ◌≤◌}
use mathlib.Core.Path.{◌≡◌, refl, sym, ap, ap₂, ◌∙◌}
use mathlib.Core.List.{List}
use native.Mathlib.Omega.{arith}
use lib.ListN.{length, replicate, take}
use Rattle.lists.specs.laws.Pick.{pick_eq, pick_not_lt}
use Rattle.reply.specs.Reply.{least_room}
use Rattle.format.specs.Format.{Octets}
use Rattle.state.specs.declared.State.{State}
use Rattle.state.specs.Book.{zero_lease}
use Rattle.server.specs.declared.Ruling.{Ruling}
use Rattle.server.specs.Serve.{Answer, Call, Said}
use Rattle.server.specs.Halves.{Judgement, write_of}
use Rattle.server.specs.Statement.{VerdictTold}
use Rattle.server.proofs.Halves.{verdict_told}
use Rattle.verdict_octets.specs.Octets.{Holds, ReadBack, TypedRuling, verdict_octets}
use Rattle.verdict_octets.specs.laws.Octets.{verdict_back}
use Rattle.state_file.specs.StateFile.{book_in, length_written, names_of, read_file, refusal_number, zero_ledger}
use Rattle.state_file.specs.Typed.{Typed}
use Rattle.records.specs.Records.{table_from}
use Rattle.records.specs.Lent.{LentReading, read_lent, room_lent, written_lent}
use Rattle.record_verdict.specs.Verdict.{judge_lent, LentJudgement}
use Rattle.record_call.specs.Call.{LentAnswer, lent_both, serve_lent}
use Rattle.record_call.specs.laws.Call.{lent_joined}
use Rattle.records.specs.laws.Files.{file_long}
use Rattle.lent_guarantee.specs.Statement.{lent_book, Lent, LentDemand1, LentWriteRead, SameCall, SameJudge}
use Rattle.lent_guarantee.proofs.Guaranteed.{lent_demand1}
use Rattle.lent_guarantee.proofs.Halves.{same_judge}
use Rattle.lent_guarantee.proofs.Same.{same_call}
use Rattle.lent_guarantee.proofs.RoundTrip.{read_whole}
use Rattle.lent_guarantee.proofs.Written.{lent_write_read}
use Rattle.embed.specs.Embed.{called, Filed, filed, ledger_in, leases_in, names_in, refusal_in, serve_file}
use Rattle.embed.specs.Halves.{judged, judge_file, reply_file}
use Rattle.embed.specs.Promises.{filed_said}
use Rattle.embed_guarantee.specs.Statement.{FileHalves, first_half, judged_in, JudgedNumbers, Numbered, ServedNumbers}
use Rattle.embed.proofs.Files.{accepted_parts}
use Rattle.embed.proofs.Judged.{lent_within}
use Rattle.embed_guarantee.proofs.Numbers.{filed_at, judged_numbers, served_numbers}

module _ (b : List ℕ) (n : ℕ) (c : Call) (e : refusal_in b n ≡ 0) (h : least_room ≤ c.room) where
  abbrev first : LentJudgement
  first = judged_in b n c

  abbrev whole : LentAnswer
  whole = serve_lent (ledger_in b n) (leases_in b n) (names_in b n) c

  abbrev said : Said
  said = write_of first.ruling first.ledger.state (names_in b n) c.room

  abbrev mine : Lent
  mine = record { ledger = first.ledger; leases = first.leases; names = names_in b n }

  joined : whole ≡ lent_both first said
  joined = lent_joined (length (leases_in b n)) (ledger_in b n) (leases_in b n) (names_in b n) c h

  -- ---- the verdict's octets are the verdict: its offset and its count are the call's, which are small
  abbrev before : Lent
  before = record { ledger = ledger_in b n; leases = leases_in b n; names = names_in b n }

  same_told : (whole.offset ≡ first.ruling.offset) × (whole.count ≡ first.ruling.count)
  unfolding VerdictTold SameCall SameJudge
  same_told =
      let long = file_long (take n b) (accepted_parts b n e).2 in
      let p = same_call before c long in
      let q = verdict_told (lent_book before) c h in
      let r = same_judge before c long in (
        ap (λ (a : Answer). a.offset) p ∙ q.1.0 ∙ sym (ap (λ (j : Judgement). j.ruling.offset) r),
        ap (λ (a : Answer). a.count) p ∙ q.1.1.0 ∙ sym (ap (λ (j : Judgement). j.ruling.count) r),
      )

  holds : Octets c.datagram → Holds first.ruling
  unfolding LentDemand1
  holds o =
      let w = lent_within (ledger_in b n) (leases_in b n) (names_in b n) c.client c.time c.datagram in
      let d = lent_demand1 before c in
      record {
        offset = omega (arith, same_told.0, d.inside.1);
        count = omega (arith, same_told.1, d.few_read);
        tenant = let q = w.tenant in omega arith;
        language = w.language o;
      }

  -- ---- the file that the first half leaves is its book
  first_is : first_half b n c ≡ filed b n (judged first)
  unfolding judge_file
  first_is = filed_at b n (λ g ls. judged (judge_lent g ls (names_in b n) c.client c.time c.datagram)) e

  whole_is : serve_file b n c ≡ filed b n (called whole)
  unfolding serve_file
  whole_is = filed_at b n (λ g ls. called (serve_lent g ls (names_in b n) c)) e

  file : List ℕ
  file = take (first_half b n c).length (first_half b n c).buffer

  left : Numbered b n (first_half b n c) (judged first)
  unfolding JudgedNumbers
  left = (judged_numbers b n c e).numbered

  file_is : file ≡ take (length_written (written_lent first.ledger first.leases (names_in b n) (length b))) (room_lent first.ledger first.leases (names_in b n) b)
  unfolding file
  file_is = ap₂ (λ (k : ℕ) (l : List ℕ). take k l) left.long (ap (λ (x : Filed). x.buffer) first_is)

  module _ (o : Octets (names_in b n)) (v : Typed first.ledger.state (table_from first.leases) first.ledger.memory) where
    back : (read_lent file zero_ledger (replicate 128 zero_lease) ≡ record { refusal = 0; ledger = first.ledger; leases = first.leases }) × (names_of file ≡ names_in b n)
    unfolding LentWriteRead
    back =
        let p = lent_write_read mine b zero_ledger (replicate 128 zero_lease) v o refl left.written in
        (ap (λ (f : List ℕ). read_lent f zero_ledger (replicate 128 zero_lease)) file_is ∙ p.0, ap names_of file_is ∙ p.1)

    again : (refusal_number (read_file file) ≡ 0) × ((book_in (read_file file)).state ≡ first.ledger.state)
    again =
        let r = read_whole file zero_ledger (replicate 128 zero_lease) (ap (λ (x : LentReading). x.refusal) back.0) in
        (r.0, sym (ap (λ (x : LentReading). x.ledger.state) r.1) ∙ ap (λ (x : LentReading). x.ledger.state) back.0)

    -- ---- the second half on them
    second : TypedRuling first.ruling → Octets c.datagram → reply_file file (verdict_octets first.ruling) c.room ≡ said
    unfolding reply_file ReadBack
    second t d =
        sym (pick_not_lt _ _ _ c.room least_room h (pick_eq _ _ _ (refusal_number (read_file file)) 0 again.0 refl))
        ∙ ap (λ (r : Ruling). write_of r (book_in (read_file file)).state (names_of file) c.room) (verdict_back first.ruling t (holds d))
        ∙ ap (λ (s : State). write_of first.ruling s (names_of file) c.room) again.1
        ∙ ap (λ (l : List ℕ). write_of first.ruling first.ledger.state l c.room) back.1

    told_as : said ≡ filed_said (serve_file b n c)
    unfolding ServedNumbers
    told_as =
        let p : said.outcome ≡ (serve_file b n c).number = sym (ap (λ (a : LentAnswer). a.outcome) joined) ∙ sym (served_numbers b n c e).numbered.number in
        let q : said.offset ≡ (serve_file b n c).offset = sym (ap (λ (a : LentAnswer). a.offset) joined) ∙ sym (ap (λ (x : Filed). x.offset) whole_is) in
        let u : said.reply ≡ (serve_file b n c).out = sym (ap (λ (a : LentAnswer). a.reply) joined) ∙ sym (ap (λ (x : Filed). x.out) whole_is) in
        let k : said.count ≡ (serve_file b n c).count = sym (ap (λ (a : LentAnswer). a.count) joined) ∙ sym (ap (λ (x : Filed). x.count) whole_is) in
        λ i. record { outcome = p i; offset = q i; count = k i; reply = u i }

pub file_halves : FileHalves
unfolding FileHalves file
file_halves b n c o d e h t v = record {
  told =
      ap (λ (l : List ℕ). reply_file (take (first_half b n c).length (first_half b n c).buffer) l c.room) (ap (λ (x : Filed). x.out) (first_is b n c e h))
      ∙ second b n c e h o v t d ∙ told_as b n c e h o v;
  buffer =
      ap (λ (x : Filed). x.buffer) (first_is b n c e h)
      ∙ sym (ap (λ (a : LentAnswer). room_lent a.ledger a.leases (names_in b n) b) (joined b n c e h)) ∙ sym (ap (λ (x : Filed). x.buffer) (whole_is b n c e h));
  long =
      ap (λ (x : Filed). x.length) (first_is b n c e h)
      ∙ ap (λ (a : LentAnswer). (filed b n (called a)).length) (sym (joined b n c e h)) ∙ sym (ap (λ (x : Filed). x.length) (whole_is b n c e h));
}
