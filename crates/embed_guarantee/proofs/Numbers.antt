-- Laws: after a served call, its first half, or a list of calls, the writer refuses nothing: the ledger and records stay sound, and the buffer has room for the
-- largest file. And the two halves are the call.
use Prim.Native.Nat.{ℕ, zero, suc, ◌-◌, ◌≤◌}
use mathlib.Core.Path.{◌≡◌, refl, sym, ap, ◌∙◌, subst}
use mathlib.Core.Bool.{Bool, true, false}
use mathlib.Core.List.{List, [], ◌∷◌}
use lib.Dec.{eqb, ltb}
use lib.ListN.{drop, length}
use Rattle.lists.specs.Pick.{pick}
use Rattle.lists.specs.Filter.{is_in}
use native.Mathlib.Omega.{arith}
use Rattle.state.specs.declared.Lease.{Lease}
use Rattle.state.specs.declared.Ledger.{Ledger}
use Rattle.server.specs.Serve.{Call}
use Rattle.std.specs.Prelude.{Result, Ok, Err}
use Rattle.state_file.specs.declared.Refusal.{Refusal}
use Rattle.state_file.specs.StateFile.{length_written, refusal_number}
use Rattle.records.specs.laws.Files.{refused_not_0}
use Rattle.records.specs.Lent.{written_lent}
use Rattle.record_verdict.specs.Verdict.{judge_lent, LentJudgement}
use Rattle.record_call.specs.Call.{serve_lent}
use Rattle.lent_guarantee.specs.Statement.{LentDemand1, LentNeverShort, SoundLent}
use Rattle.lent_guarantee.proofs.Guaranteed.{lent_demand1}
use Rattle.lent_guarantee.proofs.Halves.{lent_never_short}
use Rattle.lent_guarantee.proofs.Written.{sound_written}
use Rattle.embed.specs.Embed.{called, filed, Filed, kept, ledger_in, leases_in, length_after, names_in, number_after, on_file, refusal_in, replay_file, serve_file}
use Rattle.call_list.specs.CallList.{answer_before, answer_octets, answer_room, call_in, cut_off, record_size, replayed, stop_in, stopped, Worked}
use Rattle.embed.proofs.Files.{accepted_parts}
use Rattle.embed.proofs.Judged.{lent_within}
use Rattle.embed.proofs.Sound.{book_sound}
use Rattle.call_list.proofs.Sound.{judge_step, lent, step}
use Rattle.embed.specs.Halves.{judged, judge_file}
use Rattle.embed_guarantee.specs.Statement.{first_half, JudgedNumber, judged_in, JudgedNumbers, Numbered, ReplayedNumbers, ServedNumbers}

-- ---- what is told where the writer refuses nothing
told : (w : Result ℕ Refusal) (k : ℕ) → refusal_number w ≡ 0 → number_after w k ≡ k
unfolding refusal_number
told (Ok m) k e = refl
told (Err i) k e = absurd (refused_not_0 i e)

told_length : (w : Result ℕ Refusal) (n : ℕ) → refusal_number w ≡ 0 → length_after w n ≡ length_written w
unfolding refusal_number length_written
told_length (Ok m) n e = refl
told_length (Err i) n e = absurd (refused_not_0 i e)

-- ---- some work that keeps the ledger and the records sound
module _ (b : List ℕ) (n : ℕ) (work : Ledger → List Lease → Worked) (e : refusal_in b n ≡ 0) where
  abbrev done : Worked
  done = work (ledger_in b n) (leases_in b n)

  pub filed_at : on_file b n work ≡ filed b n done
  unfolding on_file pick
  filed_at = ap (λ (k : ℕ). pick (eqb k 0) (filed b n done) (kept b n)) e

  numbered : SoundLent (lent done.ledger done.leases (names_in b n)) → Numbered b n (on_file b n work) done
  unfolding lent
  numbered v = record {
    number = ap (λ (x : Filed). x.number) filed_at ∙ told (written_lent done.ledger done.leases (names_in b n) (length b)) done.number written;
    written = written;
    long = ap (λ (x : Filed). x.length) filed_at ∙ told_length (written_lent done.ledger done.leases (names_in b n) (length b)) n written;
  }
    where
      written : refusal_number (written_lent done.ledger done.leases (names_in b n) (length b)) ≡ 0
      written = sound_written (lent done.ledger done.leases (names_in b n)) v (length b) (let h = (accepted_parts b n e).0 in omega arith)

-- ---- one call
pub served_numbers : ServedNumbers
unfolding ServedNumbers LentDemand1 serve_file lent
served_numbers b n c e =
    let w : Numbered b n (serve_file b n c) (called (serve_lent (ledger_in b n) (leases_in b n) (names_in b n) c)) = numbered b n (λ g ls. called (serve_lent g ls (names_in b n) c)) e (step (ledger_in b n) (leases_in b n) (names_in b n) c (book_sound b n e)) in
    record { numbered = w; few = subst (λ (k : ℕ). k ≤ 8) (sym w.number) (lent_demand1 (lent (ledger_in b n) (leases_in b n) (names_in b n)) c).outcome }

-- ---- a list of calls: its ledger and records stay sound, and it stops for one of two reasons
record Stopped (names : List ℕ) (r : Worked) : Type 0 where
  sound : SoundLent (lent r.ledger r.leases names)
  few : is_in r.number (0 ∷ 24 ∷ 27 ∷ []) ≡ true

stop_few : (cs : List ℕ) (room : ℕ) → is_in (stop_in cs room) (0 ∷ 24 ∷ 27 ∷ []) ≡ true
unfolding stop_in is_in pick
stop_few cs room = go (cut_off cs) (ltb room answer_room)
  where
    go : (p q : Bool) → is_in (pick p 24 (pick q 27 0)) (0 ∷ 24 ∷ 27 ∷ []) ≡ true
    go true q = refl
    go false true = refl
    go false false = refl

replays : (k : ℕ) (g : Ledger) (ls : List Lease) (names cs : List ℕ) (room : ℕ) → SoundLent (lent g ls names) → Stopped names (replayed k g ls names cs room)
unfolding replayed is_in pick
replays zero g ls names cs room v = record { sound = v; few = refl }
replays (suc k) g ls names cs room v =
    go (eqb (length cs) 0) (eqb (stop_in cs room) 0)
    (replays k (serve_lent g ls names (call_in cs)).ledger (serve_lent g ls names (call_in cs)).leases names (drop (record_size cs) cs) _ (step g ls names (call_in cs) v))
  where
    go : (p q : Bool) → Stopped names (replayed k (serve_lent g ls names (call_in cs)).ledger (serve_lent g ls names (call_in cs)).leases names (drop (record_size cs) cs) (room - length (answer_octets (serve_lent g ls names (call_in cs)))))
        → Stopped names (pick p (stopped 0 g ls) (pick q (answer_before cs (serve_lent g ls names (call_in cs)) (replayed k (serve_lent g ls names (call_in cs)).ledger (serve_lent g ls names (call_in cs)).leases names (drop (record_size cs) cs) (room - length (answer_octets (serve_lent g ls names (call_in cs)))))) (stopped (stop_in cs room) g ls)))
    go true q r = record { sound = v; few = refl }
    go false true r = record { sound = r.sound; few = r.few }
    go false false r = record { sound = v; few = stop_few cs room }

pub replayed_numbers : ReplayedNumbers
unfolding ReplayedNumbers replay_file
replayed_numbers b n cs room e =
    let ends = replays (length cs) (ledger_in b n) (leases_in b n) (names_in b n) cs room (book_sound b n e) in
    let w : Numbered b n (replay_file b n cs room) (replayed (length cs) (ledger_in b n) (leases_in b n) (names_in b n) cs room) = numbered b n (λ g ls. replayed (length cs) g ls (names_in b n) cs room) e ends.sound in
    record { numbered = w; few = ap (λ (k : ℕ). is_in k (0 ∷ 24 ∷ 27 ∷ [])) w.number ∙ ends.few }

-- ---- the call in two halves
module _ (b : List ℕ) (n : ℕ) (c : Call) (e : refusal_in b n ≡ 0) where
  abbrev first : LentJudgement
  first = judged_in b n c

  judged_sound : SoundLent (lent first.ledger first.leases (names_in b n))
  judged_sound = judge_step (ledger_in b n) (leases_in b n) (names_in b n) c.client c.time c.datagram (book_sound b n e)

  judged_number : JudgedNumber b n c
  unfolding judge_file LentNeverShort lent
  judged_number = record {
    numbered = w;
    few = subst (λ (k : ℕ). k ≤ 8) (sym w.number) (lent_within (ledger_in b n) (leases_in b n) (names_in b n) c.client c.time c.datagram).few;
    never_short = λ z. lent_never_short (lent (ledger_in b n) (leases_in b n) (names_in b n)) c (sym w.number ∙ z);
  }
    where
      w : Numbered b n (first_half b n c) (judged first)
      w = numbered b n (λ g ls. judged (judge_lent g ls (names_in b n) c.client c.time c.datagram)) e judged_sound

pub judged_numbers : JudgedNumbers
unfolding JudgedNumbers
judged_numbers b n c e = judged_number b n c e
