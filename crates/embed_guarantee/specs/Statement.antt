-- Definitions: what a host need not fear: once a call or a list of calls is served, the file is written. The writer's 22 and 23 cannot occur then. And the two halves
-- of a call are that call.
use Rattle.std.specs.Prelude.{ℕ, ◌≤◌, ◌≡◌, true, List, [], ◌∷◌, length, take}
use Rattle.lists.specs.Filter.{is_in}
use Rattle.reply.specs.Reply.{least_room}
use Rattle.format.specs.Format.{Octets}
use Rattle.server.specs.Serve.{Call}
use Rattle.verdict_octets.specs.Octets.{TypedRuling}
use Rattle.state_file.specs.Typed.{Typed}
use Rattle.state_file.specs.StateFile.{length_written, refusal_number}
use Rattle.records.specs.Records.{table_from}
use Rattle.records.specs.Lent.{written_lent}
use Rattle.record_verdict.specs.Verdict.{judge_lent, LentJudgement}
use Rattle.record_call.specs.Call.{serve_lent}
use Rattle.embed.specs.Embed.{called, Filed, ledger_in, leases_in, names_in, refusal_in, replay_file, serve_file}
use Rattle.call_list.specs.CallList.{replayed, Worked}
use Rattle.embed.specs.Halves.{judged, judge_file, reply_file}
use Rattle.embed.specs.Promises.{filed_said}

-- after some work the writer refuses nothing: the number is the work's, and the length is the new file's
pub record Numbered (b : List ℕ) (n : ℕ) (a : Filed) (r : Worked) : Type 0 where
  pub number : a.number ≡ r.number
  pub written : refusal_number (written_lent r.ledger r.leases (names_in b n) (length b)) ≡ 0
  pub long : a.length ≡ length_written (written_lent r.ledger r.leases (names_in b n) (length b))

-- one call: the number is its outcome, so 0 to 8
pub record ServedNumber (b : List ℕ) (n : ℕ) (c : Call) (r : Worked) : Type 0 where
  pub numbered : Numbered b n (serve_file b n c) r
  pub few : (serve_file b n c).number ≤ 8

unfoldable pub ServedNumbers : Type 0
ServedNumbers = (b : List ℕ) (n : ℕ) (c : Call) → refusal_in b n ≡ 0 → ServedNumber b n c (called (serve_lent (ledger_in b n) (leases_in b n) (names_in b n) c))

-- a list of calls: the number is why it stopped, 24 or 27, or 0
pub record ReplayedNumber (b : List ℕ) (n : ℕ) (cs : List ℕ) (room : ℕ) (r : Worked) : Type 0 where
  pub numbered : Numbered b n (replay_file b n cs room) r
  pub few : is_in (replay_file b n cs room).number (0 ∷ 24 ∷ 27 ∷ []) ≡ true

unfoldable pub ReplayedNumbers : Type 0
ReplayedNumbers = (b : List ℕ) (n : ℕ) (cs : List ℕ) (room : ℕ) → refusal_in b n ≡ 0 → ReplayedNumber b n cs room (replayed (length cs) (ledger_in b n) (leases_in b n) (names_in b n) cs room)

-- ---- the call in two halves (document 02, W-208)
-- the first on the file's book
abbrev pub judged_in : List ℕ → ℕ → Call → LentJudgement
judged_in b n c = judge_lent (ledger_in b n) (leases_in b n) (names_in b n) c.client c.time c.datagram

abbrev pub first_half : List ℕ → ℕ → Call → Filed
first_half b n c = judge_file b n c.client c.time c.datagram

-- its number is the verdict's outcome, so 0 to 8; "The first never gives discard 2"
pub record JudgedNumber (b : List ℕ) (n : ℕ) (c : Call) : Type 0 where
  pub numbered : Numbered b n (first_half b n c) (judged (judged_in b n c))
  pub few : (first_half b n c).number ≤ 8
  pub never_short : (first_half b n c).number ≡ 2 → ⊥

unfoldable pub JudgedNumbers : Type 0
JudgedNumbers = (b : List ℕ) (n : ℕ) (c : Call) → refusal_in b n ≡ 0 → JudgedNumber b n c

-- the second, on the file and the verdict that the first left, tells what the call tells; and the first leaves the call's file
pub record InHalves (b : List ℕ) (n : ℕ) (c : Call) : Type 0 where
  pub told : reply_file (take (first_half b n c).length (first_half b n c).buffer) (first_half b n c).out c.room ≡ filed_said (serve_file b n c)
  pub buffer : (first_half b n c).buffer ≡ (serve_file b n c).buffer
  pub long : (first_half b n c).length ≡ (serve_file b n c).length

-- in room for a reply, on any buffer whose file is not refused. `Octets`, `TypedRuling` and `Typed` are what the types of names, datagram, verdict and book say, as of
-- all that code has
unfoldable pub FileHalves : Type 0
FileHalves =
    (b : List ℕ) (n : ℕ) (c : Call) → Octets (names_in b n) → Octets c.datagram → refusal_in b n ≡ 0 → least_room ≤ c.room → TypedRuling (judged_in b n c).ruling
    → Typed (judged_in b n c).ledger.state (table_from (judged_in b n c).leases) (judged_in b n c).ledger.memory → InHalves b n c
