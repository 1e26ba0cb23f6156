-- Laws: the call and the writer by value on a sound book, and that a call leaves the book sound; so each call of a list has one, and the writer after it.
use Prim.Native.Nat.{ℕ}
use mathlib.Core.Bool.{true}
use mathlib.Core.Path.{◌≡◌, sym, ap, ◌∙◌, subst}
use mathlib.Core.List.{List}
use native.Mathlib.Omega.{arith}
use lib.ListN.{length}
use Rattle.reply.specs.Reply.{least_room}
use Rattle.releases.specs.Whole.{book_b}
use Rattle.state.specs.declared.Lease.{Lease}
use Rattle.state.specs.declared.LeaseTable.{LeaseTable}
use Rattle.state.specs.declared.Ledger.{Ledger}
use Rattle.state.specs.declared.State.{State}
use Rattle.state.specs.Book.{raised}
use Rattle.server.specs.Serve.{Call}
use Rattle.std.specs.Prelude.{Result}
use Rattle.state_file.specs.declared.Refusal.{Refusal}
use Rattle.state_file.specs.StateFile.{room_after, written_of}
use Rattle.record_call.specs.declared.ServedRecords.{ServedRecords}
use Rattle.records.specs.Records.{table_from}
use Rattle.records.specs.Lent.{room_lent, written_lent}
use Rattle.record_verdict.specs.declared.JudgedRecords.{JudgedRecords}
use Rattle.record_verdict.specs.Verdict.{judge_lent, JudgesRecords}
use Rattle.record_verdict.specs.laws.Lent.{Raises, ledger_is, lent_clock}
use Rattle.record_call.specs.Call.{LentAnswer, serve_lent, ServesRecords}
use Rattle.record_call.specs.laws.Call.{lent_joined}
use Rattle.record_call.specs.laws.Lent.{served_ledger}
use Rattle.records.specs.laws.Steps.{room_in, write_in}
use Rattle.owned.specs.declared.Owned.{Owned}
use Rattle.owned.specs.declared.OwnedCall.{OwnedCall}
use Rattle.owned.specs.declared.OwnedJudged.{OwnedJudged}
use Rattle.owned.specs.Owned.{JudgesOwned, ServesOwned}
use Rattle.lent_guarantee.specs.Statement.{Lent, SoundLent}
use Rattle.lent_guarantee.proofs.Guaranteed.{next, next_sound}
use Rattle.call_list.specs.Promises.{Answers, OwnedSound}

-- what comes back of the ledger is the call's
pub owned_served : (g : Ledger) (ls : List Lease) (names : List ℕ) (c : Call) {before after : List ℕ} {r : ServedRecords} {s : State}
    → ServesRecords (serve_lent g ls names c) before after r → s ≡ raised g.state r.clock
    → ServesOwned (serve_lent g ls names c) before after (record { outcome = r.outcome; owned = record { ledger = record { state = s; memory = r.memory }; records = r.records } })
owned_served g ls names c v p = record { tells = v.tells; ledger = served_ledger g ls names c v p; leases = v.leases }

-- and of the first half
pub owned_judged : (g : Ledger) (ls : List Lease) (names : List ℕ) (client time : ℕ) (d : List ℕ) {r : JudgedRecords} {s : State}
    → JudgesRecords (judge_lent g ls names client time d) r → s ≡ raised g.state r.clock
    → JudgesOwned (judge_lent g ls names client time d) (record { ruling = r.ruling; owned = record { ledger = record { state = s; memory = r.memory }; records = r.records } })
unfolding Raises
owned_judged g ls names client time d {r = r} v p = record {
  ruling = v.ruling;
  ledger = ledger_is g (ap {B = Ledger} (λ (s : State). record { state = s; memory = r.memory }) p) v.clock v.memory (lent_clock (length ls) g ls names client time d);
  leases = v.leases;
}

-- ---- sound from call to call
unfoldable pub lent : Ledger → List Lease → List ℕ → Lent
lent g ls names = record { ledger = g; leases = ls; names = names }

pub step : (g : Ledger) (ls : List Lease) (names : List ℕ) (c : Call) → SoundLent (lent g ls names) → SoundLent (lent (serve_lent g ls names c).ledger (serve_lent g ls names c).leases names)
unfolding next lent
step g ls names c v = next_sound (lent g ls names) c v

-- the first half leaves what the call does in room for a reply
abbrev enough : ℕ → ℕ → List ℕ → Call
enough client time d = record { datagram = d; client = client; time = time; room = least_room }

pub judge_step : (g : Ledger) (ls : List Lease) (names : List ℕ) (client time : ℕ) (d : List ℕ) → SoundLent (lent g ls names)
    → SoundLent (lent (judge_lent g ls names client time d).ledger (judge_lent g ls names client time d).leases names)
judge_step g ls names client time d v =
    subst (λ (a : LentAnswer). SoundLent (lent a.ledger a.leases names)) (lent_joined (length ls) g ls names (enough client time d) (omega arith)) (step g ls names (enough client time d) v)

as_left : (names : List ℕ) {o : Owned} {g : Ledger} {ls : List Lease} → o.ledger ≡ g → o.records.leases ≡ ls → SoundLent (lent g ls names) → OwnedSound o names
unfolding lent
as_left names {o} {g} p q v =
    subst (λ (x : Ledger). SoundLent (record { ledger = x; leases = o.records.leases; names = names })) (sym p)
    (subst (λ (x : List Lease). SoundLent (record { ledger = g; leases = x; names = names })) (sym q) v)

module _ (names : List ℕ) {o : Owned} (v : OwnedSound o names) where
  starts : SoundLent (lent o.ledger o.records.leases names)
  unfolding lent
  starts = v

  pub served_sound : (c : Call) {before after : List ℕ} {r : OwnedCall} → ServesOwned (serve_lent o.ledger o.records.leases names c) before after r → OwnedSound r.owned names
  served_sound c a = as_left names a.ledger a.leases (step o.ledger o.records.leases names c starts)

  pub still_sound : (c : Call) {before after : List ℕ} {to : ℕ} {r : OwnedCall} → Answers (serve_lent o.ledger o.records.leases names c) before to after r → OwnedSound r.owned names
  still_sound c a = as_left names a.ledger a.leases (step o.ledger o.records.leases names c starts)

  pub judged_sound : (client time : ℕ) (d : List ℕ) {r : OwnedJudged} → JudgesOwned (judge_lent o.ledger o.records.leases names client time d) r → OwnedSound r.owned names
  judged_sound client time d a = as_left names a.ledger a.leases (judge_step o.ledger o.records.leases names client time d starts)

  -- ---- the writer
  module _ {t : LeaseTable} (e : t ≡ table_from o.records.leases) where
    pub table_sound : book_b (record { state = o.ledger.state; table = t; memory = o.ledger.memory; names = names }) ≡ true
    table_sound = ap (λ (x : LeaseTable). book_b (record { state = o.ledger.state; table = x; memory = o.ledger.memory; names = names })) e ∙ v.sound

    pub sound_answer : (k : ℕ) {w : Result ℕ Refusal} → w ≡ written_of (record { state = o.ledger.state; table = t; memory = o.ledger.memory; names = names }) k → w ≡ written_lent o.ledger o.records.leases names k
    sound_answer k q = write_in (length o.records.leases) o.ledger o.records.leases names k v.whole e q

    pub sound_room : (room : List ℕ) {after : List ℕ} → after ≡ room_after (record { state = o.ledger.state; table = t; memory = o.ledger.memory; names = names }) room
        → after ≡ room_lent o.ledger o.records.leases names room
    sound_room room q = room_in (length o.records.leases) o.ledger o.records.leases names room v.whole e q
