-- Laws: of the call on lent records: what the function on 128 records by value gives is what the definition on a lent slice of any length yields.
use Rattle.std.specs.Prelude.{◌≡◌, refl, Bool, false, List, [], ℕ, ltb, length}
use Rattle.std.proofs.Common.{sym, subst}
use Rattle.std.proofs.Math.Path.{ap}
use Rattle.reply.specs.Reply.{least_room}
use Rattle.lists.specs.Pick.{pick}
use Rattle.state.specs.declared.Lease.{Lease}
use Rattle.state.specs.declared.Ledger.{Ledger}
use Rattle.state.specs.declared.State.{State}
use Rattle.state.specs.Book.{Book, raised}
use Rattle.message.specs.laws.Placed.{pick_cases}
use Rattle.releases.specs.Whole.{book_b}
use Rattle.server.specs.declared.Outcome.{Outcome}
use Rattle.server.specs.Serve.{Answer, Call, Tells, serve_of}
use Rattle.server.specs.Statement.{ServeHalves}
use Rattle.server.proofs.Halves.{serve_halves}
use Rattle.server.specs.laws.Told.{tells_as}
use Rattle.record_call.specs.declared.ServedRecords.{ServedRecords}
use Rattle.records.specs.Records.{first128, covered}
use Rattle.records.specs.Lent.{book_from, is128}
use Rattle.record_call.specs.Call.{lent_answer, lent_said, LentAnswer, serve_with, serve_lent, ServesRecords, ServesLent}
use Rattle.records.specs.laws.Lent.{changed_lent, told_part}
use Rattle.record_verdict.specs.laws.Lent.{Raises, judged_clock, ledger_is, raised_self}

-- ---- the clock
clock_only : (b : Book) (c : Call) → Raises b.state (serve_of b c).book.state
unfolding ServeHalves Raises
clock_only b c =
    subst Keeps (sym (serve_halves b c))
    (pick_cases Keeps (book_b b) _ _ (λ _. pick_cases Keeps (ltb c.room least_room) _ _ (λ _. raised_self b.state) (λ _. judged_clock b c.client c.time c.datagram)) (λ _. raised_self b.state))
  where
    Keeps : Answer → Type 0
    Keeps a = Raises b.state a.book.state

-- of another number of records nothing changes
module _ (n : ℕ) (g : Ledger) (ls : List Lease) (names : List ℕ) where
  served_clock : (c : Call) → Raises g.state (serve_with n g ls names c).ledger.state
  unfolding serve_with
  served_clock c = pick_cases (λ (a : LentAnswer). Raises g.state a.ledger.state) (is128 n) _ _ (λ _. clock_only (book_from g ls names) c) (λ _. raised_self g.state)

-- ---- the call
module _ (g : Ledger) (ls : List Lease) (names : List ℕ) where
  -- the ledger after the call by value, on its own records
  pub served_ledger : (c : Call) {before after : List ℕ} {r : ServedRecords} {s : State} → ServesRecords (serve_lent g ls names c) before after r → s ≡ raised g.state r.clock
      → record { state = s; memory = r.memory } ≡ (serve_lent g ls names c).ledger
  served_ledger c {r = r} v p = ledger_is g (ap {B = Ledger} (λ (s : State). record { state = s; memory = r.memory }) p) v.clock v.memory (served_clock (length ls) g ls names c)

  module _ (c : Call) where
    abbrev unserved : List Lease → LentAnswer
    unserved m = record { outcome = 1; offset = 0; count = 0; reply = []; ledger = g; leases = m }

    off : (k : ℕ) (m : List Lease) → is128 k ≡ false → serve_with k g m names c ≡ unserved m
    unfolding serve_with pick
    off k m o = ap (λ (t : Bool). pick t (lent_answer (serve_of (book_from g m names) c)) (unserved m)) o

    part : {A : Type 0} (f : LentAnswer → A) → ((m m' : List Lease) → f (unserved m) ≡ f (unserved m'))
        → {all : List Lease} {r : A} → all ≡ first128 ls → r ≡ f (serve_with (length ls) g all names c) → r ≡ f (serve_lent g ls names c)
    part f same = told_part (λ k m. serve_with k g m names c) unserved off f same ls

    pub served_lent : {all zs : List Lease} {g' : Ledger} {before after : List ℕ} {r : ServedRecords} {o : Outcome}
        → all ≡ first128 ls → ServesRecords (serve_with (length ls) g all names c) before after r → g' ≡ record { state = raised g.state r.clock; memory = r.memory }
        → zs ≡ covered ls r.records.leases → o ≡ r.outcome → ServesLent (serve_lent g ls names c) g' zs before after o
    served_lent {all} {before = before} {after} a v p q e = record {
      tells = subst (Tells (lent_said (serve_lent g ls names c)) before after) (sym e) (tells_as (part lent_said (λ m m'. refl) a refl) v.tells);
      ledger = part (λ x. x.ledger) (λ m m'. refl) a (ledger_is g p v.clock v.memory (served_clock (length ls) g all names c));
      leases = changed_lent (λ k m. (serve_with k g m names c).leases) (λ k m o. ap (λ (x : LentAnswer). x.leases) (off k m o)) ls a v.leases v.long q;
    }
