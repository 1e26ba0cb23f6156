-- Laws: of the first half on lent records: what the function on 128 records by value gives is what the definition on a lent slice of any length yields.
use Rattle.std.specs.Prelude.{◌≡◌, refl, Bool, false, List, ℕ, max, length}
use Rattle.std.proofs.Common.{sym, ap₂, ◌∙◌, arith}
use Rattle.std.proofs.Math.Path.{ap}
use Rattle.lists.specs.Pick.{pick}
use Rattle.state.specs.declared.Lease.{Lease}
use Rattle.state.specs.declared.Ledger.{Ledger}
use Rattle.state.specs.declared.Memory.{Memory}
use Rattle.state.specs.declared.State.{State}
use Rattle.state.specs.Book.{Book, advanced, raised, with_clock}
use Rattle.message.specs.laws.Placed.{pick_cases}
use Rattle.releases.specs.Whole.{book_b}
use Rattle.server.specs.declared.Ruling.{Ruling}
use Rattle.server.specs.Halves.{Judgement, discard_ruling, judge_clock, judge_of, judge_reading, judge_server}
use Rattle.record_verdict.specs.declared.JudgedRecords.{JudgedRecords}
use Rattle.records.specs.Records.{first128, covered}
use Rattle.records.specs.Lent.{book_from, is128}
use Rattle.record_verdict.specs.Verdict.{LentJudgement, lent_judgement, judge_with, judge_lent, JudgesRecords, JudgesLent}
use Rattle.records.specs.laws.Lent.{changed_lent, told_part}

-- ---- the clock
-- of a state, only the clock changes, and it is raised
unfoldable pub Raises : State → State → Type 0
Raises s s' = s' ≡ raised s s'.clock

pub raised_self : (s : State) → Raises s s
unfolding Raises raised
raised_self s = ap (with_clock s) (let e : s.clock ≡ max s.clock s.clock = omega arith in e)

pub raised_once : (s : State) (time : ℕ) → Raises s (raised s time)
unfolding Raises raised
raised_once s time = ap (with_clock s) (let e : max s.clock time ≡ max s.clock (max s.clock time) = omega arith in e)

pub judged_clock : (b : Book) (client time : ℕ) (d : List ℕ) → (judge_of b client time d).book.state ≡ raised b.state (judge_of b client time d).book.state.clock
unfolding judge_of judge_clock judge_reading judge_server Raises advanced
judged_clock b client time d =
    pick_cases Keeps (book_b b) _ _ (λ _. pick_cases Keeps _ _ _ (λ _. pick_cases Keeps _ _ _ (λ _. pick_cases Keeps _ _ _ (λ _. now) (λ _. now)) (λ _. now)) (λ _. now)) (λ _. raised_self b.state)
  where
    Keeps : Judgement → Type 0
    Keeps j = Raises b.state j.book.state

    now : Raises b.state (raised b.state time)
    now = raised_once b.state time

-- the ledger with the clock and the memory that came back
pub ledger_is : (g : Ledger) {s : State} {m m' : Memory} {k : ℕ} {g' : Ledger} → g' ≡ record { state = raised g.state k; memory = m } → k ≡ s.clock → m ≡ m' → Raises g.state s → g' ≡ record { state = s; memory = m' }
unfolding Raises
ledger_is g p e f v = p ∙ ap₂ {C = Ledger} (λ (s : State) (m : Memory). record { state = s; memory = m }) (ap (raised g.state) e ∙ sym v) f

-- of another number of records nothing changes
module _ (n : ℕ) (g : Ledger) (ls : List Lease) (names : List ℕ) where
  pub lent_clock : (client time : ℕ) (d : List ℕ) → (judge_with n g ls names client time d).ledger.state ≡ raised g.state (judge_with n g ls names client time d).ledger.state.clock
  unfolding judge_with Raises
  lent_clock client time d = pick_cases (λ (a : LentJudgement). Raises g.state a.ledger.state) (is128 n) _ _ (λ _. judged_clock (book_from g ls names) client time d) (λ _. raised_self g.state)

-- ---- the first half
module _ (g : Ledger) (ls : List Lease) (names : List ℕ) where
  -- the first half, on a slice of any length
  module _ (client time : ℕ) (d : List ℕ) where
    abbrev unjudged : List Lease → LentJudgement
    unjudged m = record { ruling = discard_ruling 1 0; ledger = g; leases = m }

    off_judged : (k : ℕ) (m : List Lease) → is128 k ≡ false → judge_with k g m names client time d ≡ unjudged m
    unfolding judge_with pick
    off_judged k m o = ap (λ (t : Bool). pick t (lent_judgement (judge_of (book_from g m names) client time d)) (unjudged m)) o

    judged_part : {A : Type 0} (f : LentJudgement → A) → ((m m' : List Lease) → f (unjudged m) ≡ f (unjudged m'))
        → {all : List Lease} {r : A} → all ≡ first128 ls → r ≡ f (judge_with (length ls) g all names client time d) → r ≡ f (judge_lent g ls names client time d)
    judged_part f same = told_part (λ k m. judge_with k g m names client time d) unjudged off_judged f same ls

    pub judged_lent : {all zs : List Lease} {g' : Ledger} {r : JudgedRecords} {o : Ruling}
        → all ≡ first128 ls → JudgesRecords (judge_with (length ls) g all names client time d) r → g' ≡ record { state = raised g.state r.clock; memory = r.memory }
        → zs ≡ covered ls r.records.leases → o ≡ r.ruling → JudgesLent (judge_lent g ls names client time d) g' zs o
    unfolding Raises
    judged_lent {all} a v p q e = record {
      ruling = judged_part (λ x. x.ruling) (λ m m'. refl) a (e ∙ v.ruling);
      ledger = judged_part (λ x. x.ledger) (λ m m'. refl) a (ledger_is g p v.clock v.memory (lent_clock (length ls) g all names client time d));
      leases = changed_lent (λ k m. (judge_with k g m names client time d).leases) (λ k m o. ap (λ (x : LentJudgement). x.leases) (off_judged k m o)) ls a v.leases v.long q;
    }
