-- Laws: what the first half's verdict is bounded by: the outcome, the tenant, the language's length.
use Prim.Native.Nat.{ℕ, ◌+◌, ◌≤◌, ◌<◌}
use mathlib.Core.List.{List}
use Rattle.std.specs.Prelude.{Option, Some, None}
use native.Mathlib.Omega.{arith}
use lib.Dec.{eqb, ltb}
use lib.ListN.{length}
use borrow.Author.Tests.{eqb-false, ltb-true}
use Rattle.octets.specs.Octets.{at16}
use Rattle.format.specs.Format.{Octets}
use Rattle.message.specs.declared.Fields.{Fields}
use Rattle.message.specs.laws.Placed.{pick_cases}
use Rattle.message.specs.Read.{read_of}
use Rattle.message.specs.Values.{fields_of, find_of, language_of}
use Rattle.state.specs.declared.Lease.{Lease}
use Rattle.state.specs.declared.Ledger.{Ledger}
use Rattle.state.specs.Book.{advanced, Book, releases_at, remembered}
use Rattle.soundness.specs.Sound.{tenants_in}
use Rattle.releases.specs.Whole.{book_b}
use Rattle.decision.specs.Verdicts.{discard_with}
use Rattle.server.specs.declared.Ruling.{Ruling}
use Rattle.server.specs.Serve.{decided_for, tenant_of}
use Rattle.server.specs.Halves.{discard_ruling, judge_clock, judged_by, Judgement, judge_of, judge_reading, judge_server}
use Rattle.server.specs.laws.Outcomes.{concluded, Numbered, read_number}
use Rattle.records.specs.Lent.{book_from, is128}
use Rattle.record_verdict.specs.Verdict.{judge_lent, judge_with, LentJudgement}

pub record Within (s : List ℕ) (r : Ruling) : Type 0 where
  pub few : r.verdict.outcome ≤ 8
  pub tenant : r.tenant < 8
  pub language : Octets s → r.language.len < 65536

dismissed : (s : List ℕ) (k o : ℕ) → k ≤ 8 → Within s (discard_ruling k o)
unfolding discard_with
dismissed s k o h = record { few = h; tenant = omega arith; language = λ _. omega arith }

-- a length of two octets
language_small : (s : List ℕ) (f : Option ℕ) → Octets s → (language_of s f).len < 65536
unfolding at16
language_small s (Some at) o = let a = o (at + 2) in let b = o (at + 2 + 1) in omega arith
language_small s None o = omega arith

module _ (b : Book) (h : ℕ) (s : List ℕ) where
  abbrev mine : Judgement → Type 0
  mine j = Within s j.ruling

  on_server : (m : Fields) → h < 8 → (Octets s → m.language.len < 65536) → mine (judge_server b h m)
  unfolding judge_server
  on_server m g l =
      pick_cases mine _ _ (judged_by b h m (decided_for b h m)) (λ _. dismissed s 7 0 (omega arith))
      (λ _. record { few = (concluded b.state b.table (remembered (releases_at b.memory h)) h m).few; tenant = g; language = l })

  on_reading : h < 8 → mine (judge_reading b h s (read_of s))
  unfolding judge_reading fields_of Numbered
  on_reading g =
      pick_cases mine (eqb (read_of s).discard 0) _ _ (λ _. on_server (fields_of s b.state.server (read_of s).message) g (λ o. language_small s (find_of (read_of s).message.places 8) o))
      (λ e. dismissed s (read_of s).discard (read_of s).fault (read_number s (eqb-false (read_of s).discard 0 e)).1)

judged_within : (b : Book) (client time : ℕ) (s : List ℕ) → Within s (judge_of b client time s).ruling
unfolding judge_of judge_clock
judged_within b client time s =
    pick_cases P (book_b b) _ _
    (λ _.
    pick_cases P (ltb h (tenants_in a.state)) _ _ (λ e. let g = ltb-true h (tenants_in a.state) e in on_reading a h s (omega arith))
    (λ _. dismissed s 3 0 (omega arith))) (λ _. dismissed s 1 0 (omega arith))
  where
    a : Book
    a = advanced b time

    h : ℕ
    h = tenant_of a.state client

    P : Judgement → Type 0
    P j = Within s j.ruling

pub lent_within : (g : Ledger) (ls : List Lease) (names : List ℕ) (client time : ℕ) (s : List ℕ) → Within s (judge_lent g ls names client time s).ruling
unfolding judge_with
lent_within g ls names client time s =
    pick_cases (λ (j : LentJudgement). Within s j.ruling) (is128 (length ls)) _ _ (λ _. judged_within (book_from g ls names) client time s) (λ _. dismissed s 1 0 (omega arith))
