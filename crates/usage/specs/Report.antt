-- Definitions: the report file by file, as it is kept from one to the next: what a further file makes of it. Sums stop at the largest u64, so that every report
-- has an answer; that no total of accepted files gets there, and that this is the report on the list, is laws/Exact.antt.
use Rattle.std.specs.Prelude.{ℕ, ◌+◌, min, List, [], ◌∷◌, ◌++◌, map, eqb, ltb, drop, get_or, length, replicate, Result, Ok, Err}
use Rattle.lists.specs.Pick.{pick}
use Rattle.lists.specs.Fold.{fold}
use Rattle.address_set.specs.AddressSet.{up_to}
use Rattle.state.specs.declared.Lease.{Lease}
use Rattle.state.specs.declared.LeaseTable.{LeaseTable}
use Rattle.state.specs.Book.{in_use, tenant_at}
use Rattle.soundness.specs.Sound.{one_to}
use Rattle.state_file.specs.declared.Loaded.{Loaded}
use Rattle.usage.specs.declared.ScopeTotals.{ScopeTotals}
use Rattle.usage.specs.declared.Totals.{Totals}
use Rattle.usage.specs.declared.Report.{Report}
use Rattle.state_file.specs.StateFile.{book_in, code_of, refusal_number, zero_state, zero_table}
use Rattle.usage.specs.declared.FileRefusal.{FileRefusal}
use Rattle.usage.specs.declared.FileRefusal.TheVariants.{Unread, OutOfOrder}
use Rattle.usage.specs.Usage.{Reading, clock_of, counted, covered, covered_in, most_files, number_of, refused_text, report_text}

-- ---- sums
unfoldable pub cut : ℕ → ℕ
cut n = min n 18446744073709551615

unfoldable pub capped_sum : ℕ → ℕ → ℕ
capped_sum a b = cut (a + b)

-- with one record more
unfoldable pub more_covered : ℕ → ℕ → ℕ → ℕ → Lease → ℕ
more_covered s c n sum l = pick (counted s l) (capped_sum sum (covered c n l)) sum

-- ---- totals
abbrev pub no_totals : Totals
no_totals = record { scopes = replicate 4 (record { tenants = replicate 8 0 }) }

-- what stands for a scope that there is not
abbrev pub no_scope_totals : ScopeTotals
no_scope_totals = record { tenants = [] }

-- tenant g's total in the scope at place k
abbrev pub total_in : Totals → ℕ → ℕ → ℕ
total_in t k g = get_or (get_or t.scopes k no_scope_totals).tenants g 0

-- tenant g's total, with what its leases in a table cover in scope s
unfoldable pub added_tenant : LeaseTable → ℕ → ℕ → ℕ → ScopeTotals → ℕ → ℕ
added_tenant t s c n v g = capped_sum (get_or v.tenants g 0) (cut (covered_in s c n (in_use (tenant_at t g))))

unfoldable pub added_scope : LeaseTable → ℕ → ℕ → ℕ → ScopeTotals → ScopeTotals
added_scope t s c n v = record { tenants = map (added_tenant t s c n v) (up_to 8) }

unfoldable pub added_totals : LeaseTable → ℕ → ℕ → Totals → Totals
added_totals t c n v = record { scopes = map (λ k. added_scope t (k + 1) c n (get_or v.scopes k no_scope_totals)) (up_to 4) }

-- ---- one file after the other
-- what a file gives: 0 and the report with it, or the number of a refusal and the report before it
pub record Step : Type 0 where
  pub refusal : ℕ
  pub report : Report

-- a refusal's number: the reader's, or 26
abbrev pub number_told : FileRefusal → ℕ
number_told (Unread e) = code_of e
number_told OutOfOrder = 26

-- the step that an answer is, after a report
unfoldable pub told_after : Report → Result Report FileRefusal → Step
told_after r (Ok x) = record { refusal = 0; report = x }
told_after r (Err e) = record { refusal = number_told e; report = r }

-- before the first file
abbrev pub no_report : Report
no_report = record { count = 0; first = zero_state; clock = 0; table = zero_table; totals = no_totals }

unfoldable pub first_count : ℕ → ℕ
first_count refusal = pick (eqb refusal 0) 1 0

unfoldable pub begun : Reading → Step
begun f = record { refusal = (refusal_number f); report = record { count = first_count (refusal_number f); first = (book_in f).state; clock = clock_of f; table = (book_in f).table; totals = no_totals } }

-- the report with one accepted file more
unfoldable pub with_file : Report → Loaded → Report
with_file r f = record {
  count = capped_sum r.count 1;
  first = r.first;
  clock = f.state.clock;
  table = f.table;
  totals = added_totals r.table r.clock f.state.clock r.totals;
}

unfoldable pub next_of : Report → Reading → Step
next_of r f =
    pick (eqb (number_of r.first r.clock f) 0) (record { refusal = 0; report = with_file r (book_in f) })
    (record { refusal = number_of r.first r.clock f; report = r })

-- after a refusal no file is looked at
unfoldable pub step_of : Step → Reading → Step
step_of s f = pick (eqb s.refusal 0) (next_of s.report f) s

-- ---- what is printed
unfoldable pub step_text : Step → List ℕ
step_text s =
    pick (eqb s.refusal 0) (report_text s.report.first (total_in s.report.totals))
    (refused_text s.refusal (capped_sum s.report.count 1))

unfoldable pub gathered : List Reading → List ℕ
gathered [] = refused_text 26 0
gathered (f ∷ fs) = step_text (fold step_of (begun f) fs)

-- for 1 to 1,000 files what the last step says; no other number is looked at
unfoldable pub walked_text : List Reading → List ℕ
walked_text fs = pick (one_to most_files (length fs)) (gathered fs) (refused_text 26 0)

-- a room below 4,096 octets is left as it is
unfoldable pub length_in : List ℕ → List ℕ → ℕ
length_in text room = pick (ltb (length room) 4096) 0 (length text)

unfoldable pub room_with : List ℕ → List ℕ → List ℕ
room_with text room = pick (ltb (length room) 4096) room (text ++ drop (length text) room)
