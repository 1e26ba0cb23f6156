-- Laws: the table of a file that is read: laid out, and sound where the file is accepted, so that its records stand for it.
use Rattle.std.specs.Prelude.{ℕ, zero, suc, ◌≡◌, refl, true, ◌&&◌, List, [], Result, Ok, Err, eqb, length, replicate}
use Rattle.std.proofs.Common.{sym, ap, ◌∙◌, arith}
use Rattle.lists.specs.Pick.{pick}
use Rattle.lists.specs.laws.Both.{and_parts}
use Rattle.message.specs.laws.Placed.{pick_cases}
use Rattle.state.specs.declared.Lease.{Lease}
use Rattle.state.specs.declared.Ledger.{Ledger}
use Rattle.state.specs.declared.Memory.{Memory}
use Rattle.state.specs.Book.{leases_of, table_of, zero_lease}
use Rattle.state.specs.laws.Layout.{table_back as lists_back}
use Rattle.releases.specs.Rules.{memory_b}
use Rattle.soundness.specs.Sound.{sound_b}
use Rattle.state_file.specs.declared.Loaded.{Loaded}
use Rattle.state_file.specs.declared.Refusal.{Refusal}
use Rattle.state_file.specs.declared.Refusal.TheVariants.{ShortRoom, UnsoundBook, UnsoundFile, WrongForm}
use Rattle.state_file.specs.File.{File, file_of}
use Rattle.format.specs.Format.{Got, bad, got}
use Rattle.lease_file.specs.Records.{merged_from}
use Rattle.lease_file.specs.Section.{FileHold, FileLease}
use Rattle.state_file.specs.Records.{fits_b, stored_state, stored_table}
use Rattle.state_file.specs.StateFile.{accepted, book_in, code_of, loaded_got, judged, loaded, read_file, refusal_number, zero_ledger, zero_table}
use Rattle.records.specs.laws.Back.{lent_table_back, table_long}
use Rattle.records.specs.Lent.{LentReading, ReadsLent, for_records, is128, ledger_from, read_lent, read_over, read_with}
use Rattle.records.specs.Records.{records_of, table_from}

-- eight lists, laid out; sound where the file is accepted
record Whole (r : Result Loaded Refusal) : Type 0 where
  laid : (book_in r).table ≡ table_of (leases_of (book_in r).table)
  eight : length (leases_of (book_in r).table) ≡ 8
  sound : refusal_number r ≡ 0 → sound_b (book_in r).state (book_in r).table ≡ true

from_length : (t n : ℕ) (xs : List FileLease) (ys : List FileHold) → length (merged_from t n xs ys) ≡ n
unfolding merged_from
from_length t zero xs ys = refl
from_length t (suc n) xs ys = ap suc (from_length (suc t) n xs ys)

none : (e : Refusal) → (code_of e ≡ 0 → ⊥) → Whole (Err e)
unfolding book_in refusal_number zero_table
none e z = record { laid = ap table_of (sym (lists_back (replicate 8 []))); eight = ap length (lists_back (replicate 8 [])); sound = λ q. absurd (z q) }

unsound : Whole (Err UnsoundFile)
unfolding code_of
unsound = none UnsoundFile (λ e. absurd (omega arith))

judged_whole : (f : File) (m : Memory) → Whole (judged (stored_state f) (stored_table f) m)
unfolding judged stored_table accepted book_in refusal_number
judged_whole f m =
    pick_cases Whole (sound_b (stored_state f) (table_of lists) && memory_b (stored_state f) (table_of lists) m) _ _
    (λ y. record { laid = ap table_of (sym (lists_back lists)); eight = ap length (lists_back lists) ∙ from_length 1 8 f.leases f.holds; sound = λ _. (and_parts _ _ y).0 }) (λ _. unsound)
  where
    lists : List (List Lease)
    lists = merged_from 1 8 f.leases f.holds

file_whole : (s : List ℕ) → Whole (read_file s)
unfolding read_file loaded_got loaded code_of
file_whole s = go (file_of s)
  where
    go : (g : Got File) → Whole (loaded_got g)
    go bad = none WrongForm (λ e. absurd (omega arith))
    go (got f r) = pick_cases Whole (fits_b f) _ _ (λ _. judged_whole f _) (λ _. unsound)

-- the records of an accepted file stand for its table
pub file_back : (s : List ℕ) → refusal_number (read_file s) ≡ 0 → table_from (records_of (book_in (read_file s)).table) ≡ (book_in (read_file s)).table
file_back s e = let w = file_whole s in lent_table_back (book_in (read_file s)).state (book_in (read_file s)).table w.eight w.laid (w.sound e)

pub file_long : (s : List ℕ) → refusal_number (read_file s) ≡ 0 → length (records_of (book_in (read_file s)).table) ≡ 128
file_long s e = let w = file_whole s in table_long (book_in (read_file s)).state (book_in (read_file s)).table w.eight w.laid (w.sound e)

-- ---- a file read over a book that is all zero
pub refused_not_0 : (e : Refusal) → code_of e ≡ 0 → ⊥
unfolding code_of
refused_not_0 WrongForm e = absurd (omega arith)
refused_not_0 UnsoundFile e = absurd (omega arith)
refused_not_0 UnsoundBook e = absurd (omega arith)
refused_not_0 ShortRoom e = absurd (omega arith)

-- a refusal is told by its number
pub code_same : (a b : Refusal) → code_of a ≡ code_of b → a ≡ b
unfolding code_of pick
code_same a b e = sym (back a) ∙ ap of_code e ∙ back b
  where
    of_code : ℕ → Refusal
    of_code n = pick (eqb n 20) WrongForm (pick (eqb n 21) UnsoundFile (pick (eqb n 22) UnsoundBook ShortRoom))

    back : (r : Refusal) → of_code (code_of r) ≡ r
    back WrongForm = refl
    back UnsoundFile = refl
    back UnsoundBook = refl
    back ShortRoom = refl

abbrev pub read_blank : List ℕ → LentReading
read_blank f = read_lent f zero_ledger (replicate 128 zero_lease)

pub blank_is : (f : List ℕ) → read_blank f ≡ read_over (read_file f) zero_ledger (replicate 128 zero_lease)
unfolding for_records is128 pick
blank_is f = go (read_file f)
  where
    go : (r : Result Loaded Refusal) → read_over (for_records 128 r) zero_ledger (replicate 128 zero_lease) ≡ read_over r zero_ledger (replicate 128 zero_lease)
    go (Ok b) = refl
    go (Err e) = refl

pub blank_refusal : (f : List ℕ) → (read_blank f).refusal ≡ refusal_number (read_file f)
unfolding read_over refusal_number
blank_refusal f = ap (λ (x : LentReading). x.refusal) (blank_is f) ∙ go (read_file f)
  where
    go : (r : Result Loaded Refusal) → (read_over r zero_ledger (replicate 128 zero_lease)).refusal ≡ refusal_number r
    go (Ok b) = refl
    go (Err e) = refl

pub blank_accepted : (f : List ℕ) → refusal_number (read_file f) ≡ 0 → read_blank f ≡ record { refusal = 0; ledger = ledger_from (book_in (read_file f)); leases = records_of (book_in (read_file f)).table }
unfolding read_over refusal_number book_in
blank_accepted f e = blank_is f ∙ go (read_file f) e
  where
    go : (r : Result Loaded Refusal) → refusal_number r ≡ 0 → read_over r zero_ledger (replicate 128 zero_lease) ≡ record { refusal = 0; ledger = ledger_from (book_in r); leases = records_of (book_in r).table }
    go (Ok b) e = refl
    go (Err k) e = absurd (refused_not_0 k e)

-- ---- a file read over any 128 records
module _ (g : Ledger) (ls : List Lease) {g' : Ledger} {zs : List Lease} where
  pub read_book : (f : Result Loaded Refusal) → ReadsLent (read_with 128 f g ls) g' zs (Ok tt) → (k : Loaded) × (f ≡ Ok k) × (g' ≡ ledger_from k) × (zs ≡ records_of k.table)
  unfolding for_records is128 pick read_over refusal_number
  read_book (Ok k) v = (k, refl, v.ledger, v.leases)
  read_book (Err e) v = absurd (refused_not_0 e (sym v.refusal))

  pub read_none : (f : Result Loaded Refusal) {e : Refusal} → ReadsLent (read_with 128 f g ls) g' zs (Err e) → f ≡ Err e
  unfolding for_records is128 pick read_over refusal_number
  read_none (Ok k) {e} v = absurd (refused_not_0 e v.refusal)
  read_none (Err k) {e} v = ap Err (code_same k e (sym v.refusal))
