-- Proof of `LentWriteRead` and `LentWritten`: what the writer writes of lent ledger and records is read back as they are, and after any list of calls it refuses nothing.
use Prim.Native.Nat.{ℕ, ◌≤◌}
use mathlib.Core.Path.{◌≡◌, refl, sym, ap, ap₂, ◌∙◌}
use mathlib.Core.Bool.{Bool, true, false}
use mathlib.Core.List.{List}
use Rattle.std.specs.Prelude.{Result, Ok, Err}
use native.Mathlib.Omega.{arith}
use lib.Dec.{eqb}
use lib.ListN.{length, take}
use borrow.Author.Tests.{eqb-true, eqb-false}
use Rattle.state_file.specs.File.{File, file_of, longest_file}
use Rattle.state_file.specs.Records.{fits_b}
use Rattle.format.specs.Tenants.{apart}
use Rattle.message.specs.laws.Placed.{pick_cases}
use Rattle.format.specs.Format.{Got, bad, got}
use Rattle.release_file.specs.Section.{FileRelease, stored_memory}
use Rattle.state.specs.declared.Lease.{Lease}
use Rattle.state.specs.declared.LeaseTable.{LeaseTable}
use Rattle.state.specs.declared.Ledger.{Ledger}
use Rattle.state.specs.Book.{Book}
use Rattle.releases.specs.Whole.{book_b}
use Rattle.state_file.specs.declared.Loaded.{Loaded}
use Rattle.state_file.specs.declared.Refusal.{Refusal}
use Rattle.state_file.specs.declared.Refusal.TheVariants.{UnsoundBook, UnsoundFile}
use Rattle.state_file.specs.StateFile.{accepted, book_in, code_of, judged, length_written, loaded, loaded_got, names_of, read_file, refusal_number, room_after, written_of}
use Rattle.state_file.proofs.RoundTrip.{never_refused, read_sound, written_read}
use Rattle.records.specs.laws.Back.{records_back}
use Rattle.records.specs.laws.Files.{file_back, file_long}
use Rattle.records.specs.laws.Table.{table_eight}
use Rattle.records.specs.Records.{records_of}
use Rattle.records.specs.Lent.{LentReading, book_from, for_records, read_lent, read_over, read_with, room_with, written_with}
use Rattle.record_verdict.specs.Verdict.{ledger_of}
use Rattle.records.specs.laws.Steps.{off_whole, on_whole}
use Rattle.lent_guarantee.specs.Statement.{FileWritten, Lent, lent_book, LentDemand3, LentWriteRead, lent_room, LentWritten, lent_written, SoundLent, after_file, run_lent}
use Rattle.lent_guarantee.proofs.Guaranteed.{lent_demand3}
use Rattle.lent_guarantee.proofs.RoundTrip.{read_whole}

-- ---- written and read again
-- a reading that is accepted, on 128 records
read_as : (f : List ℕ) (g : Ledger) (b : Book) (ls : List Lease) → length ls ≡ 128 → read_file f ≡ accepted b.state b.table b.memory
    → read_lent f g ls ≡ record { refusal = 0; ledger = ledger_of b; leases = records_of b.table }
unfolding for_records read_over accepted
read_as f g b ls long e =
    ap (λ (r : Result Loaded Refusal). read_with (length ls) r g ls) e
    ∙ ap (λ (r : Result Loaded Refusal). read_over r g ls) (sym (on_whole {A = Result Loaded Refusal} (Ok (record { state = b.state; table = b.table; memory = b.memory })) (Err UnsoundFile) long))

-- the writer refuses another number of records
written_whole : (l : Lent) (n : ℕ) → refusal_number (lent_written l n) ≡ 0 → length l.leases ≡ 128
unfolding written_with refusal_number code_of
written_whole l n e = go (eqb (length l.leases) 128) refl
  where
    go : (b : Bool) → eqb (length l.leases) 128 ≡ b → length l.leases ≡ 128
    go true p = eqb-true (length l.leases) 128 p
    go false p =
        let q : lent_written l n ≡ Err UnsoundBook = sym (off_whole (written_of (lent_book l) n) (Err UnsoundBook) (eqb-false (length l.leases) 128 p)) in
        let z : refusal_number (lent_written l n) ≡ 22 = ap refusal_number q in
        absurd (omega arith)

pub lent_write_read : LentWriteRead
unfolding LentWriteRead written_with room_with
lent_write_read l room g ls v o long e =
    let here : length l.leases ≡ 128 = written_whole l (length room) e in
    let w : written_of (lent_book l) (length room) ≡ lent_written l (length room) = on_whole (written_of (lent_book l) (length room)) (Err UnsoundBook) here in
    let r : room_after (lent_book l) room ≡ lent_room l room = on_whole (room_after (lent_book l) room) room here in
    let back = written_read (lent_book l) v o room (ap refusal_number w ∙ e) in (
      ap₂ (λ (x : Result ℕ Refusal) (y : List ℕ). read_lent (take (length_written x) y) g ls) (sym w) (sym r)
          ∙ read_as (take (length_written (written_of (lent_book l) (length room))) (room_after (lent_book l) room)) g (lent_book l) ls long back.0
          ∙ ap {B = LentReading} (λ (x : List Lease). record { refusal = 0; ledger = l.ledger; leases = x }) (records_back l.leases here),
      ap₂ (λ (x : Result ℕ Refusal) (y : List ℕ). names_of (take (length_written x) y)) (sym w) (sym r) ∙ back.1,
    )

-- ---- after any list of calls
-- records stand for eight tenants' always
pub sound_written : (l : Lent) → SoundLent l → (n : ℕ) → longest_file ≤ n → refusal_number (lent_written l n) ≡ 0
unfolding written_with refusal_number
sound_written l v n h =
    ap refusal_number
    (sym (on_whole (written_of (lent_book l) n) (Err UnsoundBook) v.whole) ∙ never_refused (lent_book l) n (table_eight l.leases) v.eight v.sound h)

pub lent_written_law : LentWritten
unfolding LentWritten LentDemand3
lent_written_law l v cs n h = sound_written (run_lent l cs) (lent_demand3 l v cs).sound n h

-- a file that is read has the releases of eight tenants
parts_eight : (xs : List FileRelease) → length (stored_memory xs).releases ≡ 8
unfolding stored_memory apart
parts_eight xs = refl

read_eight : (f : List ℕ) → length (book_in (read_file f)).memory.releases ≡ 8
unfolding read_file loaded_got loaded judged accepted book_in
read_eight f = go (file_of f)
  where
    P : Result Loaded Refusal → Type 0
    P r = length (book_in r).memory.releases ≡ 8

    go : (x : Got File) → P (loaded_got x)
    go bad = refl
    go (got x r) = pick_cases P (fits_b x) _ _ (λ _. pick_cases P _ _ _ (λ _. parts_eight x.releases) (λ _. refl)) (λ _. refl)

-- an accepted file's ledger and records are sound
pub file_sound : (f : List ℕ) (g : Ledger) (ls : List Lease) → (read_lent f g ls).refusal ≡ 0 → SoundLent (after_file f g ls)
file_sound f g ls e =
    let r = read_whole f g ls e in
    record {
      whole = ap (λ (x : LentReading). length x.leases) r.1 ∙ file_long f r.0;
      eight = ap (λ (x : LentReading). length x.ledger.memory.releases) r.1 ∙ read_eight f;
      sound =
          ap (λ (x : LentReading). book_b (book_from x.ledger x.leases (names_of f))) r.1
          ∙ ap (λ (t : LeaseTable). book_b (record { state = (book_in (read_file f)).state; table = t; memory = (book_in (read_file f)).memory; names = names_of f })) (file_back f r.0) ∙ read_sound f r.0;
    }

pub file_written : FileWritten
unfolding FileWritten LentWritten
file_written f g ls cs n e h = lent_written_law (after_file f g ls) (file_sound f g ls e) cs n h
