-- Proof of the round trip for the lent ledger and records: those of an accepted file stand for its table.
use Prim.Native.Nat.{ℕ}
use mathlib.Core.Path.{◌≡◌, refl, sym, ap, ◌∙◌}
use mathlib.Core.Bool.{Bool, true, false}
use mathlib.Core.List.{List}
use lib.ListN.{length}
use Rattle.std.specs.Prelude.{Result, Ok, Err}
use Rattle.lists.specs.Pick.{pick}
use Rattle.state.specs.Book.{Book}
use Rattle.state.specs.declared.Lease.{Lease}
use Rattle.state.specs.declared.LeaseTable.{LeaseTable}
use Rattle.state.specs.declared.Ledger.{Ledger}
use Rattle.state_file.specs.declared.Loaded.{Loaded}
use Rattle.state_file.specs.declared.Refusal.{Refusal}
use Rattle.state_file.specs.declared.Refusal.TheVariants.{UnsoundBook, UnsoundFile}
use Rattle.state_file.specs.StateFile.{accepted, book_in, names_of, read_file, refusal_number, room_after, written_of}
use Rattle.state_file.proofs.RoundTrip.{read_written}
use Rattle.records.specs.laws.Files.{file_back, file_long, refused_not_0}
use Rattle.records.specs.Records.{records_of, table_from}
use Rattle.server.specs.Serve.{book_of}
use Rattle.records.specs.Lent.{LentReading, for_records, is128, ledger_from, read_lent, read_over, room_lent, room_with, written_lent, written_with}
use Rattle.records.specs.laws.Steps.{on_whole}
use Rattle.lent_guarantee.specs.Statement.{LentRoundTrip}

-- ---- a reading without a refusal
abbrev pub filed_in : Loaded → LentReading
filed_in f = record { refusal = 0; ledger = ledger_from f; leases = records_of f.table }

abbrev pub Filed : List ℕ → LentReading
Filed f = filed_in (book_in (read_file f))

module _ (f : List ℕ) (g : Ledger) (ls : List Lease) where
  -- what a file is for records of which there are 128, or not
  abbrev over : Result Loaded Refusal → Bool → Result Loaded Refusal
  over (Ok b) q = pick q (Ok b) (Err UnsoundFile)
  over (Err k) q = Err k

  over_is : (r : Result Loaded Refusal) (n : ℕ) → for_records n r ≡ over r (is128 n)
  unfolding for_records
  over_is (Ok b) n = refl
  over_is (Err k) n = refl

  pub read_whole : (read_lent f g ls).refusal ≡ 0 → (refusal_number (read_file f) ≡ 0) × (read_lent f g ls ≡ Filed f)
  unfolding pick read_over refusal_number book_in
  read_whole e =
      let at = ap (λ (x : Result Loaded Refusal). read_over x g ls) (over_is (read_file f) (length ls)) in
      let v = go (read_file f) (is128 (length ls)) (sym (ap (λ (x : LentReading). x.refusal) at) ∙ e) in
      (v.0, at ∙ v.1)
    where
      go : (r : Result Loaded Refusal) (q : Bool) → (read_over (over r q) g ls).refusal ≡ 0 → (refusal_number r ≡ 0) × (read_over (over r q) g ls ≡ filed_in (book_in r))
      go (Ok b) true e = (refl, refl)
      go (Ok b) false e = absurd (refused_not_0 UnsoundFile e)
      go (Err k) q e = absurd (refused_not_0 k e)

-- an accepted file has its book
read_ok : (r : Result Loaded Refusal) → refusal_number r ≡ 0 → r ≡ accepted (book_in r).state (book_in r).table (book_in r).memory
unfolding refusal_number book_in accepted
read_ok (Ok b) e = refl
read_ok (Err k) e = absurd (refused_not_0 k e)

pub lent_round_trip : LentRoundTrip
unfolding LentRoundTrip written_with room_with accepted
lent_round_trip f g ls room o e h =
    let r = read_whole f g ls e in
    let long = file_long f r.0 in
    let t = file_back f r.0 in
    let b : LeaseTable → Book = λ x. book_of (book_in (read_file f)).state x (book_in (read_file f)).memory (names_of f) in
    let w = read_written f room (book_in (read_file f)).state (book_in (read_file f)).table (book_in (read_file f)).memory o
    (read_ok (read_file f) r.0) h in (
      ap (λ (x : LentReading). written_lent x.ledger x.leases (names_of f) (length room)) r.1
          ∙ sym (on_whole (written_of (b (table_from (records_of (book_in (read_file f)).table))) (length room)) (Err UnsoundBook) long)
          ∙ ap (λ (x : LeaseTable). written_of (b x) (length room)) t ∙ w.0,
      ap (λ (x : LentReading). room_lent x.ledger x.leases (names_of f) room) r.1
          ∙ sym (on_whole (room_after (b (table_from (records_of (book_in (read_file f)).table))) room) room long)
          ∙ ap (λ (x : LeaseTable). room_after (b x) room) t ∙ w.1,
    )
