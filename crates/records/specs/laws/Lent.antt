-- Laws: of lent records: what the functions on 128 records by value give is what the definitions on a lent slice of any length yield.
use Rattle.std.specs.Prelude.{◌≡◌, refl, Bool, true, false, List, ◌++◌, Result, Ok, Err, ℕ, min, eqb, ltb, length, replicate, take, drop}
use Rattle.std.proofs.Common.{sym, ap, ◌∙◌, append-nil, arith, drop_of_length-le, take-append-drop, length-take-le, take_all, take_at, zero-add, eqb-true}
use Rattle.std.proofs.Math.Seq.{paste}
use Rattle.lists.specs.Pick.{pick}
use Rattle.state.specs.declared.Lease.{Lease}
use Rattle.state.specs.declared.Ledger.{Ledger}
use Rattle.state.specs.declared.Lookup.{Lookup}
use Rattle.state.specs.Book.{insert_of, lookup_of, no_lookup, remove_of, zero_lease}
use Rattle.admission.specs.Tests.{own_of}
use Rattle.state_file.specs.declared.Loaded.{Loaded}
use Rattle.state_file.specs.declared.Refusal.{Refusal}
use Rattle.state_file.specs.declared.Refusal.TheVariants.{UnsoundBook, UnsoundFile}
use Rattle.records.specs.declared.ReadRecords.{ReadRecords}
use Rattle.state_file.specs.StateFile.{code_of, refusal_number, room_after, written_of}
use Rattle.records.specs.Records.{table_from, first128, covered}
use Rattle.records.specs.Lent.{book_from, with_own, is128, for_records, read_over, Reads, ReadsLent, written_with, written_lent, room_with, room_lent, find_with, find_lent, insert_with, insert_lent, remove_with, remove_lent}

-- a part laid over the front of a list
pub front_put : {A : Type 0} (d s : List A) {part : List A} {n m : ℕ} → n ≡ m → part ≡ take n s → part ++ drop n d ≡ paste d 0 s m
front_put d s {part} {n} {m} e p =
    ap (λ x. x ++ drop n d) p ∙ ap (λ (k : ℕ). take k s ++ drop k d) e ∙ ap (λ (k : ℕ). take m s ++ drop k d) (sym (zero-add m))

-- ---- slices
-- 128 records are all taken
pub taken_all : (ls : List Lease) → length ls ≡ 128 → first128 ls ≡ ls
unfolding first128
taken_all ls e =
    ap (λ (k : ℕ). paste (replicate 128 zero_lease) 0 ls k) (let q : min (length ls) 128 ≡ 128 = omega arith in q)
    ∙ ap (λ (x : List Lease). x ++ drop 128 (replicate 128 zero_lease)) (take_all 128 ls (omega arith)) ∙ append-nil ls

-- and laid over
pub covered_all : (ls x : List Lease) → length ls ≡ 128 → length x ≡ 128 → covered ls x ≡ x
unfolding covered
covered_all ls x e f =
    ap (λ (k : ℕ). paste ls 0 x k) (let q : min (length ls) 128 ≡ 128 = omega arith in q)
    ∙ ap (λ (y : List Lease). y ++ drop 128 ls) (take_all 128 x (omega arith)) ∙ ap (λ (y : List Lease). x ++ y) (drop_of_length-le ls {i = 128} (omega arith)) ∙ append-nil x

-- what was taken is laid back
pub covered_taken : (ls : List Lease) → covered ls (first128 ls) ≡ ls
unfolding covered first128
covered_taken ls =
    ap (λ (j : ℕ). take k (take k ls ++ drop j (replicate 128 zero_lease)) ++ drop j ls) (zero-add k)
    ∙ ap (λ (y : List Lease). y ++ drop k ls) (take_at (take k ls) (drop k (replicate 128 zero_lease)) k (length-take-le k ls (omega arith))) ∙ take-append-drop k ls
  where
    k : ℕ
    k = min (length ls) 128

-- ---- one law for all: a change that another number than 128 leaves out
pub changed_lent : (F : ℕ → List Lease → List Lease) → ((n : ℕ) (m : List Lease) → is128 n ≡ false → F n m ≡ m)
    → (ls : List Lease) {all x zs : List Lease} → all ≡ first128 ls → x ≡ F (length ls) all → length x ≡ 128 → zs ≡ covered ls x → zs ≡ F (length ls) ls
unfolding is128
changed_lent F none ls {all} {x} {zs} a b c d = go (eqb (length ls) 128) refl
  where
    e : x ≡ F (length ls) (first128 ls)
    e = b ∙ ap (F (length ls)) a

    go : (t : Bool) → eqb (length ls) 128 ≡ t → zs ≡ F (length ls) ls
    go true p = d ∙ covered_all ls x (eqb-true _ _ p) c ∙ e ∙ ap (F (length ls)) (taken_all ls (eqb-true _ _ p))
    go false p = d ∙ ap (covered ls) (e ∙ none (length ls) (first128 ls) p) ∙ covered_taken ls ∙ sym (none (length ls) ls p)

-- and an answer that depends on the records only where there are 128
pub told_lent : {A : Type 0} (F : ℕ → List Lease → A) → ((n : ℕ) (m m' : List Lease) → is128 n ≡ false → F n m ≡ F n m')
    → (ls : List Lease) {all : List Lease} {r : A} → all ≡ first128 ls → r ≡ F (length ls) all → r ≡ F (length ls) ls
unfolding is128
told_lent {A} F none ls {all} {r} a b = go (eqb (length ls) 128) refl
  where
    go : (t : Bool) → eqb (length ls) 128 ≡ t → r ≡ F (length ls) ls
    go true p = b ∙ ap (F (length ls)) (a ∙ taken_all ls (eqb-true _ _ p))
    go false p = b ∙ none (length ls) all ls p

-- each part of an answer that is `out` of another number of records
pub told_part : {A B : Type 0} (F : ℕ → List Lease → A) (out : List Lease → A) → ((k : ℕ) (m : List Lease) → is128 k ≡ false → F k m ≡ out m) → (f : A → B) → ((m m' : List Lease) → f (out m) ≡ f (out m'))
    → (ls : List Lease) {all : List Lease} {r : B} → all ≡ first128 ls → r ≡ f (F (length ls) all) → r ≡ f (F (length ls) ls)
told_part F out off f same = told_lent (λ k m. f (F k m)) (λ k m m' o. ap f (off k m o) ∙ same m m' ∙ sym (ap f (off k m' o)))

-- the same of a definition that is a choice on the number of records
pub changed_pick : (G : List Lease → List Lease) (ls : List Lease) {all x zs : List Lease}
    → all ≡ first128 ls → x ≡ pick (is128 (length ls)) (G all) all → length x ≡ 128 → zs ≡ covered ls x → zs ≡ pick (is128 (length ls)) (G ls) ls
unfolding pick
changed_pick G ls = changed_lent (λ n m. pick (is128 n) (G m) m) (λ n m p. ap (λ (t : Bool). pick t (G m) m) p) ls

pub told_pick : {A : Type 0} (G : List Lease → A) (k : A) (ls : List Lease) {all : List Lease} {r : A}
    → all ≡ first128 ls → r ≡ pick (is128 (length ls)) (G all) k → r ≡ pick (is128 (length ls)) (G ls) k
unfolding pick
told_pick {A} G k ls = told_lent (λ n m. pick (is128 n) (G m) k) (λ n m m' p. ap (λ (t : Bool). pick t (G m) k) p ∙ sym (ap (λ (t : Bool). pick t (G m') k) p)) ls

-- ---- one record
pub found_lent : (h : ℕ) (i : List ℕ) (ls : List Lease) {all : List Lease} {r : Lookup} → all ≡ first128 ls → r ≡ find_with (length ls) h i all → r ≡ find_lent h i ls
unfolding find_with
found_lent h i ls = told_pick (λ m. lookup_of i (own_of (table_from m) h)) no_lookup ls

pub inserted_lent : (h : ℕ) (l : Lease) (ls : List Lease) {all x zs : List Lease} → all ≡ first128 ls → x ≡ insert_with (length ls) h l all → length x ≡ 128 → zs ≡ covered ls x → zs ≡ insert_lent h l ls
unfolding insert_with
inserted_lent h l ls = changed_pick (λ m. pick (ltb h 8) (pick (ltb (length (own_of (table_from m) h)) 16) (with_own (table_from m) h (insert_of l (own_of (table_from m) h))) m) m) ls

pub removed_lent : (h : ℕ) (i : List ℕ) (ls : List Lease) {all x zs : List Lease} → all ≡ first128 ls → x ≡ remove_with (length ls) h i all → length x ≡ 128 → zs ≡ covered ls x → zs ≡ remove_lent h i ls
unfolding remove_with
removed_lent h i ls = changed_pick (λ m. pick (ltb h 8) (with_own (table_from m) h (remove_of i (own_of (table_from m) h))) m) ls

-- ---- the writer
pub written_lent_law : (g : Ledger) (ls : List Lease) (names : List ℕ) (room : ℕ) {all : List Lease} {w : Result ℕ Refusal} → all ≡ first128 ls → w ≡ written_with (length ls) g all names room → w ≡ written_lent g ls names room
unfolding written_with
written_lent_law g ls names room = told_pick (λ m. written_of (book_from g m names) room) (Err UnsoundBook) ls

pub room_lent_law : (g : Ledger) (ls : List Lease) (names room : List ℕ) {all : List Lease} {after : List ℕ} → all ≡ first128 ls → after ≡ room_with (length ls) g all names room → after ≡ room_lent g ls names room
unfolding room_with
room_lent_law g ls names room = told_pick (λ m. room_after (book_from g m names) room) room ls

-- ---- the reader
-- what is read is laid over the records, all of them where there are 128
pub read_laid : (f : Result Loaded Refusal) (g : Ledger) (ls : List Lease) (r : ReadRecords) {g' : Ledger} {zs : List Lease} → Reads (for_records (length ls) f) (Ok r) → g' ≡ r.ledger → zs ≡ covered ls r.records.leases
    → ReadsLent (read_over (for_records (length ls) f) g ls) g' zs (Ok tt)
unfolding for_records is128 pick read_over refusal_number
read_laid (Ok f) g ls r {g'} {zs} v p q = go (eqb (length ls) 128) refl v
  where
    go : (t : Bool) → eqb (length ls) 128 ≡ t → Reads (pick t (Ok f) (Err UnsoundFile)) (Ok r) → ReadsLent (read_over (pick t (Ok f) (Err UnsoundFile)) g ls) g' zs (Ok tt)
    go true e w = record { refusal = refl; ledger = p ∙ w.0; leases = q ∙ covered_all ls r.records.leases (eqb-true _ _ e) w.2 ∙ w.1 }
    go false e w = absurd w
read_laid (Err e) g ls r v p q = absurd v

-- a refusal changes nothing
pub read_kept : (f : Result Loaded Refusal) (g : Ledger) (ls : List Lease) {e : Refusal} → Reads f (Err e) → ReadsLent (read_over f g ls) g ls (Err e)
unfolding read_over refusal_number
read_kept (Ok f) g ls v = absurd v
read_kept (Err k) g ls v = record { refusal = ap code_of v; ledger = refl; leases = refl }
