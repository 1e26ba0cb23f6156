-- Laws: an accepted file's leases and holds have addresses within 64 bits, calls keep them so, and so every reply is read back.
use Prim.Native.Nat.{ℕ, zero, suc, ◌<◌, ◌^◌}
use mathlib.Core.Path.{◌≡◌, refl, sym, ap, ◌∙◌, subst}
use mathlib.Core.Bool.{Bool, true, false}
use mathlib.Core.List.{List, [], ◌∷◌, ◌++◌, map}
use lib.Dec.{ltb}
use lib.ListN.{get_or, replicate}
use borrow.Author.Tests.{ltb-true}
use Rattle.lists.specs.Pick.{pick}
use Rattle.lists.specs.All.{All}
use Rattle.lists.specs.Filter.{filter_by}
use Rattle.lists.specs.laws.All.{all_any, all_joined, all_mapped}
use Rattle.address_set.specs.AddressSet.{read_offsets}
use Rattle.address_set.specs.laws.Offsets.{set_of_small}
use Rattle.message.specs.laws.Placed.{pick_cases}
use Rattle.state.specs.declared.Lease.{Lease}
use Rattle.state.specs.declared.LeaseTable.{LeaseTable}
use Rattle.state.specs.declared.Ledger.{Ledger}
use Rattle.state.specs.Book.{ordered, table_of}
use Rattle.lease_file.specs.laws.Merge.{arranged_each}
use Rattle.state.specs.laws.Layout.{table_back}
use Rattle.decision_laws.specs.laws.Kept.{own_is}
use Rattle.admission.specs.Tests.{own_of}
use Rattle.call_guarantee.specs.Statement.{Narrow, StaysNarrow}
use Rattle.call_guarantee.proofs.Bounded.{stays_narrow}
use Rattle.std.specs.Prelude.{Result}
use Rattle.state_file.specs.declared.Loaded.{Loaded}
use Rattle.state_file.specs.declared.Refusal.{Refusal}
use Rattle.lease_file.specs.Section.{FileHold, FileLease}
use Rattle.lease_file.specs.Records.{hold_tenant, lease_tenant, merged_from, stored, stored_hold}
use Rattle.state_file.specs.File.{File, file_of}
use Rattle.format.specs.Format.{Got, bad, got}
use Rattle.format.specs.Tenants.{own}
use Rattle.state_file.specs.Records.{fits_b, stored_table}
use Rattle.state_file.specs.StateFile.{accepted, book_in, loaded_got, judged, loaded, read_file, zero_table}
use Rattle.records.specs.laws.Files.{file_back}
use Rattle.records.specs.Lent.{LentReading, read_lent}
use Rattle.records.specs.Records.{table_from}
use Rattle.lent_guarantee.specs.Statement.{FileReads, LentDemand1, after_file, lent_book, run_lent}
use Rattle.lent_guarantee.proofs.Guaranteed.{lent_demand1, run_lent_law}
use Rattle.lent_guarantee.proofs.RoundTrip.{read_whole}
use Rattle.lent_guarantee.proofs.Written.{file_sound}

abbrev F : Lease → Type 0
F l = l.addresses < 2 ^ 64

-- ---- a file's leases and holds: octets that are no offsets add nothing
below : (l : List ℕ) → All (λ a. a < 64) (filter_by (λ a. ltb a 64) l)
unfolding All filter_by pick
below [] = tt
below (x ∷ l) = go (ltb x 64) refl (below l)
  where
    go : (b : Bool) → ltb x 64 ≡ b → All (λ a. a < 64) (filter_by (λ a. ltb a 64) l) → All (λ a. a < 64) (pick b (x ∷ filter_by (λ a. ltb a 64) l) (filter_by (λ a. ltb a 64) l))
    go true e r = (ltb-true x 64 e, r)
    go false e r = r

one_stored : (x : FileLease) → F (stored x)
unfolding stored read_offsets
one_stored x = set_of_small 64 (filter_by (λ a. ltb a 64) x.offsets) (below x.offsets)

one_held : (x : FileHold) → F (stored_hold x)
unfolding stored_hold
one_held x = one_stored x.lease

each_tenant : (t n : ℕ) (xs : List FileLease) (ys : List FileHold) (g : ℕ) → All F (get_or (merged_from t n xs ys) g [])
unfolding All merged_from
each_tenant t zero xs ys g = tt
each_tenant t (suc n) xs ys zero =
    arranged_each F ordered (map stored_hold (own hold_tenant t ys) ++ map stored (own lease_tenant t xs))
    (all_joined F (map stored_hold (own hold_tenant t ys)) (map stored (own lease_tenant t xs)) (all_mapped F stored_hold (own hold_tenant t ys) (all_any (λ x. F (stored_hold x)) one_held (own hold_tenant t ys)))
    (all_mapped F stored (own lease_tenant t xs) (all_any (λ x. F (stored x)) one_stored (own lease_tenant t xs))))
each_tenant t (suc n) xs ys (suc g) = each_tenant (suc t) n xs ys g

of_lists : (ll : List (List Lease)) (g : ℕ) → All F (get_or ll g []) → All F (own_of (table_of ll) g)
of_lists ll g h = subst (All F) (sym (own_is (table_of ll) g ∙ ap (λ (l : List (List Lease)). get_or l g []) (table_back ll))) h

none : (n g : ℕ) → All F (get_or (replicate n []) g [])
unfolding All
none zero g = tt
none (suc n) zero = tt
none (suc n) (suc g) = none n g

read_narrow : (f : List ℕ) (g : ℕ) → All F (own_of (book_in (read_file f)).table g)
unfolding read_file loaded_got loaded judged accepted book_in stored_table zero_table
read_narrow f g = go (file_of f)
  where
    P : Result Loaded Refusal → Type 0
    P r = All F (own_of (book_in r).table g)

    zeros : All F (own_of (table_of (replicate 8 [])) g)
    zeros = of_lists (replicate 8 []) g (none 8 g)

    go : (x : Got File) → P (loaded_got x)
    go bad = zeros
    go (got x r) = pick_cases P (fits_b x) _ _ (λ _. pick_cases P _ _ _ (λ _. of_lists (merged_from 1 8 x.leases x.holds) g (each_tenant 1 8 x.leases x.holds g)) (λ _. zeros)) (λ _. zeros)

-- ---- read into lent records, and after any calls
file_narrow : (f : List ℕ) (k : Ledger) (ls : List Lease) → (read_lent f k ls).refusal ≡ 0 → Narrow (lent_book (after_file f k ls))
unfolding Narrow
file_narrow f k ls e g =
    let r = read_whole f k ls e in
    subst (λ (t : LeaseTable). All F (own_of t g)) (sym (ap (λ (x : LentReading). table_from x.leases) r.1 ∙ file_back f r.0)) (read_narrow f g)

pub file_reads : FileReads
unfolding FileReads StaysNarrow LentDemand1
file_reads f k ls cs c e =
    let v = run_lent_law (after_file f k ls) cs (file_sound f k ls e) in
    (lent_demand1 (run_lent (after_file f k ls) cs) c).reads
    (subst Narrow (sym v.1) (stays_narrow (lent_book (after_file f k ls)) (file_narrow f k ls e) cs))
