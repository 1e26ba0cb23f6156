-- Specimens: address-seconds, totals and refusals, computed at the clocks on both sides of a lease's start and end.
use Prim.Native.Nat.{ℕ}
use mathlib.Core.Path.{◌≡◌, refl}
use mathlib.Core.List.{List, [], ◌∷◌}
use Rattle.lists.specs.Pick.{pick}
use Rattle.lists.specs.Same.{same_by}
use Rattle.address_set.specs.AddressSet.{bit, offsets_from}
use Rattle.number_text.specs.Text.{field, numeral_in}
use Rattle.soundness.specs.Sound.{one_to}
use Rattle.state.specs.declared.Lease.{Lease}
use Rattle.state.specs.Book.{is_hold, laid_out, lapsing_at, lease_with, table_of, with_clock}
use Rattle.std.proofs.Common.{Err, Ok}
use Rattle.state_file.specs.declared.Refusal.TheVariants.{UnsoundFile, WrongForm}
use Rattle.state_file.specs.StateFile.{book_in, code_of, refusal_number, zero_memory, zero_state, zero_table}
use Rattle.usage.specs.Usage.{Reading, counted, covered, covered_in, follows, number_of, printed_of, refusal, refusal_from, refusal_in, refusal_of, refused_text, same_counts, same_pool, same_range, same_scope, same_settings, sum_over, total_of}

-- two addresses of scope 1 from 15 to 30, as a lease and as a hold
abbrev lease : Lease
lease = lease_with 1 0 [] 3 0 15 30 5

abbrev hold : Lease
hold = lapsing_at 25 (lease_with 1 0 [] 1 0 15 30 5)

-- the seconds before the start, past the end and past the next clock don't count
seconds : covered 10 15 lease ∷ covered 10 20 lease ∷ covered 16 17 lease ∷ covered 20 40 lease ∷ covered 30 40 lease ∷ [] ≡ 0 ∷ 10 ∷ 2 ∷ 20 ∷ 0 ∷ []
unfolding covered offsets_from bit
seconds = refl

-- a hold does not count, nor does another scope
leases_only : covered_in 1 10 20 (lease ∷ hold ∷ lease ∷ []) ∷ covered_in 2 10 20 (lease ∷ hold ∷ []) ∷ [] ≡ 20 ∷ 0 ∷ []
unfolding covered_in sum_over counted is_hold covered offsets_from bit pick
leases_only = refl

-- a file of a clock, whose first tenant has some records
abbrev file : ℕ → List Lease → Reading
file c ls = Ok (record { state = with_clock zero_state c; table = table_of (ls ∷ []); memory = zero_memory })

-- what the last file's leases cover is nobody's; one file has nothing; a total is above 32 bits
totals : total_of 0 0 (file 10 (lease ∷ []) ∷ file 20 [] ∷ file 22 (lease ∷ []) ∷ []) ∷ total_of 0 0 (file 10 (lease ∷ []) ∷ file 20 (lease ∷ []) ∷ file 22 [] ∷ [])
    ∷ total_of 0 0 (file 10 (lease ∷ []) ∷ []) ∷ total_of 0 0 (file 0 (lease_with 1 0 [] 3 0 0 4294967295 3 ∷ []) ∷ file 4294967295 [] ∷ []) ∷ []
    ≡ 10 ∷ 14 ∷ 0 ∷ 8589934590 ∷ []
unfolding book_in total_of covered_in sum_over counted is_hold covered offsets_from bit pick table_of laid_out
totals = refl

-- ---- refusals
-- no file; the first file; a clock that is not later; the number of the reader before that
refusals : refusal_of [] ∷ refusal_of (Err UnsoundFile ∷ file 10 [] ∷ []) ∷ refusal_of (file 10 [] ∷ file 10 [] ∷ Err WrongForm ∷ []) ∷ refusal_of (file 10 [] ∷ file 11 [] ∷ Err WrongForm ∷ file 9 [] ∷ [])
    ∷ refusal_of (file 10 [] ∷ file 11 [] ∷ []) ∷ []
    ≡ refusal 26 0 ∷ refusal 21 1 ∷ refusal 26 2 ∷ refusal 20 3 ∷ refusal 0 0 ∷ []
unfolding refusal_of refusal_in refusal_from number_of follows same_settings same_counts same_by same_range same_scope same_pool one_to pick book_in refusal_number code_of
refusals = refl

-- another server address
abbrev elsewhere : Reading
elsewhere = Ok (record { state = record { server = 1; clock = 12; tenant_count = 0; tenants = zero_state.tenants; scope_count = 0; scopes = zero_state.scopes }; table = zero_table; memory = zero_memory })

settings : refusal_of (file 10 [] ∷ file 11 [] ∷ elsewhere ∷ []) ≡ refusal 26 3
unfolding refusal_of refusal_in refusal_from number_of follows same_settings same_counts same_by same_range same_scope same_pool one_to pick book_in refusal_number
settings = refl

-- "refused 26 0"
printed : printed_of [] ≡ 114 ∷ 101 ∷ 102 ∷ 117 ∷ 115 ∷ 101 ∷ 100 ∷ 32 ∷ 50 ∷ 54 ∷ 32 ∷ 48 ∷ 10 ∷ []
unfolding printed_of refusal_of refused_text field numeral_in one_to pick
printed = refl
