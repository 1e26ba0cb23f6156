-- Specimens: sections of releases by computation: which octets are one, which a memory can hold, and that these come back.
use mathlib.Core.Bool.{Bool, true}
use mathlib.Core.List.{List, [], ◌++◌, ◌∷◌, map}
use mathlib.Core.Path.{◌≡◌, refl}
use Prim.Native.Nat.{suc, zero, ℕ}
use lib.Dec.{eqb}
use lib.ListN.{get_or, length, replicate}
use Rattle.format.specs.Format.{Got, bad, closed, got, read_number, read_octet, read_times, then, write_all}
use Rattle.format.specs.Section.{ordered_from}
use Rattle.format.specs.Tenants.{apart, filed_all}
use Rattle.lists.specs.All.{all_by, all_to}
use Rattle.lists.specs.Filter.{filter_by}
use Rattle.lists.specs.Pick.{pick}
use Rattle.octets.specs.Octets.{octets32}
use Rattle.release_file.specs.Section.{FileRelease, few_for, filed_memory, filed_release, keepable_b, memory_octets, releases_fit_b, releases_format, stored_memory, stored_release}
use Rattle.state.specs.Book.{laid_releases, no_releases}
use Rattle.state.specs.laws.Layout.{no_release}
use Rattle.state.specs.declared.Memory.{Memory}
use Rattle.state.specs.declared.Release.{Release}

-- a release with transaction id 1.2.3.4
release : ℕ → List ℕ → ℕ → List ℕ
release tenant id time = tenant ∷ length id ∷ id ++ octets32 16909060 ++ octets32 time

a : List ℕ
a = 0 ∷ 65 ∷ []

b : List ℕ
b = 0 ∷ 66 ∷ 7 ∷ []

-- n of one tenant with rising identifiers
row : ℕ → ℕ → ℕ → List ℕ
row tenant zero k = []
row tenant (suc n) k = release tenant (0 ∷ k ∷ []) 1000 ++ row tenant n (suc k)

-- ---- what octets are: 20 for a wrong form, 21 for what a memory can't hold, or 0
judged : Got (List FileRelease) → ℕ
judged (got xs r) = pick (releases_fit_b xs) 0 21
judged bad = 20

verdict : List ℕ → ℕ
verdict s = judged (closed (releases_format.read s))

record Case : Type 0 where
  octets : List ℕ
  answer : ℕ

of : List ℕ → ℕ → Case
of s n = record { octets = s; answer = n }

holds : Case → Bool
holds c = eqb (verdict c.octets) c.answer

-- two tenants: times that are equal for a tenant, and that fall from tenant to tenant
two : List ℕ
two = 3 ∷ release 1 b 1000 ++ release 1 a 1000 ++ release 3 a 4

cases : List Case
cases =
    of (0 ∷ []) 0
    ∷ of two 0
    -- tenants that fall; times that fall for a tenant; rising times, and the same identifier twice, which is for soundness to refuse
    ∷ of (2 ∷ release 2 a 4 ++ release 1 a 4) 20
    ∷ of (2 ∷ release 2 a 5 ++ release 2 b 4) 20
    ∷ of (2 ∷ release 2 a 4 ++ release 2 a 5) 0
    -- nothing at all; a count without releases; one cut off in its time, its identifier, its head; an octet left over
    ∷ of [] 20
    ∷ of (1 ∷ []) 20
    ∷ of (2 ∷ release 1 a 4) 20
    ∷ of (1 ∷ 1 ∷ 2 ∷ 0 ∷ 65 ∷ 1 ∷ 2 ∷ 3 ∷ 4 ∷ 0 ∷ 0 ∷ 0 ∷ []) 20
    ∷ of (1 ∷ 1 ∷ 2 ∷ 0 ∷ []) 20
    ∷ of (1 ∷ 1 ∷ []) 20
    ∷ of (1 ∷ release 1 a 4 ++ 0 ∷ []) 20
    -- tenants 1 and 8, and those that no memory has; their order is compared all the same
    ∷ of (2 ∷ release 1 a 4 ++ release 8 a 4) 0
    ∷ of (1 ∷ release 0 a 4) 21
    ∷ of (1 ∷ release 9 a 4) 21
    ∷ of (2 ∷ release 200 a 4 ++ release 9 a 4) 20
    -- four of one tenant, and five
    ∷ of (4 ∷ row 8 4 1) 0
    ∷ of (5 ∷ row 8 5 1) 21
    ∷ of (5 ∷ row 7 4 1 ++ row 8 1 1) 0
    -- identifiers of 0, 32 and 33 octets
    ∷ of (1 ∷ release 1 [] 4) 0
    ∷ of (1 ∷ release 1 (replicate 32 7) 4) 0
    ∷ of (1 ∷ release 1 (replicate 33 7) 4) 21
    -- the largest numbers
    ∷ of (1 ∷ release 8 a 4294967295) 0
    ∷ []

judged_so : all_by holds cases ≡ true
unfolding all_by pick then closed read_octet read_number read_times ordered_from releases_fit_b keepable_b few_for all_to filter_by cases holds verdict judged of two release b a row
judged_so = refl

-- ---- there and back
value_of : Got (List FileRelease) → List FileRelease
value_of (got xs r) = xs
value_of bad = []

memory_of : List ℕ → Memory
memory_of s = stored_memory (value_of (closed (releases_format.read s)))

back_again : memory_octets (memory_of two) ≡ two
unfolding pick then closed read_octet read_number read_times ordered_from stored_memory stored_release filed_memory filed_release memory_octets apart filed_all filter_by write_all laid_releases two memory_of release value_of b a
back_again = refl

full_again : memory_octets (memory_of (8 ∷ row 2 4 1 ++ row 8 4 1)) ≡ 8 ∷ row 2 4 1 ++ row 8 4 1
unfolding pick then closed read_octet read_number read_times ordered_from stored_memory stored_release filed_memory filed_release memory_octets apart filed_all filter_by write_all laid_releases memory_of row value_of release
full_again = refl

-- ---- in the memory: oldest first, each tenant apart, zeros past what is used
counts : Memory → List ℕ
counts m = map (λ q. q.count) m.releases

entry : ℕ → ℕ → Memory → Release
entry h k m = get_or (get_or m.releases h no_releases).releases k no_release

kept_apart : counts (memory_of two) ≡ 2 ∷ 0 ∷ 1 ∷ 0 ∷ 0 ∷ 0 ∷ 0 ∷ 0 ∷ []
unfolding pick then closed read_octet read_number read_times ordered_from stored_memory stored_release apart filter_by laid_releases counts memory_of value_of two release b a
kept_apart = refl

first_kept : entry 0 0 (memory_of two) ≡ record { id_len = 3; id = 0 ∷ 66 ∷ 7 ∷ replicate 29 0; xid = 16909060; time = 1000 }
unfolding pick then closed read_octet read_number read_times ordered_from stored_memory stored_release apart filter_by laid_releases entry memory_of value_of two release b a
first_kept = refl

none_kept : entry 0 2 (memory_of two) ≡ record { id_len = 0; id = replicate 32 0; xid = 0; time = 0 }
unfolding pick then closed read_octet read_number read_times ordered_from stored_memory stored_release apart filter_by laid_releases entry memory_of value_of two release b a
none_kept = refl
