-- Definitions: the report of address-seconds (document 02, W-213) on the files that it takes, as they were read: which file is refused, each total, and what is
-- printed. A house is a tenant here; tenants and places of scopes count from 0, a lease's scope and the place of a file from 1.
use Rattle.std.specs.Prelude.{ℕ, ◌+◌, ◌-◌, ◌*◌, min, max, Bool, ◌&&◌, List, [], ◌∷◌, ◌++◌, eqb, ltb, length, Result}
use Rattle.lists.specs.Pick.{pick}
use Rattle.lists.specs.Same.{same_by}
use Rattle.address_set.specs.AddressSet.{offsets}
use Rattle.state.specs.declared.Lease.{Lease}
use Rattle.state.specs.declared.ClientRange.{ClientRange}
use Rattle.state.specs.declared.Scope.{Scope}
use Rattle.state.specs.declared.State.{State}
use Rattle.state.specs.Book.{in_use, tenant_at, is_lease, in_scope, scope_at}
use Rattle.soundness.specs.Sound.{one_to, tenants_in, scopes_in}
use Rattle.state_file.specs.declared.Loaded.{Loaded}
use Rattle.state_file.specs.declared.Refusal.{Refusal as ReadRefusal}
use Rattle.state_file.specs.StateFile.{book_in, refusal_number, zero_state}
use Rattle.number_text.specs.Text.{dotted, field, lines_to}

-- a file as it was read
abbrev pub Reading : Type 0
Reading = Result Loaded ReadRefusal

-- ---- totals
-- the address-seconds that a lease covers from clock c to clock n: its addresses, times the seconds of its period between the two
unfoldable pub covered : ℕ → ℕ → Lease → ℕ
covered c n l = length (offsets l.addresses) * (min l.end n - max l.start c)

unfoldable pub sum_over : (Lease → ℕ) → List Lease → ℕ
sum_over f [] = 0
sum_over f (l ∷ ls) = f l + sum_over f ls

-- a lease of scope s: "Holds aren't counted"
unfoldable pub counted : ℕ → Lease → Bool
counted s l = is_lease l && in_scope s l

-- what a tenant's leases in scope s cover
unfoldable pub covered_in : ℕ → ℕ → ℕ → List Lease → ℕ
covered_in s c n ls = sum_over (λ l. pick (counted s l) (covered c n l) 0) ls

abbrev pub clock_of : Reading → ℕ
clock_of f = (book_in f).state.clock

-- a tenant's leases and holds in a file
abbrev pub records_in : Reading → ℕ → List Lease
records_in f g = in_use (tenant_at (book_in f).table g)

-- "From each file's clock to the next file's clock it adds, for each scope and house, the address-seconds that the leases in the earlier file cover": tenant g's
-- in the scope at place k
unfoldable pub total_of : ℕ → ℕ → List Reading → ℕ
total_of k g [] = 0
total_of k g (f ∷ []) = 0
total_of k g (f ∷ h ∷ fs) = covered_in (k + 1) (clock_of f) (clock_of h) (records_in f g) + total_of k g (h ∷ fs)

-- ---- refusals
unfoldable pub same_range : ClientRange → ClientRange → Bool
same_range a b = eqb a.low b.low && eqb a.high b.high

unfoldable pub same_pool : Scope → Scope → Bool
same_pool a b = eqb a.lowest b.lowest && (eqb a.size b.size && eqb a.ttl b.ttl)

unfoldable pub same_scope : Scope → Scope → Bool
same_scope a b = same_pool a b && (same_by eqb a.reserve b.reserve && same_by eqb a.limit b.limit)

-- server address, and how many houses and scopes
unfoldable pub same_counts : State → State → Bool
same_counts a b = eqb a.server b.server && (eqb a.tenant_count b.tenant_count && eqb a.scope_count b.scope_count)

-- "server address, houses or scopes (names aside)": that they are the same; names are no part of a state
unfoldable pub same_settings : State → State → Bool
same_settings a b = same_counts a b && (same_by same_range a.tenants b.tenants && same_by same_scope a.scopes b.scopes)

-- whether a file may follow: its settings are the first file's, its clock is later than c, that of the one before
unfoldable pub follows : State → ℕ → Reading → Bool
follows first c f = same_settings first (book_in f).state && ltb c (clock_of f)

-- a refusal's number and the file's place; 0 and 0 for none
pub record Refusal : Type 0 where
  pub number : ℕ
  pub place : ℕ

abbrev pub refusal : ℕ → ℕ → Refusal
refusal n p = record { number = n; place = p }

-- the number that draws a file after the first, or 0: "20 (unopenable too), 21, and 26 if its server address, houses or scopes (names aside) differ from the
-- first file's, or its clock isn't later than the one before". What can't be opened has no octets, so that its form is wrong
unfoldable pub number_of : State → ℕ → Reading → ℕ
number_of first c f = pick (eqb (refusal_number f) 0) (pick (follows first c f) 0 26) (refusal_number f)

-- "file by file": the first that is refused of those from place p on
unfoldable pub refusal_from : State → ℕ → ℕ → List Reading → Refusal
refusal_from first c p [] = refusal 0 0
refusal_from first c p (f ∷ fs) = pick (eqb (number_of first c f) 0) (refusal_from first (clock_of f) (p + 1) fs) (refusal (number_of first c f) p)

-- the same from the first file on
unfoldable pub refusal_in : List Reading → Refusal
refusal_in [] = refusal 0 0
refusal_in (f ∷ fs) = pick (eqb (refusal_number f) 0) (refusal_from (book_in f).state (clock_of f) 2 fs) (refusal (refusal_number f) 1)

-- "The report takes 1 to 1,000 campus files"
abbrev pub most_files : ℕ
most_files = 1000

-- "26 with place 0 if there is no file or there are too many; then file by file"
unfoldable pub refusal_of : List Reading → Refusal
refusal_of fs = pick (one_to most_files (length fs)) (refusal_in fs) (refusal 26 0)

-- ---- what is printed
-- "scope house total"
abbrev pub header_line : List ℕ
header_line = 115 ∷ 99 ∷ 111 ∷ 112 ∷ 101 ∷ 32 ∷ 104 ∷ 111 ∷ 117 ∷ 115 ∷ 101 ∷ 32 ∷ 116 ∷ 111 ∷ 116 ∷ 97 ∷ 108 ∷ 10 ∷ []

-- "address, house and total"
unfoldable pub line_text : ℕ → ℕ → ℕ → List ℕ
line_text a g total = dotted a ++ field g ++ field total ++ 10 ∷ []

-- "Lines by scope, then house, give address, house and total": that of tenant g in the scope at place k, with the settings and each total
unfoldable pub total_line : State → (ℕ → ℕ → ℕ) → ℕ → ℕ → List ℕ
total_line s total k g = line_text (scope_at s k).lowest (g + 1) (total k g)

unfoldable pub scope_lines : State → (ℕ → ℕ → ℕ) → ℕ → List ℕ
scope_lines s total k = lines_to (total_line s total k) (tenants_in s)

unfoldable pub total_lines : State → (ℕ → ℕ → ℕ) → List ℕ
total_lines s total = lines_to (scope_lines s total) (scopes_in s)

abbrev pub report_text : State → (ℕ → ℕ → ℕ) → List ℕ
report_text s total = header_line ++ total_lines s total

-- "`refused`, number and file's place, as `refused 21 3`"
unfoldable pub refused_text : ℕ → ℕ → List ℕ
refused_text n p = 114 ∷ 101 ∷ 102 ∷ 117 ∷ 115 ∷ 101 ∷ 100 ∷ field n ++ field p ++ 10 ∷ []

-- the first file's settings
unfoldable pub settings_of : List Reading → State
settings_of [] = zero_state
settings_of (f ∷ fs) = (book_in f).state

-- "the time from first clock to last"
unfoldable pub last_clock : List Reading → ℕ
last_clock [] = 0
last_clock (f ∷ []) = clock_of f
last_clock (f ∷ h ∷ fs) = last_clock (h ∷ fs)

abbrev pub time_of : List Reading → ℕ
time_of fs = last_clock fs - (settings_of fs).clock

-- all that is printed for a list of files: "Refusals print only `refused`, number and file's place"
unfoldable pub printed_of : List Reading → List ℕ
printed_of fs =
    pick (eqb (refusal_of fs).number 0) (report_text (settings_of fs) (λ k g. total_of k g fs))
    (refused_text (refusal_of fs).number (refusal_of fs).place)
