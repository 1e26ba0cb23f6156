-- Statement: where a datagram goes wrong (document 02, W-206), on the list of its options as they stand one after the other. Nothing here speaks
-- of the walk by which the code reads them; `FaultsRight` joins the two.
use Rattle.std.specs.Prelude.{ℕ, zero, suc, ◌+◌, ◌≡◌, Bool, true, false, not, ◌&&◌, ◌⊎◌, List, [], ◌∷◌, ◌++◌, map, length, eqb, leb, ltb}
use Rattle.lists.specs.Pick.{pick}
use Rattle.lists.specs.All.{all_by}
use Rattle.lists.specs.Filter.{filter_by, is_in}
use Rattle.octets.specs.Octets.{at16}
use Rattle.message.specs.Codes.{length_ok}
use Rattle.message.specs.Walk.{exactly_filled}
use Rattle.message.specs.Read.{header_ok, read_of}

-- ---- the options of a datagram
-- one of them: its offset in the datagram, "code(2), length(2), value"
pub record Standing : Type 0 where
  pub offset : ℕ
  pub code : ℕ
  pub size : ℕ

-- what stands at an offset; octets past the datagram's end read as 0, and it does not fit then
unfoldable pub standing_at : List ℕ → ℕ → Standing
standing_at d at = record { offset = at; code = at16 d at; size = at16 d (at + 2) }

-- the offset after it
unfoldable pub after : Standing → ℕ
after o = o.offset + 4 + o.size

-- all from an offset on, one after the other as long as there are octets, at most k. One that runs past the datagram's end is the last, and so
-- are "one to three octets left over", which "count as one"
unfoldable pub options_from : ℕ → List ℕ → ℕ → List Standing
options_from zero d at = []
options_from (suc k) d at = pick (ltb at (length d)) (standing_at d at ∷ options_from k d (after (standing_at d at))) []

-- they follow the header of eight octets; no datagram has more options than octets
unfoldable pub options_of : List ℕ → List Standing
options_of d = options_from (length d) d 8

abbrev pub codes_of : List Standing → List ℕ
codes_of os = map (λ o. o.code) os

-- ---- the rules of test 5: "layout, length, repeat, End"
-- it lies within the datagram
unfoldable pub fits : List ℕ → Standing → Bool
fits d o = leb (after o) (length d)

-- it has a length by the table, and option 12 is "exactly filled"
unfoldable pub length_right : List ℕ → Standing → Bool
length_right d o = length_ok o.code o.size && pick (eqb o.code 12) (exactly_filled d (o.offset + 4) (after o)) true

-- "End .. is the last four octets"
unfoldable pub end_right : List ℕ → Standing → Bool
end_right d o = pick (eqb o.code 0) (eqb (o.offset + 4) (length d)) true

-- "A code from 1 to 16 comes at most once": no option before it has its code, so that "of a repeat the later" breaks the rule
unfoldable pub options_before : List ℕ → ℕ → List Standing
options_before d at = filter_by (λ o. ltb o.offset at) (options_of d)

unfoldable pub no_repeat : List ℕ → Standing → Bool
no_repeat d o = pick (leb 1 o.code && leb o.code 16) (not (is_in o.code (codes_of (options_before d o.offset)))) true

unfoldable pub keeps_rules : List ℕ → Standing → Bool
keeps_rules d o = fits d o && (length_right d o && (end_right d o && no_repeat d o))

-- ---- the faults
-- "End is required", "Option 3 is required"
unfoldable pub has_required : List ℕ → Bool
has_required d = is_in 0 (codes_of (options_of d)) && is_in 3 (codes_of (options_of d))

-- "the offset in the datagram of the first option that breaks a rule of test 5 ..; else, for a missing End or identifier, the datagram's length":
-- the offsets of all that break one, in their order, and then that length. The first of these is the one to report
unfoldable pub faults_of : List ℕ → List ℕ
faults_of d = map (λ o. o.offset) (filter_by (λ o. not (keeps_rules d o)) (options_of d)) ++ pick (has_required d) [] (length d ∷ [])

-- the first of them in other words: every option before it keeps the rules and it does not; or all do, and one is missing
pub record FirstBroken (d : List ℕ) (n : ℕ) : Type 0 where
  pub before : List Standing
  pub option : Standing
  pub later : List Standing
  pub stand : options_of d ≡ before ++ (option ∷ later)
  pub good : all_by (keeps_rules d) before ≡ true
  pub bad : keeps_rules d option ≡ false
  pub there : n ≡ option.offset

pub record Missing (d : List ℕ) (n : ℕ) : Type 0 where
  pub good : all_by (keeps_rules d) (options_of d) ≡ true
  pub lacks : has_required d ≡ false
  pub there : n ≡ length d

-- ---- the theorem: what the reader (`read_of`, which the code is proved to compute) reports
pub record FaultRight (d : List ℕ) : Type 0 where
  -- a datagram that passes test 4 has discard 5 exactly if it has a fault, and "Discard 5 carries" the first
  pub carried : header_ok d ≡ true → (n : ℕ) (more : List ℕ) → faults_of d ≡ n ∷ more → ((read_of d).discard ≡ 5) × ((read_of d).fault ≡ n)
  pub only : (read_of d).discard ≡ 5 → (header_ok d ≡ true) × ((more : List ℕ) × (faults_of d ≡ (read_of d).fault ∷ more))
  pub first : (read_of d).discard ≡ 5 → FirstBroken d (read_of d).fault ⊎ Missing d (read_of d).fault
  -- "every other outcome 0"
  pub other : ((read_of d).discard ≡ 5 → ⊥) → (read_of d).fault ≡ 0

unfoldable pub FaultsRight : Type 0
FaultsRight = (d : List ℕ) → FaultRight d
