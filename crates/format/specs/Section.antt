-- Definitions: a section: entries in order, after a one-octet count. What each entry is (f), what of it the next is compared with (key), and when an
-- entry is out of order after a key (wrong). And a value's octets, kept as they are.
use Rattle.std.specs.Prelude.{Bool, false, true, List, [], ◌∷◌, ◌≡◌, ◌+◌, ◌-◌, ◌≤◌, ℕ, get_or, length, take, None, Option, Some}
use Rattle.lists.specs.Pick.{pick}
use Rattle.format.specs.Format.{Format, counted, got, only, then, times}
use Rattle.format.specs.Place.{EachAt, EndsAs, walk}

-- none is out of order after the one before it, the first after k
unfoldable pub ordered_from : {A K : Type 0} → (A → K) → (K → A → Bool) → K → List A → Bool
ordered_from key wrong k [] = true
ordered_from key wrong k (x ∷ l) = pick (wrong k x) false (ordered_from key wrong (key x) l)

-- n entries
abbrev pub in_order : {A K : Type 0} → (A → K) → (K → A → Bool) → K → ℕ → Format A → Format (List A)
in_order key wrong k n f = only (ordered_from key wrong k) (times n f)

abbrev pub section_format : {A K : Type 0} → (A → K) → (K → A → Bool) → K → Format A → Format (List A)
section_format key wrong k f = only (ordered_from key wrong k) (counted f)

-- ---- an entry whose value and end go by its place
unfoldable pub IsAt : ℕ → Option ℕ → Type 0
IsAt m (Some n) = n ≡ m
IsAt m None = Unit {0}

pub record EntryEnds {A : Type 0} (f : Format A) (v : List ℕ → ℕ → A) (next : List ℕ → ℕ → ℕ) (s : List ℕ) (at : ℕ) (r : Option ℕ) : Type 0 where
  pub ends : EndsAs f (v s at) s at 1 r
  pub there : IsAt (next s at) r

-- an entry lies within the octets
pub record Inside (next : List ℕ → ℕ → ℕ) (s : List ℕ) (at : ℕ) : Type 0 where
  pub room : next s at ≤ length s

-- n entries in a row, which lie within the octets
abbrev pub InRow : (List ℕ → ℕ → ℕ) → List ℕ → ℕ → ℕ → Type 0
InRow next s at n = EachAt (Inside next) next n s at

unfoldable pub Found : Option ℕ → Type 0 → Type 0
Found (Some n) P = P
Found None P = Unit {0}

-- where n entries in order end, the first of them after k
pub record RowEnds {A K : Type 0} (key : A → K) (wrong : K → A → Bool) (k : K) (f : Format A) (v : List ℕ → ℕ → A) (next : List ℕ → ℕ → ℕ) (n : ℕ) (s : List ℕ) (from : ℕ) (r : Option ℕ) : Type 0 where
  pub ends : EndsAs (in_order key wrong k n f) (walk v next n s from) s from n r
  pub each : Found r (InRow next s from n)

-- where a section ends
pub record SectionEnds {A K : Type 0} (key : A → K) (wrong : K → A → Bool) (k : K) (f : Format A) (v : List ℕ → ℕ → A) (next : List ℕ → ℕ → ℕ) (s : List ℕ) (at : ℕ) (r : Option ℕ) : Type 0 where
  pub ends : EndsAs (section_format key wrong k f) (walk v next (get_or s at 0) s (at + 1)) s at 1 r
  pub each : Found r ((at + 1 ≤ length s) × InRow next s (at + 1) (get_or s at 0))

-- ---- the octets of a value, kept as they are
abbrev pub verbatim : {A : Type 0} → Format A → Format (List ℕ)
verbatim {A} f = record {
  read = λ s. then (f.read s) (λ x r. got (take (length s - length r) s) r);
  write = λ o. o;
  ok = λ o. (x : A) × (f.ok x) × (o ≡ f.write x);
}
