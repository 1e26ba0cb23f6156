-- Definitions: where the value that stands at a place of the octets ends: what every function that walks over octets promises.
use Rattle.std.specs.Prelude.{◌⊎◌, Bool, false, true, List, [], ◌∷◌, ◌≡◌, ◌*◌, ◌+◌, ◌≤◌, suc, zero, ℕ, leb, ltb, drop, get_or, length, None, Option, Some}
use Rattle.lists.specs.Pick.{pick}
use Rattle.format.specs.Format.{Format, Got, bad, got}

-- the value x stands at `at`, and what follows it starts at n
pub record Stands {A : Type 0} (f : Format A) (s : List ℕ) (at : ℕ) (x : A) (n : ℕ) : Type 0 where
  pub reads : f.read (drop at s) ≡ got x (drop n s)

-- no value stands there
pub record Fails {A : Type 0} (f : Format A) (s : List ℕ) (at : ℕ) : Type 0 where
  pub reads : f.read (drop at s) ≡ bad

-- a value of at least `least` octets stands at `at` and ends at n, in `Some n`; or none stands there, in `None`
unfoldable pub EndsBy : {A : Type 0} → Format A → List ℕ → ℕ → ℕ → Option ℕ → Type 0
EndsBy {A} f s at least (Some n) = (x : A) × Stands f s at x n × (at + least ≤ n) × (n ≤ length s)
EndsBy f s at least None = Fails f s at

pub record Ends {A : Type 0} (f : Format A) (s : List ℕ) (at least : ℕ) (r : Option ℕ) : Type 0 where
  pub by : EndsBy f s at least r

-- the same of the value x
unfoldable pub EndsWith : {A : Type 0} → Format A → A → List ℕ → ℕ → ℕ → Option ℕ → Type 0
EndsWith f x s at least (Some n) = Stands f s at x n × (at + least ≤ n) × (n ≤ length s)
EndsWith f x s at least None = Fails f s at

pub record EndsAs {A : Type 0} (f : Format A) (x : A) (s : List ℕ) (at least : ℕ) (r : Option ℕ) : Type 0 where
  pub by : EndsWith f x s at least r

-- whether reading gives a value and leaves nothing over
unfoldable pub is_whole : {A : Type 0} → Got A → Bool
is_whole (got x []) = true
is_whole (got x (y ∷ r)) = false
is_whole bad = false

-- ---- values in a row
-- the values of n in a row, each of which says where the next starts
unfoldable pub walk : {A : Type 0} → (List ℕ → ℕ → A) → (List ℕ → ℕ → ℕ) → ℕ → List ℕ → ℕ → List A
walk v next zero s at = []
walk v next (suc n) s at = v s at ∷ walk v next n s (next s at)

-- each of z octets
abbrev pub row : {A : Type 0} → (List ℕ → ℕ → A) → ℕ → ℕ → List ℕ → ℕ → List A
row v z n s at = walk v (λ s at. at + z) n s at

-- where n steps from a place on lead: each starts where the one before it ended; nowhere if one of them leads nowhere
unfoldable pub Leads : (ℕ → Option ℕ → Type 0) → ℕ → ℕ → Option ℕ → Type 0
Leads step zero at r = r ≡ Some at
Leads step (suc n) at r = ((m : ℕ) × step at (Some m) × Leads step n m r) ⊎ (step at None × (r ≡ None))

-- P holds of each of the n places
unfoldable pub EachAt : (List ℕ → ℕ → Type 0) → (List ℕ → ℕ → ℕ) → ℕ → List ℕ → ℕ → Type 0
EachAt P next zero s at = Unit {0}
EachAt P next (suc n) s at = P s at × EachAt P next n s (next s at)

-- where a count and as many values of z octets end
unfoldable pub counted_end : List ℕ → ℕ → ℕ → Option ℕ
counted_end s at z = pick (leb (length s) at) None (pick (ltb (length s) (at + 1 + get_or s at 0 * z)) None (Some (at + 1 + get_or s at 0 * z)))
