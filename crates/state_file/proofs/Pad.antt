-- Laws: one for every loop that fills an array from the front with the values of a row and leaves the rest as it was.
use mathlib.Core.List.{List, ◌∷◌, map}
use mathlib.Core.Path.{◌∙◌, ◌≡◌, ap, ap₂, refl, sym}
use Prim.Native.Nat.{◌*◌, ◌+◌, ◌<◌, ◌≤◌, suc, zero, ℕ}
use native.Mathlib.Nat.{mul-le-mul, suc-mul, zero-mul}
use native.Mathlib.Omega.{arith}
use lib.ListN.{get_or, length, length-map}
use Rattle.format.specs.Place.{row, walk}
use Rattle.format.specs.laws.Fixed.{walk_length}
use Rattle.lists.specs.laws.Pad.{PadInv, pad_end, pad_next, pad_start}
use Rattle.octets.specs.Octets.{at32}
use Rattle.state.specs.declared.ClientRange.{ClientRange}
use Rattle.state.specs.declared.Scope.{Scope}
use Rattle.state_file.specs.File.{FilePart}
use Rattle.state_file.specs.Place.{part_at, range_at, file_scope_at}
use Rattle.state_file.specs.Records.{filled, stored_scope}

row_get : {A : Type 0} (v : List ℕ → ℕ → A) (z n : ℕ) (s : List ℕ) (at i : ℕ) (d : A) → i < n → get_or (row v z n s at) i d ≡ v s (at + i * z)
unfolding walk
row_get v z zero s at i d h = absurd (omega arith)
row_get v z (suc n) s at zero d h = ap (v s) (let q = zero-mul z in let e : at ≡ at + 0 * z = omega arith in e)
row_get v z (suc n) s at (suc i) d h = row_get v z n s (at + z) i d (omega arith) ∙ ap (v s) (let q = suc-mul i z in let e : at + z + i * z ≡ at + suc i * z = omega arith in e)

-- the element at i of k, of z octets each, lies within n octets
pub row_in : (n at i k z : ℕ) → i < k → at + k * z ≤ n → at + (i * z + z) ≤ n
row_in n at i k z h g =
    let e : suc i * z ≤ k * z = mul-le-mul (let a : suc i ≤ k = omega arith in a) (let b : z ≤ z = omega arith in b) in
    let q = suc-mul i z in
    omega arith

pub row_long : {A : Type 0} (w : List ℕ → ℕ → A) (z n : ℕ) (s : List ℕ) (at : ℕ) → length (row w z n s at) ≡ n
row_long w z n s at = walk_length w _ n s at

-- the element at a place of the row
pub row_element : {A : Type 0} (w : List ℕ → ℕ → A) (z n : ℕ) (s : List ℕ) (at i : ℕ) (x d : A) → i < n → x ≡ w s (at + i * z) → x ≡ get_or (row w z n s at) i d
row_element w z n s at i x d h e = e ∙ sym (row_get w z n s at i d h)

pub range_of : (s : List ℕ) (at a b : ℕ) → a ≡ at32 s at → b ≡ at32 s (at + 4) → record { low = a; high = b } ≡ range_at s at
unfolding range_at
range_of s at a b p q = ap₂ {C = ClientRange} (λ (x y : ℕ). record { low = x; high = y }) p q

-- the same under the file's name of a row
module _ {A : Type 0} {z : A} {m : ℕ} {l : List A} {n : ℕ} {out : List A} {i : ℕ} (v : PadInv z m l n out i) where
  pub filled_end : n ≤ i → out ≡ filled z m l
  unfolding filled
  filled_end h = pad_end v h

pub ruleset pads = (pad_start, row_long, pad_next, filled_end, row_element, range_of)

-- ---- scopes
first : (s : List ℕ) (x : ℕ) → (part_at s x).reserve ≡ get_or s (x + 0) 0
unfolding part_at
first s x = ap (λ (k : ℕ). get_or s k 0) (let q : x ≡ x + 0 = omega arith in q)

second : (s : List ℕ) (x : ℕ) → (part_at s x).limit ≡ get_or s (x + 1) 0
unfolding part_at
second s x = refl

-- a part's column is every other octet
column : (f : FilePart → ℕ) (c h : ℕ) (s : List ℕ) (at at' : ℕ) → at' ≡ at + c → ((x : ℕ) → f (part_at s x) ≡ get_or s (x + c) 0)
    → map f (row part_at 2 h s at) ≡ row (λ s at. get_or s at 0) 2 h s at'
unfolding walk
column f c zero s at at' e p = refl
column f c (suc h) s at at' e p =
    ap₂ {C = List ℕ} (λ (x : ℕ) (l : List ℕ). x ∷ l) (p at ∙ ap (λ (k : ℕ). get_or s k 0) (sym e))
    (column f c h s (at + 2) (at' + 2) (let q : at' + 2 ≡ at + 2 + c = omega arith in q) p)

pub scope_of : (h : ℕ) (s : List ℕ) (at a : ℕ) (r l : List ℕ) → a ≡ at32 s at → r ≡ filled 0 8 (row (λ s at. get_or s at 0) 2 h s (at + 6)) → l ≡ filled 0 8 (row (λ s at. get_or s at 0) 2 h s (at + 7))
    → record { lowest = a; size = get_or s (at + 4) 0; ttl = get_or s (at + 5) 0; reserve = r; limit = l } ≡ stored_scope (file_scope_at h s at)
unfolding stored_scope file_scope_at
scope_of h s at a r l ea er el =
    let cr = column (λ p. p.reserve) 0 h s (at + 6) (at + 6) (let q : at + 6 ≡ at + 6 + 0 = omega arith in q) (λ x. first s x) in
    let cl = column (λ p. p.limit) 1 h s (at + 6) (at + 7) (let q : at + 7 ≡ at + 6 + 1 = omega arith in q) (λ x. second s x) in
    let pr : r ≡ filled 0 8 (map (λ p. p.reserve) (row part_at 2 h s (at + 6))) = er ∙ ap (filled 0 8) (sym cr) in
    let pl : l ≡ filled 0 8 (map (λ p. p.limit) (row part_at 2 h s (at + 6))) = el ∙ ap (filled 0 8) (sym cl) in
    cc

pub scopes_long : (h z n : ℕ) (s : List ℕ) (at : ℕ) → length (map stored_scope (row (file_scope_at h) z n s at)) ≡ n
scopes_long h z n s at = length-map (row (file_scope_at h) z n s at) stored_scope ∙ walk_length (file_scope_at h) _ n s at

pub scopes_element : (h z n : ℕ) (s : List ℕ) (at i : ℕ) (x d : Scope) → i < n → x ≡ stored_scope (file_scope_at h s (at + i * z)) → x ≡ get_or (map stored_scope (row (file_scope_at h) z n s at)) i d
unfolding walk
scopes_element h z n s at i x d g e = e ∙ sym (mapped n s at i g)
  where
    mapped : (n : ℕ) (s : List ℕ) (at i : ℕ) → i < n → get_or (map stored_scope (row (file_scope_at h) z n s at)) i d ≡ stored_scope (file_scope_at h s (at + i * z))
    mapped zero s at i g = absurd (omega arith)
    mapped (suc n) s at zero g = ap (λ (k : ℕ). stored_scope (file_scope_at h s k)) (let q = zero-mul z in let e : at ≡ at + 0 * z = omega arith in e)
    mapped (suc n) s at (suc i) g = mapped n s (at + z) i (omega arith) ∙ ap (λ (k : ℕ). stored_scope (file_scope_at h s k)) (let q = suc-mul i z in let e : at + z + i * z ≡ at + suc i * z = omega arith in e)

pub ruleset scope_pads = (pad_start, pad_next, filled_end, scopes_long, scopes_element, scope_of)
