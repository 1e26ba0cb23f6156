-- Laws: one for every loop that writes the octets of the first elements of an array, an element a turn, and one for their number.
use mathlib.Core.List.{List, [], ◌++◌, ◌∷◌, append_assoc, append-nil, map}
use Rattle.std.proofs.Common.{◌∙◌, subst, suc-mul, zero-mul, add-one, length-take, take_all}
use Rattle.std.specs.Prelude.{◌≡◌, get_or, take}
use Rattle.std.proofs.Math.Path.{ap, ap₂, refl, sym}
use Prim.Native.Nat.{◌*◌, ◌+◌, ◌<◌, ◌≤◌, min, suc, zero, ℕ}
use native.Mathlib.Omega.{arith}
use Rattle.std.proofs.Math.ListN.{length, length-append}
use Rattle.lists.specs.All.{All}
use Rattle.lists.specs.laws.All.{all_any}
use Rattle.lists.specs.laws.Part.{cut_take, unmapped}
use Rattle.lists.specs.laws.Sums.{sum_one_more}
use Rattle.lists.specs.Sums.{sum_to}
use Rattle.octets.specs.laws.Octets.{wrote_joined, wrote_as, wrote_none}
use Rattle.octets.specs.Octets.{Wrote}
use Rattle.format.specs.Format.{write_all}
use Rattle.format.specs.Rows.{write_from}
use Rattle.format.specs.Tenants.{filed_all}

module _ {A : Type 0} (w : ℕ → A → List ℕ) (d : A) where
  -- one more
  from_next : (k i : ℕ) (l : List A) → i < length l → write_from w k (take (suc i) l) ≡ write_from w k (take i l) ++ w (k + i) (get_or l i d)
  unfolding write_from
  from_next k i [] h = absurd (omega arith)
  from_next k zero (x ∷ l) h = append-nil (w k x) ∙ ap (λ (j : ℕ). w j x) (let e : k ≡ k + 0 = omega arith in e)
  from_next k (suc i) (x ∷ l) h =
      ap (λ (r : List ℕ). w k x ++ r) (from_next (suc k) i l (let g : i < length l = omega arith in g))
      ∙ sym (append_assoc (w k x) (write_from w (suc k) (take i l)) (w (suc k + i) (get_or l i d)))
      ∙ ap (λ (j : ℕ). (w k x ++ write_from w (suc k) (take i l)) ++ w j (get_or l i d)) (let e : suc k + i ≡ k + suc i = omega arith in e)

  pub row_more : (i : ℕ) (l : List A) → i < length l → write_from w 0 (take (i + 1) l) ≡ write_from w 0 (take i l) ++ w i (get_or l i d)
  row_more i l h =
      ap (λ (j : ℕ). write_from w 0 (take j l)) (add-one i) ∙ from_next 0 i l h
      ∙ ap (λ (j : ℕ). write_from w 0 (take i l) ++ w j (get_or l i d)) (let e : 0 + i ≡ i = omega arith in e)

  -- the first of a row are no longer than the row
  from_short : (k i : ℕ) (l : List A) → length (write_from w k (take i l)) ≤ length (write_from w k l)
  unfolding write_from
  from_short k i [] = go i
    where
      go : (i : ℕ) → length (write_from w k (take i [])) ≤ 0
      go zero = omega arith
      go (suc i) = omega arith
  from_short k zero (x ∷ l) = omega arith
  from_short k (suc i) (x ∷ l) =
      let ih = from_short (suc k) i l in
      let a = length-append (w k x) (write_from w (suc k) (take i l)) in
      let b = length-append (w k x) (write_from w (suc k) l) in
      omega arith

  -- the octets of the first n, one by one
  pub row_size : (n : ℕ) (l : List A) → n ≤ length l → length (write_from w 0 (take n l)) ≡ sum_to (λ i. length (w i (get_or l i d))) n
  unfolding sum_to write_from
  row_size zero l h = refl
  row_size (suc n) l h =
      ap length (from_next 0 n l (omega arith) ∙ ap (λ (j : ℕ). write_from w 0 (take n l) ++ w j (get_or l n d)) (let e : 0 + n ≡ n = omega arith in e))
      ∙ length-append (write_from w 0 (take n l)) (w n (get_or l n d))
      ∙ ap (λ (k : ℕ). k + length (w n (get_or l n d))) (row_size n l (omega arith))

take_take : {A : Type 0} (i n : ℕ) (l : List A) → i ≤ n → take i (take n l) ≡ take i l
take_take zero n [] h = refl
take_take zero n (x ∷ l) h = refl
take_take (suc i) zero l h = absurd (omega arith)
take_take (suc i) (suc n) [] h = refl
take_take {A} (suc i) (suc n) (x ∷ l) h = ap {B = List A} (λ (r : List A). x ∷ r) (take_take i n l (let g : i ≤ n = omega arith in g))

-- n of the c elements asked for are there, among m; i are written
pub record RowInv {A : Type 0} (w : ℕ → A → List ℕ) (d : A) (l : List A) (m c n : ℕ) (r₀ : List ℕ) (at : ℕ) (buffer : List ℕ) (to i : ℕ) : Type 0 where
  pub cut : n ≡ min c m
  pub many : length l ≡ m
  pub within : i ≤ n
  pub fits : at + length (write_from w 0 (take c l)) ≤ length r₀
  pub kept : length buffer ≡ length r₀
  pub wrote : Wrote r₀ at (write_from w 0 (take i l)) buffer to

pub row_start : {A : Type 0} {w : ℕ → A → List ℕ} {d : A} {l : List A} {m c n : ℕ} {r₀ : List ℕ} {at : ℕ} → n ≡ min c m → length l ≡ m → at + length (write_from w 0 (take c l)) ≤ length r₀
    → RowInv w d l m c n r₀ at r₀ at 0
unfolding write_from
row_start {r₀ = r₀} {at = at} e g h = record { cut = e; many = g; within = omega arith; fits = h; kept = refl; wrote = wrote_none r₀ at }

-- the same for a whole array
pub row_whole : {A : Type 0} {w : ℕ → A → List ℕ} {d : A} {l : List A} {m : ℕ} {r₀ : List ℕ} {at : ℕ} → length l ≡ m → at + length (write_from w 0 l) ≤ length r₀
    → RowInv w d l m m m r₀ at r₀ at 0
row_whole {w = w} {l = l} {m = m} {r₀ = r₀} {at = at} e h =
    row_start (let q : m ≡ min m m = omega arith in q) e (subst (λ (x : List _). at + length (write_from w 0 x) ≤ length r₀) (sym (take_all m l (omega arith))) h)

module _ {A : Type 0} {w : ℕ → A → List ℕ} {d : A} {l : List A} {m c n : ℕ} {r₀ : List ℕ} {at : ℕ} {buffer : List ℕ} {to i : ℕ} (v : RowInv w d l m c n r₀ at buffer to i) where
  whole_row : take n l ≡ take c l
  whole_row = ap (λ (k : ℕ). take k l) v.cut ∙ cut_take m c l v.many

  pub row_room : i < n → to + length (w i (get_or l i d)) ≤ length buffer
  row_room h =
      let a = from_short w d 0 (i + 1) (take n l) in
      let t : take (i + 1) (take n l) ≡ take (i + 1) l = take_take (i + 1) n l (omega arith) in
      let q = ap (λ (x : List A). length (write_from w 0 x)) t in
      let z = ap (λ (x : List A). length (write_from w 0 x)) whole_row in
      let b : length (write_from w 0 (take (i + 1) l)) ≡ length (write_from w 0 (take i l)) + length (w i (get_or l i d)) =
      ap length (row_more w d i l (omega (arith, v.cut, v.many))) ∙ length-append (write_from w 0 (take i l)) (w i (get_or l i d)) in
      omega (arith, v.fits, v.kept, v.wrote.next)

  pub row_next : {r₁ : List ℕ} {k : ℕ} → i < n → Wrote buffer to (w i (get_or l i d)) r₁ k → length r₁ ≡ length buffer → RowInv w d l m c n r₀ at r₁ k (i + 1)
  row_next {r₁} {k} h p q = record {
    cut = v.cut;
    many = v.many;
    within = omega arith;
    fits = v.fits;
    kept = q ∙ v.kept;
    wrote = wrote_as (sym (row_more w d i l (omega (arith, v.cut, v.many)))) (wrote_joined (omega (arith, v.fits)) v.wrote p);
  }

  pub row_end : n ≤ i → Wrote r₀ at (write_from w 0 (take c l)) buffer to
  row_end h = wrote_as (ap (λ (x : List A). write_from w 0 x) (ap (λ (k : ℕ). take k l) (let e : i ≡ n = omega (arith, v.within) in e) ∙ whole_row)) v.wrote

pub row_done : {A : Type 0} {w : ℕ → A → List ℕ} {d : A} {l : List A} {m : ℕ} {r₀ : List ℕ} {at : ℕ} {buffer : List ℕ} {to i : ℕ} → RowInv w d l m m m r₀ at buffer to i → m ≤ i → Wrote r₀ at (write_from w 0 l) buffer to
row_done {w = w} {l = l} {m = m} v h = wrote_as (ap (λ (x : List _). write_from w 0 x) (take_all m l (omega (arith, v.many)))) (row_end v h)

pub ruleset rows = (row_start, row_whole, row_end, row_done, unmapped)

-- ---- sums
pub record SizeInv (f : ℕ → ℕ) (most n sum i : ℕ) : Type 0 where
  pub within : i ≤ n
  pub whole : sum ≡ sum_to f i
  pub small : sum ≤ i * most

pub size_start : {f : ℕ → ℕ} {most n : ℕ} → SizeInv f most n 0 0
unfolding sum_to
size_start {most = most} = record { within = omega arith; whole = refl; small = let e = zero-mul most in omega arith }

module _ {f : ℕ → ℕ} {most n sum i : ℕ} (v : SizeInv f most n sum i) where
  pub size_next : (r : ℕ) → i < n → r ≡ f i → r ≤ most → SizeInv f most n (sum + r) (i + 1)
  size_next r h e g = record {
    within = omega arith;
    whole = ap₂ (λ (x y : ℕ). x + y) v.whole e ∙ sym (sum_one_more f i);
    small =
        let q = suc-mul i most in
        let p : (i + 1) * most ≡ i * most + most = ap (λ (k : ℕ). k * most) (add-one i) ∙ q in
        omega (arith, v.small);
  }

  pub size_end : n ≤ i → sum ≡ sum_to f n
  size_end h = v.whole ∙ ap (sum_to f) (let e : i ≡ n = omega (arith, v.within) in e)

pub ruleset sizes = (size_start, size_next, size_end, unmapped)

-- the octets of a row cut to its array, one by one
pub row_sum : {A : Type 0} (w : ℕ → A → List ℕ) (d : A) (l : List A) (m c n sum : ℕ) → length l ≡ m → n ≡ min c m → sum ≡ sum_to (λ i. length (w i (get_or l i d))) n → sum ≡ length (write_from w 0 (take c l))
row_sum {A} w d l m c n sum e g p =
    p ∙ sym (row_size w d n l (omega arith)) ∙ ap (λ (x : List A). length (write_from w 0 x)) (ap (λ (k : ℕ). take k l) g ∙ cut_take m c l e)

-- the octets of a whole row, one by one
pub sum_row : {A : Type 0} (w : ℕ → A → List ℕ) (d : A) (l : List A) {k : List A} {sum : ℕ} → l ≡ k → sum ≡ sum_to (λ i. length (w i (get_or l i d))) (length l) → sum ≡ length (write_from w 0 k)
sum_row {A} w d l e p =
    p ∙ sym (row_size w d (length l) l (omega arith)) ∙ ap (λ (x : List A). length (write_from w 0 x)) (take_all (length l) l (omega arith) ∙ e)

-- rows whose elements are as long are as long
pub row_same : {A : Type 0} (w u : ℕ → A → List ℕ) → ((k : ℕ) (x : A) → length (w k x) ≡ length (u k x)) → (k : ℕ) (l : List A) → length (write_from w k l) ≡ length (write_from u k l)
unfolding write_from
row_same w u e k [] = refl
row_same w u e k (x ∷ l) =
    length-append (w k x) (write_from w (suc k) l) ∙ ap₂ (λ (a b : ℕ). a + b) (e k x) (row_same w u e (suc k) l) ∙ sym (length-append (u k x) (write_from u (suc k) l))

-- ---- a row and what a format writes
pub row_all : {A : Type 0} (w : A → List ℕ) (k : ℕ) (l : List A) → write_from (λ _ x. w x) k l ≡ write_all w l
unfolding write_from write_all
row_all w k [] = refl
row_all w k (x ∷ l) = ap (λ (r : List ℕ). w x ++ r) (row_all w (suc k) l)

pub write_append : {A : Type 0} (w : A → List ℕ) (x y : List A) → write_all w (x ++ y) ≡ write_all w x ++ write_all w y
unfolding write_all
write_append w [] y = refl
write_append w (a ∷ x) y = ap (λ (l : List ℕ). w a ++ l) (write_append w x y) ∙ sym (append_assoc (w a) (write_all w x) (write_all w y))

-- the entries of a tenant's records, and of all tenants', whose records are read off by `records`
module _ {A B : Type 0} (w : A → List ℕ) (file : ℕ → B → A) where
  pub filed_octets : (t k : ℕ) (l : List B) → write_all w (map (file t) l) ≡ write_from (λ _ y. w (file t y)) k l
  unfolding write_all write_from
  filed_octets t k [] = refl
  filed_octets t k (x ∷ l) = ap (λ (r : List ℕ). w (file t x) ++ r) (filed_octets t (suc k) l)

  pub tenants_octets : {H : Type 0} (records : H → List B) (k : ℕ) (hs : List H) → write_all w (filed_all file (k + 1) (map records hs)) ≡ write_from (λ i h. write_from (λ _ y. w (file (i + 1) y)) 0 (records h)) k hs
  unfolding write_from write_all filed_all
  tenants_octets records k [] = refl
  tenants_octets {H} records k (h ∷ hs) =
      write_append w (map (file (k + 1)) (records h)) (filed_all file (suc (k + 1)) (map records hs))
      ∙ ap₂ {C = List ℕ} (λ (x y : List ℕ). x ++ y) (filed_octets (k + 1) 0 (records h))
      (ap (λ (j : ℕ). write_all w (filed_all file j (map records hs))) (let e : suc (k + 1) ≡ suc k + 1 = omega arith in e) ∙ tenants_octets records (suc k) hs)

-- values of at most so many octets each
pub write_most : {A : Type 0} (w : A → List ℕ) (P : A → Type 0) (most : ℕ) → ((x : A) → P x → length (w x) ≤ most) → (l : List A) → All P l → length (write_all w l) ≤ length l * most
unfolding write_all All
write_most w P most f [] h = let z = zero-mul most in omega arith
write_most w P most f (x ∷ l) h =
    let ih = write_most w P most f l h.1 in
    let a = length-append (w x) (write_all w l) in
    let b = f x h.0 in
    let c = suc-mul (length l) most in
    omega arith

pub all_most : {A : Type 0} (w : A → List ℕ) (most : ℕ) → ((x : A) → length (w x) ≤ most) → (l : List A) → length (write_all w l) ≤ length l * most
all_most {A} w most f l = write_most w (λ _. Unit {0}) most (λ x h. f x) l (all_any (λ (_ : A). Unit {0}) (λ x. tt) l)

-- a count in front
pub count_is : {A : Type 0} (m c n : ℕ) (l : List A) → length l ≡ m → n ≡ min c m → n ≡ length (take c l)
count_is m c n l e p = p ∙ ap (min c) (sym e) ∙ sym (length-take c l)

pub section_wrote : {r₀ r₁ r₂ xs : List ℕ} {at a b n : ℕ} (k : ℕ) → at ≤ length r₀ → n ≡ k → Wrote r₀ at (n ∷ []) r₁ a → Wrote r₁ a xs r₂ b → Wrote r₀ at (k ∷ xs) r₂ b
section_wrote k h e p q = wrote_joined h (wrote_as (ap {B = List ℕ} (λ (n : ℕ). n ∷ []) e) p) q
