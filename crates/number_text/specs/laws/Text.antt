-- Laws: the digits of a number, texts one after the other, and the loops that write lines.
use Rattle.std.specs.Prelude.{ℕ, zero, suc, ◌+◌, ◌*◌, ◌/◌, ◌%◌, ◌^◌, ◌≤◌, ◌<◌, ◌≡◌, refl, Bool, true, false, List, [], ◌∷◌, ◌++◌, ltb, length}
use Rattle.std.proofs.Common.{sym, ◌∙◌, subst, append_assoc, arith, mul-le-mul, pow-suc, suc-mul, zero-mul, add-one, length-append, ltb-false, ltb-true, lt-ltb, le-ltb}
use Rattle.std.proofs.Math.Path.{ap}
use Rattle.lists.specs.Pick.{pick}
use Rattle.octets.specs.Octets.{Wrote}
use Rattle.octets.specs.laws.Octets.{wrote_as, wrote_joined, wrote_none}
use Rattle.number_text.specs.Text.{Line, dotted, field, lines_to, numeral, numeral_in}

-- ---- numbers
module _ (k n : ℕ) where
  one_digit : n < 10 → numeral_in (suc k) n ≡ (48 + n) ∷ []
  unfolding numeral_in pick
  one_digit h = ap (λ (t : Bool). pick t ((48 + n) ∷ []) (numeral_in k (n / 10) ++ (48 + n % 10) ∷ [])) (lt-ltb n 10 h)

  more_digits : 10 ≤ n → numeral_in (suc k) n ≡ numeral_in k (n / 10) ++ (48 + n % 10) ∷ []
  unfolding numeral_in pick
  more_digits h = ap (λ (t : Bool). pick t ((48 + n) ∷ []) (numeral_in k (n / 10) ++ (48 + n % 10) ∷ [])) (le-ltb n 10 h)

  -- how many they are: one more than those above the last, or one
  digits_within : (m : ℕ) → length (numeral_in k (n / 10)) ≤ m → length (numeral_in (suc k) n) ≤ suc m
  digits_within m h = go (ltb n 10) refl
    where
      go : (t : Bool) → ltb n 10 ≡ t → length (numeral_in (suc k) n) ≤ suc m
      go true e = let s = ap length (one_digit (ltb-true n 10 e)) in omega arith
      go false e = let s = ap length (more_digits (ltb-false n 10 e)) in let l = length-append (numeral_in k (n / 10)) ((48 + n % 10) ∷ []) in omega arith

digits_most : (k n : ℕ) → length (numeral_in k n) ≤ k
unfolding numeral_in
digits_most zero n = omega arith
digits_most (suc k) n = digits_within k n k (digits_most k (n / 10))

-- a number of at most k digits has no others where more are allowed
digits_same : (k n : ℕ) → n < 10 ^ suc k → numeral_in (suc k) n ≡ numeral_in (suc (suc k)) n
unfolding numeral_in
digits_same zero n h = one_digit 0 n (omega arith) ∙ sym (one_digit 1 n (omega arith))
digits_same (suc k) n h =
    let e = pow-suc 10 (suc k) in
    ap (λ (l : List ℕ). pick (ltb n 10) ((48 + n) ∷ []) (l ++ (48 + n % 10) ∷ [])) (digits_same k (n / 10) (omega arith))

module _ (n : ℕ) where
  pub numeral_most : length (numeral n) ≤ 20
  numeral_most = digits_most 20 n

  pub numeral_octet : n < 256 → length (numeral n) ≤ 3
  numeral_octet h =
      digits_within 19 n 2 (digits_within 18 (n / 10) 1
      (let e = ap length (one_digit 17 (n / 10 / 10) (omega arith)) in let z : length (numeral_in 18 (n / 10 / 10)) ≤ 1 = omega arith in z))

  pub numeral_more : 10 ≤ n → n < 18446744073709551616 → numeral n ≡ numeral (n / 10) ++ (48 + n % 10) ∷ []
  numeral_more l h = more_digits 19 n l ∙ ap (λ (x : List ℕ). x ++ (48 + n % 10) ∷ []) (digits_same 18 (n / 10) (omega arith))

  pub numeral_some : 1 ≤ length (numeral n)
  numeral_some = go (ltb n 10) refl
    where
      go : (t : Bool) → ltb n 10 ≡ t → 1 ≤ length (numeral n)
      go true e = let s = ap length (one_digit 19 n (ltb-true n 10 e)) in omega arith
      go false e = let s = ap length (more_digits 19 n (ltb-false n 10 e)) in let l = length-append (numeral_in 19 (n / 10)) ((48 + n % 10) ∷ []) in omega arith

  pub numeral_length : 10 ≤ n → n < 18446744073709551616 → length (numeral n) ≡ length (numeral (n / 10)) + 1
  numeral_length l h = ap length (numeral_more l h) ∙ length-append (numeral (n / 10)) ((48 + n % 10) ∷ [])

  pub digits_one : {r₀ r₁ : List ℕ} {at m : ℕ} → n < 10 → Wrote r₀ at ((48 + n % 10) ∷ []) r₁ m → Wrote r₀ at (numeral n) r₁ m
  digits_one h w = wrote_as (ap (λ (d : ℕ). (48 + d) ∷ []) (let z : n % 10 ≡ n = omega arith in z) ∙ sym (one_digit 19 n h)) w

  pub digits_more : {r₀ r₁ r₂ : List ℕ} {at a b : ℕ} → at ≤ length r₀ → 10 ≤ n → n < 18446744073709551616 → Wrote r₀ at (numeral (n / 10)) r₁ a → Wrote r₁ a ((48 + n % 10) ∷ []) r₂ b → Wrote r₀ at (numeral n) r₂ b
  digits_more g l h p q = wrote_as (sym (numeral_more l h)) (wrote_joined g p q)

-- ---- one after the other
pub line_of : {r₀ r₁ xs : List ℕ} {at m most : ℕ} → length xs ≤ most → Wrote r₀ at xs r₁ m → Line r₀ at xs r₁ m most
line_of h w = record { wrote = w; small = omega (arith, w.next) }

pub line_join : {r₀ r₁ r₂ xs ys : List ℕ} {a b c m n : ℕ} → a ≤ length r₀ → Line r₀ a xs r₁ b m → Line r₁ b ys r₂ c n → Line r₀ a (xs ++ ys) r₂ c (m + n)
line_join h p q = record { wrote = wrote_joined h p.wrote q.wrote; small = omega (arith, p.small, q.small) }

pub line_as : {r₀ r₁ xs ys : List ℕ} {a n m k : ℕ} → xs ≡ ys → m ≤ k → Line r₀ a xs r₁ n m → Line r₀ a ys r₁ n k
line_as e h p = record { wrote = wrote_as e p.wrote; small = omega (arith, p.small) }

pub field_wrote : {r₀ r₁ r₂ : List ℕ} {at a b m : ℕ} (n : ℕ) → at ≤ length r₀ → Line r₀ at (32 ∷ []) r₁ a 1 → Line r₁ a (numeral n) r₂ b m → Line r₀ at (field n) r₂ b (1 + m)
unfolding field
field_wrote n h p q = line_join h p q

pub dotted_wrote : {r₀ r₁ r₂ r₃ r₄ : List ℕ} {at w x y z : ℕ} (a : ℕ) → at ≤ length r₀ → Line r₀ at (numeral (a / 16777216 % 256) ++ 46 ∷ []) r₁ w 4
    → Line r₁ w (numeral (a / 65536 % 256) ++ 46 ∷ []) r₂ x 4 → Line r₂ x (numeral (a / 256 % 256) ++ 46 ∷ []) r₃ y 4 → Line r₃ y (numeral (a % 256)) r₄ z 3 → Line r₀ at (dotted a) r₄ z 15
unfolding dotted
dotted_wrote a h p q u v = line_as (simp append_assoc) (omega arith) (line_join h (line_join h (line_join h p q) u) v)

-- ---- loops
pub record LinesInv (f : ℕ → List ℕ) (most n : ℕ) (r₀ : List ℕ) (at : ℕ) (buffer : List ℕ) (to i : ℕ) : Type 0 where
  pub within : i ≤ n
  pub fits : at + n * most ≤ length r₀
  pub kept : length buffer ≡ length r₀
  pub wrote : Wrote r₀ at (lines_to f i) buffer to
  pub small : to ≤ at + i * most

pub lines_start : {f : ℕ → List ℕ} {most n : ℕ} {r₀ : List ℕ} {at : ℕ} → at + n * most ≤ length r₀ → LinesInv f most n r₀ at r₀ at 0
unfolding lines_to
lines_start {most = most} {r₀ = r₀} {at = at} h = record { within = omega arith; fits = h; kept = refl; wrote = wrote_none r₀ at; small = let z = zero-mul most in omega arith }

module _ {f : ℕ → List ℕ} {most n : ℕ} {r₀ : List ℕ} {at : ℕ} {buffer : List ℕ} {to i : ℕ} (v : LinesInv f most n r₀ at buffer to i) where
  step : (i + 1) * most ≡ i * most + most
  step = ap (λ (k : ℕ). k * most) (add-one i) ∙ suc-mul i most

  pub lines_room : i < n → to + most ≤ length buffer
  lines_room h =
      let e = step in
      let m : (i + 1) * most ≤ n * most = mul-le-mul (let a : i + 1 ≤ n = omega arith in a) (let b : most ≤ most = omega arith in b) in
      omega (arith, v.small, v.fits, v.kept)

  pub lines_next : {r₁ : List ℕ} {k : ℕ} → i < n → Line buffer to (f i) r₁ k most → length r₁ ≡ length buffer → LinesInv f most n r₀ at r₁ k (i + 1)
  unfolding lines_to
  lines_next {r₁} {k} h p q =
      let e = step in
      record {
        within = omega arith;
        fits = v.fits;
        kept = q ∙ v.kept;
        wrote = wrote_as (ap (lines_to f) (sym (add-one i))) (wrote_joined (omega (arith, v.fits)) v.wrote p.wrote);
        small = omega (arith, v.small, p.small);
      }

  pub lines_end : n ≤ i → Line r₀ at (lines_to f n) buffer to (n * most)
  lines_end h =
      let e : i ≡ n = omega (arith, v.within) in
      record { wrote = wrote_as (ap (lines_to f) e) v.wrote; small = subst (λ (k : ℕ). to ≤ at + k * most) e v.small }

pub ruleset line_loops = (lines_start, lines_room, lines_next)
