-- Laws: of numbers in octets and of `put`: numbers read back, a run of stores is a `put`, two runs one after the other are one, and
-- from a buffer's start they are `reply ++ drop (length reply) buffer`.
use Rattle.std.specs.Prelude.{◌≡◌, List, [], ◌++◌, ℕ, ◌+◌, ◌*◌, ◌/◌, ◌%◌, ◌≤◌, ◌<◌, length, take, drop}
use Rattle.std.proofs.Common.{refl, sym, ap, ◌∙◌, append_assoc, append-nil, arith, add_assoc, zero-add, add-zero, length-append, take-append-drop, take_at, drop-drop, length-take-le}
use Rattle.std.proofs.Math.Nat.{div-div-eq-div-mul}
use Rattle.std.proofs.Math.Seq.{drop-append-add}
use Rattle.octets.specs.Octets.{be16, be32, put, Wrote}

-- a number that fits its octets is what they make
pub read_back16 : (v : ℕ) → v < 65536 → be16 (v / 256 % 256) (v % 256) ≡ v
read_back16 v h = omega arith

pub read_back32 : (v : ℕ) → v < 4294967296 → be32 (v / 16777216 % 256) (v / 65536 % 256) (v / 256 % 256) (v % 256) ≡ v
read_back32 v h =
    let b : v / 65536 ≡ v / 256 / 256 = sym (div-div-eq-div-mul v 256 256) in
    let c : v / 16777216 ≡ v / 256 / 256 / 256 = sym (div-div-eq-div-mul v 65536 256) ∙ ap (λ (x : ℕ). x / 256) b in
    rw (b, c) (digits (v / 256 / 256 / 256) (v / 256 / 256) (v / 256) v (omega arith) (omega arith) (omega arith) (omega arith))
  where
    digits : (c b a v : ℕ) → c < 256 → b ≡ c * 256 + b % 256 → a ≡ b * 256 + a % 256 → v ≡ a * 256 + v % 256 → be32 (c % 256) (b % 256) (a % 256) (v % 256) ≡ v
    digits c b a v h p q r = omega arith

-- what is copied into the k octets from `at` on
pub put_part : (r : List ℕ) (at : ℕ) (xs : List ℕ) {ys : List ℕ} {k : ℕ} → k ≡ length xs → ys ≡ xs
    → take at r ++ (ys ++ drop k (drop at r)) ≡ put r at xs
unfolding put
put_part r at xs e p = rw (p, e, drop-drop, append_assoc) refl

head_length : (r : List ℕ) (at : ℕ) (xs : List ℕ) → at ≤ length r → length (take at r ++ xs) ≡ at + length xs
head_length r at xs h = length-append (take at r) xs ∙ ap (λ (k : ℕ). k + length xs) (length-take-le at r h)

pub put_put : (r : List ℕ) (at : ℕ) (xs ys : List ℕ) → at ≤ length r → put (put r at xs) (at + length xs) ys ≡ put r at (xs ++ ys)
unfolding put
put_put r at xs ys h =
    let p : List ℕ = take at r ++ xs in
    let q : List ℕ = drop (at + length xs) r in
    let e : length p ≡ at + length xs = head_length r at xs h in
    ap (λ (l : List ℕ). l ++ ys ++ drop (at + length xs + length ys) (p ++ q)) (take_at p q (at + length xs) e)
    ∙ ap (λ (l : List ℕ). p ++ ys ++ l) (
    ap (λ (k : ℕ). drop (k + length ys) (p ++ q)) (sym e)
    ∙ drop-append-add p q (length ys)
    ∙ drop-drop (length ys) (at + length xs) r
    ∙ ap (λ (k : ℕ). drop k r) (add_assoc at (length xs) (length ys) ∙ ap (λ (k : ℕ). at + k) (sym (length-append xs ys)))
    )
    ∙ ap (λ (l : List ℕ). l ++ drop (at + length (xs ++ ys)) r) (append_assoc (take at r) xs ys)

pub put_start : (r xs : List ℕ) → put r 0 xs ≡ xs ++ drop (length xs) r
unfolding put
put_start r xs = ap (λ (k : ℕ). xs ++ drop k r) (zero-add (length xs))

-- two runs, the second where the first ended
pub wrote_joined : {r₀ r₁ r₂ xs ys : List ℕ} {a b c : ℕ} → a ≤ length r₀ → Wrote r₀ a xs r₁ b → Wrote r₁ b ys r₂ c → Wrote r₀ a (xs ++ ys) r₂ c
wrote_joined {r₀ = r₀} {xs = xs} {ys = ys} {a = a} {b = b} h p q = record {
  next = q.next ∙ ap (λ (k : ℕ). k + length ys) p.next ∙ add_assoc a (length xs) (length ys) ∙ ap (λ (k : ℕ). a + k) (sym (length-append xs ys));
  buffer = q.buffer ∙ ap (λ (l : List ℕ). put l b ys) p.buffer ∙ ap (λ (k : ℕ). put (put r₀ a xs) k ys) p.next ∙ put_put r₀ a xs ys h;
}

-- from the start: the octets written, and past them what stood there
pub wrote_whole : {r₀ r₁ xs : List ℕ} {n : ℕ} → Wrote r₀ 0 xs r₁ n → r₁ ≡ xs ++ drop (length xs) r₀
wrote_whole {r₀ = r₀} {xs = xs} w = w.buffer ∙ put_start r₀ xs

pub whole_length : {r₀ r₁ xs : List ℕ} {n : ℕ} → Wrote r₀ 0 xs r₁ n → n ≡ length xs
whole_length {xs = xs} w = w.next ∙ zero-add (length xs)

pub wrote_none : (r : List ℕ) (at : ℕ) → Wrote r at [] r at
unfolding put
wrote_none r at = record {
  next = sym (add-zero at);
  buffer = sym (ap (λ (k : ℕ). take at r ++ [] ++ drop k r) (add-zero at) ∙ ap (λ (l : List ℕ). l ++ drop at r) (append-nil (take at r)) ∙ take-append-drop at r);
}

-- what was written may be said in other words
pub wrote_as : {r₀ r₁ xs ys : List ℕ} {a n : ℕ} → xs ≡ ys → Wrote r₀ a xs r₁ n → Wrote r₀ a ys r₁ n
wrote_as {r₀ = r₀} {a = a} e w = record { next = w.next ∙ ap (λ (l : List ℕ). a + length l) e; buffer = w.buffer ∙ ap (put r₀ a) e }
