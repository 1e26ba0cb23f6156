-- Laws: the loop that writes octets in hex.
use Rattle.std.proofs.Common.{◌≡◌, refl, sym, ap, ◌∙◌, List, [], ◌∷◌, ◌++◌, ℕ, ◌+◌, ◌*◌, ◌/◌, ◌%◌, ◌≤◌, ◌<◌, arith, length, get_or, take, take_all}
use Rattle.std.proofs.lemmas.List.{take_more}
use Rattle.octets.specs.Octets.{Wrote}
use Rattle.octets.specs.laws.Octets.{wrote_joined, wrote_none, wrote_as}
use Rattle.replay_text.specs.Replay.{hex_digit, hex_of}

hex_append : (xs ys : List ℕ) → hex_of (xs ++ ys) ≡ hex_of xs ++ hex_of ys
unfolding hex_of
hex_append [] ys = refl
hex_append (x ∷ xs) ys = ap {B = List ℕ} (λ (l : List ℕ). hex_digit (x / 16) ∷ hex_digit (x % 16) ∷ l) (hex_append xs ys)

hex_two : (x : ℕ) → length (hex_of (x ∷ [])) ≡ 2
unfolding hex_of
hex_two x = refl

-- what the loop keeps: i octets are written, two digits each
pub record HexInv (b₀ : List ℕ) (at : ℕ) (s b : List ℕ) (i to : ℕ) : Type 0 where
  pub within : i ≤ length s
  pub place : to ≡ at + 2 * i
  pub wrote : Wrote b₀ at (hex_of (take i s)) b to
  pub kept : length b ≡ length b₀

pub hex_start : {b : List ℕ} {at : ℕ} {s : List ℕ} → HexInv b at s b 0 at
unfolding hex_of
hex_start {b} {at} = record { within = omega arith; place = omega arith; wrote = wrote_none b at; kept = refl }

module _ {b₀ : List ℕ} {at : ℕ} {s b : List ℕ} {i to : ℕ} (v : HexInv b₀ at s b i to) where
  pub hex_next : {b₁ : List ℕ} {to₁ : ℕ} → at ≤ length b₀ → i < length s → Wrote b to (hex_of (get_or s i 0 ∷ [])) b₁ to₁ → length b₁ ≡ length b → HexInv b₀ at s b₁ (i + 1) to₁
  hex_next {b₁} {to₁} g h w k =
      let e : take (i + 1) s ≡ take i s ++ (get_or s i 0 ∷ []) = take_more s i 0 h in
      record {
        within = omega arith;
        place = let p = v.place in let q = w.next in let z = hex_two (get_or s i 0) in omega arith;
        wrote = wrote_as (sym (hex_append (take i s) (get_or s i 0 ∷ [])) ∙ ap hex_of (sym e)) (wrote_joined g v.wrote w);
        kept = k ∙ v.kept;
      }

  pub hex_end : length s ≤ i → Wrote b₀ at (hex_of s) b to
  hex_end h = wrote_as (ap hex_of (take_all i s h)) v.wrote

  pub hex_place : length s ≤ i → to ≡ at + 2 * length s
  hex_place h = let w = v.within in let p = v.place in omega arith
