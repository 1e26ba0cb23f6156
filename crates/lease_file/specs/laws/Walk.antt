-- Laws: what the loop over offsets keeps: octets that rise.
use Rattle.std.specs.Prelude.{Bool, false, true, List, [], ◌∷◌, ◌&&◌, ◌≡◌, refl, ◌+◌, ◌-◌, ◌<◌, ◌≤◌, suc, ℕ, ltb, drop, get_or, length}
use Rattle.std.proofs.Common.{◌∙◌, add-one, ap, arith, drop-cons, length-drop, le-ltb, lt-ltb, ltb-false, ltb-true, sym}
use Rattle.address_set.specs.AddressSet.{rises, rises_from}
use Rattle.lists.specs.Pick.{pick}

-- octets that rise: those up to i are looked at, and all says whether each of them is above the one before it
pub record RiseInv (l : List ℕ) (all : Bool) (i : ℕ) : Type 0 where
  pub from : 1 ≤ i
  pub whole : (all && rises (drop (i - 1) l)) ≡ rises l

pub rise_start : {l : List ℕ} → RiseInv l true 1
rise_start = record { from = omega arith; whole = refl }

from_here : (l : List ℕ) (i : ℕ) → i < length l → drop i l ≡ get_or l i 0 ∷ drop (i + 1) l
from_here l i h = drop-cons l i 0 h ∙ ap (λ (k : ℕ). get_or l i 0 ∷ drop k l) (sym (add-one i))

-- one more
rise_one : (x : ℕ) (r : List ℕ) → rises (x ∷ r) ≡ rises_from (suc x) r
unfolding rises_from pick
rise_one x r = ap (λ (c : Bool). pick c false (rises_from (suc x) r)) (le-ltb x 0 (omega arith))

two_rise : (all : Bool) (x y : ℕ) (r : List ℕ) → ((all && ltb x y) && rises (y ∷ r)) ≡ (all && rises (x ∷ y ∷ r))
unfolding rises_from pick
two_rise false x y r = refl
two_rise true x y r = ap (λ (c : Bool). ltb x y && c) (rise_one y r) ∙ go (ltb x y) refl ∙ sym (rise_one x (y ∷ r))
  where
    go : (b : Bool) → ltb x y ≡ b → (b && rises_from (suc y) r) ≡ rises_from (suc x) (y ∷ r)
    go true e = let h = ltb-true x y e in sym (ap (λ (c : Bool). pick c false (rises_from (suc y) r)) (le-ltb y (suc x) (omega arith)))
    go false e = let h = ltb-false x y e in sym (ap (λ (c : Bool). pick c false (rises_from (suc y) r)) (lt-ltb y (suc x) (omega arith)))

few_rise : (l : List ℕ) → length l ≤ 1 → rises l ≡ true
unfolding rises_from pick
few_rise [] h = refl
few_rise (x ∷ []) h = rise_one x []
few_rise (x ∷ y ∷ l) h = absurd (omega arith)

module _ {l : List ℕ} {all : Bool} {i : ℕ} (v : RiseInv l all i) where
  pub rise_next : i < length l → RiseInv l (all && ltb (get_or l (i - 1) 0) (get_or l i 0)) (i + 1)
  rise_next h =
      let f = v.from in
      let e : i - 1 + 1 ≡ i = omega arith in
      record {
        from = omega arith;
        whole =
            ap (λ (k : ℕ). (all && ltb (get_or l (i - 1) 0) (get_or l i 0)) && rises (drop k l)) (let q : i + 1 - 1 ≡ i = omega arith in q)
            ∙ ap (λ (m : List ℕ). (all && ltb (get_or l (i - 1) 0) (get_or l i 0)) && rises m) (from_here l i h)
            ∙ two_rise all (get_or l (i - 1) 0) (get_or l i 0) (drop (i + 1) l)
            ∙ ap (λ (m : List ℕ). all && rises (get_or l (i - 1) 0 ∷ m)) (sym (from_here l i h) ∙ ap (λ (k : ℕ). drop k l) (sym e))
            ∙ ap (λ (m : List ℕ). all && rises m) (sym (from_here l (i - 1) (omega arith)))
            ∙ v.whole;
      }

  pub rise_end : length l ≤ i → all ≡ rises l
  rise_end h = go all ∙ sym (ap (λ (b : Bool). all && b) (few_rise (drop (i - 1) l) (let e = length-drop (i - 1) l in let f = v.from in omega arith))) ∙ v.whole
    where
      go : (b : Bool) → b ≡ (b && true)
      go true = refl
      go false = refl

pub ruleset risings = (rise_start, rise_next, rise_end)
