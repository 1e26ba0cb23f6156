-- Laws: eight octets as one number order as octet by octet.
use Rattle.std.specs.Prelude.{◌≡◌, refl, Bool, true, false, List, [], ◌∷◌, ◌++◌, ℕ, suc, ◌+◌, ◌*◌, ◌≤◌, ◌<◌, min, length, get_or, take, drop, ltb, eqb, cond}
use Rattle.std.proofs.Common.{sym, ap, ap₂, ◌∙◌, subst, arith, take-append-drop, length-take, drop-cons, take-take, ltb-true, ltb-false, eqb-true}
use Rattle.std.specs.Int.{from_be_bytes, w64}
use Rattle.std.specs.declared.cmp.Ordering.TheVariants.{Less, Equal, Greater}
use Rattle.std.specs.Ordering.{nat_cmp, ordering_index}
use Rattle.lists.specs.Pick.{pick}
use Rattle.lists.specs.All.{All}
use Rattle.identifier.specs.Order.{order_of, number_from, Octets}

-- ---- the number of eight octets
pub eight_be : (a b c d e f g h : ℕ) → from_be_bytes w64 (a ∷ b ∷ c ∷ d ∷ e ∷ f ∷ g ∷ h ∷ []) ≡ number_from 0 (a ∷ b ∷ c ∷ d ∷ e ∷ f ∷ g ∷ h ∷ [])
unfolding number_from
eight_be a b c d e f g h = omega arith

pub eight_octets : (a b c d e f g h : ℕ) → a < 256 → b < 256 → c < 256 → d < 256 → e < 256 → f < 256 → g < 256 → h < 256 → Octets (a ∷ b ∷ c ∷ d ∷ e ∷ f ∷ g ∷ h ∷ [])
unfolding All
eight_octets a b c d e f g h ha hb hc hd he hf hg hh = (ha, (hb, (hc, (hd, (he, (hf, (hg, (hh, tt))))))))

-- the octets at eight places
step : (a : List ℕ) (i j n : ℕ) → j ≡ suc i → i < length a → take (suc n) (drop i a) ≡ get_or a i 0 ∷ take n (drop j a)
step a i j n e h = ap (take (suc n)) (drop-cons a i 0 h) ∙ ap (λ (k : ℕ). get_or a i 0 ∷ take n (drop k a)) (sym e)

pub eight_at : (a : List ℕ) (i : ℕ) → i + 8 ≤ length a
    → take 8 (drop i a) ≡ get_or a i 0 ∷ get_or a (i + 1) 0 ∷ get_or a (i + 2) 0 ∷ get_or a (i + 3) 0 ∷ get_or a (i + 4) 0 ∷ get_or a (i + 5) 0 ∷ get_or a (i + 6) 0 ∷ get_or a (i + 7) 0 ∷ []
eight_at a i h =
    cc (step a i (i + 1) 7 (omega arith) (omega arith), step a (i + 1) (i + 2) 6 (omega arith) (omega arith), step a (i + 2) (i + 3) 5 (omega arith) (omega arith), step a (i + 3) (i + 4) 4 (omega arith) (omega arith), step a (i + 4) (i + 5) 3 (omega arith) (omega arith), step a (i + 5) (i + 6) 2 (omega arith) (omega arith), step a (i + 6) (i + 7) 1 (omega arith) (omega arith), step a (i + 7) (i + 8) 0 (omega arith) (omega arith))

-- ---- its order
larger : (p q : List ℕ) (u v : ℕ) → length p ≡ length q → Octets p → Octets q → u < v → number_from u p < number_from v q
unfolding number_from All
larger [] [] u v e hp hq h = h
larger [] (y ∷ q) u v e hp hq h = absurd (omega arith)
larger (x ∷ p) [] u v e hp hq h = absurd (omega arith)
larger (x ∷ p) (y ∷ q) u v e hp hq h = larger p q (u * 256 + x) (v * 256 + y) (omega arith) hp.1 hq.1 (let a = hp.0 in omega arith)

front_less : (p q xs ys : List ℕ) (u : ℕ) → length p ≡ length q → Octets p → Octets q → number_from u p < number_from u q → order_of (p ++ xs) (q ++ ys) ≡ 0
unfolding number_from All order_of pick
front_less [] [] xs ys u e hp hq h = absurd (omega arith)
front_less [] (y ∷ q) xs ys u e hp hq h = absurd (omega arith)
front_less (x ∷ p) [] xs ys u e hp hq h = absurd (omega arith)
front_less (x ∷ p) (y ∷ q) xs ys u e hp hq h = go (ltb x y) (ltb y x) refl refl (front_less p q xs ys (u * 256 + x))
  where
    go : (s t : Bool) → ltb x y ≡ s → ltb y x ≡ t
        → (length p ≡ length q → Octets p → Octets q → number_from (u * 256 + x) p < number_from (u * 256 + x) q → order_of (p ++ xs) (q ++ ys) ≡ 0)
        → pick s 0 (pick t 2 (order_of (p ++ xs) (q ++ ys))) ≡ 0
    go true t a b r = refl
    go false true a b r = let w = ltb-true y x b in let k = larger q p (u * 256 + y) (u * 256 + x) (omega arith) hq.1 hp.1 (omega arith) in absurd (omega arith)
    go false false a b r =
        let v = ltb-false x y a in
        let w = ltb-false y x b in
        let z : y ≡ x = omega arith in
        r (omega arith) hp.1 hq.1 (subst (λ (k : ℕ). number_from (u * 256 + x) p < number_from (u * 256 + k) q) z h)

front_more : (p q xs ys : List ℕ) (u : ℕ) → length p ≡ length q → Octets p → Octets q → number_from u q < number_from u p → order_of (p ++ xs) (q ++ ys) ≡ 2
unfolding number_from All order_of pick
front_more [] [] xs ys u e hp hq h = absurd (omega arith)
front_more [] (y ∷ q) xs ys u e hp hq h = absurd (omega arith)
front_more (x ∷ p) [] xs ys u e hp hq h = absurd (omega arith)
front_more (x ∷ p) (y ∷ q) xs ys u e hp hq h = go (ltb x y) (ltb y x) refl refl (front_more p q xs ys (u * 256 + x))
  where
    go : (s t : Bool) → ltb x y ≡ s → ltb y x ≡ t
        → (length p ≡ length q → Octets p → Octets q → number_from (u * 256 + x) q < number_from (u * 256 + x) p → order_of (p ++ xs) (q ++ ys) ≡ 2)
        → pick s 0 (pick t 2 (order_of (p ++ xs) (q ++ ys))) ≡ 2
    go true t a b r = let w = ltb-true x y a in let k = larger p q (u * 256 + x) (u * 256 + y) (omega arith) hp.1 hq.1 (omega arith) in absurd (omega arith)
    go false true a b r = refl
    go false false a b r =
        let v = ltb-false x y a in
        let w = ltb-false y x b in
        let z : y ≡ x = omega arith in
        r (omega arith) hp.1 hq.1 (subst (λ (k : ℕ). number_from (u * 256 + k) q < number_from (u * 256 + x) p) z h)

-- ---- as the code asks it
split : (a : List ℕ) (k : ℕ) → 8 ≤ min k 32 → take 8 (drop 0 a) ++ drop 8 (take k a) ≡ take k a
split a k h = ap (λ (l : List ℕ). l ++ drop 8 (take k a)) (sym (take-take 8 k a (omega arith))) ∙ take-append-drop 8 (take k a)

front : (a : List ℕ) → length a ≡ 32 → length (take 8 (drop 0 a)) ≡ 8
front a e = let w = length-take 8 a in omega arith

module _ (a b : List ℕ) (k j : ℕ) {x y : ℕ} (h : 8 ≤ min k 32) (g : 8 ≤ min j 32) (la : length a ≡ 32) (lb : length b ≡ 32)
    (ex : x ≡ number_from 0 (take 8 (drop 0 a))) (ey : y ≡ number_from 0 (take 8 (drop 0 b))) (oa : Octets (take 8 (drop 0 a))) (ob : Octets (take 8 (drop 0 b))) where
  word_less : x < y → 0 ≡ order_of (take k a) (take j b)
  word_less l =
      sym (front_less (take 8 (drop 0 a)) (take 8 (drop 0 b)) (drop 8 (take k a)) (drop 8 (take j b)) 0 (front a la ∙ sym (front b lb)) oa ob (omega arith))
      ∙ ap₂ order_of (split a k h) (split b j g)

  word_more : y < x → 2 ≡ order_of (take k a) (take j b)
  word_more l =
      sym (front_more (take 8 (drop 0 a)) (take 8 (drop 0 b)) (drop 8 (take k a)) (drop 8 (take j b)) 0 (front a la ∙ sym (front b lb)) oa ob (omega arith))
      ∙ ap₂ order_of (split a k h) (split b j g)

  pub word_order : (x ≡ y → ⊥) → ordering_index (nat_cmp x y) ≡ order_of (take k a) (take j b)
  word_order n = go (ltb x y) refl (eqb x y) refl
    where
      go : (p : Bool) → ltb x y ≡ p → (r : Bool) → eqb x y ≡ r → ordering_index (cond p Less (cond r Equal Greater)) ≡ order_of (take k a) (take j b)
      go true e r f = word_less (ltb-true x y e)
      go false e true f = absurd (n (eqb-true x y f))
      go false e false f = let l = ltb-false x y e in word_more (omega arith)

pub word_is : (a : List ℕ) (i r : ℕ) → length a ≡ 32 → i + 8 ≤ 32
    → r ≡ number_from 0 (get_or a i 0 ∷ get_or a (i + 1) 0 ∷ get_or a (i + 2) 0 ∷ get_or a (i + 3) 0 ∷ get_or a (i + 4) 0 ∷ get_or a (i + 5) 0 ∷ get_or a (i + 6) 0 ∷ get_or a (i + 7) 0 ∷ [])
    → r ≡ number_from 0 (take 8 (drop i a))
word_is a i r n h e = e ∙ ap (number_from 0) (sym (eight_at a i (omega arith)))

pub word_octets : (a : List ℕ) (i : ℕ) → length a ≡ 32 → i + 8 ≤ 32
    → Octets (get_or a i 0 ∷ get_or a (i + 1) 0 ∷ get_or a (i + 2) 0 ∷ get_or a (i + 3) 0 ∷ get_or a (i + 4) 0 ∷ get_or a (i + 5) 0 ∷ get_or a (i + 6) 0 ∷ get_or a (i + 7) 0 ∷ [])
    → Octets (take 8 (drop i a))
word_octets a i n h e = subst Octets (sym (eight_at a i (omega arith))) e
