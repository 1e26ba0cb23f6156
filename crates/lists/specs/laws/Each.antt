-- Laws: one for every loop that replaces each element of an array.
use Rattle.std.specs.Prelude.{◌≡◌, refl, List, [], ◌∷◌, ◌++◌, map, ℕ, zero, suc, ◌+◌, ◌≤◌, ◌<◌, length, get_or, take, drop, set}
use Rattle.std.proofs.Common.{sym, ap, ap₂, ◌∙◌, append-nil, append_assoc, arith, add-one, length-take, drop_of_length-le, drop-cons, take-suc, take_all}
use Rattle.std.proofs.lemmas.List.{length-map, set_at}
use Rattle.lists.specs.laws.Part.{unmapped}

map_append : {A B : Type 0} (f : A → B) (x y : List A) → map f (x ++ y) ≡ map f x ++ map f y
map_append f [] y = refl
map_append {A} {B} f (a ∷ x) y = ap {B = List B} (λ (l : List B). f a ∷ l) (map_append f x y)

-- what one function makes, another takes back
pub map_back : {A B : Type 0} (f : A → B) (g : B → A) → ((x : A) → g (f x) ≡ x) → (l : List A) → map g (map f l) ≡ l
map_back f g h [] = refl
map_back {A} {B} f g h (x ∷ l) = ap₂ {C = List A} (λ (y : A) (r : List A). y ∷ r) (h x) (map_back f g h l)

-- the image of the element at a place
pub map_at : {A B : Type 0} (f : A → B) (l : List A) (i : ℕ) (d : A) (e : B) → i < length l → get_or (map f l) i e ≡ f (get_or l i d)
map_at f [] i d e h = absurd (omega arith)
map_at f (x ∷ l) zero d e h = refl
map_at f (x ∷ l) (suc i) d e h = map_at f l i d e (omega arith)

pub map_set : {A B : Type 0} (f : A → B) (l : List A) (i : ℕ) (x : A) → set (map f l) i (f x) ≡ map f (set l i x)
map_set f [] i x = refl
map_set f (y ∷ l) zero x = refl
map_set {A} {B} f (y ∷ l) (suc i) x = ap {B = List B} (λ (r : List B). f y ∷ r) (map_set f l i x)

-- What such a loop keeps, with i elements done: their images stand in front, and what e had is left behind them.
pub record BuildInv {A B : Type 0} (g : A → B) (d : A) (l : List A) (e : List B) (n : ℕ) (now : List B) (i : ℕ) : Type 0 where
  pub within : i ≤ n
  pub long : length l ≡ n
  pub room : length e ≡ n
  pub whole : now ≡ map g (take i l) ++ drop i e

pub build_start : {A B : Type 0} {g : A → B} {d : A} {l : List A} {e : List B} {n : ℕ} → length l ≡ n → length e ≡ n → BuildInv g d l e n e 0
build_start p q = record { within = omega arith; long = p; room = q; whole = refl }

-- a list that takes its own place
abbrev pub EachInv : {A : Type 0} → (A → A) → A → List A → ℕ → List A → ℕ → Type 0
EachInv g d l n now i = BuildInv g d l l n now i

pub each_start : {A : Type 0} {g : A → A} {d : A} {l : List A} {n : ℕ} → length l ≡ n → EachInv g d l n l 0
each_start p = build_start p p

module _ {A B : Type 0} {g : A → B} {d : A} {l : List A} {e : List B} {n : ℕ} {now : List B} {i : ℕ} (v : BuildInv g d l e n now i) where
  pub each_next : {x : B} → i < n → x ≡ g (get_or l i d) → BuildInv g d l e n (set now i x) (i + 1)
  each_next {x} h p = record {
    within = omega arith;
    long = v.long;
    room = v.room;
    whole =
        ap₂ {C = List B} (λ (a : List B) (y : B). set a i y) (v.whole ∙ ap (λ (r : List B). map g (take i l) ++ r) (drop-cons e i (g d) (omega (arith, v.room)))) p
        ∙ set_at (map g (take i l)) (get_or e i (g d)) (drop (suc i) e) (g (get_or l i d)) i (length-map (take i l) g ∙ long_i)
        ∙ sym front_snoc
        ∙ ap (λ (k : ℕ). map g (take k l) ++ drop k e) (sym (add-one i));
  }
    where
      long_i : length (take i l) ≡ i
      long_i = omega (arith, length-take i l, v.long)

      front_snoc : map g (take (suc i) l) ++ drop (suc i) e ≡ map g (take i l) ++ g (get_or l i d) ∷ drop (suc i) e
      front_snoc = ap (λ (a : List A). map g a ++ drop (suc i) e) (take-suc l i d (omega (arith, v.long)))
          ∙ ap (λ (a : List B). a ++ drop (suc i) e) (map_append g (take i l) (get_or l i d ∷ []))
          ∙ append_assoc (map g (take i l)) (g (get_or l i d) ∷ []) (drop (suc i) e)

  pub each_end : n ≤ i → now ≡ map g l
  each_end h =
      v.whole ∙ ap₂ {C = List B} (λ (a : List A) (b : List B). map g a ++ b) (take_all i l (omega (arith, v.long))) (drop_of_length-le e {i = i} (omega (arith, v.room)))
      ∙ append-nil (map g l)

pub ruleset eachs = (each_start, build_start, each_next, each_end, unmapped)
