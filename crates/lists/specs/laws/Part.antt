-- Laws: one for every loop that goes through the first n elements of an array and gathers a value.
use Rattle.std.specs.Prelude.{◌≡◌, refl, Bool, true, false, List, [], ◌∷◌, map, ℕ, suc, ◌+◌, ◌≤◌, ◌<◌, min, length, get_or, take, drop, leb}
use Rattle.std.proofs.Common.{sym, ap, ◌∙◌, arith, add-one, drop_of_length-le, drop-cons, get_or-take, length-take-le, take_all, leb-true, leb-false}
use Rattle.std.proofs.Math.Nat.{min-eq_left}
use Rattle.std.proofs.lemmas.List.{length-map}
use Rattle.lists.specs.Fold.{fold}

-- a length past the end stands for the whole list
pub cut_take : {A : Type 0} (k n : ℕ) (a : List A) → length a ≡ k → take (min n k) a ≡ take n a
cut_take {A} k n a e = go (leb n k) refl
  where
    go : (t : Bool) → leb n k ≡ t → take (min n k) a ≡ take n a
    go true p = let h = leb-true n k p in ap (λ (x : ℕ). take x a) (min-eq_left h)
    go false p = let h = leb-false n k p in take_all (min n k) a (omega arith) ∙ sym (take_all n a (omega arith))

-- the next element, and the end
pub part_head : {A : Type 0} (d : A) (a : List A) (m i : ℕ) → m ≤ length a → i < m → drop i (take m a) ≡ get_or a i d ∷ drop (i + 1) (take m a)
part_head {A} d a m i h p =
    drop-cons (take m a) i d (rw (length-take-le m a h) p)
    ∙ ap (λ (x : A). x ∷ drop (suc i) (take m a)) (get_or-take m a i d p)
    ∙ ap (λ (k : ℕ). get_or a i d ∷ drop k (take m a)) (sym (add-one i))

pub part_ended : {A : Type 0} (a : List A) (m i : ℕ) → m ≤ length a → m ≤ i → drop i (take m a) ≡ []
part_ended a m i h p = drop_of_length-le (take m a) {i = i} (rw (length-take-le m a h) p)

-- What such a loop keeps, with acc gathered before index i: to go on from there gives w.
pub record PartInv {A B : Type 0} (f : B → A → B) (d : A) (l : List A) (n : ℕ) (w acc : B) (i : ℕ) : Type 0 where
  pub within : i ≤ n
  pub long : n ≤ length l
  pub whole : fold f acc (drop i (take n l)) ≡ w

pub part_start : {A B : Type 0} {f : B → A → B} {d : A} {l : List A} {n : ℕ} {w r : B} (x k : ℕ) → n ≡ min x k → length l ≡ k → fold f r (take x l) ≡ w → PartInv f d l n w r 0
part_start {f = f} {l = l} {r = r} x k e g p = record { within = omega arith; long = omega arith; whole = ap (λ (z : ℕ). fold f r (take z l)) e ∙ ap (fold f r) (cut_take k x l g) ∙ p }

-- the same where the first value is what a call gave
pub part_start_from : {A B : Type 0} {f : B → A → B} {d : A} {l : List A} {n : ℕ} {w r b : B} (x k : ℕ) → r ≡ b → n ≡ min x k → length l ≡ k → fold f b (take x l) ≡ w → PartInv f d l n w r 0
part_start_from {f = f} {l = l} x k q e g p = part_start x k e g (ap (λ z. fold f z (take x l)) q ∙ p)

module _ {A B : Type 0} {f : B → A → B} {d : A} {l : List A} {n : ℕ} {w acc : B} {i : ℕ} (v : PartInv f d l n w acc i) where
  pub part_next : {r : B} → i < n → r ≡ f acc (get_or l i d) → PartInv f d l n w r (i + 1)
  part_next {r} h e = record {
    within = omega arith;
    long = v.long;
    whole =
        ap (λ (x : B). fold f x (drop (i + 1) (take n l))) e
        ∙ sym (ap (fold f acc) (part_head d l n i v.long h)) ∙ v.whole;
  }

  pub part_end : n ≤ i → acc ≡ w
  part_end h = sym (ap (fold f acc) (part_ended l n i v.long h)) ∙ v.whole

-- the length of a field that is an array of structs
pub unmapped : (X Y : Type 0) (f : X → Y) (l : List X) (n : ℕ) → length (map f l) ≡ n → length l ≡ n
unmapped X Y f l n e = sym (length-map l f) ∙ e

pub ruleset parts = (part_start, part_start_from, part_next, part_end, unmapped)
