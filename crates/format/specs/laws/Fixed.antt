-- Laws: values of a fixed number of octets: they stand wherever there are as many, and nowhere else.
use Rattle.std.specs.Prelude.{Bool, eqb, ltb, drop, None, Some}
use Rattle.std.proofs.Math.Bool.{false, true}
use mathlib.Core.List.{List, [], ◌∷◌}
use Rattle.std.proofs.Common.{◌∙◌, subst, length-drop}
use Rattle.std.proofs.Math.Path.{◌≡◌, ap, refl}
use Prim.Native.Nat.{◌*◌, ◌+◌, ◌<◌, ◌≤◌, suc, zero, ℕ}
use Rattle.std.proofs.Math.Nat.{suc-mul, zero-mul}
use native.Mathlib.Omega.{arith}
use Rattle.std.proofs.Math.Dec.{leb}
use Rattle.std.proofs.Math.ListN.{get_or, length}
use borrow.Author.Tests.{eq-eqb, leb-false, leb-true, ltb-false, ltb-true, ne_eqb}
use Rattle.lists.specs.Pick.{pick}
use Rattle.lists.specs.laws.Pick.{pick_le, pick_lt, pick_not_le, pick_not_lt}
use Rattle.octets.specs.Octets.{at32}
use Rattle.format.specs.Format.{Format, Got, ◌⊗◌, after, bad, counted, got, number, octet, read_number, read_times, then, times, viewed}
use Rattle.format.specs.Place.{EndsAs, Fails, Stands, counted_end, row, walk}
use Rattle.format.specs.laws.Format.{then_with}
use Rattle.format.specs.laws.Place.{as_nowhere, as_there, counted_is, counted_none, fails_before, fails_then, number_stands, octet_fails, octet_stands, stands_then, stands_to, viewed_none, viewed_stands}

pub record Fixed {A : Type 0} (f : Format A) (z : ℕ) : Type 0 where
  pub value : List ℕ → ℕ → A
  pub stands : (s : List ℕ) (at : ℕ) → at + z ≤ length s → Stands f s at (value s at) (at + z)
  pub fails : (s : List ℕ) (at : ℕ) → at ≤ length s → length s < at + z → Fails f s at

unfoldable pub fixed_octet : Fixed octet 1
fixed_octet = record { value = λ s at. get_or s at 0; stands = λ s at h. octet_stands s at (omega arith); fails = λ s at a h. octet_fails s at (omega arith) }

pub short_number : (l : List ℕ) → length l < 4 → read_number l ≡ bad
unfolding read_number
short_number [] h = refl
short_number (a ∷ []) h = refl
short_number (a ∷ b ∷ []) h = refl
short_number (a ∷ b ∷ c ∷ []) h = refl
short_number (a ∷ b ∷ c ∷ d ∷ l) h = absurd (omega arith)

unfoldable pub fixed_number : Fixed number 4
fixed_number = record {
  value = at32;
  stands = number_stands;
  fails = λ s at a h. record { reads = short_number (drop at s) (let e = length-drop at s in omega arith) };
}

unfoldable pub fixed_both : {A B : Type 0} {f : Format A} {g : Format B} {y z : ℕ} → Fixed f y → Fixed g z → Fixed (f ⊗ g) (y + z)
fixed_both {A} {B} {f} {g} {y} {z} p q = record {
  value = λ s at. (p.value s at, q.value s (at + y));
  stands = λ s at h. stands_to (let e : at + y + z ≡ at + (y + z) = omega arith in e) (stands_then (λ _. g) (p.stands s at (omega arith)) (q.stands s (at + y) (omega arith)));
  fails = λ s at a h. go s at a h (leb (at + y) (length s)) refl;
}
  where
    go : (s : List ℕ) (at : ℕ) → at ≤ length s → length s < at + (y + z) → (b : Bool) → leb (at + y) (length s) ≡ b → Fails (f ⊗ g) s at
    go s at a h true e = let l = leb-true _ _ e in fails_then (λ _. g) (p.stands s at l) (q.fails s (at + y) l (omega arith))
    go s at a h false e = let l = leb-false _ _ e in fails_before (λ _. g) (p.fails s at a l)

-- the same number in other words
unfoldable pub fixed_as : {A : Type 0} {f : Format A} {y z : ℕ} → y ≡ z → Fixed f y → Fixed f z
fixed_as e p = record {
  value = p.value;
  stands = λ s at h. stands_to (ap (λ (k : ℕ). at + k) e) (p.stands s at (omega arith));
  fails = λ s at a h. p.fails s at a (omega arith);
}

-- the same value in other words
unfoldable pub fixed_is : {A : Type 0} {f : Format A} {z : ℕ} (p : Fixed f z) (v : List ℕ → ℕ → A) → ((s : List ℕ) (at : ℕ) → p.value s at ≡ v s at) → Fixed f z
fixed_is {A} {f} {z} p v e = record { value = v; stands = λ s at h. subst (λ (x : A). Stands f s at x (at + z)) (e s at) (p.stands s at h); fails = p.fails }

unfoldable pub fixed_viewed : {A B : Type 0} {f : Format A} {z : ℕ} (to : A → B) (from : B → A) → Fixed f z → Fixed (viewed to from f) z
fixed_viewed to from p = record {
  value = λ s at. to (p.value s at);
  stands = λ s at h. viewed_stands (p.stands s at h) to from;
  fails = λ s at a h. viewed_none (p.fails s at a h) to from;
}

module _ {A : Type 0} {f : Format A} {z : ℕ} (p : Fixed f z) where
  pub row_stands : (n : ℕ) (s : List ℕ) (at : ℕ) → at + n * z ≤ length s → Stands (times n f) s at (row p.value z n s at) (at + n * z)
  unfolding walk read_times
  row_stands zero s at h = let e : at ≡ at + 0 * z = (let q = zero-mul z in omega arith) in record { reads = ap (λ (k : ℕ). got [] (drop k s)) e }
  row_stands (suc n) s at h =
      let e = suc-mul n z in
      record {
        reads =
            then_with _ _ _ (p.stands s at (omega arith)).reads
            ∙ then_with _ _ _ (row_stands n s (at + z) (omega arith)).reads
            ∙ ap (λ (k : ℕ). got (p.value s at ∷ row p.value z n s (at + z)) (drop k s)) (let q : at + z + n * z ≡ at + suc n * z = omega arith in q);
      }

  pub row_fails : (n : ℕ) (s : List ℕ) (at : ℕ) → at ≤ length s → length s < at + n * z → Fails (times n f) s at
  unfolding read_times then
  row_fails zero s at a h = let q = zero-mul z in absurd (omega arith)
  row_fails (suc n) s at a h = go (leb (at + z) (length s)) refl (row_fails n s (at + z))
    where
      go : (b : Bool) → leb (at + z) (length s) ≡ b → (at + z ≤ length s → length s < at + z + n * z → Fails (times n f) s (at + z)) → Fails (times (suc n) f) s at
      go true e ih =
          let l = leb-true _ _ e in let q = suc-mul n z in
          record { reads = then_with _ _ _ (p.stands s at l).reads ∙ ap (λ w. then w (λ xs t. got (p.value s at ∷ xs) t)) (ih l (omega arith)).reads }
      go false e ih = let l = leb-false _ _ e in record { reads = ap (λ w. then w (λ x r. then (read_times n f.read r) (λ xs t. got (x ∷ xs) t))) (p.fails s at a l).reads }

  unfoldable pub fixed_times : (n : ℕ) → Fixed (times n f) (n * z)
  fixed_times n = record { value = row p.value z n; stands = row_stands n; fails = row_fails n }

  -- a count and as many
  pub fixed_ends : (s : List ℕ) (at : ℕ) → EndsAs (counted f) (row p.value z (get_or s at 0) s (at + 1)) s at 1 (counted_end s at z)
  unfolding counted_end pick
  fixed_ends s at = go (leb (length s) at) refl (ltb (length s) (at + 1 + get_or s at 0 * z)) refl
    where
      N : ℕ
      N = get_or s at 0

      go : (b : Bool) → leb (length s) at ≡ b → (c : Bool) → ltb (length s) (at + 1 + N * z) ≡ c
          → EndsAs (counted f) (row p.value z N s (at + 1)) s at 1 (pick b None (pick c None (Some (at + 1 + N * z))))
      go true e c q = as_nowhere (counted_none f s at (leb-true _ _ e))
      go false e true q =
          let h = leb-false _ _ e in
          as_nowhere (record { reads = counted_is f s at N h refl ∙ (row_fails N s (at + 1) (omega arith) (ltb-true _ _ q)).reads })
      go false e false q =
          let h = leb-false _ _ e in let l = ltb-false _ _ q in
          as_there (record { reads = counted_is f s at N h refl ∙ (row_stands N s (at + 1) l).reads }) (omega arith) l

  -- an octet that is always n, and then the value
  module _ (n : ℕ) (s : List ℕ) (at : ℕ) where
    first_read : at < length s → (after n f).read (drop at s) ≡ pick (eqb (get_or s at 0) n) (f.read (drop (at + 1) s)) bad
    first_read h = then_with _ _ _ (octet_stands s at h).reads

    pub after_ends : get_or s at 0 ≡ n → at + (1 + z) ≤ length s → EndsAs (after n f) (p.value s (at + 1)) s at (1 + z) (Some (at + (1 + z)))
    unfolding pick
    after_ends e h =
        as_there (stands_to (let q : at + 1 + z ≡ at + (1 + z) = omega arith in q)
        (record { reads = first_read (omega arith) ∙ ap (λ (b : Bool). pick b (f.read (drop (at + 1) s)) bad) (eq-eqb _ _ e) ∙ (p.stands s (at + 1) (omega arith)).reads }))
        (omega arith) h

    pub after_other : (x : A) (least : ℕ) → (get_or s at 0 ≡ n → ⊥) → at < length s → EndsAs (after n f) x s at least None
    unfolding pick
    after_other x least e h = as_nowhere (record { reads = first_read h ∙ ap (λ (b : Bool). pick b (f.read (drop (at + 1) s)) bad) (ne_eqb _ _ e) })

    pub after_short : (x : A) (least : ℕ) → at ≤ length s → length s < at + (1 + z) → EndsAs (after n f) x s at least None
    unfolding pick then
    after_short x least a h = as_nowhere (go (leb (length s) at) refl)
      where
        neither : (b : Bool) → ◌≡◌ {A = Got A} (pick b bad bad) bad
        neither true = refl
        neither false = refl

        go : (b : Bool) → leb (length s) at ≡ b → Fails (after n f) s at
        go true e = record { reads = ap (λ w. then w (λ k r. pick (eqb k n) (f.read r) bad)) (octet_fails s at (leb-true _ _ e)).reads }
        go false e =
            let l = leb-false _ _ e in
            record { reads = first_read l ∙ ap (λ w. pick (eqb (get_or s at 0) n) w bad) (p.fails s (at + 1) (omega arith) (omega arith)).reads ∙ neither (eqb (get_or s at 0) n) }

pub walk_length : {A : Type 0} (v : List ℕ → ℕ → A) (next : List ℕ → ℕ → ℕ) (n : ℕ) (s : List ℕ) (at : ℕ) → length (walk v next n s at) ≡ n
unfolding walk
walk_length v next zero s at = refl
walk_length v next (suc n) s at = ap suc (walk_length v next n s (next s at))

-- what the place of an end says
pub counted_place : (s : List ℕ) (at z : ℕ) {n : ℕ} → counted_end s at z ≡ Some n → (at < length s) × (n ≡ at + 1 + get_or s at 0 * z) × (n ≤ length s)
unfolding counted_end pick
counted_place s at z {n} e = go (leb (length s) at) refl (ltb (length s) (at + 1 + get_or s at 0 * z)) refl e
  where
    go : (b : Bool) → leb (length s) at ≡ b → (c : Bool) → ltb (length s) (at + 1 + get_or s at 0 * z) ≡ c → pick b None (pick c None (Some (at + 1 + get_or s at 0 * z))) ≡ Some n
        → (at < length s) × (n ≡ at + 1 + get_or s at 0 * z) × (n ≤ length s)
    go true p c q e = let w : ◌≡◌ {A = ℕ} 0 1 = cc in absurd (omega arith)
    go false p true q e = let w : ◌≡◌ {A = ℕ} 0 1 = cc in absurd (omega arith)
    go false p false q e = let w : n ≡ at + 1 + get_or s at 0 * z = cc in let h : at + 1 + get_or s at 0 * z ≤ length s = ltb-false _ _ q in (leb-false _ _ p, w, omega arith)

-- as the code comes to it
module _ (s : List ℕ) (at z : ℕ) where
  pub counted_over : length s ≤ at → None ≡ counted_end s at z
  unfolding counted_end
  counted_over h = pick_le _ _ _ (length s) at h refl

  module _ (n m : ℕ) (en : n ≡ get_or s at 0) (em : m ≡ n * z) (h : at < length s) where
    size : at + 1 + m ≡ at + 1 + get_or s at 0 * z
    size = ap (λ (k : ℕ). at + 1 + k) (em ∙ ap (λ (k : ℕ). k * z) en)

    pub counted_past : length s < at + 1 + m → None ≡ counted_end s at z
    unfolding counted_end
    counted_past l = let e = size in pick_not_le _ _ _ (length s) at h (pick_lt _ _ _ (length s) _ (omega arith) refl)

    pub counted_at : at + 1 + m ≤ length s → Some (at + 1 + m) ≡ counted_end s at z
    unfolding counted_end
    counted_at l = let e = size in pick_not_le _ _ _ (length s) at h (pick_not_lt _ _ _ (length s) _ (omega arith) (ap Some e))

pub ruleset counted_ends = (counted_over, counted_past, counted_at)
