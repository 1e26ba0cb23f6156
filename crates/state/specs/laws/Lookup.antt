-- Laws: what a lookup answers where it stops (document 02, W-210), and that it compares no more records than there are.
use Rattle.std.specs.Prelude.{ℕ, suc, ◌+◌, ◌≤◌, Bool, true, false, List, [], ◌∷◌, ◌≡◌, refl, cond, ltb, length, position, Option, None, Some}
use Rattle.std.specs.List.{position_or_len}
use Rattle.std.specs.Option.{option_map_or, unwrap_or}
use Rattle.std.proofs.Common.{sym, ap, ◌∙◌, arith, ltb-true}
use Rattle.std.proofs.lemmas.Bool.{ltb-false}
use Rattle.std.proofs.lemmas.List.Recursion.{is_position_or_len}
use Rattle.lists.specs.Pick.{pick}
use Rattle.lists.specs.Place.{place_by}
use Rattle.state.specs.declared.Lease.{Lease}
use Rattle.state.specs.declared.Lookup.{Lookup}
use Rattle.state.specs.Book.{compared_of, lookup_of, named, place_of}

-- the place of the first that passes, in std's words
pub place_is : {A : Type 0} (t : A → Bool) (l : List A) → place_by t l ≡ position_or_len t l
unfolding place_by pick
place_is {A} t l = is_position_or_len (place_by t) t refl (λ x xs. picked (t x) (place_by t xs)) l
  where
    picked : (b : Bool) (n : ℕ) → pick b 0 (suc n) ≡ cond b 0 (1 + n)
    picked true n = refl
    picked false n = omega arith

place_few : {A : Type 0} (t : A → Bool) (l : List A) → place_by t l ≤ length l
unfolding place_by pick
place_few t [] = omega arith
place_few t (x ∷ l) = go (t x) (place_few t l)
  where
    go : (b : Bool) → place_by t l ≤ length l → pick b 0 (suc (place_by t l)) ≤ suc (length l)
    go true h = omega arith
    go false h = omega arith

-- and where none passes, as many as there are
pub place_or_all : {A : Type 0} (t : A → Bool) (l : List A) → unwrap_or (position t l) (length l) ≡ place_by t l
place_or_all {A} t l = go (ltb (position_or_len t l) (length l)) refl
  where
    go : (b : Bool) → ltb (position_or_len t l) (length l) ≡ b → unwrap_or (cond b (Some (position_or_len t l)) None) (length l) ≡ place_by t l
    go true e = sym (place_is t l)
    go false e = let h = ltb-false (position_or_len t l) (length l) e in let g = place_few t l in let p = place_is t l in omega arith

-- what a search from the front finds, and how many it looks at
pub answered : (i : List ℕ) {own ls : List Lease} {p : Option ℕ} → p ≡ position (named i) own → own ≡ ls
    → ◌≡◌ {A = Lookup} (record { place = p; compared = option_map_or (λ k. k + 1) p (length own) }) (lookup_of i ls)
unfolding compared_of pick
answered i {own} e q =
    ap {B = Lookup} (λ (o : Option ℕ). record { place = o; compared = option_map_or (λ k. k + 1) o (length own) }) e
    ∙ ap {B = Lookup} (λ (n : ℕ). record { place = position (named i) own; compared = n }) searched ∙ ap (lookup_of i) q
  where
    first : ℕ
    first = position_or_len (named i) own

    go : (b : Bool) → ltb first (length own) ≡ b → option_map_or (λ k. k + 1) (cond b (Some first) None) (length own) ≡ pick b (first + 1) (length own)
    go true e = refl
    go false e = refl

    searched : option_map_or (λ k. k + 1) (position (named i) own) (length own) ≡ compared_of i own
    searched = go (ltb first (length own)) refl ∙ sym (ap (λ (k : ℕ). pick (ltb k (length own)) (k + 1) (length own)) (place_is (named i) own))

-- "at most 16", as there are at most 16 records in use
pub compared_few : (i : List ℕ) (ls : List Lease) → compared_of i ls ≤ length ls
unfolding compared_of pick
compared_few i ls = go (ltb (place_of i ls) (length ls)) refl
  where
    go : (b : Bool) → ltb (place_of i ls) (length ls) ≡ b → pick b (place_of i ls + 1) (length ls) ≤ length ls
    go true e = let h = ltb-true (place_of i ls) (length ls) e in omega arith
    go false e = omega arith
