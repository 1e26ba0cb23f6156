-- Laws: the places that the walk keeps are good, and so are those of every message that was read (`read_good`).
use Rattle.std.specs.Prelude.{◌≡◌, refl, List, Bool, true, false, ◌&&◌, ◌⊎◌, ℕ, zero, suc, ◌+◌, ◌≤◌, ◌<◌, length, get_or, set, replicate, ltb, leb, eqb}
use Rattle.std.proofs.Common.{sym, subst, inl, inr, ⊎_elim, arith, leb-true, get_or-set_same, get_or-set_other}
use Rattle.std.proofs.Math.Decide.{ℕ_discrete, dec_lt}
use Rattle.std.proofs.lemmas.List.{get_or-replicate}
use Rattle.std.proofs.Math.ListN.{get_or-eq_default}
use Rattle.std.proofs.Math.Seq.{set_out}
use Rattle.lists.specs.Pick.{pick}
use Rattle.message.specs.Walk.{code_at, after_at, layout_ok, value_ok, broken, done, moved, option_taken, step_of, onward, walk_from, walk_of, start}
use Rattle.message.specs.Read.{longest_datagram, header_ok, no_message, none_required, ended, by_stage, walked, read_of}
use Rattle.message.specs.declared.Reading.{Reading}
use Rattle.message.specs.declared.Walk.{Walk}
use Rattle.message.specs.declared.Stage.{Stage}
use Rattle.message.specs.declared.Stage.TheVariants.{Walking, Done, Broken}
use Rattle.message.specs.Placed.{GoodPlaces, Placed}

-- ---- the walk's turns

-- whichever way a test goes
pub pick_cases : {A : Type 0} (P : A → Type 0) (b : Bool) (x y : A) → (b ≡ true → P x) → (b ≡ false → P y) → P (pick b x y)
unfolding pick
pick_cases P true x y f g = f refl
pick_cases P false x y f g = g refl

-- a walk that is on is past where it was, no walk is past the end, and its places are good
pub record Onto (s : List ℕ) (at : ℕ) (w : Walk) : Type 0 where
  pub within : w.at ≤ length s
  pub further : w.stage ≡ Walking → at + 4 ≤ w.at
  pub good : GoodPlaces s w.places

pub layout_fits : (s : List ℕ) (at : ℕ) → layout_ok s at ≡ true → after_at s at ≤ length s
unfolding layout_ok
layout_fits s at e = go (leb (at + 4) (length s)) e
  where
    go : (b : Bool) → (b && leb (after_at s at) (length s)) ≡ true → after_at s at ≤ length s
    go true e = leb-true _ _ e
    go false e = let z : ◌≡◌ {A = ℕ} 0 1 = cc in absurd (omega arith)

good_set : (s p : List ℕ) (c at : ℕ) → GoodPlaces s p → Placed s c at → GoodPlaces s (set p c at)
unfolding GoodPlaces
good_set s p c at g new d = go (ℕ_discrete d c) (dec_lt c (length p))
  where
    go : Dec (d ≡ c) → Dec (c < length p) → (get_or (set p c at) d 0 ≡ 0) ⊎ Placed s d (get_or (set p c at) d 0)
    go (no q) l = subst (λ (x : ℕ). (x ≡ 0) ⊎ Placed s d x) (sym (get_or-set_other p c d at 0 q)) (g d)
    go (yes q) (yes l) = inr (subst (λ (x : ℕ). Placed s x (get_or (set p c at) x 0)) (sym q) (subst (λ (x : ℕ). Placed s c x) (sym (get_or-set_same p c at 0 l)) new))
    go (yes q) (no l) = subst (λ (x : List ℕ). (get_or x d 0 ≡ 0) ⊎ Placed s d (get_or x d 0)) (sym (set_out p c at (omega arith))) (g d)

stopped : (s : List ℕ) (w : Walk) → w.at ≤ length s → GoodPlaces s w.places → Onto s w.at (broken w)
stopped s w h g = record { within = h; further = λ e. let z : ◌≡◌ {A = ℕ} 0 1 = cc in omega arith; good = g }

finished : (s : List ℕ) (w : Walk) → w.at ≤ length s → GoodPlaces s w.places → Onto s w.at (done w)
finished s w h g = record { within = h; further = λ e. let z : ◌≡◌ {A = ℕ} 0 1 = cc in omega arith; good = g }

gone_on : (s : List ℕ) (n : ℕ) (w : Walk) (p : List ℕ) → w.at + 4 + n ≤ length s → GoodPlaces s p → Onto s w.at (moved n p w)
gone_on s n w p h g = record { within = h; further = λ e. omega arith; good = g }

pub step_onto : (s : List ℕ) (w : Walk) → w.at ≤ length s → GoodPlaces s w.places → Onto s w.at (step_of s w)
unfolding step_of option_taken
step_onto s w h g =
    let P : Walk → Type 0 = λ v. Onto s w.at v in
    let stop : Onto s w.at (broken w) = stopped s w h g in
    pick_cases P (layout_ok s w.at) _ _ (λ e1.
    let fits : after_at s w.at ≤ length s = layout_fits s w.at e1 in
    pick_cases P (value_ok s w.at) _ _ (λ e2.
    pick_cases P (eqb (code_at s w.at) 0) _ _ (λ _.
    pick_cases P (eqb (w.at + 4) (length s)) _ _ (λ _. finished s w h g) (λ _. stop)) (λ _.
    pick_cases P (ltb 16 (code_at s w.at)) _ _ (λ _. gone_on s _ w _ fits g) (λ _.
    pick_cases P (eqb (get_or w.places (code_at s w.at) 0) 0) _ _
    (λ _. gone_on s _ w _ fits (good_set s w.places _ _ g (record { fits = fits; named = refl; right = e2 }))) (λ _. stop))))
    (λ _. stop)) (λ _. stop)

from_good : (k : ℕ) (s : List ℕ) (w : Walk) → w.at ≤ length s → GoodPlaces s w.places → GoodPlaces s (walk_from k s w).places
unfolding walk_from
from_good zero s w h g = g
from_good (suc k) s w h g = let o = step_onto s w h g in go w.stage (from_good k s (step_of s w) o.within o.good)
  where
    go : (t : Stage) → GoodPlaces s (walk_from k s (step_of s w)).places → GoodPlaces s (onward t w (walk_from k s (step_of s w))).places
    go Walking r = r
    go Done r = g
    go Broken r = g

pub none_good : (s : List ℕ) → GoodPlaces s (replicate 17 0)
unfolding GoodPlaces
none_good s c = inl (zeros c (dec_lt c 17))
  where
    zeros : (c : ℕ) → Dec (c < 17) → ◌≡◌ {A = ℕ} (get_or (replicate 17 0) c 0) 0
    zeros c (yes l) = get_or-replicate 17 c 0 0 l
    zeros c (no l) = get_or-eq_default (replicate 17 0) 0 {n = c} (omega arith)

pub walk_good : (s : List ℕ) → 8 ≤ length s → GoodPlaces s (walk_of s).places
unfolding walk_of
walk_good s h = from_good (length s) s start h (none_good s)

-- ---- what a place promises

pub placed : (s places : List ℕ) (code : ℕ) → GoodPlaces s places → (get_or places code 0 ≡ 0 → ⊥) → Placed s code (get_or places code 0)
unfolding GoodPlaces
placed s places code g nz = ⊎_elim (λ z. absurd (nz z)) (λ p. p) (g code)

-- ---- every message that was read has good places

pub header_long : (s : List ℕ) → header_ok s ≡ true → 12 ≤ length s
unfolding header_ok
header_long s e = go (leb 12 (length s)) refl _ e
  where
    go : (b : Bool) → leb 12 (length s) ≡ b → (rest : Bool) → (b && rest) ≡ true → 12 ≤ length s
    go true q rest e = leb-true _ _ q
    go false q rest e = let z : ◌≡◌ {A = ℕ} 0 1 = cc in absurd (omega arith)

pub header_short : (s : List ℕ) → header_ok s ≡ true → length s ≤ longest_datagram
unfolding header_ok
header_short s e = go (leb 12 (length s)) (leb (length s) longest_datagram) refl _ e
  where
    go : (a b : Bool) → leb (length s) longest_datagram ≡ b → (rest : Bool) → (a && (b && rest)) ≡ true → length s ≤ longest_datagram
    go true true q rest e = leb-true _ _ q
    go true false q rest e = let z : ◌≡◌ {A = ℕ} 0 1 = cc in absurd (omega arith)
    go false b q rest e = let z : ◌≡◌ {A = ℕ} 0 1 = cc in absurd (omega arith)

pub read_good : (s : List ℕ) → GoodPlaces s (read_of s).message.places
unfolding read_of ended
read_good s =
    pick_cases P (header_ok s) _ _ (λ e. at_stage (walk_of s).stage (let h = header_long s e in walk_good s (omega arith))) (λ _. none_good s)
  where
    P : Reading → Type 0
    P r = GoodPlaces s r.message.places

    at_stage : (t : Stage) → GoodPlaces s (walk_of s).places → P (by_stage t (ended s (walk_of s).places) (no_message 5 (walk_of s).at))
    at_stage Walking g = none_good s
    at_stage Done g =
        pick_cases P (eqb (get_or (walk_of s).places 3 0) 0) _ _ (λ _. none_good s) (λ _.
        pick_cases P (none_required s (walk_of s).places) _ _ (λ _. g) (λ _. none_good s))
    at_stage Broken g = none_good s

-- a message is no longer than a datagram may be
pub read_short : (s : List ℕ) → (read_of s).discard ≡ 0 → length s ≤ longest_datagram
unfolding read_of pick
read_short s e = go (header_ok s) refl e
  where
    go : (b : Bool) → header_ok s ≡ b → (pick b (walked s (walk_of s)) (no_message 4 0)).discard ≡ 0 → length s ≤ longest_datagram
    go true q e = header_short s q
    go false q e = absurd (omega arith)
