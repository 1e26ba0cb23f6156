-- Laws: between the code and the definitions: lists of numbers, the lists of option 12, and the turns of the walk.
use Rattle.std.specs.Prelude.{◌≡◌, refl, List, [], ◌∷◌, ◌++◌, Bool, true, false, not, ◌&&◌, ◌||◌, Option, Some, None, is_some, ℕ, zero, suc, ◌+◌, ◌-◌, ◌*◌, ◌/◌, ◌≤◌, ◌<◌, min, length, get_or, take, drop, replicate, ltb, leb, eqb}
use Rattle.std.specs.Bool.{then_some}
use Rattle.std.specs.List.{list_all, list_any, range_with_len}
use Rattle.std.proofs.Common.{sym, ap, ap₂, ◌∙◌, subst, arith, lt-ltb, le-ltb, leb-true, eqb-true, eq-eqb, ne_eqb, ltb-true, ltb-false, rules}
use Rattle.std.proofs.Math.ListN.{get_or-eq_default}
use borrow.Author.Tests.{eqb-false}
use Rattle.lists.specs.Pick.{pick}
use Rattle.lists.specs.laws.Pick.{pick_not_eq, pick_false}
use Rattle.octets.specs.Octets.{at16, at32}
use Rattle.lists.specs.Filter.{is_in}
use Rattle.lists.specs.All.{all_to}
use Rattle.message.specs.Codes.{client_types, length_ok, allowed_in, allows}
use Rattle.message.specs.Values.{wish_of, times_of, fields_of, counts_at, counts_of, server_ok, names_of, all_allowed, identifier_of, codes_from, found_at, find_of, padded, identifier_at, language_at, language_of}
use Rattle.message.specs.Read.{longest_datagram, header_ok, no_message, message_of, required_empty, ended, by_stage, walked}
use Rattle.message.specs.Walk.{code_at, length_at, after_at, layout_ok, value_ok, past_list, exactly_filled, option_taken, step_of, onward, walk_from, walk_of, start}
use Rattle.message.specs.laws.Placed.{layout_fits, Onto, step_onto, none_good, walk_good, placed, header_long, header_short}
use Rattle.message.specs.Placed.{past_within, four_octets, Placed, GoodPlaces}
use Rattle.message.specs.declared.codes.MessageType.{MessageType}
use Rattle.message.specs.declared.Walk.{Walk}
use Rattle.message.specs.declared.Stage.{Stage}
use Rattle.message.specs.declared.Stage.TheVariants.{Walking, Done, Broken}
use Rattle.message.specs.declared.Counts.{Counts}
use Rattle.message.specs.declared.Identifier.{Identifier}
use Rattle.message.specs.declared.Fields.{Fields}
use Rattle.message.specs.declared.Language.{Language}
use Rattle.message.specs.declared.Message.{Message}
use Rattle.message.specs.declared.Reading.{Reading}
use Rattle.message.specs.declared.Times.{Times}

-- ---- is a number in a list

any_is : (n : ℕ) (l : List ℕ) → list_any (λ y. eqb y n) l ≡ is_in n l
unfolding is_in pick
any_is n [] = refl
any_is n (x ∷ l) = go (eqb x n) refl (any_is n l)
  where
    go : (b : Bool) → eqb x n ≡ b → list_any (λ y. eqb y n) l ≡ is_in n l → (b || list_any (λ y. eqb y n) l) ≡ pick (eqb n x) true (is_in n l)
    go true e ih = ap (λ (b : Bool). pick b true (is_in n l)) (sym (eq-eqb n x (sym (eqb-true x n e))))
    go false e ih = ih ∙ ap (λ (b : Bool). pick b true (is_in n l)) (sym (ne_eqb n x (λ q. eqb-false x n e (sym q))))

pub is_listed : {r : Bool} (n : ℕ) (l : List ℕ) → r ≡ list_any (λ y. eqb y n) l → r ≡ is_in n l
is_listed n l e = e ∙ any_is n l

-- ---- the codes of a list option

any_code : (s : List ℕ) (code p a k : ℕ) → list_any (λ i. eqb (at16 s (p + 2 * i)) code) (range_with_len a k) ≡ list_any (λ y. eqb y code) (codes_from s (p + 2 * a) k)
unfolding codes_from
any_code s code p a zero = refl
any_code s code p a (suc k) =
    let e : p + 2 * (a + 1) ≡ p + 2 * a + 2 = omega arith in
    ap (λ (b : Bool). eqb (at16 s (p + 2 * a)) code || b) (any_code s code p (a + 1) k ∙ ap (λ (q : ℕ). list_any (λ y. eqb y code) (codes_from s q k)) e)

pub lists_is : {r : Bool} (s : List ℕ) (code at x : ℕ) → x ≡ length_at s at → r ≡ list_any (λ i. eqb (at16 s (at + 4 + 2 * i)) code) (range_with_len 0 (x / 2))
    → r ≡ is_in code (codes_from s (at + 4) (length_at s at / 2))
lists_is s code at x e p =
    let z : at + 4 + 2 * 0 ≡ at + 4 = omega arith in
    p ∙ any_code s code (at + 4) 0 (x / 2) ∙ any_is code _ ∙ ap₂ (λ (q n : ℕ). is_in code (codes_from s q (n / 2))) z e

-- ---- the codes up to 16

all_last : (p : ℕ → Bool) (a n : ℕ) → list_all p (range_with_len a (suc n)) ≡ pick (list_all p (range_with_len a n)) (p (a + n)) false
unfolding pick
all_last p a zero = let e : a ≡ a + 0 = omega arith in one (p a) ∙ ap p e
  where
    one : (b : Bool) → (b && true) ≡ b
    one true = refl
    one false = refl
all_last p a (suc n) =
    let e : a + 1 + n ≡ a + suc n = omega arith in
    ap (λ (b : Bool). p a && b) (all_last p (a + 1) n) ∙ turn (p a) _ _ ∙ ap (λ (k : ℕ). pick (p a && list_all p (range_with_len (a + 1) n)) (p k) false) e
  where
    turn : (b c d : Bool) → (b && pick c d false) ≡ pick (b && c) d false
    turn true c d = refl
    turn false c d = refl

pub all_to_is : (p : ℕ → Bool) (n : ℕ) → list_all p (range_with_len 0 n) ≡ all_to p n
unfolding all_to
all_to_is p zero = refl
all_to_is p (suc n) = let e : 0 + n ≡ n = omega arith in all_last p 0 n ∙ ap₂ (λ (b : Bool) (k : ℕ). pick b (p k) false) (all_to_is p n) e

-- ---- option 12 is exactly filled

within_near : (s : List ℕ) (end p : ℕ) → p + 2 ≤ end → past_within s end p ≡ past_list s p
unfolding past_within pick
within_near s end p h = go (ltb end (p + 2)) refl
  where
    go : (b : Bool) → ltb end (p + 2) ≡ b → pick b (end + 1) (past_list s p) ≡ past_list s p
    go true e = let q = ltb-true end (p + 2) e in absurd (omega arith)
    go false e = refl

within_far : (s : List ℕ) (end p : ℕ) → end < p + 2 → past_within s end p ≡ end + 1
unfolding past_within pick
within_far s end p h = go (ltb end (p + 2)) refl
  where
    go : (b : Bool) → ltb end (p + 2) ≡ b → pick b (end + 1) (past_list s p) ≡ end + 1
    go true e = refl
    go false e = let q = ltb-false end (p + 2) e in absurd (omega arith)

pub filled_is : (s : List ℕ) (p end a b r : ℕ) → a ≡ past_within s end p → b ≡ past_within s end a → r ≡ past_within s end b → eqb r end ≡ exactly_filled s p end
unfolding exactly_filled
filled_is s p end a b r x y z = go (ltb end (p + 2)) refl (ltb end (a + 2)) refl (ltb end (b + 2)) refl
  where
    over : (q : ℕ) → r ≡ end + 1 → end < q → eqb r end ≡ eqb q end
    over q e h = ne_eqb r end (λ w. absurd (omega arith)) ∙ sym (ne_eqb q end (λ w. absurd (omega arith)))

    go : (t : Bool) → ltb end (p + 2) ≡ t → (u : Bool) → ltb end (a + 2) ≡ u → (v : Bool) → ltb end (b + 2) ≡ v → eqb r end ≡ eqb (past_list s (past_list s (past_list s p))) end
    go true e u f v g =
        let h = ltb-true end (p + 2) e in
        let a₁ : a ≡ end + 1 = x ∙ within_far s end p h in
        let b₁ : b ≡ end + 1 = y ∙ within_far s end a (omega arith) in
        over _ (z ∙ within_far s end b (omega arith)) (omega arith)
    go false e true f v g =
        let h = ltb-true end (a + 2) f in
        let a₁ : a ≡ past_list s p = x ∙ within_near s end p (ltb-false end (p + 2) e) in
        let b₁ : b ≡ end + 1 = y ∙ within_far s end a h in
        over _ (z ∙ within_far s end b (omega arith)) (omega arith)
    go false e false f true g =
        let h = ltb-true end (b + 2) g in
        let a₁ : a ≡ past_list s p = x ∙ within_near s end p (ltb-false end (p + 2) e) in
        let b₁ : b ≡ past_list s (past_list s p) = y ∙ within_near s end a (ltb-false end (a + 2) f) ∙ ap (past_list s) a₁ in
        over _ (z ∙ within_far s end b h) (omega arith)
    go false e false f false g =
        let a₁ : a ≡ past_list s p = x ∙ within_near s end p (ltb-false end (p + 2) e) in
        let b₁ : b ≡ past_list s (past_list s p) = y ∙ within_near s end a (ltb-false end (a + 2) f) ∙ ap (past_list s) a₁ in
        let r₁ : r ≡ past_list s (past_list s (past_list s p)) = z ∙ within_near s end b (ltb-false end (b + 2) g) ∙ ap (past_list s) b₁ in
        ap (λ (q : ℕ). eqb q end) r₁

-- ---- the walk

pub layout_inside : (s : List ℕ) (at : ℕ) (b : Bool) → b ≡ layout_ok s at → b ≡ true → after_at s at ≤ length s
layout_inside s at b e t = layout_fits s at (sym e ∙ t)

pub after_got : {q : ℕ} (s : List ℕ) (at : ℕ) → q ≡ length_at s at → leb (at + 4 + q) (length s) ≡ leb (after_at s at) (length s)
after_got s at e = ap (λ (n : ℕ). leb (at + 4 + n) (length s)) e

pub taken_got : (size c n : ℕ) (r : Walk) (x y : ℕ) (w : Walk) → r ≡ option_taken size c n w → c ≡ x → n ≡ y → r ≡ option_taken size x y w
taken_got size c n r x y w p e q = p ∙ ap₂ (λ (a b : ℕ). option_taken size a b w) e q

pub filled_got : {n : ℕ} {r : Bool} (s : List ℕ) (p at y : ℕ) → r ≡ exactly_filled s p (at + 4 + n) → n ≡ y → r ≡ exactly_filled s p (at + 4 + y)
filled_got s p at y e q = e ∙ ap (λ (k : ℕ). exactly_filled s p (at + 4 + k)) q

-- what is left of a walk: nothing once it has stopped
pub rank : Stage → ℕ → ℕ
rank Walking n = suc n
rank Done n = 0
rank Broken n = 0

-- what the loop keeps: the walk from w on, with fuel enough, is the whole walk
pub record Left (s : List ℕ) (w : Walk) : Type 0 where
  pub within : w.at ≤ length s
  pub good : GoodPlaces s w.places
  pub fuel : ℕ
  pub enough : w.stage ≡ Walking → length s < w.at + fuel
  pub same : walk_of s ≡ walk_from fuel s w

pub left_start : (s : List ℕ) → 8 ≤ length s → Left s start
unfolding walk_of
left_start s h = record { within = h; good = none_good s; fuel = length s; enough = λ _. omega arith; same = refl }

pub left_step : (s : List ℕ) (w : Walk) → w.stage ≡ Walking → Left s w → Left s (step_of s w)
unfolding walk_from
left_step s w e l = go l.fuel (l.enough e) l.same (step_onto s w l.within l.good)
  where
    go : (k : ℕ) → length s < w.at + k → walk_of s ≡ walk_from k s w → Onto s w.at (step_of s w) → Left s (step_of s w)
    go zero h q o = absurd (omega (arith, l.within, h))
    go (suc k) h q o = record {
      within = o.within;
      good = o.good;
      fuel = k;
      enough = λ e'. omega (arith, o.further e');
      same = q ∙ ap (λ (t : Stage). onward t w (walk_from k s (step_of s w))) e;
    }

pub left_stop : (s : List ℕ) (w : Walk) (t : Stage) → w.stage ≡ t → ((m : Walk) → onward t w m ≡ w) → Left s w → w ≡ walk_of s
unfolding walk_from
left_stop s w t e f l = sym (l.same ∙ go l.fuel)
  where
    go : (k : ℕ) → walk_from k s w ≡ w
    go zero = refl
    go (suc k) = ap (λ (x : Stage). onward x w (walk_from k s (step_of s w))) e ∙ f _

pub rank_falls : (s : List ℕ) (w : Walk) → w.stage ≡ Walking → Left s w
    → rank (step_of s w).stage (length s - (step_of s w).at) < rank w.stage (length s - w.at)
unfolding rank
rank_falls s w e l = subst (λ (t : Stage). rank (step_of s w).stage (length s - (step_of s w).at) < rank t (length s - w.at)) (sym e) (go (step_of s w) (step_onto s w l.within l.good))
  where
    go : (v : Walk) → Onto s w.at v → rank v.stage (length s - v.at) < rank Walking (length s - w.at)
    go v p = at_stage v.stage p.further
      where
        at_stage : (t : Stage) → (t ≡ Walking → w.at + 4 ≤ v.at) → rank t (length s - v.at) < rank Walking (length s - w.at)
        at_stage Walking f = omega (arith, f refl, p.within)
        at_stage Done f = omega arith
        at_stage Broken f = omega arith

-- ---- the message types' options

pub first_of : (n x : ℕ) (l : List ℕ) (r : Bool) → r ≡ true → n ≡ x → r ≡ is_in n (x ∷ l)
unfolding is_in pick
first_of n x l r p e = p ∙ ap (λ (b : Bool). pick b true (is_in n l)) (sym (eq-eqb n x e))

pub later_of : (n x : ℕ) (l : List ℕ) (r : Bool) → (n ≡ x → ⊥) → r ≡ is_in n l → r ≡ is_in n (x ∷ l)
unfolding is_in pick
later_of n x l r e p = p ∙ ap (λ (b : Bool). pick b true (is_in n l)) (sym (ne_eqb n x e))

-- ---- the table of lengths

not_in : (n x : ℕ) (l : List ℕ) → (n ≡ x → ⊥) → is_in n l ≡ false → is_in n (x ∷ l) ≡ false
unfolding is_in pick
not_in n x l h p = ap (λ (b : Bool). pick b true (is_in n l)) (ne_eqb n x h) ∙ p

none_in : (n : ℕ) → is_in n [] ≡ false
unfolding is_in
none_in n = refl

-- above k, if from k on and not k
pub up : {x : ℕ} (k : ℕ) → k ≤ x → (x ≡ k → ⊥) → k + 1 ≤ x
up k h e = omega arith

-- a code above 16 has no rule
pub length_above : (code n : ℕ) → 16 < code → true ≡ length_ok code n
unfolding length_ok
length_above code n h = search (pick_not_eq, pick_false, not_in, none_in, other, rules) depth 60
  where
    other : (c : ℕ) → c ≤ 16 → code ≡ c → ⊥
    other c g e = omega arith

module _ (number kind : ℕ) (r : Bool) where
  listed_as : (l : List ℕ) → allowed_in kind ≡ l → r ≡ is_in number l → r ≡ is_in number (allowed_in kind)
  listed_as l e p = p ∙ ap (is_in number) (sym e)

  pub allowed_getinfo : kind ≡ 8 → r ≡ is_in number (5 ∷ 8 ∷ []) → r ≡ is_in number (allowed_in kind)
  unfolding allowed_in pick
  allowed_getinfo e = listed_as _ (rw e)

  pub allowed_discover : kind ≡ 1 → r ≡ is_in number (1 ∷ 4 ∷ 6 ∷ 7 ∷ 10 ∷ 11 ∷ 14 ∷ 15 ∷ []) → r ≡ is_in number (allowed_in kind)
  unfolding allowed_in pick
  allowed_discover e = listed_as _ (rw e)

  pub allowed_request : kind ≡ 3 → r ≡ is_in number (2 ∷ 1 ∷ 4 ∷ 6 ∷ 7 ∷ 10 ∷ 11 ∷ 14 ∷ 15 ∷ []) → r ≡ is_in number (allowed_in kind)
  unfolding allowed_in pick
  allowed_request e = listed_as _ (rw e)

  pub allowed_renew : kind ≡ 4 → r ≡ is_in number (1 ∷ 6 ∷ 11 ∷ 14 ∷ 15 ∷ []) → r ≡ is_in number (allowed_in kind)
  unfolding allowed_in pick
  allowed_renew e = listed_as _ (rw e)

  pub allowed_none : (kind ≡ 8 → ⊥) → (kind ≡ 1 → ⊥) → (kind ≡ 3 → ⊥) → (kind ≡ 4 → ⊥) → r ≡ false → r ≡ is_in number (allowed_in kind)
  unfolding allowed_in is_in pick
  allowed_none a b c d = listed_as [] (rw (ne_eqb kind 8 a, ne_eqb kind 1 b, ne_eqb kind 3 c, ne_eqb kind 4 d))

pub ruleset allowances = (allowed_getinfo, allowed_discover, allowed_request, allowed_renew, allowed_none)

-- a number in the first of two lists, or else in the second
in_first : (n : ℕ) (xs ys : List ℕ) → is_in n xs ≡ true → is_in n (xs ++ ys) ≡ true
unfolding is_in pick
in_first n [] ys h = let z : ◌≡◌ {A = ℕ} 0 1 = cc in absurd (omega arith)
in_first n (x ∷ xs) ys h = go (eqb n x) h (in_first n xs ys)
  where
    go : (b : Bool) → pick b true (is_in n xs) ≡ true → (is_in n xs ≡ true → is_in n (xs ++ ys) ≡ true) → pick b true (is_in n (xs ++ ys)) ≡ true
    go true h ih = refl
    go false h ih = ih h

in_second : (n : ℕ) (xs ys : List ℕ) → is_in n xs ≡ false → is_in n (xs ++ ys) ≡ is_in n ys
unfolding is_in pick
in_second n [] ys h = refl
in_second n (x ∷ xs) ys h = go (eqb n x) h (in_second n xs ys)
  where
    go : (b : Bool) → pick b true (is_in n xs) ≡ false → (is_in n xs ≡ false → is_in n (xs ++ ys) ≡ is_in n ys) → pick b true (is_in n (xs ++ ys)) ≡ is_in n ys
    go true h ih = let z : ◌≡◌ {A = ℕ} 0 1 = cc in absurd (omega arith)
    go false h ih = ih h

module _ (number kind : ℕ) where
  pub allows_above : 16 < number → true ≡ allows kind number
  unfolding allows
  allows_above h = sym (ap (λ (b : Bool). b || is_in number (0 ∷ 3 ∷ 12 ∷ allowed_in kind)) (lt-ltb 16 number h))

  pub allows_always : {b : Bool} → number ≤ 16 → b ≡ is_in number (0 ∷ 3 ∷ 12 ∷ []) → b ≡ true → true ≡ allows kind number
  unfolding allows
  allows_always h e t = sym (ap (λ (b : Bool). b || is_in number (0 ∷ 3 ∷ 12 ∷ allowed_in kind)) (le-ltb 16 number h) ∙ in_first number (0 ∷ 3 ∷ 12 ∷ []) (allowed_in kind) (sym e ∙ t))

  pub allows_besides : {b r : Bool} → number ≤ 16 → b ≡ is_in number (0 ∷ 3 ∷ 12 ∷ []) → b ≡ false → r ≡ is_in number (allowed_in kind) → r ≡ allows kind number
  unfolding allows
  allows_besides h e t p = p ∙ sym (ap (λ (b : Bool). b || is_in number (0 ∷ 3 ∷ 12 ∷ allowed_in kind)) (le-ltb 16 number h) ∙ in_second number (0 ∷ 3 ∷ 12 ∷ []) (allowed_in kind) (sym e ∙ t))

-- ---- where options stand

-- no option past the array is recorded
pub find_past : {r : Option ℕ} (places : List ℕ) (code : ℕ) → r ≡ None → length places ≤ code → r ≡ find_of places code
unfolding found_at pick
find_past places code e h = e ∙ sym none ∙ ap found_at (sym (get_or-eq_default places 0 {n = code} (omega arith)))
  where
    none : found_at 0 ≡ None
    none = refl

pub find_there : {r : Option ℕ} {at : ℕ} (places : List ℕ) (code : ℕ) → r ≡ then_some (not (eqb at 0)) at → at ≡ get_or places code 0 → r ≡ find_of places code
unfolding found_at pick
find_there {at = at} places code e p = e ∙ shown (eqb at 0) ∙ ap found_at p
  where
    shown : (b : Bool) → then_some (not b) at ≡ pick b None (Some at)
    shown true = refl
    shown false = refl

found_b : (p at : ℕ) → Some at ≡ found_at p → (at ≡ p) × (at ≡ 0 → ⊥)
unfolding found_at pick
found_b p at e = go (eqb p 0) refl e
  where
    go : (b : Bool) → eqb p 0 ≡ b → Some at ≡ pick b None (Some p) → (at ≡ p) × (at ≡ 0 → ⊥)
    go true q e = let z : ◌≡◌ {A = ℕ} 0 1 = cc in absurd (omega arith)
    go false q e = let r : at ≡ p = cc in (r, λ z. eqb-false p 0 q (sym r ∙ z))

-- the option that was found stands there
pub found_placed : (s places : List ℕ) (code at : ℕ) (f : Option ℕ) → GoodPlaces s places → f ≡ find_of places code → f ≡ Some at → Placed s code at
found_placed s places code at f g p q =
    let e = found_b (get_or places code 0) at (sym q ∙ p) in
    subst (λ (x : ℕ). Placed s code x) (sym e.0) (placed s places code g (λ z. e.1 (e.0 ∙ z)))

pub found_fits : (s places : List ℕ) (code at : ℕ) (f : Option ℕ) → GoodPlaces s places → f ≡ find_of places code → f ≡ Some at → after_at s at ≤ length s
found_fits s places code at f g p q = (found_placed s places code at f g p q).fits

value_length : (s : List ℕ) (at : ℕ) → value_ok s at ≡ true → length_ok (code_at s at) (length_at s at) ≡ true
unfolding value_ok
value_length s at e = go (length_ok (code_at s at) (length_at s at)) refl e
  where
    go : (b : Bool) → length_ok (code_at s at) (length_at s at) ≡ b → (b && pick (eqb (code_at s at) 12) (exactly_filled s (at + 4) (after_at s at)) true) ≡ true → length_ok (code_at s at) (length_at s at) ≡ true
    go true q e = q
    go false q e = let z : ◌≡◌ {A = ℕ} 0 1 = cc in absurd (omega arith)

value_filled : (s : List ℕ) (at : ℕ) → code_at s at ≡ 12 → value_ok s at ≡ true → exactly_filled s (at + 4) (after_at s at) ≡ true
unfolding value_ok pick
value_filled s at c e = go (length_ok (code_at s at) (length_at s at)) (rw (eq-eqb _ 12 c) at e)
  where
    go : (b : Bool) → (b && exactly_filled s (at + 4) (after_at s at)) ≡ true → exactly_filled s (at + 4) (after_at s at) ≡ true
    go true e = e
    go false e = let z : ◌≡◌ {A = ℕ} 0 1 = cc in absurd (omega arith)

-- the length of the value of an option that stands there
pub placed_length : {s : List ℕ} {code at : ℕ} → Placed s code at → length_ok code (length_at s at) ≡ true
placed_length {s} {code} {at} p = sym (ap (λ (c : ℕ). length_ok c (length_at s at)) p.named) ∙ value_length s at p.right

-- what holds of every listed number holds of one that is in the list
AllOf : (ℕ → Type 0) → List ℕ → Type 0
AllOf P [] = Unit {0}
AllOf P (x ∷ l) = P x × AllOf P l

in_all : (P : ℕ → Type 0) (n : ℕ) (l : List ℕ) → is_in n l ≡ true → AllOf P l → P n
unfolding is_in pick AllOf
in_all P n [] h a = let z : ◌≡◌ {A = ℕ} 0 1 = cc in absurd (omega arith)
in_all P n (x ∷ l) h a = go (eqb n x) refl h (λ g. in_all P n l g a.1)
  where
    go : (b : Bool) → eqb n x ≡ b → pick b true (is_in n l) ≡ true → (is_in n l ≡ true → P n) → P n
    go true q h ih = subst P (sym (eqb-true n x q)) a.0
    go false q h ih = ih h

-- the table's entries of four octets
four : (code n : ℕ) → four_octets code ≡ true → length_ok code n ≡ true → n ≡ 4
unfolding is_in length_ok pick AllOf
four code n f = in_all (λ c. length_ok c n ≡ true → n ≡ 4) code (1 ∷ 4 ∷ 6 ∷ 11 ∷ 13 ∷ 14 ∷ 15 ∷ []) f (is, (is, (is, (is, (is, (is, (is, tt)))))))
  where
    is : eqb n 4 ≡ true → n ≡ 4
    is e = eqb-true n 4 e

pub four_scope : four_octets 4 ≡ true
unfolding is_in pick
four_scope = refl

-- the five times
pub four_time : (code : ℕ) → is_in code (1 ∷ 6 ∷ 11 ∷ 14 ∷ 15 ∷ []) ≡ true → four_octets code ≡ true
unfolding is_in pick AllOf
four_time code h = in_all (λ c. four_octets c ≡ true) code (1 ∷ 6 ∷ 11 ∷ 14 ∷ 15 ∷ []) h (refl, (refl, (refl, (refl, (refl, tt)))))

seven : (n : ℕ) → length_ok 7 n ≡ true → n ≡ 4
unfolding is_in length_ok pick
seven n e = eqb-true n 4 e

pub counts_fit_law : (s places : List ℕ) (at : ℕ) (f : Option ℕ) → GoodPlaces s places → f ≡ find_of places 7 → f ≡ Some at → at + 8 ≤ length s
counts_fit_law s places at f g p q =
    let w = found_placed s places 7 at f g p q in
    let n = seven (length_at s at) (placed_length w) in
    let h = w.fits in
    omega arith

pub four_fits : (s places : List ℕ) (code at : ℕ) (f : Option ℕ) → four_octets code ≡ true → GoodPlaces s places → f ≡ find_of places code → f ≡ Some at → at + 8 ≤ length s
four_fits s places code at f t g p q =
    let w = found_placed s places code at f g p q in
    let n = four code (length_at s at) t (placed_length w) in
    let h = w.fits in
    omega arith

id_length : (n : ℕ) → length_ok 3 n ≡ true → n ≤ 32
unfolding length_ok is_in pick
id_length n e = go (leb 2 n) e
  where
    go : (b : Bool) → (b && leb n 32) ≡ true → n ≤ 32
    go true e = leb-true n 32 e
    go false e = let z : ◌≡◌ {A = ℕ} 0 1 = cc in absurd (omega arith)

pub id_short : (s places : List ℕ) (at : ℕ) (f : Option ℕ) → GoodPlaces s places → f ≡ find_of places 3 → f ≡ Some at → length_at s at ≤ 32
id_short s places at f g p q = id_length _ (placed_length (found_placed s places 3 at f g p q))

-- ---- the features' required list

pub features_fit : (s places : List ℕ) → GoodPlaces s places → (get_or places 12 0 ≡ 0 → ⊥) → after_at s (get_or places 12 0) ≤ length s
features_fit s places g nz = (placed s places 12 g nz).fits

pub features_filled : (s places : List ℕ) → GoodPlaces s places → (get_or places 12 0 ≡ 0 → ⊥) → exactly_filled s (get_or places 12 0 + 4) (after_at s (get_or places 12 0)) ≡ true
features_filled s places g nz = let w = placed s places 12 g nz in value_filled s _ w.named w.right

module _ (s : List ℕ) (p end n x : ℕ) (filled : exactly_filled s p end ≡ true) (inside : end ≤ n) (first : x ≡ at16 s p) where
  ends : past_list s (past_list s (past_list s p)) ≡ end
  unfolding exactly_filled
  ends = eqb-true _ _ filled

  pub first_inside : p + 2 ≤ n
  first_inside = let e = ends in omega arith

  pub second_inside : p + 2 + 2 * x + 2 ≤ n
  second_inside = let e = ends in omega arith

  pub third_inside : (y : ℕ) → y ≡ at16 s (p + 2 + 2 * x) → p + 2 + 2 * x + 2 + 2 * y + 2 ≤ n
  third_inside y q =
      let e = ends in
      let a : p + 2 + 2 * x ≡ past_list s p = ap (λ (k : ℕ). p + 2 + 2 * k) first in
      let b : y ≡ at16 s (past_list s p) = q ∙ ap (at16 s) a in
      omega arith

  pub required_is : (y z : ℕ) → y ≡ at16 s (p + 2 + 2 * x) → z ≡ at16 s (p + 2 + 2 * x + 2 + 2 * y) → eqb z 0 ≡ required_empty s p
  unfolding required_empty
  required_is y z q r =
      let a : p + 2 + 2 * x ≡ past_list s p = ap (λ (k : ℕ). p + 2 + 2 * k) first in
      let b : y ≡ at16 s (past_list s p) = q ∙ ap (at16 s) a in
      let c : p + 2 + 2 * x + 2 + 2 * y ≡ past_list s (past_list s p) = omega arith in
      ap (λ (k : ℕ). eqb k 0) (r ∙ ap (at16 s) c)

-- the first count stands within the value
pub begins_inside : (s : List ℕ) (p end n : ℕ) → exactly_filled s p end ≡ true → end ≤ n → p + 2 ≤ n
begins_inside s p end n f h = first_inside s p end n (at16 s p) f h refl

-- ---- the reader

pub walked_good : (s : List ℕ) (w : Walk) → w ≡ walk_of s → 12 ≤ length s → GoodPlaces s w.places
walked_good s w e h = subst (λ (v : Walk). GoodPlaces s v.places) (sym e) (walk_good s (omega arith))

pub walked_as : (s : List ℕ) (w : Walk) (t : Stage) (r : Reading) → w.stage ≡ t → r ≡ by_stage t (ended s w.places) (no_message 5 w.at) → r ≡ walked s w
walked_as s w t r e p = p ∙ ap (λ (t : Stage). by_stage t (ended s w.places) (no_message 5 w.at)) (sym e)

pub long_header : (s : List ℕ) (b : Bool) → b ≡ header_ok s → b ≡ true → 12 ≤ length s
long_header s b e t = header_long s (sym e ∙ t)

pub short_header : (s : List ℕ) (b : Bool) → b ≡ header_ok s → b ≡ true → length s ≤ longest_datagram
short_header s b e t = header_short s (sym e ∙ t)

pub eight_header : (s : List ℕ) (b : Bool) → b ≡ header_ok s → b ≡ true → 8 ≤ length s
eight_header s b e t = let h = long_header s b e t in omega arith

pub walked_of : (s : List ℕ) (w : Walk) (r : Reading) → r ≡ walked s w → w ≡ walk_of s → r ≡ walked s (walk_of s)
walked_of s w r p e = p ∙ ap (walked s) e

pub message_is : (s places : List ℕ) (k : MessageType) (x : ℕ) → k.number ≡ get_or s 1 0 → x ≡ at32 s 4
    → ◌≡◌ {A = Reading} (record { discard = 0; fault = 0; message = record { kind = k; xid = x; places = places } }) (record { discard = 0; fault = 0; message = message_of s places })
message_is s places k x p e = ap₂ (λ (j y : ℕ). made j y) p e
  where
    made : ℕ → ℕ → Reading
    made j y = record { discard = 0; fault = 0; message = record { kind = record { number = j }; xid = y; places = places } }

-- a value by its constructor: its number is the one that was given
pub discarded_is : (number fault : ℕ) (k : MessageType) → k.number ≡ 0
    → ◌≡◌ {A = Reading} (record { discard = number; fault = fault; message = record { kind = k; xid = 0; places = replicate 17 0 } }) (no_message number fault)
discarded_is number fault k e = ap (λ (j : ℕ). made j) e
  where
    made : ℕ → Reading
    made j = record { discard = number; fault = fault; message = record { kind = record { number = j }; xid = 0; places = replicate 17 0 } }

pub client_got : {b : Bool} {k : ℕ} (x : ℕ) → b ≡ is_in k client_types → k ≡ x → b ≡ is_in x client_types
client_got x p e = p ∙ ap (λ (k : ℕ). is_in k client_types) e

pub allows_got : {b : Bool} {c : ℕ} (k x : ℕ) → b ≡ allows k c → c ≡ x → b ≡ allows k x
allows_got k x p e = p ∙ ap (allows k) e

-- ---- the values

pub length_got : {b : Bool} {k c n : ℕ} (x y : ℕ) → b ≡ length_ok k n → k ≡ c → c ≡ x → n ≡ y → b ≡ length_ok x y
length_got x y p e f q = p ∙ ap₂ length_ok (e ∙ f) q

pub counts_is : (s : List ℕ) (at x y : ℕ) → x ≡ at16 s (at + 4) → y ≡ at16 s (at + 6) → ◌≡◌ {A = Counts} (record { least = x; desired = y }) (counts_at s at)
counts_is s at x y p q = cc

pub times_is : (s places : List ℕ) (a b c d e : Option ℕ) → a ≡ wish_of s (find_of places 1) → b ≡ wish_of s (find_of places 6) → c ≡ wish_of s (find_of places 11) → d ≡ wish_of s (find_of places 14)
    → e ≡ wish_of s (find_of places 15) → ◌≡◌ {A = Times} (record { length = a; start = b; current = c; shortest = d; latest = e }) (times_of s places)
unfolding times_of
times_is s places a b c d e p q r t u = cc

zeros_left : (n m : ℕ) → drop {A = ℕ} n (replicate m 0) ≡ replicate (m - n) 0
zeros_left zero m = ap (λ (k : ℕ). replicate {A = ℕ} k 0) (let e : m ≡ m - 0 = omega arith in e)
zeros_left (suc n) zero = ap (λ (k : ℕ). replicate {A = ℕ} k 0) (let e : 0 ≡ 0 - suc n = omega arith in e)
zeros_left (suc n) (suc m) = zeros_left n m ∙ ap (λ (k : ℕ). replicate {A = ℕ} k 0) (let e : m - n ≡ suc m - suc n = omega arith in e)

-- octets and zeros past them, up to a size
padded_is : (size n : ℕ) (l v : List ℕ) → l ≡ take n v → l ++ drop n (replicate size 0) ≡ padded size n v
padded_is size n l v e = ap₂ (λ (x y : List ℕ). x ++ y) e (zeros_left n size)

pub identifier_is : (s l : List ℕ) (at n : ℕ) → l ≡ take n (drop (at + 4) s) → n ≡ length_at s at
    → ◌≡◌ {A = Identifier} (record { octets = l ++ drop n (replicate 32 0); len = n }) (identifier_at s at)
identifier_is s l at n e q = let o = padded_is 32 n l (drop (at + 4) s) e in cc

pub language_is : (s l : List ℕ) (at len n : ℕ) → l ≡ take n (drop (at + 4) s) → n ≡ min len 8 → len ≡ length_at s at
    → ◌≡◌ {A = Language} (record { asked = true; len = len; octets = l ++ drop n (replicate 8 0) }) (language_at s at)
language_is s l at len n e p q = let o = padded_is 8 n l (drop (at + 4) s) e in cc

pub fields_is : (s : List ℕ) (server : ℕ) (m : Message) {id : Identifier} {allowed : Bool} {scope : Option ℕ} {counts : Counts} {times : Times} {features ours list time : Bool} {language : Language}
    → id ≡ identifier_of s (find_of m.places 3) → allowed ≡ all_allowed m → scope ≡ wish_of s (find_of m.places 4) → counts ≡ counts_of s (find_of m.places 7) → times ≡ times_of s m.places
    → features ≡ is_some (find_of m.places 12) → ours ≡ server_ok s server (find_of m.places 2) → list ≡ names_of s 9 (find_of m.places 5) → time ≡ names_of s 11 (find_of m.places 5)
    → language ≡ language_of s (find_of m.places 8)
    → ◌≡◌ {A = Fields} (record { kind = m.kind.number; xid = m.xid; id = id; allowed = allowed; scope = scope; counts = counts; times = times; features = features; ours = ours; list_asked = list; time_asked = time; language = language })
    (fields_of s server m)
unfolding fields_of
fields_is s server m a b c d e f g h i j = cc
