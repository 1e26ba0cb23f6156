-- Proof of `FaultsRight`: the reader against the list of options as they stand.
use mathlib.Core.Path.{◌≡◌, refl, sym, ap, ap₂, ◌∙◌, subst}
use mathlib.Core.Bool.{Bool, true, false, not, ◌&&◌}
use mathlib.Core.Logic.{◌⊎◌, inl, inr, ⊎_elim}
use mathlib.Core.List.{List, [], ◌∷◌, ◌++◌, map, map-append, append_assoc, append-nil}
use Prim.Native.Nat.{ℕ, zero, suc, ◌+◌, ◌≤◌, ◌<◌}
use native.Mathlib.Omega.{arith}
use native.Mathlib.Decide.{ℕ_discrete}
use lib.ListN.{length, get_or, set, length-set, get_or-replicate}
use lib.Seq.{get_or-set_same, get_or-set_other}
use lib.Dec.{eqb, leb, ltb}
use borrow.Author.Tests.{eqb-true, eqb-false, eq-eqb, ne_eqb, ltb-true, ltb-false, lt-ltb, le-ltb, le-leb, lt-leb, leb-false}
use Rattle.lists.specs.Pick.{pick}
use Rattle.lists.specs.All.{all_by}
use Rattle.lists.specs.Filter.{filter_by, is_in}
use Rattle.lists.specs.laws.All.{all_head, all_cons, all_append, all_both}
use Rattle.lists.specs.laws.Filter.{filter_append, filter_none_out, in_append}
use Rattle.message.specs.Walk.{code_at, length_at, after_at, layout_ok, value_ok, broken, done, moved, option_taken, step_of, onward, walk_from, walk_of, start}
use Rattle.message.specs.Read.{header_ok, no_message, none_required, ended, by_stage, walked, read_of}
use Rattle.message.specs.laws.Placed.{pick_cases, layout_fits, header_long}
use Rattle.message.specs.declared.Walk.{Walk}
use Rattle.message.specs.declared.Reading.{Reading}
use Rattle.message.specs.declared.Stage.{Stage}
use Rattle.message.specs.declared.Stage.TheVariants.{Walking, Done, Broken}
use Rattle.message_laws.specs.Fault.{Standing, standing_at, after, options_from, options_of, codes_of, fits, length_right, end_right, options_before, no_repeat, keeps_rules, has_required, faults_of, FirstBroken, Missing, FaultsRight}
use Rattle.message_laws.proofs.Reached.{halted}
use Rattle.message_laws.proofs.Laws.{whole}

-- ---- lists
-- where all pass, none is left of those that don't
none_left : {A : Type 0} (t : A → Bool) (l : List A) → all_by t l ≡ true → filter_by (λ x. not (t x)) l ≡ []
unfolding filter_by pick
none_left t [] h = refl
none_left {A} t (x ∷ l) h =
    let a = all_head t x l h in
    let rest : List A = filter_by (λ x. not (t x)) l in
    ap (λ (b : Bool). pick (not b) (x ∷ rest) rest) a.0 ∙ none_left t l a.1

module _ (os : List Standing) (o : Standing) where
  in_snoc : (c : ℕ) → is_in c (codes_of (os ++ (o ∷ []))) ≡ pick (is_in c (codes_of os)) true (is_in c (o.code ∷ []))
  in_snoc c = ap (is_in c) (map-append (λ (p : Standing). p.code) os (o ∷ [])) ∙ in_append c (codes_of os) (o.code ∷ [])

  -- one more has its own code, and no other
  in_new : is_in o.code (codes_of (os ++ (o ∷ []))) ≡ true
  unfolding is_in pick
  in_new = in_snoc o.code ∙ ap (λ (b : Bool). pick (is_in o.code (codes_of os)) true (pick b true false)) (eq-eqb o.code o.code refl) ∙ either (is_in o.code (codes_of os))
    where
      either : (b : Bool) → pick b true true ≡ true
      either true = refl
      either false = refl

  in_old : (c : ℕ) → (c ≡ o.code → ⊥) → is_in c (codes_of (os ++ (o ∷ []))) ≡ is_in c (codes_of os)
  unfolding is_in pick
  in_old c n = in_snoc c ∙ ap (λ (b : Bool). pick (is_in c (codes_of os)) true (pick b true false)) (ne_eqb c o.code n) ∙ either (is_in c (codes_of os))
    where
      either : (b : Bool) → pick b true false ≡ b
      either true = refl
      either false = refl

-- ---- the first fault
unfoldable First : List ℕ → ℕ → Type 0
First d n = FirstBroken d n ⊎ Missing d n

-- it is the first of the list
first_fault : (d : List ℕ) (n : ℕ) → First d n → (more : List ℕ) × (faults_of d ≡ n ∷ more)
unfolding First faults_of filter_by pick
first_fault d n (inl f) =
    let t : Standing → Bool = λ o. not (keeps_rules d o) in
    let tail : List ℕ = pick (has_required d) [] (length d ∷ []) in
    let kept : filter_by t (options_of d) ≡ f.option ∷ filter_by t f.later =
    ap (filter_by t) f.stand ∙ filter_append t f.before (f.option ∷ f.later)
    ∙ ap₂ (λ (l : List Standing) (b : Bool). l ++ pick b (f.option ∷ filter_by t f.later) (filter_by t f.later)) (none_left (keeps_rules d) f.before f.good) (ap not f.bad) in (
      map (λ (o : Standing). o.offset) (filter_by t f.later) ++ tail,
      ap (λ (l : List Standing). map (λ (o : Standing). o.offset) l ++ tail) kept
          ∙ ap {B = List ℕ} (λ (k : ℕ). k ∷ (map (λ (o : Standing). o.offset) (filter_by t f.later) ++ tail)) (sym f.there),
    )
first_fault d n (inr f) = (
  [],
  ap₂ (λ (l : List Standing) (b : Bool). map (λ (o : Standing). o.offset) l ++ pick b [] (length d ∷ [])) (none_left (keeps_rules d) (options_of d) f.good) f.lacks
      ∙ ap {B = List ℕ} (λ (k : ℕ). k ∷ []) (sym f.there),
)

no_fault : (d : List ℕ) → all_by (keeps_rules d) (options_of d) ≡ true → has_required d ≡ true → faults_of d ≡ []
unfolding faults_of pick
no_fault d g h =
    ap₂ (λ (l : List Standing) (b : Bool). map (λ (o : Standing). o.offset) l ++ pick b [] (length d ∷ [])) (none_left (keeps_rules d) (options_of d) g) h

-- ---- the walk, k turns before its end: it has passed the options os, all good and none of them End, and the others are those from its place on
record Passed (d : List ℕ) (k : ℕ) (os : List Standing) (w : Walk) : Type 0 where
  stand : options_of d ≡ os ++ options_from k d w.at
  within : w.at ≤ length d
  header : 8 ≤ w.at
  turns : length d < w.at + k
  good : all_by (keeps_rules d) os ≡ true
  before : all_by (λ o. ltb o.offset w.at) os ≡ true
  room : length w.places ≡ 17
  seen : (c : ℕ) → 0 < c → c ≤ 16 → eqb (get_or w.places c 0) 0 ≡ not (is_in c (codes_of os))
  endless : is_in 0 (codes_of os) ≡ false

-- how it stops
unfoldable Stops : List ℕ → Walk → Type 0
Stops d w =
    ((w.stage ≡ Done) × (all_by (keeps_rules d) (options_of d) ≡ true) × (is_in 0 (codes_of (options_of d)) ≡ true) × (eqb (get_or w.places 3 0) 0 ≡ not (is_in 3 (codes_of (options_of d)))))
    ⊎ ((w.stage ≡ Broken) × First d w.at)

unfoldable Turned : List ℕ → ℕ → List Standing → Walk → Type 0
Turned d k os v = ((o : Standing) × Passed d k (os ++ (o ∷ [])) v × (v.stage ≡ Walking)) ⊎ Stops d v

-- options from a place on don't stand before it
from_here : (k : ℕ) (d : List ℕ) (at m : ℕ) → m ≤ at → filter_by (λ o. ltb o.offset m) (options_from k d at) ≡ []
unfolding options_from filter_by pick after standing_at
from_here zero d at m h = refl
from_here (suc k) d at m h = go (ltb at (length d)) (from_here k d (after (standing_at d at)) m (omega arith))
  where
    go : (b : Bool) → filter_by (λ o. ltb o.offset m) (options_from k d (after (standing_at d at))) ≡ [] → filter_by (λ o. ltb o.offset m) (pick b (standing_at d at ∷ options_from k d (after (standing_at d at))) []) ≡ []
    go true e =
        ap (λ (b : Bool). pick b (standing_at d at ∷ filter_by (λ o. ltb o.offset m) (options_from k d (after (standing_at d at)))) (filter_by (λ o. ltb o.offset m) (options_from k d (after (standing_at d at))))) (le-ltb at m h)
        ∙ e
    go false e = refl

from_end : (k : ℕ) (d : List ℕ) (at : ℕ) → length d ≤ at → options_from k d at ≡ []
unfolding options_from pick
from_end zero d at h = refl
from_end (suc k) d at h = ap (λ (b : Bool). pick b (standing_at d at ∷ options_from k d (after (standing_at d at))) []) (le-ltb at (length d) h)

-- tests one after the other
on : (a b c : Bool) → a ≡ true → b ≡ c → (a && b) ≡ c
on a b c e f = ap₂ (λ (a b : Bool). a && b) e f

off : (a b : Bool) → a ≡ false → (a && b) ≡ false
off a b e = ap (λ (a : Bool). a && b) e

-- one turn
module _ (d : List ℕ) (k : ℕ) (os : List Standing) (w : Walk) (r : Passed d (suc k) os w) where
  abbrev code : ℕ
  code = code_at d w.at

  abbrev here : Standing
  here = standing_at d w.at

  abbrev rest : List Standing
  rest = options_from k d (after_at d w.at)

  -- what stands here is the next option
  next : w.at < length d → options_of d ≡ os ++ (here ∷ rest)
  unfolding options_from pick standing_at after
  next h = r.stand ∙ ap (λ (b : Bool). os ++ pick b (standing_at d w.at ∷ options_from k d (after_at d w.at)) []) (lt-ltb _ _ h)

  last : length d ≤ w.at → options_of d ≡ os
  last h = r.stand ∙ ap (λ (l : List Standing). os ++ l) (from_end (suc k) d w.at h) ∙ append-nil os

  -- those before it are the options passed
  before_here : options_before d w.at ≡ os
  unfolding options_before
  before_here =
      let t : Standing → Bool = λ o. ltb o.offset w.at in
      ap (filter_by t) r.stand ∙ filter_append t os (options_from (suc k) d w.at)
      ∙ ap₂ (λ (x y : List Standing). x ++ y) (filter_none_out t os r.before) (from_here (suc k) d w.at w.at (omega arith)) ∙ append-nil os

  broke : w.at < length d → keeps_rules d here ≡ false → Turned d k os (broken w)
  unfolding Turned Stops First standing_at
  broke h e = inr (inr (refl, inl (record { before = os; option = here; later = rest; stand = next h; good = r.good; bad = e; there = refl })))

  ran_out : length d ≤ w.at → Turned d k os (broken w)
  unfolding Turned Stops First has_required
  ran_out h =
      let e = last h in
      inr (inr (
        refl,
        inr (record {
          good = ap (all_by (keeps_rules d)) e ∙ r.good;
          lacks = off _ _ (ap (λ (l : List Standing). is_in 0 (codes_of l)) e ∙ r.endless);
          there = omega (arith, r.within);
        }),
      ))

  -- the tests of the walk are the rules
  layout_here : fits d here ≡ layout_ok d w.at
  unfolding fits layout_ok standing_at after
  layout_here = go (leb (w.at + 4) (length d)) refl
    where
      go : (b : Bool) → leb (w.at + 4) (length d) ≡ b → leb (w.at + 4 + length_at d w.at) (length d) ≡ (b && leb (after_at d w.at) (length d))
      go true e = refl
      go false e = let h : length d < w.at + 4 = leb-false _ _ e in lt-leb _ _ (let g : length d < w.at + 4 + length_at d w.at = omega arith in g)

  outside : (b : Bool) → ltb w.at (length d) ≡ b → layout_ok d w.at ≡ false → Turned d k os (broken w)
  unfolding keeps_rules
  outside true e h = broke (ltb-true _ _ e) (off _ _ (layout_here ∙ h))
  outside false e h = ran_out (ltb-false _ _ e)

  value_here : length_right d here ≡ value_ok d w.at
  unfolding length_right value_ok standing_at after
  value_here = refl

  module _ (layout : layout_ok d w.at ≡ true) where
    inside : after_at d w.at ≤ length d
    inside = layout_fits d w.at layout

    by_value : {c : Bool} → (length_right d here && (end_right d here && no_repeat d here)) ≡ c → keeps_rules d here ≡ c
    unfolding keeps_rules
    by_value e = on _ _ _ (layout_here ∙ layout) e

    module _ (value : value_ok d w.at ≡ true) where
      by_end : {c : Bool} → (end_right d here && no_repeat d here) ≡ c → keeps_rules d here ≡ c
      by_end e = by_value (on _ _ _ (value_here ∙ value) e)

      end_here : code ≡ 0 → end_right d here ≡ eqb (w.at + 4) (length d)
      unfolding end_right standing_at pick
      end_here z = ap (λ (b : Bool). pick b (eqb (w.at + 4) (length d)) true) (eq-eqb _ 0 z)

      other_here : (code ≡ 0 → ⊥) → end_right d here ≡ true
      unfolding end_right standing_at pick
      other_here n = ap (λ (b : Bool). pick b (eqb (w.at + 4) (length d)) true) (ne_eqb _ 0 n)

      repeat_free : (leb 1 code && leb code 16) ≡ false → no_repeat d here ≡ true
      unfolding no_repeat standing_at pick
      repeat_free e = ap (λ (b : Bool). pick b (not (is_in code (codes_of (options_before d w.at)))) true) e

      repeat_here : 0 < code → code ≤ 16 → no_repeat d here ≡ eqb (get_or w.places code 0) 0
      unfolding no_repeat standing_at pick
      repeat_here p l =
          ap (λ (b : Bool). pick b (not (is_in code (codes_of (options_before d w.at)))) true) (on _ _ _ (le-leb _ _ p) (le-leb _ _ l))
          ∙ ap (λ (o : List Standing). not (is_in code (codes_of o))) before_here ∙ sym (r.seen _ p l)

      -- an option more
      onto : (places : List ℕ) → keeps_rules d here ≡ true → (code ≡ 0 → ⊥) → length places ≡ 17
          → ((c : ℕ) → 0 < c → c ≤ 16 → eqb (get_or places c 0) 0 ≡ not (is_in c (codes_of (os ++ (here ∷ []))))) → Turned d k os (moved (length_at d w.at) places w)
      unfolding Turned standing_at all_by
      onto places e n room seen = inl (
        here,
        record {
          stand = next (omega (arith, inside)) ∙ sym (append_assoc os (here ∷ []) rest);
          within = inside;
          header = omega (arith, r.header);
          turns = omega (arith, r.turns);
          good = all_append (keeps_rules d) os (here ∷ []) r.good (all_cons (keeps_rules d) here [] e refl);
          before = all_append earlier os (here ∷ []) (all_both passed passed earlier os (λ o h _. further o h) r.before r.before) (all_cons earlier here [] (lt-ltb w.at (after_at d w.at) (omega arith)) refl);
          room = room;
          seen = seen;
          endless = in_old os here 0 (λ z. n (sym z)) ∙ r.endless;
        },
        refl,
      )
        where
          passed : Standing → Bool
          passed o = ltb o.offset w.at

          earlier : Standing → Bool
          earlier o = ltb o.offset (after_at d w.at)

          further : (o : Standing) → passed o ≡ true → earlier o ≡ true
          further o h = lt-ltb o.offset (after_at d w.at) (omega (arith, ltb-true o.offset w.at h))

      -- End, as the last four octets
      finish : code ≡ 0 → eqb (w.at + 4) (length d) ≡ true → Turned d k os (done w)
      unfolding Turned Stops standing_at all_by
      finish z e =
          let f : w.at + 4 ≡ length d = eqb-true _ _ e in
          let o : options_of d ≡ os ++ (here ∷ []) = next (omega arith) ∙ ap {B = List Standing} (λ (l : List Standing). os ++ (here ∷ l)) (from_end k d (after_at d w.at) (omega arith)) in
          let g : keeps_rules d here ≡ true = by_end (on _ _ _ (end_here z ∙ e) (repeat_free (off _ _ (lt-leb 1 code (omega arith))))) in
          inr (inl (
            refl,
            ap (all_by (keeps_rules d)) o ∙ all_append (keeps_rules d) os (here ∷ []) r.good (all_cons (keeps_rules d) here [] g refl),
            ap₂ (λ (c : ℕ) (l : List Standing). is_in c (codes_of l)) (sym z) o ∙ in_new os here,
            r.seen 3 (omega arith) (omega arith) ∙ ap not (sym (ap (λ (l : List Standing). is_in 3 (codes_of l)) o ∙ in_old os here 3 (λ q. omega arith))),
          ))

      -- a code above 16
      above : 16 < code → Turned d k os (moved (length_at d w.at) w.places w)
      unfolding standing_at
      above h =
          let n : code ≡ 0 → ⊥ = λ z. omega arith in
          onto w.places (by_end (on _ _ _ (other_here n) (repeat_free (on _ _ _ (le-leb 1 code (omega arith)) (lt-leb code 16 h))))) n r.room
          (λ c p l. r.seen c p l ∙ ap not (sym (in_old os here c (λ q. omega arith))))

      -- a code from 1 to 16 that is new
      noted : (code ≡ 0 → ⊥) → code ≤ 16 → eqb (get_or w.places code 0) 0 ≡ true
          → Turned d k os (moved (length_at d w.at) (set w.places code w.at) w)
      unfolding standing_at
      noted n l e =
          onto (set w.places code w.at) (by_end (on _ _ _ (other_here n) (repeat_here (omega arith) l ∙ e))) n (length-set w.places _ _ ∙ r.room) (λ c p h. go c p h (ℕ_discrete c code))
        where
          go : (c : ℕ) → 0 < c → c ≤ 16 → Dec (c ≡ code) → eqb (get_or (set w.places code w.at) c 0) 0 ≡ not (is_in c (codes_of (os ++ (here ∷ []))))
          go c p h (yes q) =
              ap (λ (x : ℕ). eqb (get_or (set w.places code w.at) x 0) 0) q ∙ ap (λ (x : ℕ). eqb x 0) (get_or-set_same w.places code w.at 0 (omega (arith, r.room)))
              ∙ ne_eqb w.at 0 (λ z. omega (arith, r.header)) ∙ ap not (sym (ap (λ (x : ℕ). is_in x (codes_of (os ++ (here ∷ [])))) q ∙ in_new os here))
          go c p h (no q) = ap (λ (x : ℕ). eqb x 0) (get_or-set_other w.places code c w.at 0 q) ∙ r.seen c p h ∙ ap not (sym (in_old os here c q))

  turn : Turned d k os (step_of d w)
  unfolding step_of option_taken
  turn =
      let P : Walk → Type 0 = λ v. Turned d k os v in
      pick_cases P (layout_ok d w.at) _ _ (λ e1.
      let more : w.at < length d = let h = inside e1 in omega arith in
      pick_cases P (value_ok d w.at) _ _ (λ e2.
      pick_cases P (eqb code 0) _ _ (λ e3.
      pick_cases P (eqb (w.at + 4) (length d)) _ _ (λ e4. finish e1 e2 (eqb-true _ _ e3) e4) (λ e4. broke more (by_end e1 e2 (off _ _ (end_here e1 e2 (eqb-true _ _ e3) ∙ e4))))) (λ e3.
      let n : code ≡ 0 → ⊥ = eqb-false _ _ e3 in
      pick_cases P (ltb 16 code) _ _ (λ e4. above e1 e2 (ltb-true _ _ e4)) (λ e4.
      let l : code ≤ 16 = ltb-false _ _ e4 in
      pick_cases P (eqb (get_or w.places code 0) 0) _ _ (λ e5. noted e1 e2 n l e5)
      (λ e5. broke more (by_end e1 e2 (on _ _ _ (other_here e1 e2 n) (repeat_here e1 e2 (omega arith) l ∙ e5))))))) (λ e2.
      broke more (by_value e1 (off _ _ (value_here ∙ e2))))) (λ e1. outside (ltb w.at (length d)) refl e1)

-- ---- the whole walk
walks : (k : ℕ) (d : List ℕ) (os : List Standing) (w : Walk) → Passed d k os w → w.stage ≡ Walking → Stops d (walk_from k d w)
unfolding walk_from Turned Stops
walks zero d os w r e = absurd (omega (arith, r.within, r.turns))
walks (suc k) d os w r e =
    subst (λ (t : Stage). Stops d (onward t w (walk_from k d (step_of d w)))) (sym e)
    (⊎_elim (λ t. walks k d (os ++ (t.0 ∷ [])) (step_of d w) t.1 t.2) (λ t. subst (Stops d) (sym (halted k d (step_of d w) (⊎_elim (λ x. inl x.0) (λ x. inr x.0) t))) t) (turn d k os w r))

walk_stops : (d : List ℕ) → 8 ≤ length d → Stops d (walk_of d)
unfolding walk_of options_of all_by is_in
walk_stops d h = walks (length d) d [] start (record {
  stand = refl;
  within = h;
  header = omega arith;
  turns = omega arith;
  good = refl;
  before = refl;
  room = refl;
  seen = λ c p l. ap (λ (x : ℕ). eqb x 0) (get_or-replicate 17 c 0 0 (omega arith));
  endless = refl;
}) refl

-- ---- the reader's answer: the first fault and discard 5, or no fault and no discard 5
Answer : List ℕ → Type 0
Answer d = ((n : ℕ) × First d n × (read_of d ≡ no_message 5 n)) ⊎ ((faults_of d ≡ []) × ((read_of d).discard ≡ 5 → ⊥) × ((read_of d).fault ≡ 0))

-- test 6 comes with no offset, nor does a message
no_offset : (d : List ℕ) (places : List ℕ) (t : Bool) → read_of d ≡ pick t (whole d places) (no_message 6 0) → ((read_of d).discard ≡ 5 → ⊥) × ((read_of d).fault ≡ 0)
unfolding pick
no_offset d places true e = (λ z. let n : (read_of d).discard ≡ 0 = ap (λ (r : Reading). r.discard) e in omega arith, ap (λ (r : Reading). r.fault) e)
no_offset d places false e = (λ z. let n : (read_of d).discard ≡ 6 = ap (λ (r : Reading). r.discard) e in omega arith, ap (λ (r : Reading). r.fault) e)

answer : (d : List ℕ) → header_ok d ≡ true → Answer d
unfolding Answer read_of ended Stops First has_required pick
answer d h = go (walk_of d) (walk_stops d (let l = header_long d h in omega arith)) (ap (λ (t : Bool). pick t (walked d (walk_of d)) (no_message 4 0)) h)
  where
    go : (w : Walk) → Stops d w → read_of d ≡ walked d w → Answer d
    go w (inr x) e = inl (w.at, x.1, e ∙ ap (λ (t : Stage). by_stage t (ended d w.places) (no_message 5 w.at)) x.0)
    go w (inl x) e = by3 (is_in 3 (codes_of (options_of d))) refl
      where
        ends : read_of d ≡ ended d w.places
        ends = e ∙ ap (λ (t : Stage). by_stage t (ended d w.places) (no_message 5 w.at)) x.0

        by3 : (t : Bool) → is_in 3 (codes_of (options_of d)) ≡ t → Answer d
        by3 true i =
            let q : read_of d ≡ pick (none_required d w.places) (whole d w.places) (no_message 6 0) =
            ends ∙ ap (λ (t : Bool). pick t (no_message 5 (length d)) (pick (none_required d w.places) (whole d w.places) (no_message 6 0))) (x.3 ∙ ap not i) in
            let r = no_offset d w.places (none_required d w.places) q in
            inr (no_fault d x.1 (on _ _ _ x.2 i), r.0, r.1)
        by3 false i =
            inl (
              length d,
              inr (record { good = x.1; lacks = on _ _ _ x.2 i; there = refl }),
              ends ∙ ap (λ (t : Bool). pick t (no_message 5 (length d)) (pick (none_required d w.places) (whole d w.places) (no_message 6 0))) (x.3 ∙ ap not i),
            )

-- test 4 comes with no offset
header_bad : (d : List ℕ) → header_ok d ≡ false → read_of d ≡ no_message 4 0
unfolding read_of pick
header_bad d h = ap (λ (t : Bool). pick t (walked d (walk_of d)) (no_message 4 0)) h

-- discard 5 is one of a header that is right, and of a first fault
five : (d : List ℕ) → (read_of d).discard ≡ 5 → (header_ok d ≡ true) × First d (read_of d).fault
unfolding Answer
five d z = go (header_ok d) refl
  where
    go : (t : Bool) → header_ok d ≡ t → (header_ok d ≡ true) × First d (read_of d).fault
    go true h = (h, ⊎_elim (λ x. subst (First d) (sym (ap (λ (r : Reading). r.fault) x.2)) x.1) (λ x. absurd (x.1 z)) (answer d h))
    go false h = let n : (read_of d).discard ≡ 4 = ap (λ (r : Reading). r.discard) (header_bad d h) in absurd (omega arith)

not_five : (d : List ℕ) → ((read_of d).discard ≡ 5 → ⊥) → (read_of d).fault ≡ 0
unfolding Answer
not_five d n = go (header_ok d) refl
  where
    go : (t : Bool) → header_ok d ≡ t → (read_of d).fault ≡ 0
    go true h = ⊎_elim (λ x. absurd (n (ap (λ (r : Reading). r.discard) x.2))) (λ x. x.2) (answer d h)
    go false h = ap (λ (r : Reading). r.fault) (header_bad d h)

-- a datagram with a fault has discard 5 and the first of them
faulty : (d : List ℕ) → header_ok d ≡ true → (n : ℕ) (more : List ℕ) → faults_of d ≡ n ∷ more → ((read_of d).discard ≡ 5) × ((read_of d).fault ≡ n)
unfolding Answer
faulty d h n more e = go (answer d h)
  where
    go : Answer d → ((read_of d).discard ≡ 5) × ((read_of d).fault ≡ n)
    go (inl x) =
        let f = first_fault d x.0 x.1 in
        (ap (λ (r : Reading). r.discard) x.2, ap (λ (r : Reading). r.fault) x.2 ∙ ap (λ (l : List ℕ). get_or l 0 0) (sym f.1 ∙ e))
    go (inr x) = let z : 0 ≡ suc (length more) = ap length (sym x.0 ∙ e) in absurd (omega arith)

pub faults_right : FaultsRight
unfolding FaultsRight First
faults_right d = record {
  carried = faulty d;
  only = λ z. let f = five d z in (f.0, first_fault d (read_of d).fault f.1);
  first = λ z. (five d z).1;
  other = not_five d;
}
