-- Laws: document 01's "fewest ranges, rising": the ranges of a rising list name just its offsets, neighbours do not touch, and no list of ranges
-- that names the same offsets is shorter.
use Rattle.std.specs.Prelude.{◌≡◌, refl, Bool, true, false, not, List, [], ◌∷◌, ◌++◌, map, ℕ, zero, suc, ◌+◌, ◌≤◌, ◌<◌, ltb, eqb, length}
use Rattle.std.proofs.Common.{sym, ap, ap₂, ◌∙◌, subst, arith, eqb-true, ltb-true, ltb-false, lt-ltb, eq-eqb, ne_eqb}
use Rattle.std.proofs.lemmas.Bool.{eqb-false}
use Rattle.lists.specs.Pick.{pick}
use Rattle.lists.specs.All.{All}
use Rattle.lists.specs.Filter.{filter_by, is_in}
use Rattle.lists.specs.laws.Filter.{filter_length, in_append, in_filter}
use Rattle.lists.specs.Next.{next_by}
use Rattle.address_set.specs.declared.Range.{Range}
use Rattle.address_set.specs.AddressSet.{extend, joined, named_by, offsets, onwards, rises, rises_from, fewest_ranges}
use Rattle.address_set.specs.laws.Offsets.{rises_offsets, rises_step}
use Rattle.address_set.specs.Fewest.{gap, Fewest}

-- ---- the offsets of a range
never : {A : Type 0} {b : Bool} → b ≡ true → b ≡ false → A
never p q = let z : ◌≡◌ {A = ℕ} 0 1 = cc in absurd (omega arith)

in_head : (a x : ℕ) (l : List ℕ) → a ≡ x → is_in a (x ∷ l) ≡ true
unfolding is_in pick
in_head a x l e = ap (λ (b : Bool). pick b true (is_in a l)) (eq-eqb a x e)

in_tail : (a x : ℕ) (l : List ℕ) → (a ≡ x → ⊥) → is_in a (x ∷ l) ≡ is_in a l
unfolding is_in pick
in_tail a x l n = ap (λ (b : Bool). pick b true (is_in a l)) (ne_eqb a x n)

by_equal : {A : Type 0} (a x : ℕ) → (a ≡ x → A) → ((a ≡ x → ⊥) → A) → A
by_equal {A} a x f g = go (eqb a x) refl
  where
    go : (b : Bool) → eqb a x ≡ b → A
    go true e = f (eqb-true a x e)
    go false e = g (eqb-false a x e)

range_in : (a x n : ℕ) → is_in a (onwards x n) ≡ true → (x ≤ a) × (a < x + n)
unfolding onwards is_in
range_in a x zero h = never h refl
range_in a x (suc n) h = by_equal a x (λ e. (omega arith, omega arith)) (λ e. let p = range_in a (suc x) n (sym (in_tail a x (onwards (suc x) n) e) ∙ h) in (omega (arith, p.0), omega (arith, p.1)))

in_run : (a x n : ℕ) → x ≤ a → a < x + n → is_in a (onwards x n) ≡ true
unfolding onwards
in_run a x zero h g = absurd (omega arith)
in_run a x (suc n) h g = by_equal a x (in_head a x (onwards (suc x) n)) (λ e. in_tail a x (onwards (suc x) n) e ∙ in_run a (suc x) n (below (λ k. e (omega arith))) (omega arith))
  where
    below : (a ≤ x → ⊥) → suc x ≤ a
    below k = go (ltb x a) refl
      where
        go : (b : Bool) → ltb x a ≡ b → suc x ≤ a
        go true p = ltb-true x a p
        go false p = absurd (k (ltb-false x a p))

-- an offset in one of two lists
in_left : (a : ℕ) (x y : List ℕ) → is_in a x ≡ true → is_in a (x ++ y) ≡ true
unfolding pick
in_left a x y h = in_append a x y ∙ ap (λ (b : Bool). pick b true (is_in a y)) h

in_right : (a : ℕ) (x y : List ℕ) → is_in a x ≡ false → is_in a (x ++ y) ≡ is_in a y
unfolding pick
in_right a x y h = in_append a x y ∙ ap (λ (b : Bool). pick b true (is_in a y)) h

-- ---- ranges with gaps between them, from m on
unfoldable Gapped : ℕ → List Range → Type 0
Gapped m [] = Unit {0}
Gapped m (r ∷ rs) = (m ≤ r.first) × ((1 ≤ r.count) × Gapped (suc (r.first + r.count)) rs)

fewest_gapped : (m : ℕ) (l : List ℕ) → rises_from m l ≡ true → Gapped m (fewest_ranges l)
unfolding fewest_ranges Gapped joined
fewest_gapped m [] e = tt
fewest_gapped m (x ∷ l) e = let (h, up) = rises_step m x l e in before h (fewest_ranges l) (fewest_gapped (suc x) l up)
  where
    before : m ≤ x → (rs : List Range) → Gapped (suc x) rs → Gapped m (joined x rs)
    before h [] g = (h, (omega arith, tt))
    before h (r ∷ rs) g = go (eqb r.first (suc x)) refl
      where
        above : (f : ℕ) → suc x ≤ f → (f ≡ suc x → ⊥) → suc (x + 1) ≤ f
        above f k n = by (ltb (suc x) f) refl
          where
            by : (b : Bool) → ltb (suc x) f ≡ b → suc (x + 1) ≤ f
            by true p = let z = ltb-true (suc x) f p in omega arith
            by false p = let z = ltb-false (suc x) f p in absurd (n (omega arith))

        go : (b : Bool) → eqb r.first (suc x) ≡ b → Gapped m (extend b x r rs)
        go true p = let q = eqb-true r.first (suc x) p in let c : suc (r.first + r.count) ≡ suc (x + suc r.count) = omega arith in
            (h, (omega arith, subst (λ (k : ℕ). Gapped k rs) c g.1.1))
        go false p = let q = eqb-false r.first (suc x) p in let f = g.0 in (h, (omega arith, (above r.first f q, g.1)))

gapped_next : (m : ℕ) (rs : List Range) → Gapped m rs → next_by gap rs ≡ true
unfolding next_by Gapped gap pick
gapped_next m [] g = refl
gapped_next m (r ∷ []) g = refl
gapped_next m (r ∷ q ∷ rs) g =
    ap (λ (b : Bool). pick b (next_by gap (q ∷ rs)) false) (lt-ltb (r.first + r.count) q.first (let h = g.1.1.0 in omega arith))
    ∙ gapped_next (suc (r.first + r.count)) (q ∷ rs) g.1.1

-- nothing is named below m
gapped_low : (m : ℕ) (rs : List Range) → Gapped m rs → (a : ℕ) → a < m → is_in a (named_by rs) ≡ false
unfolding Gapped named_by is_in
gapped_low m [] g a h = refl
gapped_low m (r ∷ rs) g a h = go (gapped_low (suc (r.first + r.count)) rs g.1.1 a (let q = g.0 in omega arith)) (is_in a (onwards r.first r.count)) refl
  where
    go : is_in a (named_by rs) ≡ false → (b : Bool) → is_in a (onwards r.first r.count) ≡ b → is_in a (onwards r.first r.count ++ named_by rs) ≡ false
    go low true e = let p = (range_in a r.first r.count e).0 in let q = g.0 in absurd (omega arith)
    go low false e = in_right a (onwards r.first r.count) (named_by rs) e ∙ low

-- ---- where ranges begin
firsts : List Range → List ℕ
firsts [] = []
firsts (r ∷ rs) = r.first ∷ firsts rs

length_firsts : (rs : List Range) → length (firsts rs) ≡ length rs
unfolding firsts
length_firsts [] = refl
length_firsts (r ∷ rs) = ap suc (length_firsts rs)

-- an offset that ranges name and whose predecessor they do not
record Begins (f : ℕ) (l : List ℕ) : Type 0 where
  here : is_in f l ≡ true
  fresh : (g : ℕ) → suc g ≡ f → is_in g l ≡ false

gapped_above : (m : ℕ) (rs : List Range) → Gapped m rs → (f : ℕ) → is_in f (firsts rs) ≡ true → m ≤ f
unfolding Gapped firsts is_in
gapped_above m [] g f h = never h refl
gapped_above m (r ∷ rs) g f h = by_equal f r.first (λ e. let p = g.0 in omega arith)
    (λ n. let p = gapped_above (suc (r.first + r.count)) rs g.1.1 f (sym (in_tail f r.first (firsts rs) n) ∙ h) in let q = g.0 in omega arith)

-- with gaps, each range begins so
gapped_begins : (m : ℕ) (rs : List Range) → Gapped m rs → (f : ℕ) → is_in f (firsts rs) ≡ true → Begins f (named_by rs)
unfolding Gapped firsts named_by is_in
gapped_begins m [] g f h = never h refl
gapped_begins m (r ∷ rs) g f h = by_equal f r.first first (later (gapped_begins (suc (r.first + r.count)) rs g.1.1 f))
  where
    none : (a : ℕ) → ((r.first ≤ a) × (a < r.first + r.count) → ⊥) → is_in a (onwards r.first r.count) ≡ false
    none a n = go (is_in a (onwards r.first r.count)) refl
      where
        go : (b : Bool) → is_in a (onwards r.first r.count) ≡ b → b ≡ false
        go true e = absurd (n (range_in a r.first r.count e))
        go false e = refl

    first : f ≡ r.first → Begins f (onwards r.first r.count ++ named_by rs)
    first e = record {
      here = in_left f (onwards r.first r.count) (named_by rs) (in_run f r.first r.count (omega arith) (let p = g.1.0 in omega arith));
      fresh = λ a s. in_right a (onwards r.first r.count) (named_by rs) (none a (λ p. let q = p.0 in omega arith))
          ∙ gapped_low (suc (r.first + r.count)) rs g.1.1 a (omega arith);
    }

    later : (is_in f (firsts rs) ≡ true → Begins f (named_by rs)) → (f ≡ r.first → ⊥) → Begins f (onwards r.first r.count ++ named_by rs)
    later ih n =
        let t = sym (in_tail f r.first (firsts rs) n) ∙ h in
        let v = ih t in
        let up = gapped_above (suc (r.first + r.count)) rs g.1.1 f t in
        record {
          here = in_right f (onwards r.first r.count) (named_by rs) (none f (λ p. let q = p.1 in omega arith)) ∙ v.here;
          fresh = λ a s. in_right a (onwards r.first r.count) (named_by rs) (none a (λ p. let q = p.1 in omega arith)) ∙ v.fresh a s;
        }

-- whatever names such an offset has a range that begins there
begins_first : (f : ℕ) (rs : List Range) → Begins f (named_by rs) → is_in f (firsts rs) ≡ true
unfolding firsts named_by is_in
begins_first f [] v = never v.here refl
begins_first f (r ∷ rs) v = by_equal f r.first (in_head f r.first (firsts rs)) (λ n. in_tail f r.first (firsts rs) n ∙ go (begins_first f rs) n (is_in f (onwards r.first r.count)) refl)
  where
    under : (g : ℕ) → suc g ≡ f → is_in g (onwards r.first r.count) ≡ false
    under g s = by (is_in g (onwards r.first r.count)) refl
      where
        by : (b : Bool) → is_in g (onwards r.first r.count) ≡ b → b ≡ false
        by true e = sym (in_left g (onwards r.first r.count) (named_by rs) e) ∙ v.fresh g s
        by false e = refl

    inside : (x n : ℕ) → (f ≡ x → ⊥) → x ≤ f → f < x + n → ((g : ℕ) → suc g ≡ f → is_in g (onwards x n) ≡ false) → is_in f (firsts rs) ≡ true
    inside x n ne lo hi u = at f refl
      where
        at : (k : ℕ) → k ≡ f → is_in f (firsts rs) ≡ true
        at zero e = absurd (ne (omega arith))
        at (suc g) e = never (in_run g x n (by (ltb g x) refl) (omega arith)) (u g e)
          where
            by : (b : Bool) → ltb g x ≡ b → x ≤ g
            by true p = let z = ltb-true g x p in absurd (ne (omega arith))
            by false p = ltb-false g x p

    go : (Begins f (named_by rs) → is_in f (firsts rs) ≡ true) → (f ≡ r.first → ⊥) → (b : Bool) → is_in f (onwards r.first r.count) ≡ b → is_in f (firsts rs) ≡ true
    go ih n true e = let p = range_in f r.first r.count e in inside r.first r.count n p.0 p.1 under
    go ih n false e = ih (record {
      here = sym (in_right f (onwards r.first r.count) (named_by rs) e) ∙ v.here;
      fresh = λ g s. sym (in_right g (onwards r.first r.count) (named_by rs) (under g s)) ∙ v.fresh g s;
    })

-- ---- as many places
other : ℕ → ℕ → Bool
other a y = not (eqb y a)

one_less : (a : ℕ) (l : List ℕ) → is_in a l ≡ true → suc (length (filter_by (other a) l)) ≤ length l
unfolding is_in filter_by pick other
one_less a [] h = never h refl
one_less a (x ∷ l) h = by_equal a x
    (λ e. let k = filter_length (other a) l in subst (λ (n : ℕ). suc n ≤ suc (length l)) (sym (out (eq-eqb x a (sym e)))) (omega arith))
    (λ n. let k = one_less a l (sym (in_tail a x l n) ∙ h) in subst (λ (n : ℕ). suc n ≤ suc (length l)) (sym (stays (ne_eqb x a (λ e. n (sym e))))) (omega arith))
  where
    out : eqb x a ≡ true → length (filter_by (other a) (x ∷ l)) ≡ length (filter_by (other a) l)
    out e = ap (λ (b : Bool). length (pick (not b) (x ∷ filter_by (other a) l) (filter_by (other a) l))) e

    stays : eqb x a ≡ false → length (filter_by (other a) (x ∷ l)) ≡ suc (length (filter_by (other a) l))
    stays e = ap (λ (b : Bool). length (pick (not b) (x ∷ filter_by (other a) l) (filter_by (other a) l))) e

as_many : (m : ℕ) (rs : List Range) → Gapped m rs → (ys : List ℕ) → ((f : ℕ) → is_in f (firsts rs) ≡ true → is_in f ys ≡ true) → length rs ≤ length ys
unfolding Gapped firsts other pick
as_many m [] g ys h = omega arith
as_many m (r ∷ rs) g ys h =
    let a = one_less r.first ys (h r.first (in_head r.first r.first (firsts rs) refl)) in
    let b = as_many (suc (r.first + r.count)) rs g.1.1 (filter_by (other r.first) ys) (λ f k.
    let up = gapped_above (suc (r.first + r.count)) rs g.1.1 f k in
    let n : f ≡ r.first → ⊥ = λ e. omega arith in
    in_filter f (other r.first) ys ∙ ap (λ (b : Bool). pick (not b) (is_in f ys) false) (ne_eqb f r.first n) ∙ h f (in_tail f r.first (firsts rs) n ∙ k)) in
    omega arith

-- ---- the ranges of a rising list
-- they name just the offsets that they are made of
pub ranges_name : (l : List ℕ) → named_by (fewest_ranges l) ≡ l
unfolding named_by onwards fewest_ranges joined
ranges_name [] = refl
ranges_name (x ∷ l) = before (fewest_ranges l) (ranges_name l)
  where
    next : (r : Range) (rs : List Range) (q : Bool) → eqb r.first (suc x) ≡ q → named_by (extend q x r rs) ≡ x ∷ named_by (r ∷ rs)
    next r rs true e = ap (λ (y : ℕ). x ∷ (onwards y r.count ++ named_by rs)) (sym (eqb-true r.first (suc x) e))
    next r rs false e = refl

    before : (rs : List Range) → named_by rs ≡ l → named_by (joined x rs) ≡ x ∷ l
    before [] e = ap (λ (y : List ℕ). x ∷ y) e
    before (r ∷ rs) e = next r rs (eqb r.first (suc x)) refl ∙ ap (λ (y : List ℕ). x ∷ y) e

pub fewest_ranges_law : (l : List ℕ) → rises l ≡ true → Fewest l
fewest_ranges_law l up = record {
  names = ranges_name l;
  apart = gapped_next 0 (fewest_ranges l) gapped;
  fewest = λ rs same.
      let h = as_many 0 (fewest_ranges l) gapped (firsts rs) (λ f k. begins_first f rs (let v = gapped_begins 0 (fewest_ranges l) gapped f k in record {
        here = same f ∙ sym (named f) ∙ v.here;
        fresh = λ g s. same g ∙ sym (named g) ∙ v.fresh g s;
      })) in
      let n = length_firsts rs in
      omega arith;
}
  where
    gapped : Gapped 0 (fewest_ranges l)
    gapped = fewest_gapped 0 l up

    named : (a : ℕ) → is_in a (named_by (fewest_ranges l)) ≡ is_in a l
    named a = ap (is_in a) (ranges_name l)

-- so are those of every set, which option 10 is written from
pub fewest_of_set : (m : ℕ) → Fewest (offsets m)
fewest_of_set m = fewest_ranges_law (offsets m) (rises_offsets m)

-- ---- where they lie
-- ranges of offsets below n end at n or before
pub fewest_below : (n : ℕ) (l : List ℕ) → All (λ a. a < n) l → All (λ r. r.first + r.count ≤ n) (fewest_ranges l)
unfolding fewest_ranges joined All
fewest_below n [] h = tt
fewest_below n (x ∷ l) h = before (fewest_ranges l) (fewest_below n l h.1)
  where
    before : (rs : List Range) → All (λ r. r.first + r.count ≤ n) rs → All (λ r. r.first + r.count ≤ n) (joined x rs)
    before [] g = (let k = h.0 in omega arith, tt)
    before (r ∷ rs) g = go (eqb r.first (suc x)) refl
      where
        go : (b : Bool) → eqb r.first (suc x) ≡ b → All (λ r. r.first + r.count ≤ n) (extend b x r rs)
        go true e = let q = eqb-true r.first (suc x) e in (let k = g.0 in omega arith, g.1)
        go false e = (let k = h.0 in omega arith, g)

-- counted from an address k on, they name the addresses k + offset
unfoldable pub moved_by : ℕ → Range → Range
moved_by k r = record { first = k + r.first; count = r.count }

on_moved : (k x n : ℕ) → onwards (k + x) n ≡ map (λ a. k + a) (onwards x n)
unfolding onwards
on_moved k x zero = refl
on_moved k x (suc n) = let e : suc (k + x) ≡ k + suc x = omega arith in ap (λ (l : List ℕ). (k + x) ∷ l) (ap (λ (y : ℕ). onwards y n) e ∙ on_moved k (suc x) n)

pub moved_names : (k : ℕ) (rs : List Range) → named_by (map (moved_by k) rs) ≡ map (λ a. k + a) (named_by rs)
unfolding named_by moved_by
moved_names k [] = refl
moved_names k (r ∷ rs) = ap₂ (λ (x y : List ℕ). x ++ y) (on_moved k r.first r.count) (moved_names k rs) ∙ sym (map_append (onwards r.first r.count) (named_by rs))
  where
    map_append : (x y : List ℕ) → map (λ a. k + a) (x ++ y) ≡ map (λ a. k + a) x ++ map (λ a. k + a) y
    map_append [] y = refl
    map_append (a ∷ x) y = ap (λ (l : List ℕ). (k + a) ∷ l) (map_append x y)
