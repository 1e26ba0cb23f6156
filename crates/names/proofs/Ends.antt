-- Laws: where names end in octets: a name, a list, lists in a row, scope by scope, the section; and whether a name is in a language.
use Rattle.std.specs.Prelude.{IsTrue, None, Option, Some, ◌↔◌}
use Rattle.std.specs.Option.{option_eq}
use Rattle.std.proofs.Common.{◌&&◌}
use lib.Pointwise.{pointwise}
use mathlib.Core.Bool.{Bool, true, false}
use mathlib.Core.List.{List, [], ◌∷◌}
use mathlib.Core.Path.{◌≡◌, refl, sym, ap, ap₂, ◌∙◌, subst}
use Prim.Native.Nat.{ℕ, ◌+◌, ◌-◌, ◌≤◌, ◌<◌}
use native.Mathlib.Omega.{arith}
use lib.Dec.{eqb, leb, ltb}
use lib.ListN.{length, drop, take, get_or, length-drop}
use lib.Seq.{length-take-le}
use borrow.Author.Tests.{eq-eqb, ne_eqb, ltb-true, ltb-false, leb-true, le-leb, lt-leb}
use Rattle.lists.specs.Pick.{pick}
use Rattle.format.specs.Format.{Format, Got, got, bad, then, octet, ◌⊗◌, times, counted}
use Rattle.format.specs.Place.{Stands, Fails, Ends, EndsBy, EndsWith, is_whole}
use Rattle.format.specs.laws.Format.{then_with}
use Rattle.format.specs.laws.Place.{ends_as, ends_at, ends_not, ends_in, ends_bad, ends_value, ends_nowhere, octet_stands, octet_fails, octets_stand, octets_short, counted_none, counted_is, counted_ends_law, stands_both, fails_second, fails_first, only_stands, only_fails, only_none, viewed_stands, viewed_none, times_length, none_ends, more_ends, first_fails, ends_from}
use Rattle.message.specs.declared.Language.{Language}
use Rattle.names.specs.Names.{NameEnds, TagIn, Name, Sized, sizes_ok, name_ok, plain_name, name_format, name_at, few_names, list_format, scopes_format, names_format, names_b, same, in_language}
use Rattle.names.specs.laws.Names.{sizes_are, sizes_most}

abbrev Rest : Format (List ℕ × List ℕ)
Rest = counted octet ⊗ counted octet

none : {s : List ℕ} {at : ℕ} → Fails (octet ⊗ Rest) s at → NameEnds s at None
unfolding EndsWith TagIn
none p = record { ends = record { by = only_none (viewed_none p _ _) name_ok }; tag = tt }

less : (a b : ℕ) → leb a b ≡ false → b < a
less a b e = go (ltb b a) refl
  where
    go : (c : Bool) → ltb b a ≡ c → b < a
    go true q = ltb-true _ _ q
    go false q = let z : true ≡ false = sym (le-leb a b (ltb-false _ _ q)) ∙ e in let w : ◌≡◌ {A = ℕ} 0 1 = cc in absurd (omega arith)

pub name_none : (s : List ℕ) (at : ℕ) → at ≤ length s → length s - at < 2 → NameEnds s at None
name_none s at h g = go (leb (length s) at) refl
  where
    go : (b : Bool) → leb (length s) at ≡ b → NameEnds s at None
    go true e = none (fails_first Rest (octet_fails s at (leb-true _ _ e)))
    go false e = none (fails_second Rest (octet_stands s at (less _ _ e)) (fails_first (counted octet) (counted_none octet s (at + 1) (omega arith))))

module _ (s : List ℕ) (at n : ℕ) (h : 2 ≤ length s - at) (en : n ≡ get_or s (at + 1) 0) where
  flags_stand : Stands octet s at (get_or s at 0) (at + 1)
  flags_stand = octet_stands s at (omega arith)

  tag_stands : at + 1 + 1 + n ≤ length s → Stands (counted octet) s (at + 1) (take n (drop (at + 1 + 1) s)) (at + 1 + 1 + n)
  tag_stands g = octets_stand s (at + 1) n (omega arith) en g

  pub name_tag_short : length s - at < n + 3 → NameEnds s at None
  name_tag_short g = go (leb (at + 1 + 1 + n) (length s)) refl
    where
      go : (b : Bool) → leb (at + 1 + 1 + n) (length s) ≡ b → NameEnds s at None
      go true e = none (fails_second Rest flags_stand (fails_second (counted octet) (tag_stands (leb-true _ _ e)) (counted_none octet s (at + 1 + 1 + n) (omega arith))))
      go false e = none (fails_second Rest flags_stand (fails_first (counted octet) (octets_short s (at + 1) n (omega arith) en (less _ _ e))))

  module _ (k : ℕ) (g : n + 3 ≤ length s - at) (ek : k ≡ get_or s (at + (n + 2)) 0) where
    text_at : at + 1 + 1 + n ≡ at + (n + 2)
    text_at = omega arith

    pub name_text_short : length s - at < n + 3 + k → NameEnds s at None
    name_text_short f =
        none (fails_second Rest flags_stand (fails_second (counted octet) (tag_stands (omega arith))
        (octets_short s (at + 1 + 1 + n) k (omega arith) (ek ∙ ap (λ (j : ℕ). get_or s j 0) (sym text_at)) (omega arith))))

    module _ (f : n + 3 + k ≤ length s - at) where
      abbrev value : Name
      value = record { flags = get_or s at 0; tag = take n (drop (at + 1 + 1) s); text = take k (drop (at + 1 + 1 + n + 1) s) }

      value_is : value ≡ name_at s at
      value_is =
          ap₂ {C = Name} (λ (x y : List ℕ). record { flags = get_or s at 0; tag = x; text = y })
          (ap₂ (λ (j i : ℕ). take j (drop i s)) en (let e : at + 1 + 1 ≡ at + 2 = omega arith in e))
          (ap₂ (λ (j i : ℕ). take j (drop i s)) (ek ∙ ap (λ (j : ℕ). get_or s (at + (j + 2)) 0) en)
          ((let e : at + 1 + 1 + n + 1 ≡ at + (n + 3) = omega arith in e) ∙ ap (λ (j : ℕ). at + (j + 3)) en))

      stands : Stands plain_name s at (name_at s at) (at + (n + 3 + k))
      stands =
          subst (λ (x : Name). Stands plain_name s at x (at + (n + 3 + k))) value_is
          (subst (λ (j : ℕ). Stands plain_name s at value j) (let e : at + 1 + 1 + n + 1 + k ≡ at + (n + 3 + k) = omega arith in e)
          (viewed_stands (stands_both Rest flags_stand (stands_both (counted octet) (tag_stands (omega arith))
          (octets_stand s (at + 1 + 1 + n) k (omega arith) (ek ∙ ap (λ (j : ℕ). get_or s j 0) (sym text_at)) (omega arith)))) _ _))

      part_long : (i j : ℕ) → i + j ≤ length s → length (take j (drop i s)) ≡ j
      part_long i j h = length-take-le j (drop i s) (let d = length-drop i s in omega arith)

      sizes : name_ok (name_at s at) ≡ sizes_ok (get_or s at 0) n k
      sizes =
          sym (ap name_ok value_is)
          ∙ ap₂ (sizes_ok (get_or s at 0)) (part_long (at + 1 + 1) n (omega arith)) (part_long (at + 1 + 1 + n + 1) k (omega arith))

      pub name_good : {q : Bool} → (IsTrue q ↔ Sized (get_or s at 0) n k) → q ≡ true → NameEnds s at (Some (at + (n + 3 + k)))
      unfolding EndsWith TagIn
      name_good t y =
          let e = sizes_are (get_or s at 0) n k _ t in
          let w = (sizes_most (get_or s at 0) n k (sym e ∙ y)).0 in
          record { ends = record { by = (only_stands stands name_ok (sizes ∙ sym e ∙ y), omega arith, omega arith) }; tag = (omega arith, omega arith) }

      pub name_bad : {q : Bool} → (IsTrue q ↔ Sized (get_or s at 0) n k) → q ≡ false → NameEnds s at None
      unfolding EndsWith TagIn
      name_bad t y =
          let e = sizes_are (get_or s at 0) n k _ t in
          record { ends = record { by = only_fails stands name_ok (sizes ∙ sym e ∙ y) }; tag = tt }

pub ruleset names = (name_none, name_tag_short, name_text_short, name_good, name_bad)

pub named_ends : {s : List ℕ} {at : ℕ} {r : Option ℕ} → NameEnds s at r → Ends name_format s at 1 r
named_ends v = ends_as v.ends

pub name_within : {s : List ℕ} {at n : ℕ} → NameEnds s at (Some n) → n ≤ length s
name_within v = (ends_in (named_ends v)).1

-- ---- a list
pub list_within : {s : List ℕ} {at n : ℕ} → Ends list_format s at 1 (Some n) → n ≤ length s
list_within v = (ends_in v).1

pub lists_within : {s : List ℕ} {at k n : ℕ} → Ends (times k list_format) s at k (Some n) → n ≤ length s
lists_within v = (ends_in v).1

pub list_none : (s : List ℕ) (at : ℕ) → length s ≤ at → Ends list_format s at 1 None
list_none s at h = ends_nowhere 1 (only_none (counted_none name_format s at h) few_names)

module _ (s : List ℕ) (at k : ℕ) (h : at < length s) (e : k ≡ get_or s at 0) where
  -- more than four names are none
  pub list_long : 4 < k → Ends list_format s at 1 None
  unfolding then pick
  list_long g = ends_nowhere 1 (record { reads = ap (λ x. then x (λ l r. pick (few_names l) (got l r) bad)) (counted_is name_format s at k h e) ∙ go ((times k name_format).read (drop (at + 1) s)) refl })
    where
      go : (x : Got (List Name)) → (times k name_format).read (drop (at + 1) s) ≡ x → then x (λ l r. pick (few_names l) (got l r) bad) ≡ bad
      go (got l r) q = ap (λ (b : Bool). pick b (got l r) bad) (lt-leb (length l) 4 (let z = times_length name_format k (drop (at + 1) s) l r q in omega arith))
      go bad q = refl

  pub list_from : {r : Option ℕ} → k ≤ 4 → Ends (times k name_format) s (at + 1) k r → Ends list_format s at 1 r
  unfolding EndsBy
  list_from {r} g v = record { by = go r (counted_ends_law name_format s at k h e k v).by }
    where
      go : (r : Option ℕ) → EndsBy (counted name_format) s at 1 r → EndsBy list_format s at 1 r
      go (Some n) (l, p, a, b) =
          let q = times_length name_format k (drop (at + 1) s) l (drop n s) (sym (counted_is name_format s at k h e) ∙ p.reads) in
          (l, only_stands p few_names (le-leb (length l) 4 (omega arith)), a, b)
      go None q = only_none q few_names

pub ruleset lists = (list_none, list_long, list_from)

-- ---- scope by scope: n lists for each of k scopes
module _ (s : List ℕ) (at k n : ℕ) where
  pub scope_done : k ≡ 0 → at ≤ length s → Ends (scopes_format k n) s at 0 (Some at)
  scope_done e h = none_ends (times n list_format) at k e h

  pub scope_broken : 0 < k → Ends (times n list_format) s at n None → Ends (scopes_format k n) s at 0 None
  scope_broken h v = ends_nowhere 0 (first_fails (times n list_format) k h v)

  pub scope_more : {next : ℕ} {r : Option ℕ} → 0 < k → Ends (times n list_format) s at n (Some next) → Ends (scopes_format (k - 1) n) s next 0 r → Ends (scopes_format k n) s at 0 r
  scope_more h v w = ends_from 0 (omega arith) (more_ends (times n list_format) (k - 1) (omega arith) v w)

-- the octets left fall: a scope is read at twice what is left and one more, its names at twice
pub falls_in : (l at t : ℕ) → (l - at) + (l - at) + 1 ≡ t → (l - at) + (l - at) < t
falls_in l at t e = omega arith

pub falls_back : (l at next n t : ℕ) → (l - at) + (l - at) ≡ t → 0 < n → at + n ≤ next → next ≤ l → (l - next) + (l - next) + 1 < t
falls_back l at next n t e h a b = omega arith

-- ---- a name's language
pointwise_same : (a b : List ℕ) → pointwise eqb a b ≡ same a b
unfolding same pick
pointwise_same [] [] = refl
pointwise_same [] (y ∷ b) = refl
pointwise_same (x ∷ a) [] = refl
pointwise_same (x ∷ a) (y ∷ b) = go (eqb x y) (pointwise_same a b)
  where
    go : (c : Bool) → pointwise eqb a b ≡ same a b → c && pointwise eqb a b ≡ pick c (same a b) false
    go true e = e
    go false e = refl

module _ (s : List ℕ) (at n : ℕ) (l : Language) (en : n ≡ get_or s (at + 1) 0) (fits : at + (get_or s (at + 1) 0 + 3) ≤ length s) where
  tag_long : length (name_at s at).tag ≡ n
  tag_long = length-take-le (get_or s (at + 1) 0) (drop (at + 2) s) (let d = length-drop (at + 2) s in omega arith) ∙ sym en

  pub language_same : {r : Bool} → n ≡ l.len → r ≡ pointwise eqb (take (at + 2 + n - (at + 2)) (drop (at + 2) s)) (take n l.octets) → r ≡ in_language l (name_at s at)
  unfolding in_language pick
  language_same e p =
      p ∙ ap (λ (m : ℕ). pointwise eqb (take m (drop (at + 2) s)) (take n l.octets)) (let q : at + 2 + n - (at + 2) ≡ n = omega arith in q) ∙ pointwise_same _ _ ∙ ap₂ (λ (j i : ℕ). same (take j (drop (at + 2) s)) (take i l.octets)) en e
      ∙ sym (ap (λ (b : Bool). pick b (same (name_at s at).tag (take l.len l.octets)) false) (eq-eqb _ _ (tag_long ∙ e)))

  pub language_other : (n ≡ l.len → ⊥) → eqb n l.len ≡ in_language l (name_at s at)
  unfolding in_language pick
  language_other e = ne_eqb _ _ e ∙ sym (ap (λ (b : Bool). pick b (same (name_at s at).tag (take l.len l.octets)) false) (ne_eqb _ _ (λ q. e (sym tag_long ∙ q))))

pub ruleset languages = (language_same, language_other)

-- ---- the section: a count and the scopes
module _ (s : List ℕ) (at k h : ℕ) where
  abbrev scopes : Format (List (List (List Name)))
  scopes = scopes_format k (h + 1)

  pub section_none : length s ≤ at → Ends (names_format k h) s at 1 None
  unfolding then
  section_none g = ends_nowhere 1 (record { reads = ap (λ w. then w (λ j r. pick (eqb j k) (scopes.read r) bad)) (octet_fails s at g).reads })

  after_is : at < length s → (names_format k h).read (drop at s) ≡ pick (eqb (get_or s at 0) k) (scopes.read (drop (at + 1) s)) bad
  after_is g = then_with _ _ _ (octet_stands s at g).reads

  pub section_other : at < length s → (get_or s at 0 ≡ k → ⊥) → Ends (names_format k h) s at 1 None
  unfolding pick
  section_other g e = ends_nowhere 1 (record { reads = after_is g ∙ ap (λ (b : Bool). pick b (scopes.read (drop (at + 1) s)) bad) (ne_eqb _ _ e) })

  module _ (g : at < length s) (e : get_or s at 0 ≡ k) where
    scopes_read : (names_format k h).read (drop at s) ≡ scopes.read (drop (at + 1) s)
    unfolding pick
    scopes_read = after_is g ∙ ap (λ (b : Bool). pick b (scopes.read (drop (at + 1) s)) bad) (eq-eqb _ _ e)

    pub section_from : {a b : ℕ} {r : Option ℕ} → a ≡ k → b ≡ h → Ends (scopes_format a (b + 1)) s (at + 1) 0 r → Ends (names_format k h) s at 1 r
    unfolding EndsBy
    section_from {a} {b} {r} ea eb v =
        record { by = go r (subst (λ (j : ℕ). Ends (scopes_format j (h + 1)) s (at + 1) 0 r) ea (subst (λ (j : ℕ). Ends (scopes_format a (j + 1)) s (at + 1) 0 r) eb v)).by }
      where
        go : (r : Option ℕ) → EndsBy scopes s (at + 1) 0 r → EndsBy (names_format k h) s at 1 r
        go (Some n) (x, p, c, d) = (x, record { reads = scopes_read ∙ p.reads }, omega arith, d)
        go None p = record { reads = scopes_read ∙ p.reads }

pub ruleset sectioned = (section_none, section_other, section_from)

-- ---- the whole of the octets
module _ (s : List ℕ) (k h : ℕ) {r : Option ℕ} (v : Ends (names_format k h) s 0 1 r) where
  from_start : (w : Got (List (List (List Name)))) → (names_format k h).read (drop 0 s) ≡ w → (names_format k h).read s ≡ w
  from_start w e = ap (names_format k h).read (sym (drop_zero s)) ∙ e
    where
      drop_zero : (l : List ℕ) → drop 0 l ≡ l
      drop_zero [] = refl
      drop_zero (x ∷ l) = refl

  pub good_nowhere : r ≡ None → false ≡ names_b k h s
  unfolding names_b is_whole
  good_nowhere z = sym (ap is_whole (from_start _ (ends_bad (ends_not v z)).reads))

  pub good_at : {m : ℕ} → r ≡ Some m → eqb m (length s) ≡ names_b k h s
  unfolding names_b is_whole
  good_at {m} z =
      let w = ends_at v z in
      rest (ends_value w).0 (drop m s) (length-drop m s) (ends_in w).1 ∙ sym (ap is_whole (from_start _ (ends_value w).1.reads))
    where
      rest : (x : List (List (List Name))) (r : List ℕ) → length r ≡ length s - m → m ≤ length s → eqb m (length s) ≡ is_whole (got x r)
      rest x [] q h = eq-eqb m (length s) (omega arith)
      rest x (y ∷ r) q h = ne_eqb m (length s) (λ z. absurd (omega arith))

pub whole_good : (s : List ℕ) (k h : ℕ) {r : Option ℕ} {b : Bool} → Ends (names_format k h) s 0 1 r → b ≡ option_eq eqb r (Some (length s)) → b ≡ names_b k h s
whole_good s k h {r} {b} v e = go r v e
  where
    go : (r : Option ℕ) → Ends (names_format k h) s 0 1 r → b ≡ option_eq eqb r (Some (length s)) → b ≡ names_b k h s
    go None v e = e ∙ good_nowhere s k h v refl
    go (Some m) v e = e ∙ good_at s k h v refl
