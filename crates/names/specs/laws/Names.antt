-- Laws: of names: what is read is written again, how many octets a section and a name have at most, and that one name at most is sent.
use Rattle.std.specs.Prelude.{◌⊎◌, ◌↔◌, IsTrue, Bool, true, false, ◌&&◌, ◌||◌, List, [], ◌∷◌, ◌≡◌, refl, ℕ, zero, suc, ◌+◌, ◌-◌, ◌*◌, ◌≤◌, ◌<◌, min, eqb, leb, ltb, replicate, length, drop, take, get_or, None, Option, Some}
use Rattle.std.proofs.Common.{inl, inr, rules, sym, ap, ◌∙◌, subst, arith, suc-mul, zero-mul, length-take-le, take_at, length-drop, length-append, eqb-true, leb-true}
use Rattle.std.proofs.lemmas.Bool.{eqb-false}
use Rattle.lists.specs.All.{All}
use Rattle.lists.specs.laws.Both.{ands, ors}
use Rattle.lists.specs.Pick.{pick}
use Rattle.format.specs.Format.{Format, Got, got, bad, then, read_octet, read_times, octet, ◌⊗◌, times, counted, only, write_all}
use Rattle.format.specs.Section.{verbatim}
use Rattle.format.specs.Place.{Ends, EndsBy, EndsAs, EndsWith, is_whole}
use Rattle.format.specs.laws.Format.{Lawful, octet_lawful, both_lawful, counted_lawful, only_lawful, viewed_lawful, times_lawful, after_lawful, then_got, then_with}
use Rattle.format.specs.laws.Place.{times_length}
use Rattle.message.specs.Values.{language_at, padded}
use Rattle.message.specs.Walk.{after_at, length_at}
use Rattle.message.specs.declared.Language.{Language}
use Rattle.names.specs.Names.{Name, Sized, sizes_ok, name_ok, plain_name, name_format, few_names, list_format, scopes_format, names_format, names_b, first_by, or_else, same, is_flagged, in_language, default_of, match_of, chosen_of, value_or, lists_in, list_in, sent_for, shown}

octets_lawful : Lawful (counted octet)
octets_lawful = counted_lawful octet_lawful

pub name_lawful : Lawful name_format
name_lawful = only_lawful (viewed_lawful (both_lawful octet_lawful (both_lawful octets_lawful octets_lawful)) _ _ (λ x. refl) (λ y. refl)) name_ok

pub list_lawful : Lawful list_format
list_lawful = only_lawful (counted_lawful name_lawful) few_names

pub names_lawful : (k h : ℕ) → Lawful (names_format k h)
names_lawful k h = after_lawful (times_lawful (times_lawful list_lawful (h + 1)) k) k

-- ---- what was read

-- a value that a test let pass
only_reads : {A : Type 0} (t : A → Bool) (f : Format A) (s : List ℕ) (x : A) (r : List ℕ) → (only t f).read s ≡ got x r → (f.read s ≡ got x r) × (t x ≡ true)
unfolding pick
only_reads {A} t f s x r e = let (y, u, ey, e') = then_got (f.read s) _ x r e in pass (t y) refl ey e'
  where
    pass : {y : A} {u : List ℕ} (b : Bool) → t y ≡ b → f.read s ≡ got y u → pick b (got y u) bad ≡ got x r → (f.read s ≡ got x r) × (t x ≡ true)
    pass {y} true q ey e = let p : y ≡ x = cc in (ey ∙ e, ap t (sym p) ∙ q)
    pass false q ey e = let z : ◌≡◌ {A = ℕ} 0 1 = cc in absurd (omega arith)

counted_reads : {A : Type 0} (f : Format A) (s : List ℕ) (xs : List A) (r : List ℕ) → (counted f).read s ≡ got xs r
    → (t : List ℕ) × (length s ≡ 1 + length t) × ((times (length xs) f).read t ≡ got xs r)
unfolding read_octet then
counted_reads f [] xs r e = let z : ◌≡◌ {A = ℕ} 0 1 = cc in absurd (omega arith)
counted_reads f (n ∷ s) xs r e = (s, omega arith, ap (λ (j : ℕ). (times j f).read s) (times_length f n s xs r e) ∙ e)

times_all : {A : Type 0} (P : A → Type 0) (f : Format A) → ((s : List ℕ) (x : A) (r : List ℕ) → f.read s ≡ got x r → P x)
    → (n : ℕ) (s : List ℕ) (xs : List A) (r : List ℕ) → (times n f).read s ≡ got xs r → All P xs
unfolding read_times All
times_all P f h zero s xs r e = let p : [] ≡ xs = cc in subst (All P) p tt
times_all P f h (suc n) s xs r e =
    let (x, t, ex, e') = then_got (f.read s) _ xs r e in
    let (ys, u, ey, e'') = then_got (read_times n f.read t) _ xs r e' in
    let p : x ∷ ys ≡ xs = cc in
    subst (All P) p (h s x t ex, times_all P f h n t ys u ey)

-- ---- how many octets a section has

-- reading a value takes at most so many octets
abbrev Takes : {A : Type 0} → Format A → (A → ℕ) → Type 0
Takes {A} f m = (s : List ℕ) (x : A) (r : List ℕ) → f.read s ≡ got x r → length s ≤ m x + length r

octet_takes : Takes octet (λ x. 1)
unfolding read_octet
octet_takes [] x r e = let z : ◌≡◌ {A = ℕ} 0 1 = cc in absurd (omega arith)
octet_takes (y ∷ s) x r e = let p : s ≡ r = cc in let q : length s ≡ length r = ap length p in omega arith

times_takes : {A : Type 0} (f : Format A) (m : ℕ) → Takes f (λ x. m) → (n : ℕ) → Takes (times n f) (λ xs. n * m)
unfolding read_times
times_takes f m h zero s xs r e = let p : s ≡ r = cc in let q : length s ≡ length r = ap length p in let z = zero-mul m in omega arith
times_takes f m h (suc n) s xs r e =
    let (x, t, ex, e') = then_got (f.read s) _ xs r e in
    let (ys, u, ey, e'') = then_got (read_times n f.read t) _ xs r e' in
    let p : u ≡ r = cc in
    let q : length u ≡ length r = ap length p in
    let a = h s x t ex in let b = times_takes f m h n t ys u ey in let c = suc-mul n m in
    omega arith

octets_take : Takes (counted octet) (λ xs. 1 + length xs)
octets_take s xs r e =
    let (t, a, b) = counted_reads octet s xs r e in
    let c = times_takes octet 1 octet_takes (length xs) t xs r b in
    omega arith

split : (a b : Bool) → (a && b) ≡ true → (a ≡ true) × (b ≡ true)
split true b e = (refl, e)
split false b e = let z : ◌≡◌ {A = ℕ} 0 1 = cc in absurd (omega arith)

sizes_hold : (flags n k : ℕ) → sizes_ok flags n k ≡ true → Sized flags n k
unfolding sizes_ok
sizes_hold flags n k e =
    let (a, e1) = split (leb 1 n) (leb n 8 && (leb 1 k && (leb k 32 && (eqb flags 0 || eqb flags 128)))) e in
    let (b, e2) = split (leb n 8) (leb 1 k && (leb k 32 && (eqb flags 0 || eqb flags 128))) e1 in
    let (c, e3) = split (leb 1 k) (leb k 32 && (eqb flags 0 || eqb flags 128)) e2 in
    let (d, e4) = split (leb k 32) (eqb flags 0 || eqb flags 128) e3 in
    (leb-true 1 n a, leb-true n 8 b, leb-true 1 k c, leb-true k 32 d, go (eqb flags 0) refl e4)
  where
    go : (b : Bool) → eqb flags 0 ≡ b → (b || eqb flags 128) ≡ true → (flags ≡ 0) ⊎ (flags ≡ 128)
    go true q e = inl (eqb-true flags 0 q)
    go false q e = inr (eqb-true flags 128 e)

pub sizes_most : (flags n k : ℕ) → sizes_ok flags n k ≡ true → (n ≤ 8) × (k ≤ 32)
sizes_most flags n k e = let w = sizes_hold flags n k e in (w.1, w.3)

pub sizes_are : (flags n k : ℕ) (q : Bool) → (IsTrue q ↔ Sized flags n k) → q ≡ sizes_ok flags n k
unfolding sizes_ok
sizes_are flags n k true e = let w = e.0 refl in elim w.4 [ inl h ↦ search (ands, ors, rules) | inr h ↦ search (ands, ors, rules) ]
sizes_are flags n k false e = go (sizes_ok flags n k) refl
  where
    go : (b : Bool) → sizes_ok flags n k ≡ b → false ≡ b
    go true q = e.1 (sizes_hold flags n k q)
    go false q = refl

both_take : {A B : Type 0} (m : A → ℕ) (n : B → ℕ) (f : Format A) (g : Format B) → Takes f m → Takes g n → Takes (f ⊗ g) (λ p. m p.0 + n p.1)
both_take {A} {B} m n f g tf tg s p r e =
    let (x, t, ex, e') = then_got (f.read s) _ p r e in
    let (y, u, ey, e'') = then_got (g.read t) _ p r e' in
    let ep : (x, y) ≡ p = cc in
    let er : u ≡ r = cc in
    let a = tf s x t ex in let b = tg t y u ey in
    let c : length u ≡ length r = ap length er in
    subst (λ (q : A × B). length s ≤ m q.0 + n q.1 + length r) ep (let g : length s ≤ m x + n y + length r = omega arith in g)

-- flags, two lengths, a tag of 8 and a text of 32
name_takes : Takes name_format (λ x. 43)
name_takes s x r e =
    let (p, ok) = only_reads name_ok plain_name s x r e in
    let (v, t, ev, e') = then_got ((octet ⊗ counted octet ⊗ counted octet).read s) _ x r p in
    let a = both_take (λ x. 1) (λ p. 1 + length p.0 + (1 + length p.1)) octet (counted octet ⊗ counted octet) octet_takes (both_take (λ l. 1 + length l) (λ l. 1 + length l) (counted octet) (counted octet) octets_take octets_take) s v t ev in
    let q : t ≡ r = cc in
    let i : v.1.0 ≡ x.tag = cc in
    let j : v.1.1 ≡ x.text = cc in
    let b = ap length q in let c = ap length i in let d = ap length j in
    let o = sizes_most x.flags (length x.tag) (length x.text) ok in
    let o1 = o.0 in let o2 = o.1 in
    omega arith

-- a count and four names
list_takes : Takes list_format (λ l. 173)
list_takes s l r e =
    let (p, ok) = only_reads few_names (counted name_format) s l r e in
    let (t, a, b) = counted_reads name_format s l r p in
    let c = times_takes name_format 43 name_takes (length l) t l r b in
    let d = leb-true (length l) 4 ok in
    omega arith

whole_is : {A : Type 0} (d : A) (g : Got A) → is_whole g ≡ true → g ≡ got (value_or d g) []
unfolding is_whole value_or
whole_is d (got x []) e = refl
whole_is d (got x (y ∷ r)) e = let z : ◌≡◌ {A = ℕ} 0 1 = cc in absurd (omega arith)
whole_is d bad e = let z : ◌≡◌ {A = ℕ} 0 1 = cc in absurd (omega arith)

-- a good section begins with the count of the scopes, and the scopes are all that follows it
pub good_opened : (k h : ℕ) (s : List ℕ) → names_b k h s ≡ true → (0 < length s) × (get_or s 0 0 ≡ k) × ((scopes_format k (h + 1)).read (drop 1 s) ≡ got (lists_in h s) [])
unfolding names_b is_whole then read_octet lists_in value_or pick
good_opened k h [] e = let z : ◌≡◌ {A = ℕ} 0 1 = cc in absurd (omega arith)
good_opened k h (c ∷ s) e = go (eqb c k) refl (whole_is [] ((names_format k h).read (c ∷ s)) e)
  where
    value : List (List (List Name))
    value = value_or [] ((names_format k h).read (c ∷ s))

    go : (b : Bool) → eqb c k ≡ b → pick b ((scopes_format k (h + 1)).read s) bad ≡ got value []
        → (0 < length (c ∷ s)) × (c ≡ k) × ((scopes_format k (h + 1)).read s ≡ got (lists_in h (c ∷ s)) [])
    go true q p = let same : c ≡ k = eqb-true c k q in (omega arith, same, p ∙ ap (λ (j : ℕ). got (value_or [] ((names_format j h).read (c ∷ s))) []) (sym same))
    go false q p = let z : ◌≡◌ {A = ℕ} 0 1 = cc in absurd (omega arith)

-- the count, and for each of k scopes h + 1 lists
names_long : (k h : ℕ) (s : List ℕ) → names_b k h s ≡ true → length s ≤ 1 + k * ((h + 1) * 173)
names_long k h [] e = omega arith
names_long k h (c ∷ s) e =
    let (a, b, p) = good_opened k h (c ∷ s) e in
    let m = times_takes (times (h + 1) list_format) ((h + 1) * 173) (times_takes list_format 173 list_takes (h + 1)) k s _ [] p in
    omega arith

-- a good section of a sound book's counts
pub names_most : (k h : ℕ) (s : List ℕ) → k ≤ 4 → h ≤ 8 → names_b k h s ≡ true → length s ≤ 6229
names_most k h s a b e = let m = names_long k h s e in few k a m
  where
    few : (k : ℕ) → k ≤ 4 → length s ≤ 1 + k * ((h + 1) * 173) → length s ≤ 6229
    few zero g m = let z = zero-mul ((h + 1) * 173) in omega arith
    few (suc k) g m = let z = suc-mul k ((h + 1) * 173) in let y = rows k (omega arith) in omega arith
      where
        rows : (k : ℕ) → k ≤ 3 → k * ((h + 1) * 173) ≤ k * 1557
        rows zero g = let z = zero-mul ((h + 1) * 173) in omega arith
        rows (suc k) g = let z = suc-mul k ((h + 1) * 173) in let y = rows k (omega arith) in omega arith

-- ---- the name that is sent

abbrev Ok : Name → Type 0
Ok x = name_ok x ≡ true

list_ok : (s : List ℕ) (l : List Name) (r : List ℕ) → list_format.read s ≡ got l r → All Ok l
list_ok s l r e =
    let (p, ok) = only_reads few_names (counted name_format) s l r e in
    let (t, a, b) = counted_reads name_format s l r p in
    times_all Ok name_format (λ s x r e. (only_reads name_ok plain_name s x r e).1) (length l) t l r b

all_at : {A : Type 0} (P : A → Type 0) (d : A) → P d → (l : List A) (i : ℕ) → All P l → P (get_or l i d)
unfolding All
all_at P d h [] i a = h
all_at P d h (x ∷ l) zero a = a.0
all_at P d h (x ∷ l) (suc i) a = all_at P d h l i a.1

lists_ok : (h : ℕ) (s : List ℕ) → All (All (All Ok)) (lists_in h s)
unfolding lists_in value_or All pick
lists_ok h s = go ((names_format (get_or s 0 0) h).read s) refl
  where
    go : (g : Got (List (List (List Name)))) → (names_format (get_or s 0 0) h).read s ≡ g → All (All (All Ok)) (value_or [] g)
    go (got x r) e =
        let (j, t, ej, e') = then_got (read_octet s) _ x r e in
        picked t (eqb j (get_or s 0 0)) e'
      where
        picked : (t : List ℕ) (b : Bool) → pick b ((scopes_format (get_or s 0 0) (h + 1)).read t) bad ≡ got x r → All (All (All Ok)) x
        picked t true e = times_all (All (All Ok)) (times (h + 1) list_format) (times_all (All Ok) list_format list_ok (h + 1)) (get_or s 0 0) t x r e
        picked t false e = let z : ◌≡◌ {A = ℕ} 0 1 = cc in absurd (omega arith)
    go bad e = tt

list_in_ok : (h : ℕ) (s : List ℕ) (place j : ℕ) → All Ok (list_in h s place j)
unfolding All
list_in_ok h s place j = all_at (All Ok) [] tt (get_or (lists_in h s) place []) j (all_at (All (All Ok)) [] tt (lists_in h s) place (lists_ok h s))

-- one name at most, and a good one
record One (ns : List Name) : Type 0 where
  few : length ns ≤ 1
  ok : All Ok ns

first_one : (t : Name → Bool) (l : List Name) → All Ok l → One (first_by t l)
unfolding first_by All pick
first_one t [] a = record { few = omega arith; ok = tt }
first_one t (x ∷ l) a = go (t x) (first_one t l a.1)
  where
    go : (b : Bool) → One (first_by t l) → One (pick b (x ∷ []) (first_by t l))
    go true o = record { few = omega arith; ok = (a.0, tt) }
    go false o = o

else_one : (a b : List Name) → One a → One b → One (or_else a b)
unfolding or_else pick
else_one a b p q = go (ltb 0 (length a))
  where
    go : (c : Bool) → One (pick c a b)
    go true = p
    go false = q

take_one : (l : List Name) → All Ok l → One (take 1 l)
unfolding All
take_one [] a = record { few = omega arith; ok = tt }
take_one (x ∷ l) a = record { few = omega arith; ok = (a.0, tt) }

none_one : One []
unfolding All
none_one = record { few = omega arith; ok = tt }

default_one : (l : List Name) → All Ok l → One (default_of l)
unfolding default_of
default_one l a = else_one _ _ (first_one is_flagged l a) (take_one l a)

sent_one : (h : ℕ) (s : List ℕ) (tenant place : ℕ) (l : Language) → One (sent_for h s tenant place l)
unfolding sent_for chosen_of match_of pick
sent_one h s tenant place l = else_one _ _ (go l.asked) (default_one campus (list_in_ok h s place 0))
  where
    own : List Name
    own = list_in h s place (tenant + 1)

    campus : List Name
    campus = list_in h s place 0

    go : (b : Bool) → One (pick b (or_else (first_by (in_language l) own) (first_by (in_language l) campus)) [])
    go true = else_one _ _ (first_one (in_language l) own (list_in_ok h s place (tenant + 1))) (first_one (in_language l) campus (list_in_ok h s place 0))
    go false = none_one

octets_long : (l : List ℕ) → length (write_all octet.write l) ≡ length l
unfolding write_all
octets_long [] = refl
octets_long (x ∷ l) = let ih = octets_long l in omega arith

name_most : (x : Name) → Ok x → length (name_format.write x) ≤ 43
name_most x e =
    let o = sizes_most x.flags (length x.tag) (length x.text) e in
    let o1 = o.0 in let o2 = o.1 in
    let a = octets_long x.tag in let b = octets_long x.text in
    let c = length-append (write_all octet.write x.tag) (length x.text ∷ write_all octet.write x.text) in
    omega arith

-- no name has more than 43 octets, whatever the names are
shown_most : (ns : List Name) → One ns → length (shown ns) ≤ 43
unfolding write_all All
shown_most [] o = omega arith
shown_most (x ∷ []) o = let a = name_most x o.ok.0 in let b = length-append (name_format.write x) [] in omega arith
shown_most (x ∷ y ∷ l) o = let h = o.few in absurd (omega arith)

pub sent_most : (h : ℕ) (s : List ℕ) (tenant place : ℕ) (l : Language) → length (shown (sent_for h s tenant place l)) ≤ 43
sent_most h s tenant place l = shown_most _ (sent_one h s tenant place l)

-- how many names are sent is seen from their octets
pub sent_count : (h : ℕ) (s : List ℕ) (tenant place : ℕ) (l : Language) → min (length (shown (sent_for h s tenant place l))) 1 ≡ length (sent_for h s tenant place l)
unfolding write_all
sent_count h s tenant place l = go (sent_for h s tenant place l) (sent_one h s tenant place l).few
  where
    go : (ns : List Name) → length ns ≤ 1 → min (length (shown ns)) 1 ≡ length ns
    go [] f = omega arith
    go (x ∷ []) f = omega arith
    go (x ∷ y ∷ l) f = absurd (omega arith)

-- ---- the section within a file: its octets are kept as they are
pub section_octets_law : (k h : ℕ) (s : List ℕ) (at : ℕ) {r : Option ℕ} → Ends (names_format k h) s at 1 r → EndsAs (verbatim (names_format k h)) (value_or [] ((verbatim (names_format k h)).read (drop at s))) s at 1 r
unfolding EndsBy EndsWith then value_or
section_octets_law k h s at {r} v = record { by = go r v.by }
  where
    f : Format (List ℕ)
    f = verbatim (names_format k h)

    go : (r : Option ℕ) → EndsBy (names_format k h) s at 1 r → EndsWith f (value_or [] (f.read (drop at s))) s at 1 r
    go (Some n) (x, p, a, b) =
        let e : f.read (drop at s) ≡ got (take (length (drop at s) - length (drop n s)) (drop at s)) (drop n s) = then_with _ _ _ p.reads in
        (record { reads = e ∙ ap (λ (o : List ℕ). got o (drop n s)) (sym (ap (value_or []) e)) }, a, b)
    go None p = record { reads = ap (λ g. then g (λ x t. got (take (length (drop at s) - length t) (drop at s)) t)) p.reads }

-- ---- what is kept of the language that is asked for suffices

same_other : (a b : List ℕ) → (length a ≡ length b → ⊥) → same a b ≡ false
unfolding same pick
same_other [] [] h = absurd (h refl)
same_other [] (y ∷ b) h = refl
same_other (x ∷ a) [] h = refl
same_other (x ∷ a) (y ∷ b) h = go (eqb x y) (same_other a b (λ e. h (ap suc e)))
  where
    go : (c : Bool) → same a b ≡ false → pick c (same a b) false ≡ false
    go true p = p
    go false p = refl

-- a good name is in the language of an option 8 just if its tag is the option's whole value: nine octets or more match none
pub language_whole : (s : List ℕ) (at : ℕ) (x : Name) → after_at s at ≤ length s → name_ok x ≡ true → in_language (language_at s at) x ≡ same x.tag (take (length_at s at) (drop (at + 4) s))
unfolding in_language pick
language_whole s at x h ok = go (eqb (length x.tag) n) refl
  where
    n : ℕ
    n = length_at s at

    v : List ℕ
    v = drop (at + 4) s

    long : length (take n v) ≡ n
    long = length-take-le n v (let d = length-drop (at + 4) s in omega arith)

    kept : n ≤ 8 → take n (padded 8 (min n 8) v) ≡ take n v
    kept f =
        ap (λ (k : ℕ). take n (padded 8 k v)) (let e : min n 8 ≡ n = omega arith in e)
        ∙ take_at (take n v) (replicate (8 - n) 0) n long

    go : (b : Bool) → eqb (length x.tag) n ≡ b → pick b (same x.tag (take n (padded 8 (min n 8) v))) false ≡ same x.tag (take n v)
    go true e = ap (same x.tag) (kept (let o = (sizes_most x.flags (length x.tag) (length x.text) ok).0 in let q : length x.tag ≡ n = eqb-true (length x.tag) n e in omega arith))
    go false e = sym (same_other x.tag (take n v) (λ p. eqb-false (length x.tag) n e (p ∙ long)))
