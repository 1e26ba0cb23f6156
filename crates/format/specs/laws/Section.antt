-- Laws: the walk over the entries of any section with its order, and a value's octets kept as they are.
use Rattle.std.specs.Prelude.{Bool, List, [], ◌++◌, ◌∷◌, ◌≡◌, drop, get_or, length, take, None, Option, Some}
use Rattle.std.proofs.Math.Bool.{false, true}
use Rattle.std.proofs.Common.{◌∙◌, ap₂, sym, length-append, take_at}
use Rattle.std.proofs.Math.Path.{ap, refl, subst}
use Prim.Native.Nat.{◌+◌, ◌-◌, ◌<◌, ◌≤◌, suc, ℕ}
use Rattle.std.proofs.Math.Numerals.{add-one}
use native.Mathlib.Omega.{arith}
use Rattle.lists.specs.Pick.{pick}
use Rattle.format.specs.Format.{Format, Got, Octets, bad, got, read_times, then, times}
use Rattle.format.specs.Place.{EachAt, EndsAs, EndsWith, Stands, walk}
use Rattle.format.specs.Section.{EntryEnds, Found, InRow, IsAt, RowEnds, SectionEnds, in_order, ordered_from, section_format, verbatim}
use Rattle.format.specs.laws.Format.{Lawful, then_got, then_with}
use Rattle.format.specs.laws.Place.{as_in, as_nowhere, as_there, counted_is, counted_none, only_none}

module _ {A K : Type 0} (key : A → K) (wrong : K → A → Bool) (f : Format A) {s : List ℕ} where
  -- one entry and then the others, as reading goes
  one_more : (j : ℕ) {at here n : ℕ} {x : A} (k : K) → n ≡ j + 1 → Stands f s at x here
      → (in_order key wrong k n f).read (drop at s) ≡ then ((times j f).read (drop here s)) (λ xs r. pick (ordered_from key wrong k (x ∷ xs)) (got (x ∷ xs) r) bad)
  unfolding read_times then
  one_more j {at} {here} {n} {x} k e p =
      ap (λ g. then g (λ xs r. pick (ordered_from key wrong k xs) (got xs r) bad))
      (ap (λ (m : ℕ). read_times m f.read (drop at s)) (e ∙ add-one j) ∙ then_with _ _ _ p.reads)
      ∙ both (read_times j f.read (drop here s))
    where
      both : (g : Got (List A)) → then (then g (λ xs r. got (x ∷ xs) r)) (λ xs r. pick (ordered_from key wrong k xs) (got xs r) bad) ≡ then g (λ xs r. pick (ordered_from key wrong k (x ∷ xs)) (got (x ∷ xs) r) bad)
      both (got xs r) = refl
      both bad = refl

  order_more : (j : ℕ) {at here n a b : ℕ} {x : A} {xs : List A} {r : Option ℕ} (k : K) → n ≡ j + 1 → EndsAs f x s at a (Some here) → wrong k x ≡ false → EndsAs (in_order key wrong (key x) j f) xs s here b r
      → EndsAs (in_order key wrong k n f) (x ∷ xs) s at (a + b) r
  unfolding EndsWith ordered_from pick then
  order_more j {at} {here} {n} {a} {b} {x} {xs} {r} k e v w q = record { by = go r v.by.1 q.by }
    where
      step : (g : Got (List A)) → then g (λ xs u. pick (pick (wrong k x) false (ordered_from key wrong (key x) xs)) (got (x ∷ xs) u) bad)
          ≡ then (then g (λ xs u. pick (ordered_from key wrong (key x) xs) (got xs u) bad)) (λ xs u. got (x ∷ xs) u)
      step (got xs u) = ap (λ (c : Bool). pick (pick c false (ordered_from key wrong (key x) xs)) (got (x ∷ xs) u) bad) w ∙ at_test (ordered_from key wrong (key x) xs)
        where
          at_test : (c : Bool) → pick c (got (x ∷ xs) u) bad ≡ then (pick c (got xs u) bad) (λ xs u. got (x ∷ xs) u)
          at_test true = refl
          at_test false = refl
      step bad = refl

      whole : (in_order key wrong k n f).read (drop at s) ≡ then ((in_order key wrong (key x) j f).read (drop here s)) (λ xs u. got (x ∷ xs) u)
      whole = one_more j k e v.by.0 ∙ step ((times j f).read (drop here s))

      go : (r : Option ℕ) → at + a ≤ here → EndsWith (in_order key wrong (key x) j f) xs s here b r → EndsWith (in_order key wrong k n f) (x ∷ xs) s at (a + b) r
      go (Some m) h (p, c, d) = (record { reads = whole ∙ then_with _ _ _ p.reads }, omega arith, d)
      go None h p = record { reads = whole ∙ ap (λ g. then g (λ xs u. got (x ∷ xs) u)) p.reads }

  -- out of order: no section, whatever follows
  order_wrong : (j : ℕ) {at here n a : ℕ} {x : A} (k : K) {least : ℕ} {xs : List A} → n ≡ j + 1 → EndsAs f x s at a (Some here) → wrong k x ≡ true → EndsAs (in_order key wrong k n f) xs s at least None
  unfolding EndsWith ordered_from pick then
  order_wrong j {at} {here} {n} {a} {x} k e v w = as_nowhere (record { reads = one_more j k e v.by.0 ∙ none ((times j f).read (drop here s)) })
    where
      none : (g : Got (List A)) → then g (λ xs u. pick (pick (wrong k x) false (ordered_from key wrong (key x) xs)) (got (x ∷ xs) u) bad) ≡ bad
      none (got xs u) = ap (λ (c : Bool). pick (pick c false (ordered_from key wrong (key x) xs)) (got (x ∷ xs) u) bad) w
      none bad = refl

  order_broken : (j : ℕ) {at n a : ℕ} {x : A} (k : K) {least : ℕ} {xs : List A} → n ≡ j + 1 → EndsAs f x s at a None → EndsAs (in_order key wrong k n f) xs s at least None
  unfolding EndsWith read_times then
  order_broken j {at} k e v =
      as_nowhere (record {
        reads = ap (λ (m : ℕ). (in_order key wrong k m f).read (drop at s)) (e ∙ add-one j) ∙ ap (λ g. then (then g (λ y t. then (read_times j f.read t) (λ xs u. got (y ∷ xs) u))) (λ xs u. pick (ordered_from key wrong k xs) (got xs u) bad)) v.by.reads;
      })

  order_none : (at n : ℕ) (k : K) → n ≡ 0 → at ≤ length s → EndsAs (in_order key wrong k n f) [] s at n (Some at)
  unfolding read_times then ordered_from pick
  order_none at n k e h = as_there (record { reads = ap (λ (m : ℕ). (in_order key wrong k m f).read (drop at s)) e }) (omega arith) h

-- ---- the loop over a section's entries, each of which says where the next starts: what ends the rest ends the whole
pub record SectionInv {A K : Type 0} (key : A → K) (wrong : K → A → Bool) (f : Format A) (v : List ℕ → ℕ → A) (next : List ℕ → ℕ → ℕ) (s : List ℕ) (first : K) (from n here i : ℕ) (k : K) : Type 0 where
  pub within : i ≤ n
  pub inside : here ≤ length s
  pub on : (r : Option ℕ) → EndsAs (in_order key wrong k (n - i) f) (walk v next (n - i) s here) s here (n - i) r → EndsAs (in_order key wrong first n f) (walk v next n s from) s from n r
  pub each : InRow next s here (n - i) → InRow next s from n

-- where an entry ends
module _ {A : Type 0} {f : Format A} {v : List ℕ → ℕ → A} {next : List ℕ → ℕ → ℕ} {s : List ℕ} {at : ℕ} where
  pub entry_is : {r q : Option ℕ} → EntryEnds f v next s at r → r ≡ q → EntryEnds f v next s at q
  entry_is w e = subst (λ (r : Option ℕ). EntryEnds f v next s at r) e w

  pub entry_at : {n : ℕ} → EntryEnds f v next s at (Some n) → n ≡ next s at
  unfolding IsAt
  entry_at w = w.there

  pub entry_in : {n : ℕ} → EntryEnds f v next s at (Some n) → next s at ≤ length s
  entry_in w = let e = entry_at w in let h = as_in w.ends in omega arith

module _ {A K : Type 0} {key : A → K} {wrong : K → A → Bool} {f : Format A} {v : List ℕ → ℕ → A} {next : List ℕ → ℕ → ℕ} {s : List ℕ} {first : K} {from n : ℕ} where
  pub section_start : from ≤ length s → SectionInv key wrong f v next s first from n from 0 first
  section_start h =
      let e : n - 0 ≡ n = omega arith in
      record {
        within = omega arith;
        inside = h;
        on = λ r w. subst (λ (m : ℕ). EndsAs (in_order key wrong first m f) (walk v next m s from) s from m r) e w;
        each = subst (λ (m : ℕ). InRow next s from m) e;
      }

  module _ {here i : ℕ} {k : K} (w : SectionInv key wrong f v next s first from n here i k) where
    left : i < n → n - i ≡ (n - (i + 1)) + 1
    left h = omega arith

    pub section_next : {there : ℕ} → i < n → EntryEnds f v next s here (Some there) → wrong k (v s here) ≡ false → SectionInv key wrong f v next s first from n there (i + 1) (key (v s here))
    unfolding walk EachAt
    section_next {there} h u e =
        let q : n - i ≡ suc (n - (i + 1)) = omega arith in
        record {
          within = omega arith;
          inside = (as_in u.ends).1;
          on = λ r p. w.on r (subst (λ (m : ℕ). EndsAs (in_order key wrong k (n - i) f) (walk v next m s here) s here (n - i) r) (sym q)
              (subst (λ (m : ℕ). EndsAs (in_order key wrong k (n - i) f) (walk v next (suc (n - (i + 1))) s here) s here m r) (let g : 1 + (n - (i + 1)) ≡ n - i = omega arith in g)
              (order_more key wrong f (n - (i + 1)) k (left h) u.ends e (subst (λ (m : ℕ). EndsAs (in_order key wrong (key (v s here)) (n - (i + 1)) f) (walk v next (n - (i + 1)) s m) s there (n - (i + 1)) r) (entry_at u) p))));
          each = λ p. w.each (subst (λ (m : ℕ). InRow next s here m) (sym q) (record { room = entry_in u }, subst (λ (m : ℕ). InRow next s m (n - (i + 1))) (entry_at u) p));
        }

    pub section_wrong : {there : ℕ} → i < n → EntryEnds f v next s here (Some there) → wrong k (v s here) ≡ true → RowEnds key wrong first f v next n s from None
    unfolding Found
    section_wrong h u e = record { ends = w.on None (order_wrong key wrong f (n - (i + 1)) k (left h) u.ends e); each = tt }

    pub section_broken : i < n → EntryEnds f v next s here None → RowEnds key wrong first f v next n s from None
    unfolding Found
    section_broken h u = record { ends = w.on None (order_broken key wrong f (n - (i + 1)) k (left h) u.ends); each = tt }

    pub section_done : n ≤ i → RowEnds key wrong first f v next n s from (Some here)
    unfolding walk EachAt Found
    section_done h =
        let e : n - i ≡ 0 = (let g = w.within in omega arith) in
        record {
          ends = w.on (Some here) (subst (λ (m : ℕ). EndsAs (in_order key wrong k (n - i) f) (walk v next m s here) s here (n - i) (Some here)) (sym e) (order_none key wrong f here (n - i) k e w.inside));
          each = w.each (subst (λ (m : ℕ). InRow next s here m) (sym e) tt);
        }

-- ---- the section is its count and the entries
module _ {A K : Type 0} {key : A → K} {wrong : K → A → Bool} {first : K} {f : Format A} {v : List ℕ → ℕ → A} {next : List ℕ → ℕ → ℕ} {s : List ℕ} {at : ℕ} where
  pub section_none : length s ≤ at → SectionEnds key wrong first f v next s at None
  unfolding Found
  section_none h = record { ends = as_nowhere (only_none (counted_none f s at h) (ordered_from key wrong first)); each = tt }

  pub section_from : {n : ℕ} {r : Option ℕ} → at < length s → n ≡ get_or s at 0 → RowEnds key wrong first f v next n s (at + 1) r → SectionEnds key wrong first f v next s at r
  unfolding Found EndsWith
  section_from {n} {r} h e w = go r (subst (λ (m : ℕ). RowEnds key wrong first f v next m s (at + 1) r) e w)
    where
      reads : (section_format key wrong first f).read (drop at s) ≡ (in_order key wrong first (get_or s at 0) f).read (drop (at + 1) s)
      reads = ap (λ g. then g (λ xs r. pick (ordered_from key wrong first xs) (got xs r) bad)) (counted_is f s at (get_or s at 0) h refl)

      go : (r : Option ℕ) → RowEnds key wrong first f v next (get_or s at 0) s (at + 1) r → SectionEnds key wrong first f v next s at r
      go (Some m) w = let b = as_in w.ends in record { ends = as_there (record { reads = reads ∙ w.ends.by.0.reads }) (omega arith) b.1; each = (omega arith, w.each) }
      go None w = record { ends = as_nowhere (record { reads = reads ∙ w.ends.by.reads }); each = tt }

  pub section_is : {r q : Option ℕ} → SectionEnds key wrong first f v next s at r → r ≡ q → SectionEnds key wrong first f v next s at q
  section_is w e = subst (λ (r : Option ℕ). SectionEnds key wrong first f v next s at r) e w

  pub section_row : {m : ℕ} → SectionEnds key wrong first f v next s at (Some m) → (at + 1 ≤ length s) × InRow next s (at + 1) (get_or s at 0)
  unfolding Found
  section_row w = w.each

pub verbatim_lawful : {A : Type 0} {f : Format A} → Lawful f → Lawful (verbatim f)
unfolding then
verbatim_lawful {A} {f} lf = record { reads = rd; written = wr }
  where
    cut : (o r : List ℕ) → take (length (o ++ r) - length r) (o ++ r) ≡ o
    cut o r = take_at o r (length (o ++ r) - length r) (let e = length-append o r in let q : length o ≡ length (o ++ r) - length r = omega arith in q)

    rd : (s : List ℕ) (o : List ℕ) (r : List ℕ) → Octets s → (verbatim f).read s ≡ got o r → ((verbatim f).ok o) × (s ≡ o ++ r)
    rd s o r h e =
        let (x, t, ex, e') = then_got (f.read s) _ o r e in
        let p : take (length s - length t) s ≡ o = cc in
        let q : t ≡ r = cc in
        let (okx, sx) = lf.reads s x t h ex in
        let w : o ≡ f.write x = sym p ∙ ap (λ (l : List ℕ). take (length l - length t) l) sx ∙ cut (f.write x) t in
        ((x, okx, w), sx ∙ ap₂ {C = List ℕ} (λ (a b : List ℕ). a ++ b) (sym w) q)

    wr : (o r : List ℕ) → (verbatim f).ok o → (verbatim f).read (o ++ r) ≡ got o r
    wr o r (x, okx, w) =
        then_with _ x r (ap (λ (l : List ℕ). f.read (l ++ r)) w ∙ lf.written x r okx) ∙ ap (λ (l : List ℕ). got l r) (cut o r)
