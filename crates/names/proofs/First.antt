-- Laws: the name that is sent: the first of a list that is wanted is the part of the list's octets in which it stands.
use Rattle.std.specs.Prelude.{MatchOption, None, Option, Some, option_copied, unwrap_or}
use Rattle.std.proofs.Common.{Bor}
use Rattle.std.proofs.lemmas.Option.{same_Some}
use mathlib.Core.Bool.{Bool, true, false}
use mathlib.Core.List.{List, [], ◌∷◌, append-nil}
use mathlib.Core.Path.{◌≡◌, refl, sym, ap, ◌∙◌, subst}
use Prim.Native.Nat.{ℕ, suc, ◌+◌, ◌-◌, ◌≤◌, ◌<◌}
use native.Mathlib.Omega.{arith}
use lib.ListN.{length, drop, take, get_or, length-drop, length-append}
use lib.Seq.{take_at, get_or-drop}
use borrow.Author.Tests.{lt-ltb}
use Rattle.lists.specs.Pick.{pick}
use Rattle.format.specs.Format.{Got, got, bad, then, read_octet, read_times, write_all, Octets}
use Rattle.format.specs.laws.Format.{then_with}
use Rattle.format.specs.Place.{Stands, EndsWith}
use Rattle.message.specs.declared.Language.{Language}
use Rattle.names.specs.Names.{IsList, NameEnds, TagIn, Tells, Name, name_format, name_at, few_names, first_by, or_else, value_or, names_in, shown, shown_if, is_flagged, in_language, default_of, match_of, chosen_of}
use Rattle.names.specs.laws.Names.{name_lawful}

-- what a list's octets say: a count, and the names
record Opened (s : List ℕ) : Type 0 where
  some : 0 < length s
  reads : read_times (get_or s 0 0) name_format.read (drop 1 s) ≡ got (names_in s) []

opened : (s : List ℕ) → IsList s (names_in s) → Opened s
unfolding value_or read_octet then pick
opened [] v = let e = v.reads in let z : ◌≡◌ {A = ℕ} 0 1 = cc in absurd (omega arith)
opened (k ∷ s) v = record { some = omega arith; reads = go (read_times k name_format.read s) refl v.reads }
  where
    l : List Name
    l = names_in (k ∷ s)

    go : (g : Got (List Name)) → read_times k name_format.read s ≡ g → then g (λ l r. pick (few_names l) (got l r) bad) ≡ got l [] → read_times k name_format.read s ≡ got l []
    go (got x r) q e = q ∙ at (few_names x) e
      where
        at : (b : Bool) → pick b (got x r) bad ≡ got l [] → got x r ≡ got l []
        at true e = e
        at false e = let z : ◌≡◌ {A = ℕ} 0 1 = cc in absurd (omega arith)
    go bad q e = let z : ◌≡◌ {A = ℕ} 0 1 = cc in absurd (omega arith)

pub named_in : {s : List ℕ} {at n : ℕ} → NameEnds s at (Some n) → (at + 1 ≤ n) × (n ≤ length s)
unfolding EndsWith
named_in v = (v.ends.by.1, v.ends.by.2)

pub named_tag : {s : List ℕ} {at n : ℕ} → NameEnds s at (Some n) → (at + (get_or s (at + 1) 0 + 3) ≤ length s) × (get_or s (at + 1) 0 ≤ 8)
unfolding TagIn
named_tag v = let w = named_in v in let t = v.tag in (omega arith, t.1)

-- ---- the loop: the names that are left, and the first wanted among them is the first of all
pub record FirstInv (post : ℕ → Bool → Type 0) (s : List ℕ) (k here i : ℕ) : Type 0 where
  pub within : i ≤ k
  pub inside : here ≤ length s
  pub rest : List Name
  pub reads : read_times (k - i) name_format.read (drop here s) ≡ got rest []
  pub first : (t : Name → Bool) → Tells post s t → first_by t rest ≡ first_by t (names_in s)

pub first_some : {s : List ℕ} → IsList s (names_in s) → 0 < length s
first_some {s} v = (opened s v).some

pub first_start : {post : ℕ → Bool → Type 0} {s : List ℕ} {k : ℕ} → IsList s (names_in s) → k ≡ get_or s 0 0 → FirstInv post s k 1 0
first_start {post} {s} {k} v e =
    let o = opened s v in
    record {
      within = omega arith;
      inside = (let h = o.some in omega arith);
      rest = names_in s;
      reads = ap (λ (n : ℕ). read_times n name_format.read (drop 1 s)) ((let q : k - 0 ≡ k = omega arith in q) ∙ e) ∙ o.reads;
      first = λ t h. refl;
    }

-- the names from one that stands there on
record Next (s : List ℕ) (j here next : ℕ) (rest : List Name) : Type 0 where
  others : List Name
  is : rest ≡ name_at s here ∷ others
  reads : read_times j name_format.read (drop next s) ≡ got others []

module _ {post : ℕ → Bool → Type 0} {s : List ℕ} {k here i : ℕ} (v : FirstInv post s k here i) where
  step : i < k → read_times (suc (k - (i + 1))) name_format.read (drop here s) ≡ got v.rest []
  step h = ap (λ (n : ℕ). read_times n name_format.read (drop here s)) (let e : suc (k - (i + 1)) ≡ k - i = omega arith in e) ∙ v.reads

  next_of : {next : ℕ} → i < k → Stands name_format s here (name_at s here) next → Next s (k - (i + 1)) here next v.rest
  unfolding read_times then
  next_of {next} h p = go (read_times (k - (i + 1)) name_format.read (drop next s)) refl (sym (then_with _ _ _ p.reads) ∙ step h)
    where
      go : (g : Got (List Name)) → read_times (k - (i + 1)) name_format.read (drop next s) ≡ g → then g (λ xs u. got (name_at s here ∷ xs) u) ≡ got v.rest [] → Next s (k - (i + 1)) here next v.rest
      go (got xs u) q e = let a : name_at s here ∷ xs ≡ v.rest = cc in let b : u ≡ [] = cc in record { others = xs; is = sym a; reads = q ∙ ap (got xs) b }
      go bad q e = let z : ◌≡◌ {A = ℕ} 0 1 = cc in absurd (omega arith)

  stands_of : {next : ℕ} → NameEnds s here (Some next) → Stands name_format s here (name_at s here) next × (here + 1 ≤ next) × (next ≤ length s)
  unfolding EndsWith
  stands_of w = w.ends.by

  -- another than the wanted one: go on
  pub first_next : {next : ℕ} → i < k → NameEnds s here (Some next) → post here false → FirstInv post s k next (i + 1)
  unfolding first_by pick
  first_next {next} h w y =
      let p = stands_of w in
      let n = next_of h p.0 in
      record {
        within = omega arith;
        inside = p.2;
        rest = n.others;
        reads = n.reads;
        first = λ t a. ap (λ (b : Bool). pick b (name_at s here ∷ []) (first_by t n.others)) (a here false y) ∙ sym (ap (first_by t) n.is) ∙ v.first t a;
      }

  -- the wanted one: its octets
  pub first_found : {next : ℕ} → i < k → Octets s → NameEnds s here (Some next) → post here true → (t : Name → Bool) → Tells post s t → Some (take (next - here) (drop here s)) ≡ shown_if (first_by t (names_in s))
  unfolding first_by pick write_all shown_if
  first_found {next} h o w y t z =
      let p = stands_of w in
      let n = next_of h p.0 in
      let l = name_lawful.reads (drop here s) (name_at s here) (drop next s) (λ j. subst (λ (x : ℕ). x < 256) (sym (get_or-drop here s j 0)) (o (here + j))) p.0.reads in
      let a = length-drop here s in
      let b = length-drop next s in
      let c : length (drop here s) ≡ length (name_format.write (name_at s here)) + length (drop next s) = ap length l.1 ∙ length-append (name_format.write (name_at s here)) (drop next s) in
      let d = p.1 in let f = p.2 in
      ap Some (ap (take (next - here)) l.1
      ∙ take_at (name_format.write (name_at s here)) (drop next s) (next - here) (let g : length (name_format.write (name_at s here)) ≡ next - here = omega arith in g)
      ∙ sym (append-nil (name_format.write (name_at s here))))
      ∙ ap shown_if (ap (λ (b : Bool). pick b (name_at s here ∷ []) (first_by t n.others)) (z here true y) ∙ sym (ap (first_by t) n.is) ∙ v.first t z)

  -- a list has no broken name
  pub first_broken_law : {A : Type 0} → i < k → NameEnds s here None → A
  unfolding EndsWith read_times then
  first_broken_law h w =
      let e : bad ≡ got v.rest [] = sym (ap (λ g. then g (λ x u. then (read_times (k - (i + 1)) name_format.read u) (λ xs y. got (x ∷ xs) y))) w.ends.by.reads) ∙ step h in
      let z : ◌≡◌ {A = ℕ} 0 1 = cc in absurd (omega arith)

  pub first_none : k ≤ i → (t : Name → Bool) → Tells post s t → None ≡ shown_if (first_by t (names_in s))
  unfolding first_by read_times shown_if
  first_none h t z =
      let e : got [] (drop here s) ≡ got v.rest [] = ap (λ (n : ℕ). read_times n name_format.read (drop here s)) (let q : 0 ≡ k - i = omega arith in q) ∙ v.reads in
      let a : [] ≡ v.rest = cc in
      ap shown_if (ap (first_by t) a ∙ v.first t z)

-- ---- the first that there is, by its octets
pub or_shown : {Q : Type 0} (r q : Option (Bor (List ℕ))) (a b : List Name) → option_copied q ≡ shown_if a → MatchOption q Q (λ x. r ≡ Some x) → (Q → option_copied r ≡ shown_if b) → option_copied r ≡ shown_if (or_else a b)
unfolding or_else pick shown_if
or_shown r None [] b e h f = f h
or_shown r None (x ∷ a) b e h f = let z : ◌≡◌ {A = ℕ} 0 1 = cc in absurd (omega arith)
or_shown r (Some p) [] b e h f = let z : ◌≡◌ {A = ℕ} 0 1 = cc in absurd (omega arith)
or_shown r (Some p) (x ∷ a) b e h f = ap option_copied h ∙ e ∙ ap shown_if (sym (ap (λ (c : Bool). pick c (x ∷ a) b) (lt-ltb 0 (length (x ∷ a)) (omega arith))))

pub all_shown : (a : List Name) (q : Option (Bor (List ℕ))) (d : Bor (List ℕ)) → d.now ≡ [] → option_copied q ≡ shown_if a → (unwrap_or q d).now ≡ shown a
unfolding shown_if write_all
all_shown [] None d e p = e
all_shown [] (Some x) d e p = let z : ◌≡◌ {A = ℕ} 0 1 = cc in absurd (omega arith)
all_shown (y ∷ a) None d e p = let z : ◌≡◌ {A = ℕ} 0 1 = cc in absurd (omega arith)
all_shown (y ∷ a) (Some x) d e p = same_Some _ _ p

any_is : (l : List Name) → first_by (λ x. true) l ≡ take 1 l
unfolding first_by pick
any_is [] = refl
any_is (x ∷ l) = refl

pub default_shown : (campus : List Name) → or_else (first_by is_flagged campus) (first_by (λ x. true) campus) ≡ default_of campus
unfolding default_of
default_shown campus = ap (or_else (first_by is_flagged campus)) (any_is campus)

-- without a language that is asked for, neither list has one in it
pub chosen_shown : (l : Language) (own campus : List Name)
    → or_else (or_else (pick l.asked (first_by (in_language l) own) []) (pick l.asked (first_by (in_language l) campus) [])) (default_of campus) ≡ chosen_of l own campus
unfolding chosen_of match_of pick or_else
chosen_shown l own campus = go l.asked
  where
    a : List Name
    a = first_by (in_language l) own

    b : List Name
    b = first_by (in_language l) campus

    go : (t : Bool) → or_else (or_else (pick t a []) (pick t b [])) (default_of campus) ≡ or_else (pick t (or_else a b) []) (default_of campus)
    go true = refl
    go false = refl

module _ {t : Bool} (a : List Name) where
  pub asked_none : t ≡ false → None ≡ shown_if (pick t a [])
  unfolding pick shown_if
  asked_none e = sym (ap (λ (b : Bool). shown_if (pick b a [])) e)

  pub asked_some : {q : Option (List ℕ)} → t ≡ true → q ≡ shown_if a → q ≡ shown_if (pick t a [])
  unfolding pick
  asked_some e p = p ∙ sym (ap (λ (b : Bool). shown_if (pick b a [])) e)
