-- Laws: of formats: what is read is what would be written, and what is written is read again. One law for each part of a format.
use Rattle.std.specs.Prelude.{Bool, eqb, get_or}
use Rattle.std.proofs.Math.Bool.{false, true}
use mathlib.Core.List.{List, [], ◌++◌, ◌∷◌, append_assoc, append-nil}
use Rattle.std.proofs.Common.{◌∙◌, get_or-append-add, eq-eqb, eqb-true}
use Rattle.std.proofs.Math.Path.{◌≡◌, ap, ap₂, refl, subst, sym}
use Prim.Native.Nat.{◌%◌, ◌+◌, ◌/◌, ◌<◌, suc, zero, ℕ}
use native.Mathlib.Omega.{arith}
use Rattle.std.proofs.Math.ListN.{length}
use Rattle.lists.specs.All.{All}
use Rattle.lists.specs.Pick.{pick}
use Rattle.octets.specs.laws.Octets.{read_back32}
use Rattle.octets.specs.Octets.{be32, octets32}
use Rattle.format.specs.Format.{Format, Got, ◌⊗◌, ◌▷◌, after, bad, closed, counted, got, number, octet, only, read_number, read_octet, read_times, then, times, viewed, write_all, Octets}

pub octets_rest : (w r : List ℕ) {s : List ℕ} → s ≡ w ++ r → Octets s → Octets r
octets_rest w r {s} e h i = subst (λ (x : ℕ). x < 256) (ap (λ (l : List ℕ). get_or l (length w + i) 0) e ∙ get_or-append-add w r i 0) (h (length w + i))

-- what was got before, and how it went on
pub then_got : {A B : Type 0} (g : Got A) (k : A → List ℕ → Got B) (y : B) (r : List ℕ) → then g k ≡ got y r
    → (x : A) × (t : List ℕ) × (g ≡ got x t) × (k x t ≡ got y r)
unfolding then
then_got (got x t) k y r e = (x, t, refl, e)
then_got bad k y r e = let z : ◌≡◌ {A = ℕ} 0 1 = cc in absurd (omega arith)

pub then_with : {A B : Type 0} {g : Got A} (k : A → List ℕ → Got B) (x : A) (t : List ℕ) → g ≡ got x t → then g k ≡ k x t
unfolding then
then_with k x t e = ap (λ g. then g k) e

pub record Lawful {A : Type 0} (f : Format A) : Type 0 where
  pub reads : (s : List ℕ) (x : A) (r : List ℕ) → Octets s → f.read s ≡ got x r → (f.ok x) × (s ≡ f.write x ++ r)
  pub written : (x : A) (r : List ℕ) → f.ok x → f.read (f.write x ++ r) ≡ got x r

pub octet_lawful : Lawful octet
unfolding read_octet
octet_lawful = record { reads = rd; written = λ x r h. refl }
  where
    rd : (s : List ℕ) (x : ℕ) (r : List ℕ) → Octets s → read_octet s ≡ got x r → (x < 256) × (s ≡ x ∷ r)
    rd [] x r o e = let z : ◌≡◌ {A = ℕ} 0 1 = cc in absurd (omega arith)
    rd (y ∷ s) x r o e = let p : y ≡ x = cc in let q : s ≡ r = cc in let h = o 0 in (omega arith, cc)

-- four octets and their number
pub octets32_be32 : (a b c d : ℕ) → a < 256 → b < 256 → c < 256 → d < 256 → (be32 a b c d < 4294967296) × (octets32 (be32 a b c d) ≡ a ∷ b ∷ c ∷ d ∷ [])
octets32_be32 a b c d ha hb hc hd =
    let n : ℕ = be32 a b c d in
    let ea : n / 16777216 % 256 ≡ a = omega arith in
    let eb : n / 65536 % 256 ≡ b = omega arith in
    let ec : n / 256 % 256 ≡ c = omega arith in
    let ed : n % 256 ≡ d = omega arith in
    (omega arith, cc)

pub number_lawful : Lawful number
unfolding read_number
number_lawful = record { reads = rd; written = λ x r h. ap (λ (v : ℕ). got v r) (read_back32 x h) }
  where
    rd : (s : List ℕ) (x : ℕ) (r : List ℕ) → Octets s → read_number s ≡ got x r → (x < 4294967296) × (s ≡ octets32 x ++ r)
    rd [] x r o e = let z : ◌≡◌ {A = ℕ} 0 1 = cc in absurd (omega arith)
    rd (a ∷ []) x r o e = let z : ◌≡◌ {A = ℕ} 0 1 = cc in absurd (omega arith)
    rd (a ∷ b ∷ []) x r o e = let z : ◌≡◌ {A = ℕ} 0 1 = cc in absurd (omega arith)
    rd (a ∷ b ∷ c ∷ []) x r o e = let z : ◌≡◌ {A = ℕ} 0 1 = cc in absurd (omega arith)
    rd (a ∷ b ∷ c ∷ d ∷ s) x r o e =
        let p : be32 a b c d ≡ x = cc in
        let q : s ≡ r = cc in
        let l = octets32_be32 a b c d (o 0) (o 1) (o 2) (o 3) in
        (subst (λ (v : ℕ). v < 4294967296) p l.0, ap₂ {C = List ℕ} (λ (u v : List ℕ). u ++ v) (sym l.1 ∙ ap octets32 p) q)

pub then_lawful : {A B : Type 0} {f : Format A} {g : A → Format B} → Lawful f → ((x : A) → Lawful (g x)) → Lawful (f ▷ g)
then_lawful {A} {B} {f} {g} lf lg = record { reads = rd; written = wr }
  where
    rd : (s : List ℕ) (p : A × B) (r : List ℕ) → Octets s → (f ▷ g).read s ≡ got p r → ((f ▷ g).ok p) × (s ≡ (f ▷ g).write p ++ r)
    rd s p r o e =
        let (x, t, ex, e') = then_got (f.read s) _ p r e in
        let (y, u, ey, e'') = then_got ((g x).read t) _ p r e' in
        let (okx, sx) = lf.reads s x t o ex in
        let (oky, sy) = (lg x).reads t y u (octets_rest (f.write x) t sx o) ey in
        let ep : (x, y) ≡ p = cc in
        let er : u ≡ r = cc in
        subst (λ (q : A × B). ((f ▷ g).ok q) × (s ≡ (f ▷ g).write q ++ r)) ep
        ((okx, oky), sx ∙ ap (λ (l : List ℕ). f.write x ++ l) (sy ∙ ap (λ (l : List ℕ). (g x).write y ++ l) er) ∙ sym (append_assoc (f.write x) ((g x).write y) r))

    wr : (p : A × B) (r : List ℕ) → (f ▷ g).ok p → (f ▷ g).read ((f ▷ g).write p ++ r) ≡ got p r
    wr p r h =
        then_with _ p.0 ((g p.0).write p.1 ++ r) (ap f.read (append_assoc (f.write p.0) ((g p.0).write p.1) r) ∙ lf.written p.0 _ h.0)
        ∙ then_with _ p.1 r ((lg p.0).written p.1 r h.1)

pub both_lawful : {A B : Type 0} {f : Format A} {g : Format B} → Lawful f → Lawful g → Lawful (f ⊗ g)
both_lawful lf lg = then_lawful lf (λ _. lg)

module _ {A : Type 0} {f : Format A} (lf : Lawful f) where
  times_reads : (n : ℕ) (s : List ℕ) (xs : List A) (r : List ℕ) → Octets s → read_times n f.read s ≡ got xs r → ((length xs ≡ n) × All f.ok xs) × (s ≡ write_all f.write xs ++ r)
  unfolding read_times write_all All
  times_reads zero s xs r o e =
      let p : [] ≡ xs = cc in
      let q : s ≡ r = cc in
      subst (λ (l : List A). ((length l ≡ 0) × All f.ok l) × (s ≡ write_all f.write l ++ r)) p ((refl, tt), q)
  times_reads (suc n) s xs r o e =
      let (x, t, ex, e') = then_got (f.read s) _ xs r e in
      let (ys, u, ey, e'') = then_got (read_times n f.read t) _ xs r e' in
      let (okx, sx) = lf.reads s x t o ex in
      let (oky, sy) = times_reads n t ys u (octets_rest (f.write x) t sx o) ey in
      let ep : x ∷ ys ≡ xs = cc in
      let er : u ≡ r = cc in
      subst (λ (l : List A). ((length l ≡ suc n) × All f.ok l) × (s ≡ write_all f.write l ++ r)) ep
      ((ap suc oky.0, (okx, oky.1)), sx ∙ ap (λ (l : List ℕ). f.write x ++ l) (sy ∙ ap (λ (l : List ℕ). write_all f.write ys ++ l) er) ∙ sym (append_assoc (f.write x) (write_all f.write ys) r))

  times_written : (n : ℕ) (xs : List A) (r : List ℕ) → length xs ≡ n → All f.ok xs → read_times n f.read (write_all f.write xs ++ r) ≡ got xs r
  unfolding read_times write_all All
  times_written zero [] r e h = refl
  times_written zero (x ∷ xs) r e h = absurd (omega arith)
  times_written (suc n) [] r e h = absurd (omega arith)
  times_written (suc n) (x ∷ xs) r e h =
      then_with _ x (write_all f.write xs ++ r) (ap f.read (append_assoc (f.write x) (write_all f.write xs) r) ∙ lf.written x _ h.0)
      ∙ then_with _ xs r (times_written n xs r (let q : length xs ≡ n = omega arith in q) h.1)

  pub times_lawful : (n : ℕ) → Lawful (times n f)
  times_lawful n = record { reads = times_reads n; written = λ xs r h. times_written n xs r h.0 h.1 }

  pub counted_lawful : Lawful (counted f)
  unfolding read_octet
  counted_lawful = record { reads = rd; written = λ xs r h. then_with _ (length xs) _ refl ∙ times_written (length xs) xs r refl h.1 }
    where
      rd : (s : List ℕ) (xs : List A) (r : List ℕ) → Octets s → (counted f).read s ≡ got xs r → ((counted f).ok xs) × (s ≡ (counted f).write xs ++ r)
      rd s xs r o e =
          let (n, t, en, e') = then_got (read_octet s) _ xs r e in
          let (okn, sn) = octet_lawful.reads s n t o en in
          let (okx, sx) = times_reads n t xs r (octets_rest (n ∷ []) t sn o) e' in
          let el : length xs ≡ n = okx.0 in
          ((subst (λ (k : ℕ). k < 256) (sym el) okn, okx.1), sn ∙ ap₂ {C = List ℕ} (λ (k : ℕ) (l : List ℕ). k ∷ l) (sym el) sx)

  pub only_lawful : (t : A → Bool) → Lawful (only t f)
  unfolding pick
  only_lawful t = record { reads = rd; written = λ x r h. then_with _ x r (lf.written x r h.0) ∙ ap (λ (b : Bool). pick b (got x r) bad) h.1 }
    where
      pass : (b : Bool) (x y : A) (u r : List ℕ) → pick b (got x u) bad ≡ got y r → (b ≡ true) × (got x u ≡ got y r)
      pass true x y u r e = (refl, e)
      pass false x y u r e = let z : ◌≡◌ {A = ℕ} 0 1 = cc in absurd (omega arith)

      rd : (s : List ℕ) (y : A) (r : List ℕ) → Octets s → (only t f).read s ≡ got y r → ((only t f).ok y) × (s ≡ f.write y ++ r)
      rd s y r o e =
          let (x, u, ex, e') = then_got (f.read s) _ y r e in
          let (et, eg) = pass (t x) x y u r e' in
          let p : x ≡ y = cc in
          let q : f.read s ≡ got y r = cc in
          let (okx, sx) = lf.reads s y r o q in
          ((okx, ap t (sym p) ∙ et), sx)

  pub after_lawful : (n : ℕ) → Lawful (after n f)
  unfolding pick read_octet
  after_lawful n = record { reads = rd; written = λ x r h. then_with _ n _ refl ∙ ap (λ (b : Bool). pick b (f.read (f.write x ++ r)) bad) (eq-eqb n n refl) ∙ lf.written x r h }
    where
      pass : (b : Bool) (g : Got A) (y : A) (r : List ℕ) → pick b g bad ≡ got y r → (b ≡ true) × (g ≡ got y r)
      pass true g y r e = (refl, e)
      pass false g y r e = let z : ◌≡◌ {A = ℕ} 0 1 = cc in absurd (omega arith)

      rd : (s : List ℕ) (y : A) (r : List ℕ) → Octets s → (after n f).read s ≡ got y r → (f.ok y) × (s ≡ n ∷ f.write y ++ r)
      rd s y r o e =
          let (k, u, ek, e') = then_got (read_octet s) _ y r e in
          let (et, eg) = pass (eqb k n) (f.read u) y r e' in
          let (okk, sk) = octet_lawful.reads s k u o ek in
          let (okx, sx) = lf.reads u y r (octets_rest (k ∷ []) u sk o) eg in
          (okx, sk ∙ ap₂ {C = List ℕ} (λ (k : ℕ) (l : List ℕ). k ∷ l) (eqb-true k n et) sx)

  pub viewed_lawful : {B : Type 0} (to : A → B) (from : B → A) → ((x : A) → from (to x) ≡ x) → ((y : B) → to (from y) ≡ y) → Lawful (viewed to from f)
  viewed_lawful {B} to from back forth = record { reads = rd; written = λ y r h. then_with _ (from y) r (lf.written (from y) r h) ∙ ap (λ (z : B). got z r) (forth y) }
    where
      rd : (s : List ℕ) (y : B) (r : List ℕ) → Octets s → (viewed to from f).read s ≡ got y r → (f.ok (from y)) × (s ≡ f.write (from y) ++ r)
      rd s y r o e =
          let (x, u, ex, e') = then_got (f.read s) _ y r e in
          let p : to x ≡ y = cc in
          let q : u ≡ r = cc in
          let w : x ≡ from y = sym (back x) ∙ ap from p in
          lf.reads s (from y) r o (ex ∙ ap₂ got w q)

-- octets written one by one are themselves
pub plain : (l : List ℕ) → write_all (λ (x : ℕ). x ∷ []) l ≡ l
unfolding write_all
plain [] = refl
plain (x ∷ l) = ap {B = List ℕ} (λ (m : List ℕ). x ∷ m) (plain l)

-- the whole of the octets
pub closed_got : {A : Type 0} (g : Got A) (x : A) (r : List ℕ) → closed g ≡ got x r → g ≡ got x []
unfolding closed
closed_got (got y []) x r e = cc
closed_got (got y (a ∷ l)) x r e = let z : ◌≡◌ {A = ℕ} 0 1 = cc in absurd (omega arith)
closed_got bad x r e = let z : ◌≡◌ {A = ℕ} 0 1 = cc in absurd (omega arith)

module _ {A : Type 0} {f : Format A} (lf : Lawful f) where
  pub whole_reads : (s : List ℕ) (x : A) (r : List ℕ) → Octets s → closed (f.read s) ≡ got x r → (f.ok x) × (s ≡ f.write x)
  whole_reads s x r o e = let (h, p) = lf.reads s x [] o (closed_got (f.read s) x r e) in (h, p ∙ append-nil (f.write x))

  pub whole_written : (x : A) → f.ok x → closed (f.read (f.write x)) ≡ got x []
  unfolding closed
  whole_written x h = ap closed (ap f.read (sym (append-nil (f.write x))) ∙ lf.written x [] h)
