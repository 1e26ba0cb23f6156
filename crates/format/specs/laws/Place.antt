-- Laws: where the value that stands at a place of the octets ends, format by format, and how walks over octets go on.
use Rattle.std.specs.Prelude.{Bool, false, true, ◌≡◌, drop, get_or, take, None, Option, Some}
use mathlib.Core.List.{List, [], ◌∷◌}
use Rattle.std.proofs.Common.{◌∙◌, inl, inr, subst, sym, add-one, drop_of_length-le, length-drop, drop-cons, drop-drop}
use Rattle.std.proofs.Math.Path.{ap, refl}
use Prim.Native.Nat.{◌+◌, ◌-◌, ◌<◌, ◌≤◌, suc, zero, ℕ}
use native.Mathlib.Omega.{arith}
use Rattle.std.proofs.Math.ListN.{length}
use Rattle.lists.specs.Pick.{pick}
use Rattle.octets.specs.Octets.{at32}
use Rattle.format.specs.Format.{Format, Got, ◌⊗◌, ◌▷◌, bad, closed, counted, got, number, octet, only, read_number, read_octet, read_times, then, times, viewed}
use Rattle.format.specs.Place.{Ends, EndsAs, EndsBy, EndsWith, Fails, Leads, Stands}
use Rattle.format.specs.laws.Format.{then_with}

pub ends_as : {A : Type 0} {f : Format A} {x : A} {s : List ℕ} {at least : ℕ} {r : Option ℕ} → EndsAs f x s at least r → Ends f s at least r
unfolding EndsBy EndsWith
ends_as {f = f} {x = x} {s = s} {at = at} {least = least} {r = r} v = record { by = go r v.by }
  where
    go : (r : Option ℕ) → EndsWith f x s at least r → EndsBy f s at least r
    go (Some n) (p, a, b) = (x, p, a, b)
    go None e = e

pub ends_nowhere : {A : Type 0} {f : Format A} {s : List ℕ} {at : ℕ} (least : ℕ) → Fails f s at → Ends f s at least None
unfolding EndsBy
ends_nowhere least e = record { by = e }

-- what is known of a place that a call gave
pub ends_at : {A : Type 0} {f : Format A} {s : List ℕ} {at least n : ℕ} {r : Option ℕ} → Ends f s at least r → r ≡ Some n → Ends f s at least (Some n)
ends_at {f = f} {s = s} {at = at} {least = least} v e = subst (λ (r : Option ℕ). Ends f s at least r) e v

pub ends_not : {A : Type 0} {f : Format A} {s : List ℕ} {at least : ℕ} {r : Option ℕ} → Ends f s at least r → r ≡ None → Ends f s at least None
ends_not {f = f} {s = s} {at = at} {least = least} v e = subst (λ (r : Option ℕ). Ends f s at least r) e v

pub ends_in : {A : Type 0} {f : Format A} {s : List ℕ} {at least n : ℕ} → Ends f s at least (Some n) → (at + least ≤ n) × (n ≤ length s)
unfolding EndsBy
ends_in v = (v.by.2, v.by.3)

pub ends_value : {A : Type 0} {f : Format A} {s : List ℕ} {at least n : ℕ} → Ends f s at least (Some n) → (x : A) × Stands f s at x n
unfolding EndsBy
ends_value v = (v.by.0, v.by.1)

pub ends_bad : {A : Type 0} {f : Format A} {s : List ℕ} {at least : ℕ} → Ends f s at least None → Fails f s at
unfolding EndsBy
ends_bad v = v.by

-- a weaker bound
pub ends_from : {A : Type 0} {f : Format A} {s : List ℕ} {at least : ℕ} (less : ℕ) {r : Option ℕ} → less ≤ least → Ends f s at least r → Ends f s at less r
unfolding EndsBy
ends_from {f = f} {s = s} {at = at} {least = least} less {r} h v = record { by = go r v.by }
  where
    go : (r : Option ℕ) → EndsBy f s at least r → EndsBy f s at less r
    go (Some n) (x, p, a, b) = (x, p, omega arith, b)
    go None e = e

-- the same of a known value
module _ {A : Type 0} {f : Format A} {x : A} {s : List ℕ} {at least : ℕ} where
  pub as_is : {r q : Option ℕ} → EndsAs f x s at least r → r ≡ q → EndsAs f x s at least q
  as_is v e = subst (λ (r : Option ℕ). EndsAs f x s at least r) e v

  pub as_in : {n : ℕ} → EndsAs f x s at least (Some n) → (at + least ≤ n) × (n ≤ length s)
  unfolding EndsWith
  as_in v = (v.by.1, v.by.2)

  pub as_there : {n : ℕ} → Stands f s at x n → at + least ≤ n → n ≤ length s → EndsAs f x s at least (Some n)
  unfolding EndsWith
  as_there p a b = record { by = (p, a, b) }

  pub as_nowhere : Fails f s at → EndsAs f x s at least None
  unfolding EndsWith
  as_nowhere p = record { by = p }

-- ---- one octet
drop_next : (s : List ℕ) (at : ℕ) → at < length s → drop at s ≡ get_or s at 0 ∷ drop (at + 1) s
drop_next s at h = drop-cons s at 0 h ∙ ap {B = List ℕ} (λ (n : ℕ). get_or s at 0 ∷ drop n s) (sym (add-one at))

pub octet_stands : (s : List ℕ) (at : ℕ) → at < length s → Stands octet s at (get_or s at 0) (at + 1)
unfolding read_octet
octet_stands s at h = record { reads = ap read_octet (drop_next s at h) }

pub octet_fails : (s : List ℕ) (at : ℕ) → length s ≤ at → Fails octet s at
unfolding read_octet
octet_fails s at h = record { reads = ap read_octet (drop_of_length-le s {i = at} h) }

-- ---- a number
drop_four : (s : List ℕ) (at : ℕ) → at + 4 ≤ length s → drop at s ≡ get_or s at 0 ∷ get_or s (at + 1) 0 ∷ get_or s (at + 2) 0 ∷ get_or s (at + 3) 0 ∷ drop (at + 4) s
drop_four s at h =
    let e2 : at + 1 + 1 ≡ at + 2 = omega arith in
    let e3 : at + 2 + 1 ≡ at + 3 = omega arith in
    let e4 : at + 3 + 1 ≡ at + 4 = omega arith in
    let d0 : drop at s ≡ get_or s at 0 ∷ drop (at + 1) s = drop_next s at (omega arith) in
    let d1 : drop (at + 1) s ≡ get_or s (at + 1) 0 ∷ drop (at + 2) s = rw (← e2) (drop_next s (at + 1) (omega arith)) in
    let d2 : drop (at + 2) s ≡ get_or s (at + 2) 0 ∷ drop (at + 3) s = rw (← e3) (drop_next s (at + 2) (omega arith)) in
    let d3 : drop (at + 3) s ≡ get_or s (at + 3) 0 ∷ drop (at + 4) s = rw (← e4) (drop_next s (at + 3) (omega arith)) in
    cc

pub number_stands : (s : List ℕ) (at : ℕ) → at + 4 ≤ length s → Stands number s at (at32 s at) (at + 4)
unfolding read_number at32
number_stands s at h = record { reads = ap read_number (drop_four s at h) }

-- the end in other words
pub stands_to : {A : Type 0} {f : Format A} {s : List ℕ} {at m n : ℕ} {x : A} → m ≡ n → Stands f s at x m → Stands f s at x n
stands_to {f = f} {s = s} {at = at} {x = x} e p = subst (λ (k : ℕ). Stands f s at x k) e p

-- ---- a count and what it counts
module _ {A : Type 0} (f : Format A) (s : List ℕ) (at : ℕ) where
  pub counted_none : length s ≤ at → Fails (counted f) s at
  unfolding then
  counted_none h = record { reads = ap (λ g. then g (λ n r. read_times n f.read r)) (octet_fails s at h).reads }

  module _ (k : ℕ) (h : at < length s) (e : k ≡ get_or s at 0) where
    pub counted_is : (counted f).read (drop at s) ≡ (times k f).read (drop (at + 1) s)
    counted_is = then_with _ _ _ (octet_stands s at h).reads ∙ ap (λ (n : ℕ). read_times n f.read (drop (at + 1) s)) (sym e)

    pub counted_ends_law : (least : ℕ) {r : Option ℕ} → Ends (times k f) s (at + 1) least r → Ends (counted f) s at 1 r
    unfolding EndsBy
    counted_ends_law least {r} v = record { by = go r v.by }
      where
        go : (r : Option ℕ) → EndsBy (times k f) s (at + 1) least r → EndsBy (counted f) s at 1 r
        go (Some n) (xs, p, a, b) = (xs, record { reads = counted_is ∙ p.reads }, omega arith, b)
        go None q = record { reads = counted_is ∙ q.reads }

-- a run of octets
times_octets : (k : ℕ) (l : List ℕ) → k ≤ length l → read_times k read_octet l ≡ got (take k l) (drop k l)
unfolding read_times read_octet then
times_octets zero [] h = refl
times_octets zero (x ∷ l) h = refl
times_octets (suc k) [] h = absurd (omega arith)
times_octets (suc k) (x ∷ l) h = then_with _ _ _ (times_octets k l (let g : k ≤ length l = omega arith in g))

times_short : (k : ℕ) (l : List ℕ) → length l < k → read_times k read_octet l ≡ bad
unfolding read_times read_octet then
times_short zero l h = absurd (omega arith)
times_short (suc k) [] h = refl
times_short (suc k) (x ∷ l) h = ap (λ g. then g (λ xs t. got (x ∷ xs) t)) (times_short k l (let g : length l < k = omega arith in g))

module _ (s : List ℕ) (at n : ℕ) (h : at < length s) (e : n ≡ get_or s at 0) where
  pub octets_stand : at + 1 + n ≤ length s → Stands (counted octet) s at (take n (drop (at + 1) s)) (at + 1 + n)
  octets_stand g = record {
    reads = counted_is octet s at n h e ∙ times_octets n (drop (at + 1) s) (let d = length-drop (at + 1) s in omega arith) ∙ ap (got (take n (drop (at + 1) s))) (drop-drop n (at + 1) s);
  }

  pub octets_short : length s < at + 1 + n → Fails (counted octet) s at
  octets_short g = record { reads = counted_is octet s at n h e ∙ times_short n (drop (at + 1) s) (let d = length-drop (at + 1) s in omega arith) }

-- ---- one after the other, whose format may go by the first
module _ {A B : Type 0} {f : Format A} {s : List ℕ} {at : ℕ} (g : A → Format B) where
  pub stands_then : {m n : ℕ} {x : A} {y : B} → Stands f s at x m → Stands (g x) s m y n → Stands (f ▷ g) s at (x, y) n
  stands_then p q = record { reads = then_with _ _ _ p.reads ∙ then_with _ _ _ q.reads }

  pub fails_then : {m : ℕ} {x : A} → Stands f s at x m → Fails (g x) s m → Fails (f ▷ g) s at
  unfolding then
  fails_then {m} {x} p q = record { reads = then_with _ _ _ p.reads ∙ ap (λ w. then w (λ y t. got (x, y) t)) q.reads }

  pub fails_before : Fails f s at → Fails (f ▷ g) s at
  unfolding then
  fails_before q = record { reads = ap (λ w. then w (λ x r. then ((g x).read r) (λ y t. got (x, y) t))) q.reads }

  pub then_ends : {a b m : ℕ} {x : A} {y : B} {r : Option ℕ} → EndsAs f x s at a (Some m) → EndsAs (g x) y s m b r → EndsAs (f ▷ g) (x, y) s at (a + b) r
  unfolding EndsWith
  then_ends {a} {b} {m} {x} {y} {r} v w = record { by = go r v.by.0 v.by.1 w.by }
    where
      go : (r : Option ℕ) → Stands f s at x m → at + a ≤ m → EndsWith (g x) y s m b r → EndsWith (f ▷ g) (x, y) s at (a + b) r
      go (Some n) p h (q, c, d) = (stands_then p q, omega arith, d)
      go None p h q = fails_then p q

  pub then_not : {a : ℕ} {x : A} (b : ℕ) (y : A × B) → EndsAs f x s at a None → EndsAs (f ▷ g) y s at b None
  unfolding EndsWith
  then_not b y v = record { by = fails_before v.by }

module _ {A B : Type 0} {f : Format A} {s : List ℕ} {at m : ℕ} {x : A} (g : Format B) (p : Stands f s at x m) where
  pub stands_both : {n : ℕ} {y : B} → Stands g s m y n → Stands (f ⊗ g) s at (x, y) n
  stands_both q = stands_then (λ _. g) p q

  pub fails_second : Fails g s m → Fails (f ⊗ g) s at
  fails_second q = fails_then (λ _. g) p q

pub fails_first : {A B : Type 0} {f : Format A} {s : List ℕ} {at : ℕ} (g : Format B) → Fails f s at → Fails (f ⊗ g) s at
fails_first g q = fails_before (λ _. g) q

-- ---- only values that pass a test, and the same octets for another type
module _ {A : Type 0} {f : Format A} {s : List ℕ} {at n : ℕ} {x : A} (p : Stands f s at x n) where
  pub only_stands : (t : A → Bool) → t x ≡ true → Stands (only t f) s at x n
  unfolding pick
  only_stands t e = record { reads = then_with _ _ _ p.reads ∙ ap (λ (b : Bool). pick b (got x (drop n s)) bad) e }

  pub only_fails : (t : A → Bool) → t x ≡ false → Fails (only t f) s at
  unfolding pick
  only_fails t e = record { reads = then_with _ _ _ p.reads ∙ ap (λ (b : Bool). pick b (got x (drop n s)) bad) e }

  pub viewed_stands : {B : Type 0} (to : A → B) (from : B → A) → Stands (viewed to from f) s at (to x) n
  viewed_stands to from = record { reads = then_with _ _ _ p.reads }

module _ {A : Type 0} {f : Format A} {s : List ℕ} {at : ℕ} (q : Fails f s at) where
  pub only_none : (t : A → Bool) → Fails (only t f) s at
  unfolding then
  only_none t = record { reads = ap (λ g. then g (λ x r. pick (t x) (got x r) bad)) q.reads }

  pub viewed_none : {B : Type 0} (to : A → B) (from : B → A) → Fails (viewed to from f) s at
  unfolding then
  viewed_none to from = record { reads = ap (λ g. then g (λ x r. got (to x) r)) q.reads }

pub viewed_ends : {A B : Type 0} {f : Format A} {s : List ℕ} {at least : ℕ} {x : A} {r : Option ℕ} (to : A → B) (from : B → A) → EndsAs f x s at least r → EndsAs (viewed to from f) (to x) s at least r
unfolding EndsWith
viewed_ends {f = f} {s = s} {at = at} {least = least} {x = x} {r = r} to from v = record { by = go r v.by }
  where
    go : (r : Option ℕ) → EndsWith f x s at least r → EndsWith (viewed to from f) (to x) s at least r
    go (Some n) (p, a, b) = (viewed_stands p to from, a, b)
    go None q = viewed_none q to from

-- ---- n in a row
pub times_length : {A : Type 0} (f : Format A) (k : ℕ) (s : List ℕ) (xs : List A) (r : List ℕ) → (times k f).read s ≡ got xs r → length xs ≡ k
unfolding read_times then
times_length f zero s xs r e = let p : [] ≡ xs = cc in ap length (sym p)
times_length {A} f (suc k) s xs r e = one (f.read s) (times_length f k) e
  where
    two : (x : A) (g : Got (List A)) → ((ys : List A) (u : List ℕ) → g ≡ got ys u → length ys ≡ k) → then g (λ ys t. got (x ∷ ys) t) ≡ got xs r → length xs ≡ suc k
    two x (got ys t) ih e = let p : x ∷ ys ≡ xs = cc in ap length (sym p) ∙ ap suc (ih ys t refl)
    two x bad ih e = let z : ◌≡◌ {A = ℕ} 0 1 = cc in absurd (omega arith)

    one : (g : Got A) → ((t : List ℕ) (ys : List A) (u : List ℕ) → (times k f).read t ≡ got ys u → length ys ≡ k) → then g (λ x t. then (read_times k f.read t) (λ ys u. got (x ∷ ys) u)) ≡ got xs r → length xs ≡ suc k
    one (got x t) ih e = two x (read_times k f.read t) (ih t) e
    one bad ih e = let z : ◌≡◌ {A = ℕ} 0 1 = cc in absurd (omega arith)

module _ {A : Type 0} (f : Format A) {s : List ℕ} where
  pub none_ends : (at k : ℕ) → k ≡ 0 → at ≤ length s → Ends (times k f) s at 0 (Some at)
  unfolding EndsBy read_times
  none_ends at k e h = record { by = ([], record { reads = ap (λ (n : ℕ). read_times n f.read (drop at s)) e }, omega arith, h) }

  -- one, and then the others
  pub more_ends : (j : ℕ) {at here k a b : ℕ} {r : Option ℕ} → k ≡ j + 1 → Ends f s at a (Some here) → Ends (times j f) s here b r → Ends (times k f) s at (a + b) r
  unfolding EndsBy read_times then
  more_ends j {at} {here} {k} {a} {b} {r} e v w = record { by = go r w.by }
    where
      x : A
      x = v.by.0

      one : (g : Got (List A)) → read_times j f.read (drop here s) ≡ g → read_times k f.read (drop at s) ≡ then g (λ xs t. got (x ∷ xs) t)
      one g q =
          ap (λ (n : ℕ). read_times n f.read (drop at s)) (e ∙ add-one j)
          ∙ then_with _ _ _ v.by.1.reads ∙ ap (λ z. then z (λ xs t. got (x ∷ xs) t)) q

      go : (r : Option ℕ) → EndsBy (times j f) s here b r → EndsBy (times k f) s at (a + b) r
      go (Some n) (xs, q, c, d) = let u = v.by.2 in (x ∷ xs, record { reads = one (got xs (drop n s)) q.reads }, omega arith, d)
      go None q = record { reads = one bad q.reads }

  pub first_fails : (k : ℕ) {at least : ℕ} → 0 < k → Ends f s at least None → Fails (times k f) s at
  unfolding read_times then
  first_fails zero h v = absurd (omega arith)
  first_fails (suc k) h v = record { reads = ap (λ z. then z (λ x t. then (read_times k f.read t) (λ xs u. got (x ∷ xs) u))) (ends_bad v).reads }

  -- steps of which each ends a value of at least one octet
  pub leads_end : {step : ℕ → Option ℕ → Type 0} → ((here : ℕ) (r : Option ℕ) → here ≤ length s → step here r → Ends f s here 1 r)
      → (n at : ℕ) (r : Option ℕ) → at ≤ length s → Leads step n at r → Ends (times n f) s at n r
  unfolding Leads
  leads_end {step = step} ends zero at r h e = subst (λ (q : Option ℕ). Ends (times 0 f) s at 0 q) (sym e) (none_ends at 0 refl h)
  leads_end {step = step} ends (suc n) at r h (inl (m, p, q)) =
      let w = ends at (Some m) h p in
      subst (λ (k : ℕ). Ends (times (suc n) f) s at k r) (let e : 1 + n ≡ suc n = omega arith in e) (more_ends n {k = suc n} (let e : suc n ≡ n + 1 = omega arith in e) w (leads_end {step = step} ends n m r (ends_in w).1 q))
  leads_end {step = step} ends (suc n) at r h (inr (p, e)) = subst (λ (q : Option ℕ). Ends (times (suc n) f) s at (suc n) q) (sym e) (ends_nowhere (suc n) (first_fails (suc n) (omega arith) (ends at None h p)))

-- ---- the whole of the octets
drop_zero : (l : List ℕ) → drop 0 l ≡ l
drop_zero [] = refl
drop_zero (x ∷ l) = refl

closed_is : {A : Type 0} (f : Format A) (s : List ℕ) (w : Got A) → f.read (drop 0 s) ≡ w → closed (f.read s) ≡ closed w
closed_is f s w e = ap (λ (l : List ℕ). closed (f.read l)) (sym (drop_zero s)) ∙ ap closed e

module _ {A : Type 0} {f : Format A} {s : List ℕ} {x : A} {least : ℕ} where
  pub closed_not : EndsAs f x s 0 least None → closed (f.read s) ≡ bad
  unfolding EndsWith closed
  closed_not v = closed_is f s bad v.by.reads

  module _ {n : ℕ} (v : EndsAs f x s 0 least (Some n)) where
    pub closed_ends : n ≡ length s → closed (f.read s) ≡ got x []
    unfolding EndsWith closed
    closed_ends e = closed_is f s _ v.by.0.reads ∙ ap (λ (l : List ℕ). closed (got x l)) (drop_of_length-le s {i = n} (omega arith))

    pub closed_over : (n ≡ length s → ⊥) → closed (f.read s) ≡ bad
    unfolding EndsWith closed
    closed_over e = closed_is f s _ v.by.0.reads ∙ more (drop n s) (length-drop n s) v.by.2
      where
        more : (r : List ℕ) → length r ≡ length s - n → n ≤ length s → closed (got x r) ≡ bad
        more [] q h = absurd (e (omega arith))
        more (y ∷ r) q h = refl
