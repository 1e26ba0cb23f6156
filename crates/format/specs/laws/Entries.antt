-- Laws: of loops over the entries of a section that lie within the octets: a test of each, and a value for each of eight tenants, what it has counted
-- or its records.
use Rattle.std.specs.Prelude.{◌↔◌, EachIndex, IsTrue, Bool, ◌≡◌, leb, replicate, set}
use Rattle.std.proofs.Math.Bool.{false, true}
use mathlib.Core.List.{List, [], ◌++◌, ◌∷◌, append_assoc, append-nil, map}
use Rattle.std.proofs.Common.{◌∙◌, length-append, ext_get_or}
use Rattle.std.proofs.Math.Path.{ap, ap₂, refl, subst, sym}
use Prim.Native.Nat.{◌+◌, ◌-◌, ◌<◌, ◌≤◌, suc, zero, ℕ}
use native.Mathlib.Omega.{arith}
use Rattle.std.proofs.Math.Dec.{eqb}
use Rattle.std.proofs.Math.ListN.{get_or, length, length-set}
use Rattle.std.proofs.lemmas.List.{get_or-replicate, length-replicate}
use Rattle.std.proofs.Math.Seq.{get_or-set_other, get_or-set_same}
use borrow.Author.Tests.{eqb-false, eqb-true, le-leb, leb-true}
use Rattle.lists.specs.All.{all_by, all_to}
use Rattle.lists.specs.Filter.{filter_by}
use Rattle.lists.specs.Fold.{fold}
use Rattle.lists.specs.Pick.{pick}
use Rattle.lists.specs.laws.All.{all_head, each_to, to_each}
use Rattle.lists.specs.laws.Filter.{filter_length}
use Rattle.format.specs.Format.{Got, bad, got}
use Rattle.format.specs.Place.{EachAt, walk}
use Rattle.format.specs.Section.{InRow, Inside}
use Rattle.format.specs.Tenants.{apart, keep_by, own, per_tenant, tally_by}
use Rattle.format.specs.laws.Fixed.{walk_length}

-- nothing is got where nothing can be
pub not_got : {A : Type 0} (g : Got A) → ((x : A) (r : List ℕ) → g ≡ got x r → ⊥) → g ≡ bad
not_got (got x r) h = absurd (h x r refl)
not_got bad h = refl

-- ---- a test of each entry
pub record TestInv {A : Type 0} (t : A → Bool) (v : List ℕ → ℕ → A) (next : List ℕ → ℕ → ℕ) (s : List ℕ) (from count here i : ℕ) : Type 0 where
  pub within : i ≤ count
  pub run : InRow next s here (count - i)
  pub whole : all_by t (walk v next (count - i) s here) ≡ all_by t (walk v next count s from)

module _ {A : Type 0} {t : A → Bool} {v : List ℕ → ℕ → A} {next : List ℕ → ℕ → ℕ} {s : List ℕ} {from count : ℕ} where
  pub test_start : InRow next s from count → TestInv t v next s from count from 0
  test_start h =
      let z : count - 0 ≡ count = omega arith in
      record { within = omega arith; run = subst (λ (k : ℕ). InRow next s from k) (sym z) h; whole = ap (λ (k : ℕ). all_by t (walk v next k s from)) z }

  module _ {here i : ℕ} (w : TestInv t v next s from count here i) where
    test_head : i < count → Inside next s here × InRow next s (next s here) (count - (i + 1))
    unfolding EachAt
    test_head h = let e : count - i ≡ suc (count - (i + 1)) = omega arith in subst (λ (k : ℕ). InRow next s here k) e w.run

    pub test_in : i < count → Inside next s here
    test_in h = (test_head h).0

    test_open : i < count → all_by t (walk v next count s from) ≡ pick (t (v s here)) (all_by t (walk v next (count - (i + 1)) s (next s here))) false
    unfolding walk all_by
    test_open h = let e : count - i ≡ suc (count - (i + 1)) = omega arith in sym w.whole ∙ ap (λ (k : ℕ). all_by t (walk v next k s here)) e

    pub test_not : (r : Bool) → i < count → r ≡ t (v s here) → r ≡ false → false ≡ all_by t (walk v next count s from)
    unfolding pick
    test_not r h e f = sym (test_open h ∙ ap (λ (b : Bool). pick b (all_by t (walk v next (count - (i + 1)) s (next s here))) false) (sym e ∙ f))

    pub test_next : (r : Bool) (n : ℕ) → i < count → r ≡ t (v s here) → r ≡ true → n ≡ next s here → TestInv t v next s from count n (i + 1)
    unfolding pick
    test_next r n h e f q = record {
      within = omega arith;
      run = subst (λ (k : ℕ). InRow next s k (count - (i + 1))) (sym q) (test_head h).1;
      whole = ap (λ (k : ℕ). all_by t (walk v next (count - (i + 1)) s k)) q ∙ sym (test_open h ∙ ap (λ (b : Bool). pick b (all_by t (walk v next (count - (i + 1)) s (next s here))) false) (sym e ∙ f));
    }

    pub test_end : count ≤ i → true ≡ all_by t (walk v next count s from)
    unfolding walk all_by
    test_end h = let e : count - i ≡ 0 = omega arith in sym (ap (λ (k : ℕ). all_by t (walk v next k s here)) e) ∙ w.whole

pub ruleset entry_tests = (test_start, test_in, test_not, test_next, test_end)

-- what a test of each says of each, where the entries lie within the octets
pub row_facts : {A : Type 0} (t : A → Bool) (P : List ℕ → ℕ → Type 0) (v : List ℕ → ℕ → A) (next : List ℕ → ℕ → ℕ) → ((s : List ℕ) (at : ℕ) → Inside next s at → t (v s at) ≡ true → P s at)
    → (n : ℕ) (s : List ℕ) (at : ℕ) → InRow next s at n → all_by t (walk v next n s at) ≡ true → EachAt P next n s at
unfolding EachAt walk
row_facts t P v next f zero s at h e = tt
row_facts t P v next f (suc n) s at h e =
    let p = all_head t (v s at) (walk v next n s (next s at)) e in
    (f s at h.0 p.0, row_facts t P v next f n s (next s at) h.1 p.1)

-- ---- the values of the tenants
per_length : {B : Type 0} (f : ℕ → B) (n t : ℕ) → length (per_tenant f t n) ≡ n
unfolding per_tenant
per_length f zero t = refl
per_length f (suc n) t = ap suc (per_length f n (suc t))

pub per_get : {B : Type 0} (f : ℕ → B) (n t i : ℕ) (d : B) → i < n → get_or (per_tenant f t n) i d ≡ f (i + t)
unfolding per_tenant
per_get f zero t i d h = absurd (omega arith)
per_get f (suc n) t zero d h = ap f (let e : t ≡ 0 + t = omega arith in e)
per_get f (suc n) t (suc i) d h = per_get f n (suc t) i d (omega arith) ∙ ap f (let e : i + suc t ≡ suc i + t = omega arith in e)

-- out has of each tenant what the entries before give, from what it had first, and the entries from here on give the rest; P holds of each entry's place
pub record TenantsInv {A B : Type 0} (key : A → ℕ) (P : List ℕ → ℕ → Type 0) (v : List ℕ → ℕ → A) (next : List ℕ → ℕ → ℕ) (g : B → A → B) (z : ℕ → B) (d : B) (s : List ℕ) (from count : ℕ) (out : List B) (here i : ℕ) : Type 0 where
  pub within : i ≤ count
  pub held : EachAt P next (count - i) s here
  pub long : length out ≡ 8
  pub each : (k : ℕ) → k < 8 → fold (keep_by key g (k + 1)) (get_or out k d) (walk v next (count - i) s here) ≡ fold (keep_by key g (k + 1)) (z k) (walk v next count s from)

-- the same where each has the same first
abbrev pub TenantInv : {A B : Type 0} → (A → ℕ) → (List ℕ → ℕ → Type 0) → (List ℕ → ℕ → A) → (List ℕ → ℕ → ℕ) → (B → A → B) → B → B → List ℕ → ℕ → ℕ → List B → ℕ → ℕ → Type 0
TenantInv key P v next g z d s from count out here i = TenantsInv key P v next g (λ k. z) d s from count out here i

module _ {A B : Type 0} (key : A → ℕ) {P : List ℕ → ℕ → Type 0} (v : List ℕ → ℕ → A) {next : List ℕ → ℕ → ℕ} (g : B → A → B) (d : B) {s : List ℕ} {from count : ℕ} where
  pub tenants_start : (z : ℕ → B) (out : List B) → length out ≡ 8 → ((k : ℕ) → k < 8 → get_or out k d ≡ z k) → EachAt P next count s from → TenantsInv key P v next g z d s from count out from 0
  tenants_start z out l e h =
      let q : count - 0 ≡ count = omega arith in
      record {
        within = omega arith;
        held = subst (λ (k : ℕ). EachAt P next k s from) (sym q) h;
        long = l;
        each = λ k m. ap₂ (λ (b : B) (j : ℕ). fold (keep_by key g (k + 1)) b (walk v next j s from)) (e k m) q;
      }

pub tenant_start : {A B : Type 0} (key : A → ℕ) {P : List ℕ → ℕ → Type 0} (v : List ℕ → ℕ → A) {next : List ℕ → ℕ → ℕ} (g : B → A → B) (z d : B) {s : List ℕ} {from count : ℕ} (y : B) → y ≡ z
    → EachAt P next count s from → TenantInv key P v next g z d s from count (replicate 8 y) from 0
tenant_start key v g z d y e h = tenants_start key v g d (λ k. z) (replicate 8 y) (length-replicate 8 y) (λ k l. get_or-replicate 8 k y d l ∙ e) h

module _ {A B : Type 0} {key : A → ℕ} {P : List ℕ → ℕ → Type 0} {v : List ℕ → ℕ → A} {next : List ℕ → ℕ → ℕ} {g : B → A → B} {z : ℕ → B} {d : B} {s : List ℕ} {from count : ℕ} {out : List B} {here i : ℕ}
    (w : TenantsInv key P v next g z d s from count out here i) where
  head : i < count → P s here × EachAt P next (count - (i + 1)) s (next s here)
  unfolding EachAt
  head h = let e : count - i ≡ suc (count - (i + 1)) = omega arith in subst (λ (k : ℕ). EachAt P next k s here) e w.held

  pub tenant_held : i < count → P s here
  tenant_held h = (head h).0

  pub tenant_next : (j n : ℕ) (x : B) → (P s here → 1 ≤ key (v s here)) → i < count → j ≡ key (v s here) - 1 → x ≡ g (get_or out j d) (v s here) → n ≡ next s here
      → TenantsInv key P v next g z d s from count (set out j x) n (i + 1)
  unfolding walk keep_by pick
  tenant_next j n x low h ej ex en =
      let e : count - i ≡ suc (count - (i + 1)) = omega arith in
      record {
        within = omega arith;
        held = subst (λ (k : ℕ). EachAt P next (count - (i + 1)) s k) (sym en) (head h).1;
        long = length-set out j x ∙ w.long;
        each = λ k l. ap₂ (λ (b : B) (y : ℕ). fold (keep_by key g (k + 1)) b (walk v next (count - (i + 1)) s y)) (one k l (eqb (key (v s here)) (k + 1)) refl) en
            ∙ sym (ap (λ (j : ℕ). fold (keep_by key g (k + 1)) (get_or out k d) (walk v next j s here)) e) ∙ w.each k l;
      }
    where
      one : (k : ℕ) → k < 8 → (b : Bool) → eqb (key (v s here)) (k + 1) ≡ b → get_or (set out j x) k d ≡ pick b (g (get_or out k d) (v s here)) (get_or out k d)
      one k l true q =
          let u : j ≡ k = (let p = eqb-true (key (v s here)) (k + 1) q in omega arith) in
          let m = w.long in
          ap (λ (y : ℕ). get_or (set out y x) k d) u ∙ get_or-set_same out k x d (omega arith) ∙ ex ∙ ap (λ (y : ℕ). g (get_or out y d) (v s here)) u
      one k l false q = get_or-set_other out j k x d (λ u. eqb-false (key (v s here)) (k + 1) q (let a = low (head h).0 in let c : key (v s here) ≡ k + 1 = omega arith in c))

  -- behind the last entry each has its own
  pub tenants_each : count ≤ i → (k : ℕ) → k < 8 → get_or out k d ≡ fold (keep_by key g (k + 1)) (z k) (walk v next count s from)
  unfolding walk
  tenants_each h k l = let e : count - i ≡ 0 = omega arith in sym (ap (λ (j : ℕ). fold (keep_by key g (k + 1)) (get_or out k d) (walk v next j s here)) e) ∙ w.each k l

  pub tenants_end : (f : ℕ → B) → ((k : ℕ) → fold (keep_by key g (k + 1)) (z k) (walk v next count s from) ≡ f (k + 1)) → count ≤ i → out ≡ per_tenant f 1 8
  tenants_end f q h =
      let m = w.long in
      ext_get_or d out (per_tenant f 1 8) (w.long ∙ sym (per_length f 8 1))
      (λ k l. tenants_each h k (omega arith) ∙ q k ∙ sym (per_get f 8 1 k d (omega arith)))

pub tenant_end : {A B : Type 0} {key : A → ℕ} {P : List ℕ → ℕ → Type 0} {v : List ℕ → ℕ → A} {next : List ℕ → ℕ → ℕ} {g : B → A → B} {z d : B} {s : List ℕ} {from count : ℕ} {out : List B} {here i : ℕ}
    → TenantInv key P v next g z d s from count out here i → (f : ℕ → B) → ((t : ℕ) → fold (keep_by key g t) z (walk v next count s from) ≡ f t) → count ≤ i → out ≡ per_tenant f 1 8
tenant_end w f q h = tenants_end w f (λ k. q (k + 1)) h

-- ---- how many a tenant has
abbrev pub one_more : {A : Type 0} → ℕ → A → ℕ
one_more n x = n + 1

counted_from : {A : Type 0} (key : A → ℕ) (t n : ℕ) (xs : List A) → fold (keep_by key one_more t) n xs ≡ n + length (own key t xs)
unfolding keep_by filter_by pick
counted_from key t n [] = let e : n ≡ n + 0 = omega arith in e
counted_from key t n (x ∷ xs) = go (eqb (key x) t) (λ m. counted_from key t m xs)
  where
    go : (b : Bool) → ((n : ℕ) → fold (keep_by key one_more t) n xs ≡ n + length (own key t xs)) → fold (keep_by key one_more t) (pick b (n + 1) n) xs ≡ n + length (pick b (x ∷ own key t xs) (own key t xs))
    go true ih = ih (n + 1) ∙ (let e : n + 1 + length (own key t xs) ≡ n + suc (length (own key t xs)) = omega arith in e)
    go false ih = ih n

abbrev pub CountInv : {A : Type 0} → (A → ℕ) → (List ℕ → ℕ → Type 0) → (List ℕ → ℕ → A) → (List ℕ → ℕ → ℕ) → List ℕ → ℕ → ℕ → List ℕ → ℕ → ℕ → Type 0
CountInv key P v next s from count n here i = TenantInv key P v next one_more 0 0 s from count n here i

module _ {A : Type 0} {key : A → ℕ} {P : List ℕ → ℕ → Type 0} {v : List ℕ → ℕ → A} {next : List ℕ → ℕ → ℕ} {s : List ℕ} {from count : ℕ} where
  pub count_start : EachAt P next count s from → CountInv key P v next s from count (replicate 8 0) from 0
  count_start h = tenant_start key v one_more 0 0 0 refl h

  module _ {n : List ℕ} {here i : ℕ} (w : CountInv key P v next s from count n here i) where
    pub count_small : (j : ℕ) → count < 256 → j < 8 → get_or n j 0 < 256
    count_small j c h =
        let u = w.each j h in
        let a = counted_from key (j + 1) (get_or n j 0) (walk v next (count - i) s here) in
        let b = counted_from key (j + 1) 0 (walk v next count s from) in
        let l = filter_length (λ x. eqb (key x) (j + 1)) (walk v next count s from) in
        let m = walk_length v next count s from in
        omega arith

    pub count_end : count ≤ i → n ≡ tally_by key (walk v next count s from)
    unfolding tally_by
    count_end h = tenant_end w _ (λ t. counted_from key t 0 (walk v next count s from) ∙ (let e : 0 + length (own key t (walk v next count s from)) ≡ length (own key t (walk v next count s from)) = omega arith in e)) h

-- what was counted decides
module _ {A : Type 0} (key : A → ℕ) (most : ℕ) (xs : List A) {n : List ℕ} (e : n ≡ tally_by key xs) where
  many : (i : ℕ) → i < 8 → get_or n i 0 ≡ length (own key (i + 1) xs)
  unfolding tally_by
  many i h = ap (λ (l : List ℕ). get_or l i 0) e ∙ per_get (λ t. length (own key t xs)) 8 1 i 0 h

  pub few_all : {r : Bool} → length n ≡ 8 → (IsTrue r ↔ EachIndex n (λ i. get_or n i 0 ≤ most)) → r ≡ all_to (λ i. leb (length (own key (i + 1) xs)) most) 8
  few_all {r} l h = go r h
    where
      few : ℕ → Bool
      few i = leb (length (own key (i + 1) xs)) most

      go : (r : Bool) → (IsTrue r ↔ EachIndex n (λ i. get_or n i 0 ≤ most)) → r ≡ all_to few 8
      go true h = sym (each_to few 8 (λ i g. le-leb (length (own key (i + 1) xs)) most (let m = many i g in let k = h.0 refl i (omega arith) in omega arith)))
      go false h = other (all_to few 8) refl
        where
          other : (b : Bool) → all_to few 8 ≡ b → false ≡ b
          other true q = h.1 (λ i g. let j : i < 8 = omega arith in let m = many i j in let k = leb-true (length (own key (i + 1) xs)) most (to_each few 8 q i j) in omega arith)
          other false q = refl

-- ---- a tenant's records: what is pushed one by one is laid out in the file's order
module _ {A B R : Type 0} (key : A → ℕ) (put : A → B) (n : ℕ) (laid : List B → R) (push : R → B → R) (pushes : (l : List B) (x : B) → length l < n → push (laid l) x ≡ laid (l ++ x ∷ [])) where
  abbrev pub keep : ℕ → R → A → R
  keep t = keep_by key (λ r x. push r (put x)) t

  pub keep_fold : (t : ℕ) (xs : List A) (p : List B) → length p + length (own key t xs) ≤ n → fold (keep t) (laid p) xs ≡ laid (p ++ map put (own key t xs))
  unfolding filter_by keep_by pick
  keep_fold t [] p h = ap laid (sym (append-nil p))
  keep_fold t (x ∷ xs) p h = go (eqb (key x) t) h (keep_fold t xs p) (keep_fold t xs (p ++ put x ∷ []))
    where
      O : List A
      O = own key t xs

      go : (b : Bool) → length p + length (pick b (x ∷ O) O) ≤ n
          → (length p + length O ≤ n → fold (keep t) (laid p) xs ≡ laid (p ++ map put O))
          → (length (p ++ put x ∷ []) + length O ≤ n → fold (keep t) (laid (p ++ put x ∷ [])) xs ≡ laid ((p ++ put x ∷ []) ++ map put O))
          → fold (keep t) (pick b (push (laid p) (put x)) (laid p)) xs ≡ laid (p ++ map put (pick b (x ∷ O) O))
      go true h off on = ap (λ (r : R). fold (keep t) r xs) (pushes p (put x) (omega arith)) ∙ on (omega (arith, length-append p (put x ∷ []))) ∙ ap laid (append_assoc p (put x ∷ []) (map put O))
      go false h off on = off h

  pub kept_laid : (m t : ℕ) (xs : List A) → ((i : ℕ) → i < m → length (own key (i + t) xs) ≤ n) → per_tenant (λ t. fold (keep t) (laid []) xs) t m ≡ map laid (map (map put) (apart key t m xs))
  unfolding per_tenant apart
  kept_laid zero t xs h = refl
  kept_laid (suc m) t xs h =
      let g = h 0 (omega arith) in
      let q : length (own key (0 + t) xs) ≡ length (own key t xs) = ap (λ (k : ℕ). length (own key k xs)) (let e : 0 + t ≡ t = omega arith in e) in
      ap₂ {C = List R} (λ (x : R) (l : List R). x ∷ l) (keep_fold t xs [] (omega arith))
      (kept_laid m (suc t) xs (λ i g. subst (λ (k : ℕ). length (own key k xs) ≤ n) (let e : suc i + t ≡ i + suc t = omega arith in e) (h (suc i) (omega arith))))
