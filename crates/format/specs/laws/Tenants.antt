-- Laws: entries in the file's order and tenant by tenant: each gives the other back.
use Rattle.std.specs.Prelude.{Bool, ◌≡◌, get_or, take}
use Rattle.std.proofs.Math.Bool.{false, true}
use mathlib.Core.List.{List, [], ◌++◌, ◌∷◌, append-nil, map}
use Rattle.std.proofs.Common.{◌∙◌, subst, sym, take_all, eq-eqb, eqb-true, ne_eqb}
use Rattle.std.proofs.Math.Path.{ap, ap₂, refl}
use Prim.Native.Nat.{◌*◌, ◌+◌, ◌<◌, ◌≤◌, suc, zero, ℕ}
use Rattle.std.proofs.Math.Nat.{suc-mul, zero-mul}
use native.Mathlib.Omega.{arith}
use Rattle.std.proofs.Math.Dec.{eqb}
use Rattle.std.proofs.Math.ListN.{length, length-append, length-map}
use Rattle.std.proofs.lemmas.Bool.{eqb-false}
use Rattle.lists.specs.All.{All, pairs_by}
use Rattle.lists.specs.laws.All.{all_head, all_joined, all_mapped, one_fact, pairs_head}
use Rattle.lists.specs.Filter.{filter_by}
use Rattle.lists.specs.Pick.{pick}
use Rattle.lists.specs.Sums.{sum_to}
use Rattle.format.specs.Section.{ordered_from}
use Rattle.format.specs.Tenants.{apart, filed_all, own}

unfoldable chained : {A : Type 0} → List (List A) → List A
chained [] = []
chained (l ∷ ls) = l ++ chained ls

-- none is before the one before it, and all are from t on
unfoldable pub Sorted : {A : Type 0} → (A → ℕ) → ℕ → List A → Type 0
Sorted key t [] = Unit {0}
Sorted key t (x ∷ l) = (t ≤ key x) × Sorted key (key x) l

module _ {A : Type 0} (key : A → ℕ) where
  sorted_from : (t u : ℕ) (l : List A) → t ≤ u → Sorted key u l → Sorted key t l
  unfolding Sorted
  sorted_from t u [] h s = tt
  sorted_from t u (x ∷ l) h s = (let g = s.0 in omega arith, s.1)

  pub only_none : (t u : ℕ) (l : List A) → t < u → Sorted key u l → own key t l ≡ []
  unfolding Sorted filter_by pick
  only_none t u [] h s = refl
  only_none t u (x ∷ l) h s =
      ap (λ (b : Bool). pick b (x ∷ own key t l) (own key t l)) (ne_eqb (key x) t (λ e. let g = s.0 in absurd (omega arith)))
      ∙ only_none t (key x) l (let g = s.0 in omega arith) s.1

  -- an entry of a later tenant adds nothing to the lists before it
  apart_none : (n t : ℕ) (l : List A) → Sorted key (t + n) l → chained (apart key t n l) ≡ []
  unfolding apart chained
  apart_none zero t l s = refl
  apart_none (suc n) t l s =
      ap (λ (k : List A). k ++ chained (apart key (suc t) n l)) (only_none t (t + suc n) l (omega arith) s)
      ∙ apart_none n (suc t) l (subst (λ (k : ℕ). Sorted key k l) (let e : t + suc n ≡ suc t + n = omega arith in e) s)

  apart_cons : (n t : ℕ) (x : A) (l : List A) → t ≤ key x → key x < t + n → Sorted key (key x) l → chained (apart key t n (x ∷ l)) ≡ x ∷ chained (apart key t n l)
  unfolding apart chained filter_by pick
  apart_cons zero t x l h g s = absurd (omega arith)
  apart_cons (suc n) t x l h g s = go (eqb (key x) t) refl (apart_cons n (suc t) x l)
    where
      others : (n t : ℕ) → key x < t → apart key t n (x ∷ l) ≡ apart key t n l
      others zero t h = refl
      others (suc n) t h =
          ap₂ {C = List (List A)} (λ (p : List A) (q : List (List A)). p ∷ q)
          (ap (λ (b : Bool). pick b (x ∷ own key t l) (own key t l)) (ne_eqb (key x) t (λ e. absurd (omega arith))))
          (others n (suc t) (omega arith))

      go : (b : Bool) → eqb (key x) t ≡ b
          → (suc t ≤ key x → key x < suc t + n → Sorted key (key x) l → chained (apart key (suc t) n (x ∷ l)) ≡ x ∷ chained (apart key (suc t) n l))
          → pick b (x ∷ own key t l) (own key t l) ++ chained (apart key (suc t) n (x ∷ l)) ≡ x ∷ (own key t l ++ chained (apart key (suc t) n l))
      go true e ih =
          let q : key x ≡ t = eqb-true (key x) t e in
          ap (λ (r : List (List A)). (x ∷ own key t l) ++ chained r) (others n (suc t) (omega arith))
      go false e ih =
          let q : t < key x = (let z = eqb-false (key x) t e in below t (key x) h z) in
          let none : own key t l ≡ [] = only_none t (key x) l q s in
          ap (λ (k : List A). k ++ chained (apart key (suc t) n (x ∷ l))) none ∙ ih q (omega arith) s ∙ sym (ap (λ (k : List A). x ∷ (k ++ chained (apart key (suc t) n l))) none)
        where
          below : (a b : ℕ) → a ≤ b → (b ≡ a → ⊥) → a < b
          below a b h z = omega arith

  -- sorted by tenant, the lists of the tenants one after the other are the whole
  chained_apart : (n t : ℕ) (l : List A) → Sorted key t l → All (λ x. key x < t + n) l → chained (apart key t n l) ≡ l
  unfolding Sorted All
  chained_apart n t [] s h = nothing n t
    where
      nothing : (n t : ℕ) → chained (apart key t n []) ≡ []
      nothing n t = apart_none n t [] tt
  chained_apart n t (x ∷ l) s h =
      apart_cons n t x l s.0 h.0 s.1 ∙ ap {B = List A} (λ (r : List A). x ∷ r) (chained_apart n t l (sorted_from t (key x) l s.0 s.1) h.1)

-- ---- any entries, filed by tenant: key is an entry's tenant, put its record, file the entry of a tenant's record
module _ {A B : Type 0} (key : A → ℕ) (put : A → B) (file : ℕ → B → A) where
  -- read and written again, where the entry of each record is the entry
  module _ (P : A → Type 0) (again : (x : A) → P x → file (key x) (put x) ≡ x) where
    filed_own : (t : ℕ) (xs : List A) → All P xs → map (file t) (map put (own key t xs)) ≡ own key t xs
    unfolding All filter_by pick
    filed_own t [] h = refl
    filed_own t (x ∷ xs) h = go (eqb (key x) t) refl (filed_own t xs h.1)
      where
        go : (b : Bool) → eqb (key x) t ≡ b → map (file t) (map put (own key t xs)) ≡ own key t xs
            → map (file t) (map put (pick b (x ∷ own key t xs) (own key t xs))) ≡ pick b (x ∷ own key t xs) (own key t xs)
        go true e ih = ap₂ {C = List A} (λ (y : A) (ys : List A). y ∷ ys) (ap (λ (u : ℕ). file u (put x)) (sym (eqb-true (key x) t e)) ∙ again x h.0) ih
        go false e ih = ih

    filed_apart : (n t : ℕ) (xs : List A) → All P xs → filed_all file t (map (map put) (apart key t n xs)) ≡ chained (apart key t n xs)
    unfolding filed_all apart chained
    filed_apart zero t xs h = refl
    filed_apart (suc n) t xs h = ap₂ {C = List A} (λ (p q : List A). p ++ q) (filed_own t xs h) (filed_apart n (suc t) xs h)

    pub entries_again : (n : ℕ) (xs : List A) → Sorted key 1 xs → All (λ x. key x < 1 + n) xs → All P xs → filed_all file 1 (map (map put) (apart key 1 n xs)) ≡ xs
    entries_again n xs s high h = filed_apart n 1 xs h ∙ chained_apart key n 1 xs s high

  -- written and read again, where the record of each entry is the record
  module _ (Q : B → Type 0) (keyed : (t : ℕ) (y : B) → key (file t y) ≡ t) (back : (t : ℕ) (y : B) → Q y → put (file t y) ≡ y) where
    only_own : (t : ℕ) (l : List B) (xs : List A) → own key t (map (file t) l ++ xs) ≡ map (file t) l ++ own key t xs
    unfolding filter_by pick
    only_own t [] xs = refl
    only_own t (y ∷ l) xs =
        ap (λ (b : Bool). pick b (file t y ∷ own key t (map (file t) l ++ xs)) (own key t (map (file t) l ++ xs))) (eq-eqb (key (file t y)) t (keyed t y))
        ∙ ap {B = List A} (λ (ys : List A). file t y ∷ ys) (only_own t l xs)

    only_other : (t u : ℕ) (l : List B) (xs : List A) → (t ≡ u → ⊥) → own key u (map (file t) l ++ xs) ≡ own key u xs
    unfolding filter_by pick
    only_other t u [] xs h = refl
    only_other t u (y ∷ l) xs h =
        ap (λ (b : Bool). pick b (file t y ∷ own key u (map (file t) l ++ xs)) (own key u (map (file t) l ++ xs))) (ne_eqb (key (file t y)) u (λ e. h (sym (keyed t y) ∙ e)))
        ∙ only_other t u l xs h

    only_later : (t u : ℕ) (ls : List (List B)) → u < t → own key u (filed_all file t ls) ≡ []
    unfolding filed_all filter_by
    only_later t u [] h = refl
    only_later t u (l ∷ ls) h = only_other t u l (filed_all file (suc t) ls) (λ e. absurd (omega arith)) ∙ only_later (suc t) u ls (omega arith)

    apart_later : (n t u : ℕ) (l : List B) (xs : List A) → t < u → apart key u n (map (file t) l ++ xs) ≡ apart key u n xs
    unfolding apart
    apart_later zero t u l xs h = refl
    apart_later (suc n) t u l xs h =
        ap₂ {C = List (List A)} (λ (p : List A) (q : List (List A)). p ∷ q) (only_other t u l xs (λ e. absurd (omega arith))) (apart_later n t (suc u) l xs (omega arith))

    put_all : (t : ℕ) (l : List B) → All Q l → map put (map (file t) l) ≡ l
    unfolding All
    put_all t [] h = refl
    put_all t (y ∷ l) h = ap₂ {C = List B} (λ (z : B) (zs : List B). z ∷ zs) (back t y h.0) (put_all t l h.1)

    pub entries_back : (t : ℕ) (ls : List (List B)) → All (All Q) ls → map (map put) (apart key t (length ls) (filed_all file t ls)) ≡ ls
    unfolding filed_all apart All
    entries_back t [] h = refl
    entries_back t (l ∷ ls) h =
        ap₂ {C = List (List B)} (λ (p : List B) (q : List (List B)). p ∷ q)
        (ap (map put) (only_own t l (filed_all file (suc t) ls) ∙ ap (λ (ys : List A). map (file t) l ++ ys) (only_later (suc t) t ls (omega arith)) ∙ append-nil (map (file t) l)) ∙ put_all t l h.0)
        (ap (map (map put)) (apart_later (length ls) t (suc t) l (filed_all file (suc t) ls) (omega arith)) ∙ entries_back (suc t) ls h.1)

pub sorted_up : {A : Type 0} (key : A → ℕ) (t u : ℕ) (xs : List A) → All (λ x. u ≤ key x) xs → Sorted key t xs → Sorted key u xs
unfolding Sorted All
sorted_up key t u [] h s = tt
sorted_up key t u (x ∷ xs) h s = (h.0, s.1)

-- the list of a tenant among those of all
pub apart_at : {A : Type 0} (key : A → ℕ) (n t i : ℕ) (xs : List A) → i < n → get_or (apart key t n xs) i [] ≡ own key (i + t) xs
unfolding apart
apart_at key zero t i xs h = absurd (omega arith)
apart_at key (suc n) t zero xs h = ap (λ (k : ℕ). own key k xs) (let e : t ≡ 0 + t = omega arith in e)
apart_at key (suc n) t (suc i) xs h = apart_at key n (suc t) i xs (omega arith) ∙ ap (λ (k : ℕ). own key k xs) (let e : i + suc t ≡ suc i + t = omega arith in e)

-- ---- the entries of tenants' records
-- how many elements the lists have
unfoldable total : {B : Type 0} → List (List B) → ℕ
total [] = 0
total (l ∷ ls) = length l + total ls

module _ {B H : Type 0} (records : H → List B) (d : H) where
  total_next : (i : ℕ) (hs : List H) → i < length hs → total (map records (take (suc i) hs)) ≡ total (map records (take i hs)) + length (records (get_or hs i d))
  unfolding total
  total_next i [] h = absurd (omega arith)
  total_next zero (x ∷ hs) h = let e : length (records x) + 0 ≡ 0 + length (records x) = omega arith in e
  total_next (suc i) (x ∷ hs) h =
      let ih = total_next i hs (let g : i < length hs = omega arith in g) in
      let e : length (records x) + total (map records (take (suc i) hs)) ≡ length (records x) + total (map records (take i hs)) + length (records (get_or hs i d)) = omega arith in
      e

  total_sum : (n : ℕ) (hs : List H) → n ≤ length hs → total (map records (take n hs)) ≡ sum_to (λ i. length (records (get_or hs i d))) n
  unfolding sum_to total
  total_sum zero hs h = refl
  total_sum (suc n) hs h = total_next n hs (omega arith) ∙ ap (λ (k : ℕ). k + length (records (get_or hs n d))) (total_sum n hs (omega arith))

module _ {A B : Type 0} (file : ℕ → B → A) where
  -- what holds of each
  pub filed_each : (P : A → Type 0) (Q : B → Type 0) (low high : ℕ) → ((t : ℕ) (y : B) → low ≤ t → t < high → Q y → P (file t y))
      → (t : ℕ) (ls : List (List B)) → low ≤ t → t + length ls ≤ high → All (All Q) ls → All P (filed_all file t ls)
  unfolding filed_all All
  filed_each P Q low high f t [] h g v = tt
  filed_each P Q low high f t (l ∷ ls) h g v =
      all_joined P (map (file t) l) (filed_all file (suc t) ls)
      (all_mapped P (file t) l (one_fact Q (λ y. P (file t y)) l (λ y q. f t y h (omega arith) q) v.0))
      (filed_each P Q low high f (suc t) ls (omega arith) (omega arith) v.1)

  filed_total : (t : ℕ) (ls : List (List B)) → length (filed_all file t ls) ≡ total ls
  unfolding filed_all total
  filed_total t [] = refl
  filed_total t (l ∷ ls) = length-append (map (file t) l) (filed_all file (suc t) ls) ∙ ap₂ (λ (a b : ℕ). a + b) (length-map l (file t)) (filed_total (suc t) ls)

  -- how many there are, tenant by tenant
  pub filed_sum : {H : Type 0} (records : H → List B) (d : H) (n t : ℕ) (hs : List H) → length hs ≡ n → length (filed_all file t (map records hs)) ≡ sum_to (λ i. length (records (get_or hs i d))) n
  filed_sum {H} records d n t hs e =
      filed_total t (map records hs) ∙ ap (λ (l : List H). total (map records l)) (sym (take_all n hs (omega arith))) ∙ total_sum records d n hs (omega arith)

  pub filed_most : (most t : ℕ) (ls : List (List B)) → All (λ l. length l ≤ most) ls → length (filed_all file t ls) ≤ length ls * most
  unfolding filed_all All
  filed_most most t [] v = let z = zero-mul most in omega arith
  filed_most most t (l ∷ ls) v =
      let ih = filed_most most (suc t) ls v.1 in
      let a = length-append (map (file t) l) (filed_all file (suc t) ls) in
      let b = length-map l (file t) in
      let c = suc-mul (length ls) most in
      let d = v.0 in
      omega arith

  -- tenant by tenant they are in order where each tenant's are
  module _ {K : Type 0} (key : A → K) (wrong : K → A → Bool) (Before : K → ℕ → Type 0) (R : B → B → Bool)
      (enters : (k : K) (t : ℕ) (y : B) → Before k t → wrong k (file t y) ≡ false)
      (goes : (t : ℕ) (x y : B) → R x y ≡ true → wrong (key (file t x)) (file t y) ≡ false)
      (leaves : (t : ℕ) (y : B) → Before (key (file t y)) (suc t)) (waits : (k : K) (t : ℕ) → Before k t → Before k (suc t)) where
    in_turn : (k : K) (x : A) (l : List A) → wrong k x ≡ false → ordered_from key wrong (key x) l ≡ true → ordered_from key wrong k (x ∷ l) ≡ true
    unfolding ordered_from pick
    in_turn k x l e p = ap (λ (b : Bool). pick b false (ordered_from key wrong (key x) l)) e ∙ p

    own_order : (t : ℕ) (x : B) (l : List B) (rest : List A) → pairs_by R (x ∷ l) ≡ true → ((k : K) → Before k (suc t) → ordered_from key wrong k rest ≡ true)
        → ordered_from key wrong (key (file t x)) (map (file t) l ++ rest) ≡ true
    own_order t x [] rest e r = r (key (file t x)) (leaves t x)
    own_order t x (y ∷ l) rest e r =
        let p = pairs_head R x (y ∷ l) e in
        in_turn _ _ _ (goes t x y (all_head (R x) y l p.0).0) (own_order t y l rest p.1 r)

    enter_order : (k : K) (t : ℕ) (l : List B) (rest : List A) → Before k t → pairs_by R l ≡ true → ((k : K) → Before k (suc t) → ordered_from key wrong k rest ≡ true)
        → ordered_from key wrong k (map (file t) l ++ rest) ≡ true
    enter_order k t [] rest h e r = r k (waits k t h)
    enter_order k t (x ∷ l) rest h e r = in_turn _ _ _ (enters k t x h) (own_order t x l rest e r)

    pub filed_ordered : (k : K) (t : ℕ) (ls : List (List B)) → Before k t → All (λ l. pairs_by R l ≡ true) ls → ordered_from key wrong k (filed_all file t ls) ≡ true
    unfolding filed_all All ordered_from
    filed_ordered k t [] h v = refl
    filed_ordered k t (l ∷ ls) h v = enter_order k t l (filed_all file (suc t) ls) h v.0 (λ k g. filed_ordered k (suc t) ls g v.1)
