-- Laws: address-seconds go second by second, so that what leases cover is at most the holding times the time: at each second the leases of a tenant that run have
-- different addresses.
use Prim.Native.Nat.{ℕ, zero, suc, ◌+◌, ◌-◌, ◌*◌, ◌≤◌, min, max}
use Rattle.std.specs.Prelude.{◌≡◌, Bool, ◌&&◌, ltb, leb}
use Rattle.std.proofs.Math.Path.{refl, sym, ap, ap₂}
use Rattle.std.proofs.Common.{◌∙◌, subst, le_trans, mul-add, add-one}
use Rattle.std.proofs.Math.Bool.{true, false}
use mathlib.Core.List.{List, [], ◌∷◌}
use native.Mathlib.Omega.{arith}
use Rattle.std.specs.Int.Bits.{bit_or}
use borrow.Author.Tests.{ltb-true, ltb-false, leb-true, leb-false, lt-ltb, le-leb, lt-leb, eq-eqb, eqb-true}
use Rattle.lists.specs.Pick.{pick}
use Rattle.lists.specs.All.{all_by, pairs_by}
use Rattle.lists.specs.Filter.{filter_by}
use Rattle.lists.specs.Sums.{sum_to}
use Rattle.lists.specs.laws.All.{all_head, pairs_head}
use Rattle.lists.specs.laws.Both.{and_parts}
use Rattle.address_set.specs.AddressSet.{bit}
use Rattle.address_set.specs.laws.Bits.{bit_le, or_bit, bit_of_zero}
use Rattle.state.specs.declared.Lease.{Lease}
use Rattle.state.specs.Book.{union_all, addresses_of, in_scope, is_lease, overlaps, held_of, held_count}
use Rattle.state.specs.laws.Sets.{adds, addresses_cons}
use Rattle.soundness.specs.Sound.{disjoint, compatible}
use Rattle.soundness.specs.laws.Kept.{count_less}
use Rattle.allocation.specs.laws.Sets.{size, size_add}
use Rattle.allocation.specs.laws.Kept.{bits_disjoint}
use Rattle.usage.specs.Usage.{covered, counted, covered_in, sum_over}

-- ---- second by second
unfoldable pub runs_at : ℕ → Lease → Bool
runs_at t l = leb l.start t && ltb t l.end

one_second : (a b t q r : ℕ) → q ≡ min b t - a → r ≡ min b (t + 1) - a → (p o : Bool) → leb a t ≡ p → ltb t b ≡ o → r ≡ q + pick (p && o) 1 0
unfolding pick
one_second a b t q r e f true true g h = let x = leb-true a t g in let y = ltb-true t b h in omega arith
one_second a b t q r e f true false g h = let y = ltb-false t b h in omega arith
one_second a b t q r e f false o g h = let x = leb-false a t g in omega arith

-- a period's part from c on is the sum over its seconds
seconds : (c d : ℕ) (l : Lease) → min l.end (c + d) - max l.start c ≡ sum_to (λ i. pick (runs_at (c + i) l) 1 0) d
unfolding sum_to pick runs_at
seconds c zero l = omega arith
seconds c (suc d) l =
    let ih = seconds c d l in
    let e : min l.end (c + suc d) - max l.start c ≡ min l.end (c + d) - max l.start c + pick (leb (max l.start c) (c + d) && ltb (c + d) l.end) 1 0 =
    one_second (max l.start c) l.end (c + d) (min l.end (c + d) - max l.start c) (min l.end (c + suc d) - max l.start c) refl
    (ap (λ (x : ℕ). min l.end x - max l.start c) (let z : c + suc d ≡ c + d + 1 = omega arith in z)) (leb (max l.start c) (c + d)) (ltb (c + d) l.end) refl refl in
    let f : leb (max l.start c) (c + d) ≡ leb l.start (c + d) = same (leb l.start (c + d)) refl in
    e ∙ ap₂ (λ (x : ℕ) (b : Bool). x + pick (b && ltb (c + d) l.end) 1 0) ih f
  where
    same : (b : Bool) → leb l.start (c + d) ≡ b → leb (max l.start c) (c + d) ≡ b
    same true e = let x = leb-true l.start (c + d) e in le-leb (max l.start c) (c + d) (omega arith)
    same false e = let x = leb-false l.start (c + d) e in lt-leb (max l.start c) (c + d) (omega arith)

sum_times : (k : ℕ) (f : ℕ → Bool) (d : ℕ) → k * sum_to (λ i. pick (f i) 1 0) d ≡ sum_to (λ i. pick (f i) k 0) d
unfolding sum_to pick
sum_times k f zero = omega arith
sum_times k f (suc d) = mul-add k (sum_to (λ i. pick (f i) 1 0) d) (pick (f d) 1 0) ∙ ap₂ (λ (x y : ℕ). x + y) (sum_times k f d) (go (f d))
  where
    go : (b : Bool) → k * pick b 1 0 ≡ pick b k 0
    go true = omega arith
    go false = omega arith

covered_seconds : (c d : ℕ) (l : Lease) → covered c (c + d) l ≡ sum_to (λ i. pick (runs_at (c + i) l) (size l.addresses) 0) d
unfolding covered
covered_seconds c d l = ap (λ (x : ℕ). size l.addresses * x) (seconds c d l) ∙ sum_times (size l.addresses) (λ i. runs_at (c + i) l) d

-- ---- at one second the leases of a sound book have different addresses
both_run : (t : ℕ) (a b : Lease) → runs_at t a ≡ true → runs_at t b ≡ true → overlaps b.start b.end a ≡ true
unfolding runs_at overlaps
both_run t a b p q =
    let x = and_parts (leb a.start t) (ltb t a.end) p in let y = and_parts (leb b.start t) (ltb t b.end) q in
    let x0 = leb-true a.start t x.0 in let x1 = ltb-true t a.end x.1 in let y0 = leb-true b.start t y.0 in let y1 = ltb-true t b.end y.1 in
    ap₂ (λ (u w : Bool). u && w) (lt-ltb a.start b.end (omega arith)) (lt-ltb b.start a.end (omega arith))

module _ (u : Lease → Bool) (s t : ℕ) (in-s : (l : Lease) → u l ≡ true → l.scope ≡ s) where
  unfoldable pub here : Lease → Bool
  here l = u l && runs_at t l

  apart : (l : Lease) (x : List Lease) → u l ≡ true → runs_at t l ≡ true → all_by (compatible l) x ≡ true → (a : ℕ) → bit l.addresses a + bit (addresses_of here x) a ≤ 1
  unfolding addresses_of filter_by union_all compatible pick here
  apart l [] p q h a = let z = bit_of_zero a in let y = bit_le l.addresses a in omega arith
  apart l (y ∷ x) p q h a =
      let r = all_head (compatible l) y x h in
      let ih = apart l x p q r.1 a in
      let e : bit (addresses_of here (y ∷ x)) a ≡ max (bit (adds here y) a) (bit (addresses_of here x) a) = ap (λ (m : ℕ). bit m a) (addresses_cons here y x) ∙ or_bit (adds here y) (addresses_of here x) a in
      let o = one (u y) refl (runs_at t y) refl r.0 in
      omega arith
    where
      one : (b : Bool) → u y ≡ b → (c : Bool) → runs_at t y ≡ c → compatible l y ≡ true → bit l.addresses a + bit (adds here y) a ≤ 1
      one false e c f g =
          let z : bit (adds here y) a ≡ 0 = ap (λ (b : Bool). bit (pick (b && runs_at t y) y.addresses 0) a) e ∙ bit_of_zero a in let w = bit_le l.addresses a in omega arith
      one true e false f g =
          let z : bit (adds here y) a ≡ 0 = ap₂ (λ (b c : Bool). bit (pick (b && c) y.addresses 0) a) e f ∙ bit_of_zero a in let w = bit_le l.addresses a in omega arith
      one true e true f g =
          let z : bit (adds here y) a ≡ bit y.addresses a = ap₂ (λ (b c : Bool). bit (pick (b && c) y.addresses 0) a) e f in
          let i : in_scope y.scope l ≡ true = eq-eqb l.scope y.scope (in-s l p ∙ sym (in-s y e)) in
          let d : disjoint l.addresses y.addresses ≡ true =
          sym (ap₂ (λ (b c : Bool). pick b (pick c (disjoint l.addresses y.addresses) true) true) i (both_run t l y q f)) ∙ g in
          let w = bits_disjoint l.addresses y.addresses d a in
          omega arith

  -- their numbers together are those of one set
  pub second_most : (x : List Lease) → pairs_by compatible x ≡ true → sum_over (λ l. pick (here l) (size l.addresses) 0) x ≤ size (addresses_of here x)
  unfolding sum_over addresses_of filter_by union_all pick here
  second_most [] h = omega arith
  second_most (l ∷ x) h =
      let r = pairs_head compatible l x h in
      let ih = second_most x r.1 in
      let e : size (addresses_of here (l ∷ x)) ≡ size (bit_or (adds here l) (addresses_of here x)) = ap size (addresses_cons here l x) in
      let o = go (u l) refl (runs_at t l) refl r.0 in
      omega arith
    where
      go : (b : Bool) → u l ≡ b → (c : Bool) → runs_at t l ≡ c → all_by (compatible l) x ≡ true
          → pick (here l) (size l.addresses) 0 + size (addresses_of here x) ≤ size (bit_or (adds here l) (addresses_of here x))
      go false e c f g =
          let z : pick (here l) (size l.addresses) 0 ≡ 0 = ap (λ (b : Bool). pick (b && runs_at t l) (size l.addresses) 0) e in
          let y = count_less (addresses_of here x) (bit_or (adds here l) (addresses_of here x)) (λ a. let w = or_bit (adds here l) (addresses_of here x) a in omega arith) in
          omega arith
      go true e false f g =
          let z : pick (here l) (size l.addresses) 0 ≡ 0 = ap₂ (λ (b c : Bool). pick (b && c) (size l.addresses) 0) e f in
          let y = count_less (addresses_of here x) (bit_or (adds here l) (addresses_of here x)) (λ a. let w = or_bit (adds here l) (addresses_of here x) a in omega arith) in
          omega arith
      go true e true f g =
          let z : pick (here l) (size l.addresses) 0 ≡ size l.addresses = ap₂ (λ (b c : Bool). pick (b && c) (size l.addresses) 0) e f in
          let m : adds here l ≡ l.addresses = ap₂ (λ (b c : Bool). pick (b && c) l.addresses 0) e f in
          let y = size_add l.addresses (addresses_of here x) (apart l x e f g) in
          let q : size (bit_or (adds here l) (addresses_of here x)) ≡ size (bit_or l.addresses (addresses_of here x)) = ap (λ (k : ℕ). size (bit_or k (addresses_of here x))) m in
          omega arith

  -- at most what the tenant holds in the scope
  pub second_held : (x : List Lease) → size (addresses_of here x) ≤ held_count s x
  unfolding addresses_of filter_by union_all pick here
  second_held x = count_less (addresses_of here x) (held_of s x) (less x)
    where
      less : (x : List Lease) (a : ℕ) → bit (addresses_of here x) a ≤ bit (held_of s x) a
      less [] a = omega arith
      less (l ∷ x) a =
          let e : bit (addresses_of here (l ∷ x)) a ≡ max (bit (adds here l) a) (bit (addresses_of here x) a) = ap (λ (m : ℕ). bit m a) (addresses_cons here l x) ∙ or_bit (adds here l) (addresses_of here x) a in
          let f : bit (held_of s (l ∷ x)) a ≡ max (bit (adds (in_scope s) l) a) (bit (held_of s x) a) = ap (λ (m : ℕ). bit m a) (addresses_cons (in_scope s) l x) ∙ or_bit (adds (in_scope s) l) (held_of s x) a in
          let ih = less x a in
          let o = one (u l) refl in
          omega arith
        where
          one : (b : Bool) → u l ≡ b → bit (adds here l) a ≤ bit (adds (in_scope s) l) a
          one false e = let z : bit (adds here l) a ≡ 0 = ap (λ (b : Bool). bit (pick (b && runs_at t l) l.addresses 0) a) e ∙ bit_of_zero a in omega arith
          one true e =
              let i : bit (adds (in_scope s) l) a ≡ bit l.addresses a = ap (λ (b : Bool). bit (pick b l.addresses 0) a) (eq-eqb l.scope s (in-s l e)) in
              let q = small (here l) in omega arith
            where
              small : (b : Bool) → bit (pick b l.addresses 0) a ≤ bit l.addresses a
              small true = omega arith
              small false = let z = bit_of_zero a in omega arith

-- ---- sums in either order
sum_zero : (d : ℕ) → sum_to (λ i. 0) d ≡ 0
unfolding sum_to
sum_zero zero = refl
sum_zero (suc d) = let e = sum_zero d in omega arith

sum_plus : (f g : ℕ → ℕ) (d : ℕ) → sum_to f d + sum_to g d ≡ sum_to (λ i. f i + g i) d
unfolding sum_to
sum_plus f g zero = refl
sum_plus f g (suc d) = let e = sum_plus f g d in omega arith

exchange : (f : ℕ → Lease → ℕ) (x : List Lease) (d : ℕ) → sum_over (λ l. sum_to (λ i. f i l) d) x ≡ sum_to (λ i. sum_over (f i) x) d
unfolding sum_over
exchange f [] d = sym (sum_zero d)
exchange f (l ∷ x) d = ap (λ (n : ℕ). sum_to (λ i. f i l) d + n) (exchange f x d) ∙ sum_plus (λ i. f i l) (λ i. sum_over (f i) x) d

sum_bound : (f : ℕ → ℕ) (k d : ℕ) → ((i : ℕ) → f i ≤ k) → sum_to f d ≤ k * d
unfolding sum_to
sum_bound f k zero h = omega arith
sum_bound f k (suc d) h = let e = sum_bound f k d h in let q = h d in let m : k * suc d ≡ k * d + k = ap (λ (x : ℕ). k * x) (sym (add-one d)) ∙ mul-add k d 1 ∙ (let z : k * d + k * 1 ≡ k * d + k = omega arith in z) in omega arith

sum_each : (f g : Lease → ℕ) (x : List Lease) → ((l : Lease) → f l ≡ g l) → sum_over f x ≡ sum_over g x
unfolding sum_over
sum_each f g [] h = refl
sum_each f g (l ∷ x) h = ap₂ (λ (a b : ℕ). a + b) (h l) (sum_each f g x h)

-- ---- the bound
counted_in : (s : ℕ) (l : Lease) → counted s l ≡ true → l.scope ≡ s
unfolding counted
counted_in s l e = eqb-true l.scope s (and_parts (is_lease l) (in_scope s l) e).1

-- what a tenant's leases in scope s cover in d seconds is at most its holding times d
pub covered_most : (s c d : ℕ) (x : List Lease) → pairs_by compatible x ≡ true → covered_in s c (c + d) x ≤ held_count s x * d
unfolding covered_in here pick
covered_most s c d x h =
    let e : sum_over (λ l. pick (counted s l) (covered c (c + d) l) 0) x ≡ sum_to (λ i. sum_over (λ l. pick (counted s l && runs_at (c + i) l) (size l.addresses) 0) x) d =
    sum_each _ (λ l. sum_to (λ i. pick (counted s l && runs_at (c + i) l) (size l.addresses) 0) d) x (λ l. one l (counted s l)) ∙ exchange (λ i l. pick (counted s l && runs_at (c + i) l) (size l.addresses) 0) x d in
    subst (λ (n : ℕ). n ≤ held_count s x * d) (sym e)
    (sum_bound (λ i. sum_over (λ l. pick (counted s l && runs_at (c + i) l) (size l.addresses) 0) x) (held_count s x) d (λ i. le_trans (most i) (second_held (counted s) s (c + i) (counted_in s) x)))
  where
    most : (i : ℕ) → sum_over (λ l. pick (counted s l && runs_at (c + i) l) (size l.addresses) 0) x ≤ size (addresses_of (here (counted s) s (c + i) (counted_in s)) x)
    most i = second_most (counted s) s (c + i) (counted_in s) x h

    one : (l : Lease) (b : Bool) → pick b (covered c (c + d) l) 0 ≡ sum_to (λ i. pick (b && runs_at (c + i) l) (size l.addresses) 0) d
    one l true = covered_seconds c d l
    one l false = sym (sum_zero d)
