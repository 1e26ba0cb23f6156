-- Laws: the order of a section's entries, and that of each tenant's identifiers, which follows from it.
use Rattle.std.specs.Prelude.{Bool, false, not, true, ◌⊎◌, ◌≡◌, ◌<◌, ◌≤◌, ℕ, eqb, ltb}
use mathlib.Core.List.{List, [], ◌∷◌}
use Rattle.std.proofs.Common.{inl, inr, ⊎_elim, ◌∙◌, ap, sym, eqb-true, ltb-false, ltb-true, ne_eqb}
use Rattle.std.proofs.Math.Path.{refl}
use native.Mathlib.Omega.{arith}
use Rattle.std.proofs.lemmas.Bool.{eqb-false, not-true}
use Rattle.format.specs.Section.{ordered_from}
use Rattle.format.specs.Tenants.{own}
use Rattle.format.specs.laws.Tenants.{Sorted, only_none}
use Rattle.identifier.specs.Order.{order_of}
use Rattle.identifier.specs.laws.Order.{order_same}
use Rattle.identifier.specs.laws.Trans.{order_total, order_trans}
use Rattle.lists.specs.All.{all_by, pairs_by}
use Rattle.lists.specs.Filter.{filter_by}
use Rattle.lists.specs.Pick.{pick}
use Rattle.lists.specs.laws.All.{all_both, all_cons, pairs_cons}
use Rattle.lists.specs.laws.Pick.{neither}
use Rattle.lease_file.specs.Section.{FileLease, is_after, lease_after, lease_key}

-- ---- identifiers
order_turned : (x y : List ℕ) → order_of x y ≡ 0 → order_of y x ≡ 2
unfolding order_of pick
order_turned [] [] e = absurd (omega arith)
order_turned [] (y ∷ ys) e = refl
order_turned (x ∷ xs) [] e = absurd (omega arith)
order_turned (x ∷ xs) (y ∷ ys) e = go (ltb x y) refl (ltb y x) refl (order_turned xs ys) e
  where
    go : (p : Bool) → ltb x y ≡ p → (q : Bool) → ltb y x ≡ q → (order_of xs ys ≡ 0 → order_of ys xs ≡ 2) → pick p 0 (pick q 2 (order_of xs ys)) ≡ 0 → pick q 0 (pick p 2 (order_of ys xs)) ≡ 2
    go true a true b ih e = let h = ltb-true x y a in let g = ltb-true y x b in absurd (omega arith)
    go true a false b ih e = refl
    go false a true b ih e = absurd (omega arith)
    go false a false b ih e = ih e

-- the second is not before the first
abbrev pub not_first : List ℕ → List ℕ → Bool
not_first a b = not (eqb (order_of b a) 0)

pub not_first_trans : (a b c : List ℕ) → not_first a b ≡ true → not_first b c ≡ true → not_first a c ≡ true
not_first_trans a b c p q = go (eqb (order_of c a) 0) refl
  where
    go : (x : Bool) → eqb (order_of c a) 0 ≡ x → not x ≡ true
    go false e = refl
    go true e = absurd (eqb-false _ _ (not-true (eqb (order_of c b) 0) q) (at (eqb (order_of b a) 1) refl))
      where
        low : order_of c a ≡ 0
        low = eqb-true (order_of c a) 0 e

        at : (y : Bool) → eqb (order_of b a) 1 ≡ y → order_of c b ≡ 0
        at true f = ap (order_of c) (order_same b a (eqb-true _ _ f)) ∙ low
        at false f = order_trans c a b low (order_total b a (eqb-false _ _ (not-true (eqb (order_of b a) 0) p)) (eqb-false _ _ f))

-- what an entry that is not out of order says: a later tenant, or the same and an identifier that is not before
after_cases : (t u : ℕ) (a b : List ℕ) → is_after t a u b ≡ false → (t < u) ⊎ ((t ≡ u) × (not_first a b ≡ true))
unfolding is_after pick
after_cases t u a b e = go (ltb t u) refl (ltb u t) refl (eqb (order_of a b) 2) refl e
  where
    go : (p : Bool) → ltb t u ≡ p → (q : Bool) → ltb u t ≡ q → (c : Bool) → eqb (order_of a b) 2 ≡ c → pick p false (pick q true c) ≡ false → (t < u) ⊎ ((t ≡ u) × (not_first a b ≡ true))
    go true p q f c g e = inl (ltb-true t u p)
    go false p true f c g e = let w : ◌≡◌ {A = ℕ} 0 1 = cc in absurd (omega arith)
    go false p false f true g e = let w : ◌≡◌ {A = ℕ} 0 1 = cc in absurd (omega arith)
    go false p false f false g e =
        let h = ltb-false t u p in let k = ltb-false u t f in
        inr ((let z : t ≡ u = omega arith in z), ap not (ne_eqb (order_of b a) 0 (λ z. eqb-false _ _ g (order_turned b a z))))

-- ---- entries, each of which has a lease
module _ {A : Type 0} (lease : A → FileLease) where
  abbrev lease_tenant_of : A → ℕ
  lease_tenant_of x = (lease x).tenant

  abbrev in_order_from : ℕ × List ℕ → List A → Bool
  in_order_from k xs = ordered_from (λ x. lease_key (lease x)) (λ k x. lease_after k (lease x)) k xs

  in_order : (k : ℕ × List ℕ) (x : A) (l : List A) → in_order_from k (x ∷ l) ≡ true → ((k.0 < (lease x).tenant) ⊎ ((k.0 ≡ (lease x).tenant) × (not_first k.1 (lease x).id ≡ true))) × (in_order_from (lease_key (lease x)) l ≡ true)
  unfolding ordered_from
  in_order k x l e = let p = neither _ _ e in (after_cases k.0 (lease x).tenant k.1 (lease x).id p.0, p.1)

  -- by tenant
  pub order_sorted : (k : ℕ × List ℕ) (l : List A) → ordered_from (λ x. lease_key (lease x)) (λ k x. lease_after k (lease x)) k l ≡ true → Sorted (λ x. (lease x).tenant) k.0 l
  unfolding Sorted
  order_sorted k [] e = tt
  order_sorted k (x ∷ l) e =
      let p = in_order k x l e in
      (⊎_elim (λ (h : k.0 < (lease x).tenant). let z : k.0 ≤ (lease x).tenant = omega arith in z) (λ h. let g = h.0 in let z : k.0 ≤ (lease x).tenant = omega arith in z) p.0, order_sorted (lease_key (lease x)) l p.1)

  -- and in each tenant by identifier
  own_order : (t : ℕ) (k : ℕ × List ℕ) (l : List A) → in_order_from k l ≡ true
      → (k.0 ≡ t → all_by (λ x. not_first k.1 (lease x).id) (own lease_tenant_of t l) ≡ true) × (pairs_by (λ x y. not_first (lease x).id (lease y).id) (own lease_tenant_of t l) ≡ true)
  unfolding filter_by pick all_by pairs_by
  own_order t k [] e = (λ q. refl, refl)
  own_order t k (x ∷ l) e = let p = in_order k x l e in go (eqb (lease x).tenant t) refl p.0 p.1 (own_order t (lease_key (lease x)) l p.1)
    where
      O : List A
      O = own lease_tenant_of t l

      go : (b : Bool) → eqb (lease x).tenant t ≡ b → (k.0 < (lease x).tenant) ⊎ ((k.0 ≡ (lease x).tenant) × (not_first k.1 (lease x).id ≡ true)) → in_order_from (lease_key (lease x)) l ≡ true
          → ((lease x).tenant ≡ t → all_by (λ y. not_first (lease x).id (lease y).id) O ≡ true) × (pairs_by (λ x y. not_first (lease x).id (lease y).id) O ≡ true)
          → (k.0 ≡ t → all_by (λ y. not_first k.1 (lease y).id) (pick b (x ∷ O) O) ≡ true) × (pairs_by (λ x y. not_first (lease x).id (lease y).id) (pick b (x ∷ O) O) ≡ true)
      go true f c o ih =
          let q : (lease x).tenant ≡ t = eqb-true _ _ f in (
            λ g. ⊎_elim (λ (h : k.0 < (lease x).tenant). absurd (omega arith))
                (λ h. all_cons (λ y. not_first k.1 (lease y).id) x O h.1
                (all_both (λ y. not_first (lease x).id (lease y).id) (λ y. not_first (lease x).id (lease y).id) (λ y. not_first k.1 (lease y).id) O (λ y u v. not_first_trans k.1 (lease x).id (lease y).id h.1 u) (ih.0 q) (ih.0 q))) c,
            pairs_cons (λ x y. not_first (lease x).id (lease y).id) x O (ih.0 q) ih.1,
          )
      go false f c o ih = (
        λ g. ⊎_elim (λ (h : k.0 < (lease x).tenant). ap (all_by (λ y. not_first k.1 (lease y).id)) (only_none lease_tenant_of t (lease x).tenant l (omega arith) (order_sorted (lease_key (lease x)) l o)))
            (λ h. absurd (eqb-false _ _ f (sym h.0 ∙ g))) c,
        ih.1,
      )

  pub own_rises : (t : ℕ) (k : ℕ × List ℕ) (l : List A) → ordered_from (λ x. lease_key (lease x)) (λ k x. lease_after k (lease x)) k l ≡ true → pairs_by (λ x y. not_first (lease x).id (lease y).id) (own (λ x. (lease x).tenant) t l) ≡ true
  own_rises t k l e = (own_order t k l e).1
