-- Laws: the loop over a tenant's other leases.
use Rattle.std.specs.Prelude.{ℕ, ◌≡◌, refl, Bool, true, false, ◌&&◌, List, [], ◌∷◌, map}
use Rattle.std.proofs.Math.Path.{sym, ap}
use Rattle.std.proofs.Common.{◌∙◌, eq-eqb, ne_eqb}
use Rattle.std.proofs.Math.Bool.{not}
use Rattle.std.specs.Int.Bits.{bit_or}
use Rattle.lists.specs.Pick.{pick}
use Rattle.lists.specs.Fold.{fold}
use Rattle.lists.specs.Filter.{filter_by}
use Rattle.state.specs.declared.Lease.{Lease}
use Rattle.state.specs.Book.{named, other, remove_of, union_all, addresses_of, overlaps, used_in, busy_of, added_if}
use Rattle.state.specs.laws.Sets.{added_is, add_yes, add_no}
use Rattle.proposal.specs.Gather.{other_in}

filter_twice : {A : Type 0} (t u : A → Bool) (l : List A) → filter_by t (filter_by u l) ≡ filter_by (λ x. u x && t x) l
unfolding filter_by pick
filter_twice t u [] = refl
filter_twice {A} t u (x ∷ l) = go (u x) (t x) refl (filter_twice t u l)
  where
    go : (b c : Bool) → t x ≡ c → filter_by t (filter_by u l) ≡ filter_by (λ x. u x && t x) l
        → filter_by t (pick b (x ∷ filter_by u l) (filter_by u l)) ≡ pick (b && c) (x ∷ filter_by (λ x. u x && t x) l) (filter_by (λ x. u x && t x) l)
    go true c e ih = ap (λ (d : Bool). pick d (x ∷ filter_by t (filter_by u l)) (filter_by t (filter_by u l))) e ∙ ap (λ (r : List A). pick c (x ∷ r) r) ih
    go false c e ih = ih

pub others_added : (i : List ℕ) (s from to : ℕ) (ls : List Lease) → fold (added_if (other_in i s from to)) 0 ls ≡ busy_of s from to (remove_of i ls)
unfolding addresses_of remove_of other_in
others_added i s from to ls =
    added_is (other_in i s from to) ls ∙ ap (λ (x : List Lease). union_all (map (λ l. l.addresses) x)) (sym (filter_twice (used_in s from to) (other i) ls))

module _ (i : List ℕ) (s from to sum : ℕ) (l : Lease) {q : Bool} (e : q ≡ named i l) where
  pub other_named : q ≡ true → sum ≡ added_if (other_in i s from to) sum l
  unfolding other_in
  other_named y = add_no (other_in i s from to) sum l (ap (λ (b : Bool). not b && used_in s from to l) (sym e ∙ y))

  module _ (n : q ≡ false) where
    tested : other_in i s from to l ≡ used_in s from to l
    unfolding other_in
    tested = ap (λ (b : Bool). not b && used_in s from to l) (sym e ∙ n)

    pub other_in_law : {p : Bool} → l.scope ≡ s → p ≡ overlaps from to l → p ≡ true → bit_or sum l.addresses ≡ added_if (other_in i s from to) sum l
    unfolding used_in
    other_in_law d f y = add_yes (other_in i s from to) sum l (tested ∙ ap (λ (b : Bool). b && overlaps from to l) (eq-eqb _ _ d) ∙ sym f ∙ y)

    pub other_free : {p : Bool} → l.scope ≡ s → p ≡ overlaps from to l → p ≡ false → sum ≡ added_if (other_in i s from to) sum l
    unfolding used_in
    other_free d f y = add_no (other_in i s from to) sum l (tested ∙ ap (λ (b : Bool). b && overlaps from to l) (eq-eqb _ _ d) ∙ sym f ∙ y)

    pub other_out : (l.scope ≡ s → ⊥) → sum ≡ added_if (other_in i s from to) sum l
    unfolding used_in
    other_out d = add_no (other_in i s from to) sum l (tested ∙ ap (λ (b : Bool). b && overlaps from to l) (ne_eqb _ _ d))

pub ruleset others = (other_named, other_in_law, other_free, other_out)
