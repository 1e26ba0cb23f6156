-- Laws: of a tenant's records, those of one identifier: where one stands, and what dropping, inserting, removing and editing do to them.
use Rattle.std.specs.Prelude.{ℕ, suc, ◌≤◌, ◌<◌, ◌≡◌, refl, Bool, true, false, not, List, [], ◌∷◌, ltb, length, Option, None, Some, IfSome}
use Rattle.std.specs.Option.{option_map_or}
use Rattle.std.proofs.Common.{sym, ap, ap₂, ◌∙◌, arith, ltb-true, ltb-false, lt-ltb, le-ltb}
use Rattle.lists.specs.Pick.{pick}
use Rattle.lists.specs.All.{pairs_by}
use Rattle.lists.specs.Place.{place_by}
use Rattle.lists.specs.Filter.{filter_by}
use Rattle.lists.specs.Arranged.{insert_in}
use Rattle.lists.specs.laws.Reordered.{reordered_alone, reordered_filter, reordered_length}
use Rattle.lists.specs.laws.Arranged.{insert_reordered}
use Rattle.identifier.specs.Order.{same_of}
use Rattle.identifier.specs.laws.Order.{same_refl, same_true}
use Rattle.state.specs.declared.Lease.{Lease}
use Rattle.state.specs.declared.TenantLeases.{TenantLeases}
use Rattle.state.specs.declared.Edit.{Edit}
use Rattle.state.specs.Book.{Order, differ, id_of, in_use, insert_of, inserted_in, laid_out, lease_at, live, live_of, named, ordered, other, place_of, remove_of, inserted_by}
use Rattle.state.specs.Edit.{edited_in, left_in, edited_by}
use Rattle.state.specs.laws.Layout.{read_back}
use Rattle.state.specs.laws.Sorted.{named_at, taken_out}

-- ---- two tests, one after the other
-- where all that pass n fare alike by u
under : (n u : Lease → Bool) (c : Bool) → ((x : Lease) → n x ≡ true → u x ≡ c) → (ls : List Lease) → filter_by n (filter_by u ls) ≡ pick c (filter_by n ls) []
unfolding filter_by pick
under n u true h [] = refl
under n u false h [] = refl
under n u c h (x ∷ ls) = go (n x) refl (u x) refl (under n u c h ls)
  where
    at : (b : Bool) → n x ≡ true → filter_by n (filter_by u ls) ≡ pick b (filter_by n ls) [] → filter_by n (pick b (x ∷ filter_by u ls) (filter_by u ls)) ≡ pick b (x ∷ filter_by n ls) []
    at true e ih = ap (λ (z : Bool). pick z (x ∷ filter_by n (filter_by u ls)) (filter_by n (filter_by u ls))) e ∙ ap {B = List Lease} (λ (r : List Lease). x ∷ r) ih
    at false e ih = ih

    out : (b : Bool) → n x ≡ false → filter_by n (pick b (x ∷ filter_by u ls) (filter_by u ls)) ≡ filter_by n (filter_by u ls)
    out true e = ap (λ (z : Bool). pick z (x ∷ filter_by n (filter_by u ls)) (filter_by n (filter_by u ls))) e
    out false e = refl

    go : (a : Bool) → n x ≡ a → (b : Bool) → u x ≡ b → filter_by n (filter_by u ls) ≡ pick c (filter_by n ls) []
        → filter_by n (pick b (x ∷ filter_by u ls) (filter_by u ls)) ≡ pick c (pick a (x ∷ filter_by n ls) (filter_by n ls)) []
    go true e b f ih =
        let k : b ≡ c = sym f ∙ h x e in
        at b e (ih ∙ ap (λ (z : Bool). pick z (filter_by n ls) []) (sym k)) ∙ ap (λ (z : Bool). pick z (x ∷ filter_by n ls) []) k
    go false e b f ih = out b e ∙ ih

-- ---- the first record of the identifier
pub place_first : (i : List ℕ) (ls : List Lease) → lease_at ls (place_of i ls) ≡ lease_at (filter_by (named i) ls) 0
unfolding place_by filter_by pick
place_first i [] = refl
place_first i (x ∷ ls) = go (named i x) (place_first i ls)
  where
    go : (c : Bool) → lease_at ls (place_of i ls) ≡ lease_at (filter_by (named i) ls) 0
        → lease_at (x ∷ ls) (pick c 0 (suc (place_of i ls))) ≡ lease_at (pick c (x ∷ filter_by (named i) ls) (filter_by (named i) ls)) 0
    go true ih = refl
    go false ih = ih

next_less : (a b : ℕ) → ltb (suc a) (suc b) ≡ ltb a b
next_less a b = go (ltb a b) refl
  where
    go : (c : Bool) → ltb a b ≡ c → ltb (suc a) (suc b) ≡ c
    go true e = let h = ltb-true a b e in lt-ltb (suc a) (suc b) (omega arith)
    go false e = let h = ltb-false a b e in le-ltb (suc a) (suc b) (omega arith)

-- it is there just if some record has the identifier
pub place_some : (i : List ℕ) (ls : List Lease) → ltb (place_of i ls) (length ls) ≡ ltb 0 (length (filter_by (named i) ls))
unfolding place_by filter_by pick
place_some i [] = refl
place_some i (x ∷ ls) = go (named i x) (place_some i ls)
  where
    go : (c : Bool) → ltb (place_of i ls) (length ls) ≡ ltb 0 (length (filter_by (named i) ls))
        → ltb (pick c 0 (suc (place_of i ls))) (suc (length ls)) ≡ ltb 0 (length (pick c (x ∷ filter_by (named i) ls) (filter_by (named i) ls)))
    go true ih = lt-ltb 0 (suc (length ls)) (omega arith) ∙ sym (lt-ltb 0 (suc (length (filter_by (named i) ls))) (omega arith))
    go false ih = next_less (place_of i ls) (length ls) ∙ ih

pub none_named : (i : List ℕ) (ls : List Lease) → ltb (place_of i ls) (length ls) ≡ false → filter_by (named i) ls ≡ []
none_named i ls e = none (filter_by (named i) ls) (ltb-false 0 _ (sym (place_some i ls) ∙ e))
  where
    none : (l : List Lease) → length l ≤ 0 → l ≡ []
    none [] h = refl
    none (x ∷ l) h = absurd (omega arith)

-- ---- dropping
pub named_live : (clock : ℕ) (i : List ℕ) (ls : List Lease) → filter_by (named i) (live_of clock ls) ≡ live_of clock (filter_by (named i) ls)
unfolding live_of filter_by pick
named_live clock i [] = refl
named_live clock i (x ∷ ls) = go (named i x) refl (live clock x) refl (named_live clock i ls)
  where
    go : (a : Bool) → named i x ≡ a → (b : Bool) → live clock x ≡ b → filter_by (named i) (live_of clock ls) ≡ live_of clock (filter_by (named i) ls)
        → filter_by (named i) (pick b (x ∷ live_of clock ls) (live_of clock ls)) ≡ live_of clock (pick a (x ∷ filter_by (named i) ls) (filter_by (named i) ls))
    go true e true f ih =
        ap (λ (z : Bool). pick z (x ∷ filter_by (named i) (live_of clock ls)) (filter_by (named i) (live_of clock ls))) e
        ∙ ap {B = List Lease} (λ (r : List Lease). x ∷ r) ih
        ∙ sym (ap (λ (z : Bool). pick z (x ∷ live_of clock (filter_by (named i) ls)) (live_of clock (filter_by (named i) ls))) f)
    go true e false f ih = ih ∙ sym (ap (λ (z : Bool). pick z (x ∷ live_of clock (filter_by (named i) ls)) (live_of clock (filter_by (named i) ls))) f)
    go false e true f ih = ap (λ (z : Bool). pick z (x ∷ filter_by (named i) (live_of clock ls)) (filter_by (named i) (live_of clock ls))) e ∙ ih
    go false e false f ih = ih

-- ---- removing
named_removed : (i j : List ℕ) (ls : List Lease) → filter_by (named i) (remove_of j ls) ≡ pick (not (same_of i j)) (filter_by (named i) ls) []
unfolding remove_of
named_removed i j ls = under (named i) (other j) (not (same_of i j)) (λ x e. ap (λ (k : List ℕ). not (same_of k j)) (same_true (id_of x) i e)) ls

not_same : (i j : List ℕ) → (j ≡ i → ⊥) → same_of i j ≡ false
not_same i j n = go (same_of i j) refl
  where
    go : (b : Bool) → same_of i j ≡ b → same_of i j ≡ false
    go true e = absurd (n (sym (same_true i j e)))
    go false e = e

pub removed_other : (i j : List ℕ) (ls : List Lease) → (j ≡ i → ⊥) → filter_by (named i) (remove_of j ls) ≡ filter_by (named i) ls
unfolding pick
removed_other i j ls n = named_removed i j ls ∙ ap (λ (b : Bool). pick (not b) (filter_by (named i) ls) []) (not_same i j n)

pub removed_own : (i : List ℕ) (ls : List Lease) → filter_by (named i) (remove_of i ls) ≡ []
unfolding pick
removed_own i ls = named_removed i i ls ∙ ap (λ (b : Bool). pick (not b) (filter_by (named i) ls) []) (same_refl i)

-- where identifiers differ, a record that has a place is the only one of its identifier
pub one_named : (i : List ℕ) (ls : List Lease) → pairs_by differ ls ≡ true → place_of i ls < length ls → filter_by (named i) ls ≡ lease_at ls (place_of i ls) ∷ []
unfolding filter_by pick
one_named i ls apart here = alone (filter_by (named i) ls) (reordered_length (reordered_filter (named i) (taken_out i ls apart here)) ∙ ap length only) ∙ ap {B = List Lease} (λ (x : Lease). x ∷ []) (sym (place_first i ls))
  where
    alone : (l : List Lease) → length l ≡ 1 → l ≡ lease_at l 0 ∷ []
    alone [] e = absurd (omega arith)
    alone (x ∷ []) e = refl
    alone (x ∷ y ∷ l) e = absurd (omega arith)

    x : Lease
    x = lease_at ls (place_of i ls)

    only : filter_by (named i) (x ∷ remove_of i ls) ≡ x ∷ []
    only =
        ap (λ (k : List ℕ). pick (same_of k i) (x ∷ filter_by (named i) (remove_of i ls)) (filter_by (named i) (remove_of i ls))) (named_at i ls here)
        ∙ ap₂ (λ (b : Bool) (r : List Lease). pick b (x ∷ r) r) (same_refl i) (removed_own i ls)

-- ---- inserting, by any order
pub inserted_other : (o : Order) (i : List ℕ) (l : Lease) (ls : List Lease) (x : Lease) → (id_of l ≡ i → ⊥) → filter_by (named i) ls ≡ x ∷ [] → filter_by (named i) (insert_in o l ls) ≡ x ∷ []
unfolding filter_by pick
inserted_other o i l ls x n e =
    reordered_alone (reordered_filter (named i) (insert_reordered o l ls)) x
    (ap (λ (b : Bool). pick b (l ∷ filter_by (named i) ls) (filter_by (named i) ls)) (not_same (id_of l) i (λ e. n (sym e))) ∙ e)

pub inserted_own : (o : Order) (l : Lease) (ls : List Lease) → filter_by (named (id_of l)) ls ≡ [] → filter_by (named (id_of l)) (insert_in o l ls) ≡ l ∷ []
unfolding filter_by pick
inserted_own o l ls e =
    reordered_alone (reordered_filter (named (id_of l)) (insert_reordered o l ls)) l
    (ap₂ (λ (b : Bool) (r : List Lease). pick b (l ∷ r) r) (same_refl (id_of l)) e)

-- ---- an edit
-- of records of other identifiers leaves the one of this as it is
pub edited_other : (e : Edit) (i : List ℕ) (t : TenantLeases) (o : Lease) → IfSome e.leaves (λ x. id_of x ≡ i → ⊥) → IfSome e.enters (λ x. id_of x ≡ i → ⊥)
    → filter_by (named i) (in_use t) ≡ o ∷ [] → filter_by (named i) (in_use (edited_in e t)) ≡ o ∷ []
unfolding edited_by left_in inserted_by pick
edited_other e i t o p q has = enter e.enters q
  where
    u : TenantLeases
    u = left_in e t

    leave : (c : Option Lease) → IfSome c (λ x. id_of x ≡ i → ⊥) → filter_by (named i) (in_use (option_map_or (λ x. laid_out (remove_of (id_of x) (in_use t))) c t)) ≡ filter_by (named i) (in_use t)
    leave (Some x) f = ap (filter_by (named i)) (read_back (remove_of (id_of x) (in_use t))) ∙ removed_other i (id_of x) (in_use t) f
    leave None f = refl

    left : filter_by (named i) (in_use u) ≡ o ∷ []
    left = leave e.leaves p ∙ has

    inserted : (x : Lease) → (id_of x ≡ i → ⊥) → (c : Bool) → filter_by (named i) (in_use (pick c (laid_out (insert_of x (in_use u))) u)) ≡ o ∷ []
    inserted x f true = ap (filter_by (named i)) (read_back (insert_of x (in_use u))) ∙ inserted_other ordered i x (in_use u) o f left
    inserted x f false = left

    enter : (c : Option Lease) → IfSome c (λ x. id_of x ≡ i → ⊥) → filter_by (named i) (in_use (option_map_or (λ x. inserted_in x u) c u)) ≡ o ∷ []
    enter (Some x) f = inserted x f (ltb (length (in_use u)) 16)
    enter None f = left
