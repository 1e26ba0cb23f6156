-- Laws: a lease that is inserted leaves the tenant's other leases as they were.
use mathlib.Core.Path.{◌≡◌, refl, sym, ap, ◌∙◌}
use mathlib.Core.Bool.{Bool, true, false, not}
use mathlib.Core.List.{List, [], ◌∷◌}
use Prim.Native.Nat.{ℕ, suc, ◌≤◌, ◌<◌}
use native.Mathlib.Omega.{arith}
use lib.ListN.{length}
use lib.Seq.{get_or-set_same}
use borrow.Author.Tests.{ltb-false}
use Rattle.lists.specs.Pick.{pick}
use Rattle.lists.specs.All.{all_by, pairs_by}
use Rattle.lists.specs.laws.All.{all_cons}
use Rattle.lists.specs.laws.Both.{and_parts, pairs_and}
use Rattle.lists.specs.Place.{place_by}
use Rattle.message.specs.declared.Fields.{Fields}
use Rattle.state.specs.declared.Lease.{Lease}
use Rattle.state.specs.declared.LeaseTable.{LeaseTable}
use Rattle.state.specs.declared.State.{State}
use Rattle.state.specs.Book.{differ, id_of, in_use, insert_of, laid_out, leases_of, named, ordered, other, place_of, remove_of}
use Rattle.state.specs.laws.Edit.{applied}
use Rattle.state.specs.Edit.{entering}
use Rattle.state.specs.laws.Edited.{applied_entering}
use Rattle.state.specs.laws.Layout.{read_back}
use Rattle.soundness.specs.Sound.{compatible, sound_b}
use Rattle.soundness.specs.laws.Book.{pair_ok, sound_rises}
use Rattle.soundness.proofs.Lists.{sound_lists}
use Rattle.soundness.specs.laws.Added.{pairs_at, rises_at}
use Rattle.admission.specs.Tests.{own_of, found_of}
use Rattle.admission.specs.Tests as parts
use Rattle.decision_laws.specs.laws.Kept.{own_is}
use Rattle.decision_laws.specs.laws.Others.{insert_leaves}
use Rattle.admission.specs.laws.Found.{found_there}
use Rattle.std.specs.Prelude.{is_some}

-- an identifier without a place is no lease's
place_none : {A : Type 0} (t : A → Bool) (l : List A) → length l ≤ place_by t l → all_by (λ x. not (t x)) l ≡ true
unfolding place_by all_by pick
place_none t [] h = refl
place_none {A} t (x ∷ l) h = go (t x) refl h (place_none t l)
  where
    go : (b : Bool) → t x ≡ b → suc (length l) ≤ pick b 0 (suc (place_by t l)) → (length l ≤ place_by t l → all_by (λ x. not (t x)) l ≡ true) → all_by (λ x. not (t x)) (x ∷ l) ≡ true
    go true e h ih = absurd (omega arith)
    go false e h ih = all_cons (λ x. not (t x)) x l (ap not e) (ih (omega arith))

-- so where the tenant of a sound book does not hold the identifier, its leases but for the new one stay
pub others_stay : (s : State) (t : LeaseTable) (h : ℕ) (m : Fields) (l : Lease) → sound_b s t ≡ true → id_of l ≡ parts.lease_id_in m → is_some (found_of (own_of t h) m) ≡ false
    → remove_of (id_of l) (insert_of l (own_of t h)) ≡ own_of t h
unfolding pair_ok
others_stay s t h m l v e held =
    insert_leaves l (own_of t h)
    (ap (λ (i : List ℕ). all_by (other i) (own_of t h)) e
    ∙ place_none (named (parts.lease_id_in m)) (own_of t h) (ltb-false (place_of (parts.lease_id_in m) (own_of t h)) (length (own_of t h)) (sym (found_there (parts.lease_id_in m) (own_of t h)) ∙ held)))
    (and_parts (pairs_by differ (own_of t h)) (pairs_by compatible (own_of t h))
    (sym (pairs_and differ compatible (own_of t h)) ∙ ap (pairs_by pair_ok) (own_is t h) ∙ pairs_at s (leases_of t) (sound_lists s t v) h)).0
    (ap (pairs_by ordered) (own_is t h) ∙ rises_at ordered (leases_of t) h (sound_rises s t v))

-- the tenant's records after an insertion
pub entered : (t : LeaseTable) (h : ℕ) (l : Lease) → h < length t.tenants → length (own_of t h) < 16 → own_of (applied (entering l) h t) h ≡ insert_of l (own_of t h)
entered t h l there few =
    ap (λ (x : LeaseTable). own_of x h) (applied_entering t h l few)
    ∙ ap in_use (get_or-set_same t.tenants h (laid_out (insert_of l (own_of t h))) (laid_out []) there) ∙ read_back (insert_of l (own_of t h))
