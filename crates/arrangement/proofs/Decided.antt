-- Laws: the grant and the decision do not go by the order of the records.
use Prim.Native.Nat.{ℕ, ◌+◌, ◌-◌, min, max}
use mathlib.Core.Path.{◌≡◌, refl, sym, ap, ap₂, ◌∙◌, subst}
use mathlib.Core.Bool.{Bool, true, false, ◌&&◌}
use mathlib.Core.List.{List, [], ◌∷◌}
use native.Mathlib.Omega.{arith}
use lib.Dec.{eqb, leb, ltb}
use lib.ListN.{length, get_or, set}
use borrow.Author.Tests.{ltb-true}
use Rattle.lists.specs.Pick.{pick}
use Rattle.lists.specs.All.{pairs_by}
use Rattle.lists.specs.Filter.{filter_by}
use Rattle.lists.specs.Down.{largest}
use Rattle.lists.specs.laws.Down.{largest_same}
use Rattle.lists.specs.Reordered.{Reordered}
use Rattle.lists.specs.laws.Reordered.{reordered_alone, reordered_filter, reordered_length}
use Rattle.lists.specs.Sums.{sum_to}
use Rattle.lists.specs.laws.Sums.{sum_same}
use Rattle.address_set.specs.AddressSet.{chosen, difference_of, offsets, set_of}
use Rattle.message.specs.declared.Fields.{Fields}
use Rattle.state.specs.declared.Lease.{Lease}
use Rattle.state.specs.declared.LeaseTable.{LeaseTable}
use Rattle.state.specs.declared.Release.{Release}
use Rattle.state.specs.declared.Scope.{Scope}
use Rattle.state.specs.declared.State.{State}
use Rattle.state.specs.Book.{busy_of, committed, differ, held_at, held_of, in_scope, lease_at, leases_of, limit_at, named, other, place_of, remove_of, reserve_at, scope_at, union_all, used_in, with_held, zero_lease}
use Rattle.state.specs.laws.Named.{none_named, one_named, place_first, place_some}
use Rattle.state.specs.laws.Sets.{addresses_reordered}
use Rattle.soundness.specs.Sound.{tenants_in}
use Rattle.agreement.specs.laws.Tenants.{at_tenant}
use Rattle.allocation.specs.declared.Ask.{Ask}
use Rattle.allocation.specs.declared.Grant.{Grant}
use Rattle.allocation.specs.Rule.{allowed, busy_in, free_of, grant_of, grant_to, held_after, nobodys_of, pool_of, suffices, taken_of}
use Rattle.proposal.specs.declared.Proposal.{Proposal}
use Rattle.proposal.specs.Proposals.{ask_at, brought_by, end_of, fits_new, fits_renewed, new_at, new_of, new_with, others_busy, proposal_of, renewed_by, renewed_of, renewed_to, start_of, updated}
use Rattle.admission.specs.Tests.{drops_hold, is_new, lease_id_in, own_of, scope_in, scope_place, found_in, found_of}
use Rattle.decision_laws.specs.laws.Kept.{updated_leases}
use Rattle.decision.specs.Decide.{decide_of, judged_of}
use Rattle.arrangement.proofs.Lists.{Same, each_same, held_at_same, same_at, same_set}
use Rattle.std.specs.Prelude.{Option, Some, None, unwrap_or}

-- ---- the grant
busy_same : (s from to : ℕ) (t u : List (List Lease)) → Same t u → busy_in s from to t ≡ busy_in s from to u
unfolding busy_in
busy_same s from to t u v = ap union_all (each_same (busy_of s from to) (λ x y d. addresses_reordered (used_in s from to) d) t u v)

module _ (c : Scope) (n : ℕ) (t u : List (List Lease)) (a : Ask) (v : Same t u) where
  taken_same : taken_of a.scope t ≡ taken_of a.scope u
  unfolding taken_of
  taken_same = ap union_all (each_same (held_of a.scope) (λ x y d. addresses_reordered (in_scope a.scope) d) t u v)

  count_same : (s g : ℕ) → held_at t s g ≡ held_at u s g
  count_same s g = ap (λ (m : ℕ). length (offsets m)) (held_at_same s t u v g)

  free_same : free_of t a ≡ free_of u a
  free_same = ap₂ difference_of (held_at_same a.scope t u v a.tenant) (busy_same a.scope a.from a.to t u v)

  after_same : (k : ℕ) → held_after t a k ≡ held_after u a k
  after_same k = ap₂ (λ (x m : ℕ). x + (k - length (offsets m))) (count_same a.scope a.tenant) free_same

  committed_same : (d : ℕ) (g : ℕ) → committed c (with_held a.tenant d (held_at t a.scope)) g ≡ committed c (with_held a.tenant d (held_at u a.scope)) g
  unfolding committed with_held
  committed_same d g = ap (λ (x : ℕ). max (pick (eqb g a.tenant) d x) (reserve_at c g)) (count_same a.scope g)

  allowed_same : (k : ℕ) → allowed c n t a k ≡ allowed c n u a k
  unfolding allowed
  allowed_same k =
      ap₂ (λ (x y : ℕ). leb x (limit_at c a.tenant) && leb y c.size) (after_same k)
      (sum_same (committed c (with_held a.tenant (held_after t a k) (held_at t a.scope))) (committed c (with_held a.tenant (held_after t a k) (held_at u a.scope))) n (λ g q. committed_same (held_after t a k) g)
      ∙ ap (λ (d : ℕ). sum_to (committed c (with_held a.tenant d (held_at u a.scope))) n) (after_same k))

  grant_same : grant_of c n t a ≡ grant_of c n u a
  unfolding grant_of
  grant_same =
      ap₂ {C = Grant} (λ (k m : ℕ). record { number = k; addresses = m }) number
      (ap set_of
      (ap₂ (λ (k : ℕ) (m : ℕ). chosen k m (nobodys_of c t a)) number free_same
      ∙ ap (λ (m : ℕ). chosen (largest (allowed c n u a) a.desired) (free_of u a) (difference_of (pool_of c) m)) taken_same))
    where
      number : largest (allowed c n t a) a.desired ≡ largest (allowed c n u a) a.desired
      number = largest_same (allowed c n t a) (allowed c n u a) a.desired allowed_same

pub granted_same : (c : Scope) (n : ℕ) (t u : List (List Lease)) (a : Ask) → Same t u → grant_to c n t a ≡ grant_to c n u a
unfolding grant_to
granted_same c n t u a v = ap (λ (g : Grant). pick (ltb a.tenant (min n 8)) g (record { number = 0; addresses = 0 })) (grant_same c (min n 8) t u a v)

-- ---- what is asked of one tenant's records
module _ (t u : LeaseTable) (v : Same (leases_of t) (leases_of u)) where
  pub own_same : (h : ℕ) → Reordered (own_of t h) (own_of u h)
  own_same h =
      subst (λ (x : List Lease). Reordered x (own_of u h)) (sym (at_tenant t h))
      (subst (λ (x : List Lease). Reordered (get_or (leases_of t) h []) x) (sym (at_tenant u h)) (same_at (leases_of t) (leases_of u) v h))

  -- a tenant's records give way to others
  removed_same : (i : List ℕ) (h : ℕ) → Same (leases_of (updated t h (remove_of i (own_of t h)))) (leases_of (updated u h (remove_of i (own_of u h))))
  unfolding remove_of
  removed_same i h =
      subst (λ (x : List (List Lease)). Same x (leases_of (updated u h (filter_by (other i) (own_of u h))))) (sym (updated_leases t h (filter_by (other i) (own_of t h))))
      (subst (λ (x : List (List Lease)). Same (set (leases_of t) h (filter_by (other i) (own_of t h))) x) (sym (updated_leases u h (filter_by (other i) (own_of u h))))
      (same_set (leases_of t) (leases_of u) h (filter_by (other i) (own_of t h)) (filter_by (other i) (own_of u h)) v (reordered_filter (other i) (own_same h))))

  -- ---- what a lease would be
  module _ (s : State) (h : ℕ) (m : Fields) where
    new_same : new_of s t h m ≡ new_of s u h m
    unfolding new_of new_at new_with fits_new ask_at
    new_same =
        ap₂ {C = Proposal} (λ (n : ℕ) (g : Grant). record { fits = ltb n 16 && suffices m.counts.least g; scope = A.scope; start = A.from; end = A.to; addresses = g.addresses })
        (reordered_length (own_same h)) (granted_same (scope_at s k) (tenants_in s) (leases_of t) (leases_of u) A v)
      where
        k : ℕ
        k = scope_place s (scope_in m)

        A : Ask
        A = ask_at s h m (scope_place s (scope_in m))

    renewed_same : (l : Lease) → renewed_of s t h m l ≡ renewed_of s u h m l
    unfolding renewed_of renewed_to others_busy
    renewed_same l =
        let from : ℕ = start_of m s.clock l.start in
        ap (λ (x : ℕ). renewed_by (fits_renewed x l.addresses) l (start_of m s.clock l.start) (end_of m (start_of m s.clock l.start) l))
        (busy_same l.scope from (end_of m from l) (leases_of (updated t h (remove_of (lease_id_in m) (own_of t h)))) (leases_of (updated u h (remove_of (lease_id_in m) (own_of u h)))) (removed_same (lease_id_in m) h))

    pub proposal_same : (l : Lease) → proposal_of s t h m l ≡ proposal_of s u h m l
    unfolding proposal_of
    proposal_same l = ap₂ (λ (x y : Proposal). pick (is_new m) x y) new_same (renewed_same l)

-- ---- the decision
module _ (s : State) (t u : LeaseTable) (v : Same (leases_of t) (leases_of u)) (h : ℕ) (m : Fields) (apart : pairs_by differ (own_of u h) ≡ true) where
  abbrev i : List ℕ
  i = lease_id_in m

  -- the records of an identifier: one, or none
  named_same : filter_by (named i) (own_of t h) ≡ filter_by (named i) (own_of u h)
  named_same = go (ltb (place_of i (own_of u h)) (length (own_of u h))) refl
    where
      both : Reordered (filter_by (named (lease_id_in m)) (own_of t h)) (filter_by (named (lease_id_in m)) (own_of u h))
      both = reordered_filter (named (lease_id_in m)) (own_same t u v h)

      none : (x y : List Lease) → length x ≡ length y → y ≡ [] → x ≡ []
      none [] y n e = refl
      none (a ∷ x) y n e = absurd (let z = ap length e in omega arith)

      go : (b : Bool) → ltb (place_of (lease_id_in m) (own_of u h)) (length (own_of u h)) ≡ b → filter_by (named (lease_id_in m)) (own_of t h) ≡ filter_by (named (lease_id_in m)) (own_of u h)
      go true e = let one = one_named (lease_id_in m) (own_of u h) apart (ltb-true _ _ e) in reordered_alone both (lease_at (own_of u h) (place_of (lease_id_in m) (own_of u h))) one ∙ sym one
      go false e = let no = none_named (lease_id_in m) (own_of u h) e in none (filter_by (named (lease_id_in m)) (own_of t h)) (filter_by (named (lease_id_in m)) (own_of u h)) (reordered_length both) no ∙ sym no

  recorded_same : lease_at (own_of t h) (place_of i (own_of t h)) ≡ lease_at (own_of u h) (place_of i (own_of u h))
  recorded_same = place_first i (own_of t h) ∙ ap (λ (l : List Lease). lease_at l 0) named_same ∙ sym (place_first i (own_of u h))

  there_same : ltb (place_of i (own_of t h)) (length (own_of t h)) ≡ ltb (place_of i (own_of u h)) (length (own_of u h))
  there_same = place_some i (own_of t h) ∙ ap (λ (l : List Lease). ltb 0 (length l)) named_same ∙ sym (place_some i (own_of u h))

  found_same : found_of (own_of t h) m ≡ found_of (own_of u h) m
  unfolding found_in
  found_same = ap₂ {C = Option Lease} (λ (b : Bool) (l : Lease). pick b (Some l) None) there_same recorded_same

  brought_same : (o : Option Lease) → Same (leases_of (brought_by t h m o)) (leases_of (brought_by u h m o))
  unfolding brought_by pick
  brought_same o = go (drops_hold m o)
    where
      go : (d : Bool) → Same (leases_of (pick d (updated t h (remove_of (lease_id_in m) (own_of t h))) t)) (leases_of (pick d (updated u h (remove_of (lease_id_in m) (own_of u h))) u))
      go true = removed_same t u v (lease_id_in m) h
      go false = v

  pub decide_same : (q : List Release) → decide_of s t q h m ≡ decide_of s u q h m
  unfolding decide_of
  decide_same q =
      let o : Option Lease = found_of (own_of u h) m in
      ap (λ (x : Option Lease). judged_of s (proposal_of s (brought_by t h m x) h m (unwrap_or x zero_lease)) q m x) found_same
      ∙ ap (λ (p : Proposal). judged_of s p q m (found_of (own_of u h) m)) (proposal_same (brought_by t h m o) (brought_by u h m o) (brought_same o) s h m (unwrap_or o zero_lease))
