-- Laws: between the decision, which is one of the whole book, and the code, which has the tenant's own records and what all tenants hold.
use Prim.Native.Nat.{ℕ, zero, suc, ◌≤◌, ◌<◌, min, max}
use Rattle.std.specs.Prelude.{◌≡◌, Bool, true, false, Option, Some, None, is_some, unwrap_or, List, [], ◌∷◌, map, get_or}
use Rattle.std.proofs.Math.Path.{refl, sym, ap, ap₂}
use Rattle.std.proofs.Common.{◌∙◌, subst, arith, eq-eqb}
use Rattle.std.proofs.Math.Dec.{eqb}
use Rattle.std.specs.Int.Bits.{bit_and, bit_or, or_zero_l}
use Rattle.std.proofs.Math.ListN.{length, set, length-map, length-set}
use Rattle.std.proofs.lemmas.List.{set-get_or}
use Rattle.lists.specs.Pick.{pick}
use Rattle.lists.specs.laws.Each.{map_set}
use Rattle.address_set.specs.AddressSet.{bit}
use Rattle.address_set.specs.laws.Bits.{or_bit, and_bit, bit_eq, bit_of_zero}
use Rattle.message.specs.declared.Fields.{Fields}
use Rattle.state.specs.declared.Lease.{Lease}
use Rattle.state.specs.declared.TenantLeases.{TenantLeases}
use Rattle.state.specs.declared.LeaseTable.{LeaseTable}
use Rattle.state.specs.declared.Release.{Release}
use Rattle.state.specs.declared.State.{State}
use Rattle.state.specs.Book.{in_use, laid_out, tenant_at, leases_of, place_of, lease_at, remove_of, in_scope, held_of, busy_of, scope_at, zero_lease}
use Rattle.state.specs.laws.Sets.{adds, addresses_cons, addresses_reordered}
use Rattle.soundness.specs.declared.HeldTable.{HeldTable}
use Rattle.soundness.specs.Sound.{tenants_in}
use Rattle.soundness.specs.View.{View}
use Rattle.allocation.specs.declared.Grant.{Grant}
use Rattle.allocation.specs.Rule.{busy_in}
use Rattle.allocation.specs.Loops.{sets_in}
use Rattle.allocation.specs.laws.View.{view_sound, view_there, view_own, view_sets, busy_own, grant_by_lists, grant_in_law}
use Rattle.proposal.specs.declared.Proposal.{Proposal}
use Rattle.decision.specs.declared.Decided.{Decided}
use Rattle.decision.specs.declared.Reply.TheVariants.{LeaseAck, ReleaseAck}
use Rattle.admission.specs.laws.Found.{found_at}
use Rattle.admission.specs.Tests.{dropped_of, is_new, own_of, lease_id_in, recorded_of, scope_in, scope_place, resends, released_again, error1_of, error2_of, error3_of, has_period, is_held, is_for_hold, same_scope, scope_number, drops_hold}
use Rattle.proposal.specs.Proposals.{fits_new, start_of, end_of, ask_at, new_with, new_at, new_of, others_busy, fits_renewed, renewed_by, renewed_to, renewed_of, proposal_of, brought_by}
use Rattle.decision.specs.Verdicts.{with_lease, plain_reply, refusal_of}
use Rattle.decision.specs.Gather.{decide_in}
use Rattle.proposal.specs.Gather.{new_by, new_at_in, new_in, renewed_to_in, renewed_in, proposal_in, brought_in}
use Rattle.decision.specs.Decide.{unchanged, plain_of, settled_of, repeated_of, dropped_first, judged_of, decide_of}
use Rattle.decision.specs.laws.Code.{no}
use Rattle.decision_laws.specs.laws.Cases.{new_type, held_there, drops_some, for_hold_by, found_for, old_for, there_for, without}
use Rattle.decision_laws.specs.laws.Kept.{own_is, own_without, held_out, release_sound, updated_leases}

-- ---- a renewal
-- the addresses of a tenant's lease are the tenant's
lease_held : (ls : List Lease) (i a : ℕ) → bit (lease_at ls i).addresses a ≤ bit (held_of (lease_at ls i).scope ls) a
unfolding pick
lease_held [] i a = let z = bit_of_zero a in omega arith
lease_held (l ∷ ls) zero a =
    let k : ℕ = l.scope in
    let p : bit (held_of k (l ∷ ls)) a ≡ max (bit (adds (in_scope k) l) a) (bit (held_of k ls) a) = ap (λ (m : ℕ). bit m a) (addresses_cons (in_scope k) l ls) ∙ or_bit (adds (in_scope k) l) (held_of k ls) a in
    let q : bit (adds (in_scope k) l) a ≡ bit l.addresses a = ap (λ (b : Bool). bit (pick b l.addresses 0) a) (eq-eqb k k refl) in
    omega arith
lease_held (l ∷ ls) (suc i) a =
    let k : ℕ = (lease_at ls i).scope in
    let p : bit (held_of k (l ∷ ls)) a ≡ max (bit (adds (in_scope k) l) a) (bit (held_of k ls) a) = ap (λ (m : ℕ). bit m a) (addresses_cons (in_scope k) l ls) ∙ or_bit (adds (in_scope k) l) (held_of k ls) a in
    let r = lease_held ls i a in
    omega arith

recorded_held : (ls : List Lease) (m : Fields) (l : Lease) → l ≡ recorded_of ls m → (a : ℕ) → bit l.addresses a ≤ bit (held_of l.scope ls) a
recorded_held ls m l e a = subst (λ (x : Lease). bit x.addresses a ≤ bit (held_of x.scope ls) a) (sym (e ∙ found_at (lease_id_in m) ls)) (lease_held ls (place_of (lease_id_in m) ls) a)

-- of all other leases in the book, the tenant's own decide
module _ {s : State} {t : LeaseTable} {h : ℕ} {own : TenantLeases} {held : HeldTable} (w : View s t h own held) (m : Fields) (l : Lease) (e : l ≡ recorded_of (in_use own) m) (from to : ℕ) where
  R : List Lease
  R = remove_of (lease_id_in m) (in_use own)

  all_busy : others_busy t h m l.scope from to ≡ busy_in l.scope from to (set (leases_of t) h R)
  unfolding others_busy R
  all_busy =
      ap (busy_in l.scope from to) (updated_leases t h (remove_of (lease_id_in m) (own_of t h)) ∙ ap (λ (x : TenantLeases). set (leases_of t) h (remove_of (lease_id_in m) (in_use x))) (sym w.records))

  own_busy : (a : ℕ) → min (bit l.addresses a) (bit (others_busy t h m l.scope from to) a) ≡ min (bit l.addresses a) (bit (busy_of l.scope from to R) a)
  own_busy a =
      ap (λ (x : ℕ). min (bit l.addresses a) (bit x a)) all_busy
      ∙ busy_own s (leases_of t) (view_sound w) h l.scope from to l.addresses R (view_there w)
      (λ b. subst (λ (x : List Lease). bit l.addresses b ≤ bit (held_of l.scope x) b) (view_own w) (recorded_held (in_use own) m l e b)) a

  pub fits_view : fits_renewed (busy_of l.scope from to (remove_of (lease_id_in m) (in_use own))) l.addresses ≡ fits_renewed (others_busy t h m l.scope from to) l.addresses
  unfolding fits_renewed R
  fits_view =
      ap (λ (x : ℕ). eqb x 0) (bit_eq (bit_and (busy_of l.scope from to R) l.addresses) (bit_and (others_busy t h m l.scope from to) l.addresses)
      (λ a. and_bit (busy_of l.scope from to R) l.addresses a ∙ (let p = own_busy a in omega arith) ∙ sym (and_bit (others_busy t h m l.scope from to) l.addresses a)))

-- ---- what a call has of a book
-- what a message for a hold in the same scope draws does not go by a proposal
for_hold_alike : (s : State) (p p' : Proposal) (q : List Release) (m : Fields) (o : Option Lease) → is_for_hold s m o ≡ true → judged_of s p q m o ≡ judged_of s p' q m o
unfolding judged_of pick
for_hold_alike s p p' q m o e = ap (λ (b : Bool). tested b p) e ∙ sym (ap (λ (b : Bool). tested b p') e)
  where
    l : Lease
    l = unwrap_or o zero_lease

    tested : Bool → Proposal → Decided
    tested b p =
        pick (resends m l) (unchanged (with_lease LeaseAck l))
        (pick (released_again s q m) (unchanged (plain_reply ReleaseAck))
        (pick (error1_of s m o) (unchanged (refusal_of m 1))
        (pick (error2_of s m) (unchanged (refusal_of m 2))
        (pick (error3_of m o) (unchanged (refusal_of m 3))
        (pick b (repeated_of m l) (pick (has_period m) (dropped_first (dropped_of m o) (settled_of s m l p)) (plain_of s m l)))))))

module _ {s : State} {t : LeaseTable} {h : ℕ} {held : HeldTable} (w : View s t h (tenant_at t h) held) (m : Fields) where
  new_in_law : new_in s (own_of t h) held h m ≡ new_of s t h m
  unfolding new_in new_at_in new_of new_at new_with new_by fits_new ask_at
  new_in_law = let k : ℕ = scope_place s (scope_in m) in ap (new_by (length (own_of t h)) m.counts.least (ask_at s h m k)) (grant_in_law (scope_at s k) (tenants_in s) (ask_at s h m k) w)

  renewed_in_law : renewed_in s (own_of t h) m (old_for t h m) ≡ renewed_of s t h m (old_for t h m)
  unfolding renewed_in renewed_to_in renewed_of renewed_to
  renewed_in_law =
      let l : Lease = old_for t h m in
      let from : ℕ = start_of m s.clock l.start in
      ap (λ (b : Bool). renewed_by b l from (end_of m from l)) (fits_view w m l refl from (end_of m from l))

  -- where a hold in another scope is dropped, the sets of the scope asked for stay
  module _ (there : there_for t h m ≡ true) (far : same_scope s m (found_for t h m) ≡ false) where
    abbrev K : ℕ
    K = scope_number (scope_place s (scope_in m))

    abbrev rest : List Lease
    rest = remove_of (lease_id_in m) (own_of t h)

    inside_table : h < length t.tenants
    inside_table = let k = w.known in let n = w.eight in omega arith

    -- the record's scope
    out_of : (o : Option Lease) → is_some o ≡ true → same_scope s m o ≡ false → eqb (unwrap_or o zero_lease).scope K ≡ false
    unfolding same_scope
    out_of (Some l) e f = f
    out_of None e f = no (sym e)

    rest_held : held_of K (own_of t h) ≡ held_of K rest
    unfolding pick
    rest_held =
        addresses_reordered (in_scope K) (held_out s t h m there (view_sound w)) ∙ addresses_cons (in_scope K) (old_for t h m) rest
        ∙ ap (λ (b : Bool). bit_or (pick b (old_for t h m).addresses 0) (held_of K rest)) (out_of (found_for t h m) there far) ∙ or_zero_l (held_of K rest)

    rest_sets : sets_in K held ≡ map (held_of K) (leases_of (without t h m))
    rest_sets =
        let ls : List (List Lease) = leases_of t in
        view_sets w K ∙ ap (map (held_of K)) (sym (set-get_or ls h [])) ∙ sym (map_set (held_of K) ls h (get_or ls h []))
        ∙ ap (set (map (held_of K) ls) h) (ap (held_of K) (sym (own_is t h)) ∙ rest_held) ∙ map_set (held_of K) ls h rest ∙ ap (map (held_of K)) (sym (updated_leases t h rest))

    new_without : new_in s rest held h m ≡ new_of s (without t h m) h m
    unfolding new_in new_at_in new_of new_at new_with new_by fits_new ask_at
    new_without =
        let k : ℕ = scope_place s (scope_in m) in
        let e = own_without s t h m inside_table in
        let n = length-map (without t h m).tenants in_use in
        let n' = length-set t.tenants h (laid_out rest) in
        let i = inside_table in
        ap₂ (λ (n : ℕ) (g : Grant). new_by n m.counts.least (ask_at s h m k) g) (ap length (sym e))
        (grant_by_lists (scope_at s k) (tenants_in s) (ask_at s h m k) (leases_of (without t h m)) (release_sound s t h inside_table (lease_id_in m) (view_sound w)) (omega arith) rest held
        (sym e ∙ own_is (without t h m) h) rest_sets)

  -- the decision by the tenant's records and what all hold is that of the book
  decide_at : (q : List Release) → decide_in s (own_of t h) q held h m ≡ decide_of s t q h m
  unfolding decide_in decide_of proposal_in proposal_of brought_in brought_by pick
  decide_at q = go (drops_hold m O) refl
    where
      O : Option Lease
      O = found_for t h m

      L : Lease
      L = old_for t h m

      judged : Proposal → Decided
      judged p = judged_of s p q m O

      far_or_near : m.kind ≡ 3 → is_held O ≡ true → (b : Bool) → same_scope s m O ≡ b
          → judged (proposal_in s (remove_of (lease_id_in m) (own_of t h)) held h m L) ≡ judged (proposal_of s (without t h m) h m L)
      far_or_near k e true p = for_hold_alike s _ _ q m O (for_hold_by s m O (new_type m k refl) e p)
      far_or_near k e false p =
          let n = new_type m k refl in
          ap judged (ap (λ (b : Bool). pick b (new_in s (remove_of (lease_id_in m) (own_of t h)) held h m) (renewed_in s (remove_of (lease_id_in m) (own_of t h)) m L)) n
          ∙ new_without (held_there O e) p ∙ ap (λ (b : Bool). pick b (new_of s (without t h m) h m) (renewed_of s (without t h m) h m L)) (sym n))

      go : (d : Bool) → drops_hold m O ≡ d
          → judged (proposal_in s (pick d (remove_of (lease_id_in m) (own_of t h)) (own_of t h)) held h m L) ≡ judged (proposal_of s (pick d (without t h m) t) h m L)
      go true e = let p = drops_some m O e in far_or_near p.0 p.1 (same_scope s m O) refl
      go false e = ap judged (ap₂ (pick (is_new m)) new_in_law renewed_in_law)

pub decide_in_law : {s : State} {t : LeaseTable} {h : ℕ} {own : TenantLeases} {held : HeldTable} → View s t h own held → (m : Fields) (q : List Release) → decide_in s (in_use own) q held h m ≡ decide_of s t q h m
decide_in_law {s} {t} {h} {own} {held} w m q =
    ap (λ (x : TenantLeases). decide_in s (in_use x) q held h m) w.records
    ∙ decide_at (subst (λ (x : TenantLeases). View s t h x held) w.records w) m q
