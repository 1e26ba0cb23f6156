-- Laws: a decision keeps a sound book sound: a grant is held or recorded, a hold becomes a lease or is dropped, a lease is renewed or released, or nothing
-- changes.
use Prim.Native.Nat.{ℕ, zero, suc, ◌+◌, ◌-◌, ◌≤◌, ◌<◌, min}
use Rattle.std.specs.Prelude.{◌≡◌, Bool, true, false, not, ◌&&◌, ◌||◌, Option, Some, None, unwrap_or, leb, get_or, set, is_some}
use Rattle.std.proofs.Math.Path.{refl, ap, subst}
use Rattle.std.proofs.Common.{sym, ◌∙◌, length-set, get_or-set_same, set-set}
use mathlib.Core.List.{List, [], ◌∷◌}
use native.Mathlib.Omega.{arith}
use Rattle.std.proofs.Math.Dec.{ltb, eqb}
use Rattle.std.specs.Int.Bits.{bit_and}
use Rattle.std.proofs.Math.ListN.{length, get_or-map}
use Rattle.std.proofs.lemmas.List.{length-map}
use borrow.Author.Tests.{eq-eqb, eqb-true, eqb-false, le-ltb, lt-ltb, ltb-true, ltb-false, le-leb, leb-true}
use Rattle.lists.specs.Pick.{pick}
use Rattle.lists.specs.All.{all_by, pairs_by}
use Rattle.lists.specs.laws.All.{all_head, all_cons, all_same, pairs_head}
use Rattle.lists.specs.laws.Both.{all_and, and_parts, and_both, pairs_and}
use Rattle.lists.specs.laws.Filter.{filter_passes}
use Rattle.lists.specs.Reordered.{Reordered}
use Rattle.lists.specs.laws.Reordered.{reordered_pairs}
use Rattle.lists.specs.Place.{place_by}
use Rattle.lists.specs.laws.Each.{map_set}
use Rattle.identifier.specs.Order.{same_of}
use Rattle.address_set.specs.AddressSet.{bit}
use Rattle.message.specs.declared.Fields.{Fields}
use Rattle.state.specs.declared.Lease.{Lease}
use Rattle.state.specs.declared.LeaseTable.{LeaseTable}
use Rattle.state.specs.declared.Release.{Release}
use Rattle.state.specs.declared.State.{State}
use Rattle.state.specs.declared.TenantLeases.{TenantLeases}
use Rattle.state.specs.Book.{in_use, laid_out, leases_of, ordered, table_of, id_of, differ, other, place_of, lease_at, zero_lease, hold_time, is_hold, lapsing_at, overlaps, busy_of, insert_of, remove_of, scope_at}
use Rattle.state.specs.Edit.{no_edit, entering, dropping_first, giving_way, left_in, applied_by, edited_by}
use Rattle.state.specs.laws.Edit.{applied}
use Rattle.state.specs.laws.Edited.{applied_none, applied_entering, applied_leaving, applied_way, applied_laid}
use Rattle.state.specs.laws.Sorted.{named_at, taken_out}
use Rattle.state.proofs.Sorted.{rising}
use Rattle.state.specs.laws.Layout.{read_back, removed_fewer}
use Rattle.soundness.specs.Sound.{one_to, tenants_in, scopes_in, id_b, scope_known, below_b, offsets_b, kind_b, period_b, lease_b, padded_b, lapse_b, hold_b, disjoint, compatible, zero_from, sound_b}
use Rattle.soundness.specs.laws.Book.{lease_ok, pair_ok, Sound, sound_rises}
use Rattle.soundness.proofs.Lists.{sound_lists, lists_sound}
use Rattle.soundness.specs.laws.Rises.{applied_rises}
use Rattle.soundness.specs.laws.Facts.{LeaseFacts, lease_facts}
use Rattle.soundness.specs.laws.Kept.{sound_removed}
use Rattle.soundness.specs.laws.Added.{each_at, few_at, pair_turn, pairs_at, sound_renewed}
use Rattle.allocation.specs.declared.Ask.{Ask}
use Rattle.allocation.specs.declared.Grant.{Grant}
use Rattle.allocation.specs.Rule.{grant_of, suffices}
use Rattle.allocation.specs.laws.Granted.{busy_here}
use Rattle.allocation.specs.laws.Kept.{compatible_within, bits_disjoint, grant_offsets, grant_some, sound_granted}
use Rattle.decision.specs.declared.Decided.{Decided}
use Rattle.proposal.specs.Proposals.{default_lease, longest_lease, start_of, length_of, end_of, ask_at, fits_new, new_with, new_at, new_of, others_busy, fits_renewed, renewed_to, renewed_of, error0_of, lease_from, updated, turned, held_from}
use Rattle.admission.specs.laws.Found.{found_at, found_there}
use Rattle.admission.specs.Tests.{is_new, own_of, lease_id_in, recorded_of, scope_in, scope_place, there_and, zero_length, bad_counts, found_of}
use Rattle.admission.specs.laws.Code.{knows_place}
use Rattle.decision.specs.Decide.{decide_of}
use Rattle.proposal.specs.declared.Proposal.{Proposal}
use Rattle.decision.specs.laws.Code.{no, or_none}
use Rattle.decision_laws.specs.laws.Cases.{Passed, inside, new_known, new_type, leased_there, found_for, held_there, old_for, there_for, new_for, renewed_for, without, decided_by}

-- ---- a tenant's leases, read and written
pub own_is : (b : LeaseTable) (h : ℕ) → own_of b h ≡ get_or (leases_of b) h []
unfolding laid_out
own_is b h = sym (get_or-map in_use b.tenants h (laid_out []))

pub updated_leases : (b : LeaseTable) (h : ℕ) (ls : List Lease) → leases_of (updated b h ls) ≡ set (leases_of b) h ls
updated_leases b h ls = sym (map_set in_use b.tenants h (laid_out ls)) ∙ ap (set (leases_of b) h) (read_back ls)

-- ---- places
place_all : {A : Type 0} (t : A → Bool) (l : List A) → length l ≤ place_by t l → all_by (λ x. not (t x)) l ≡ true
unfolding place_by all_by pick
place_all t [] h = refl
place_all {A} t (x ∷ l) h = go (t x) refl h (place_all t l)
  where
    go : (b : Bool) → t x ≡ b → suc (length l) ≤ pick b 0 (suc (place_by t l)) → (length l ≤ place_by t l → all_by (λ x. not (t x)) l ≡ true) → all_by (λ x. not (t x)) (x ∷ l) ≡ true
    go true e h ih = absurd (omega arith)
    go false e h ih = all_cons (λ x. not (t x)) x l (ap not e) (ih (omega arith))

at_all : {A : Type 0} (t : A → Bool) (d : A) (l : List A) (i : ℕ) → i < length l → all_by t l ≡ true → t (get_or l i d) ≡ true
at_all t d [] i h p = absurd (omega arith)
at_all t d (x ∷ l) zero h p = (all_head t x l p).0
at_all t d (x ∷ l) (suc i) h p = at_all t d l i (omega arith) (all_head t x l p).1

-- nor where all have another identifier
none_place : {A : Type 0} (t : A → Bool) (l : List A) → all_by (λ x. not (t x)) l ≡ true → length l ≤ place_by t l
unfolding place_by pick
none_place t [] h = omega arith
none_place {A} t (x ∷ l) h = let p = all_head (λ x. not (t x)) x l h in go (t x) p.0 (none_place t l p.1)
  where
    go : (b : Bool) → not b ≡ true → length l ≤ place_by t l → suc (length l) ≤ pick b 0 (suc (place_by t l))
    go true e ih = no (sym e)
    go false e ih = omega arith

-- ---- a record's rules
pub id_rules : (s : State) (l : Lease) → lease_ok s l ≡ true → (id_b l ≡ true) × (padded_b l ≡ true)
unfolding id_b
id_rules s l e = let f = lease_facts s l e in (and_both (le-leb 2 l.id_len f.id_some) (le-leb l.id_len 32 f.id_few), f.padded)

-- those that go by its type: a lease does not lapse, and a hold does so after the clock
record Marks (clock : ℕ) (l : Lease) : Type 0 where
  kind : kind_b l ≡ true
  padded : padded_b l ≡ true
  hold : hold_b clock l ≡ true

lease_marks : (clock : ℕ) (l : Lease) (k : ℕ) → l.kind ≡ k → eqb k 1 ≡ false → (eqb k 3 || eqb k 4) ≡ true → l.lapse ≡ 0 → zero_from l.id_len l.id ≡ true → Marks clock l
unfolding kind_b padded_b hold_b is_hold pick
lease_marks clock l k e n o z p =
    let h : eqb l.kind 1 ≡ false = ap (λ (x : ℕ). eqb x 1) e ∙ n in
    record {
      kind = ap (λ (b : Bool). b || (eqb l.kind 3 || eqb l.kind 4)) h ∙ ap (λ (x : ℕ). eqb x 3 || eqb x 4) e ∙ o;
      padded = and_both (ap (λ (b : Bool). b || eqb l.lapse 0) h ∙ eq-eqb l.lapse 0 z) p;
      hold = ap (λ (b : Bool). pick b (lapse_b clock l) true) h;
    }

hold_marks : (clock : ℕ) (l : Lease) → l.kind ≡ 1 → clock < l.end → l.lapse ≡ min (clock + hold_time) l.end → zero_from l.id_len l.id ≡ true → Marks clock l
unfolding kind_b padded_b hold_b lapse_b is_hold pick
hold_marks clock l e a z p =
    let h : eqb l.kind 1 ≡ true = ap (λ (x : ℕ). eqb x 1) e in
    record {
      kind = ap (λ (b : Bool). b || (eqb l.kind 3 || eqb l.kind 4)) h;
      padded = and_both (ap (λ (b : Bool). b || eqb l.lapse 0) h) p;
      hold =
          ap (λ (b : Bool). pick b (ltb clock l.lapse && (leb l.lapse (clock + hold_time) && leb l.lapse l.end)) true) h
          ∙ and_both (lt-ltb clock l.lapse (omega arith)) (and_both (le-leb l.lapse (clock + hold_time) (omega arith)) (le-leb l.lapse l.end (omega arith)));
    }

lease_rules_law : (s : State) (l : Lease) → id_b l ≡ true → offsets_b s l ≡ true → scope_known s l ≡ true → l.start < l.end → s.clock < l.end → 0 < l.addresses → Marks s.clock l → lease_ok s l ≡ true
unfolding lease_ok lease_b period_b
lease_rules_law s l i o k a c n t =
    and_both (and_both i o)
    (and_both (and_both k (and_both t.kind (and_both (lt-ltb l.start l.end a) (and_both (lt-ltb s.clock l.end c) (lt-ltb 0 l.addresses n))))) (and_both t.padded t.hold))

known_scope_law : (s : State) (l : Lease) → lease_ok s l ≡ true → scope_known s l ≡ true
unfolding one_to
known_scope_law s l e = let f = lease_facts s l e in and_both (le-leb 1 l.scope f.scope_some) (le-leb l.scope s.scope_count f.scope_known_law)

-- a length is not 0 where the old one is not
length_some : (m : Fields) (old : ℕ) → 0 < old → zero_length m ≡ false → 0 < length_of m old
unfolding length_of zero_length pick
length_some m old h e = go m.times.length e
  where
    go : (w : Option ℕ) → there_and (λ n. eqb n 0) w ≡ false → 0 < min (unwrap_or w old) longest_lease
    go (Some zero) e = no e
    go (Some (suc v)) e = omega arith
    go None e = omega arith

-- a message's identifier is as the reader gives it: 2 to 32 octets, and zeros behind them
pub record GoodId (m : Fields) : Type 0 where
  pub long : (leb 2 m.id.len && leb m.id.len 32) ≡ true
  pub padded : zero_from m.id.len m.id.octets ≡ true

-- ---- the record that a tenant of a sound book has of the message's identifier
module _ (s : State) (b : LeaseTable) (h : ℕ) (m : Fields) (held : is_some (found_of (own_of b h) m) ≡ true) where
  pub held_at : place_of (lease_id_in m) (own_of b h) < length (own_of b h)
  held_at = ltb-true (place_of (lease_id_in m) (own_of b h)) (length (own_of b h)) (sym (found_there (lease_id_in m) (own_of b h)) ∙ held)

  pub held_named : id_of (recorded_of (own_of b h) m) ≡ lease_id_in m
  held_named = ap id_of (found_at (lease_id_in m) (own_of b h)) ∙ named_at (lease_id_in m) (own_of b h) held_at

  pub held_good : Sound s (leases_of b) → lease_ok s (recorded_of (own_of b h) m) ≡ true
  held_good v =
      ap (lease_ok s) (found_at (lease_id_in m) (own_of b h))
      ∙ at_all (lease_ok s) zero_lease (own_of b h) (place_of (lease_id_in m) (own_of b h)) held_at (ap (all_by (lease_ok s)) (own_is b h) ∙ each_at s (leases_of b) v h)

  -- it and the others are the tenant's records, and it is compatible with the others
  own_pairs : Sound s (leases_of b) → pairs_by pair_ok (own_of b h) ≡ true
  own_pairs v = ap (pairs_by pair_ok) (own_is b h) ∙ pairs_at s (leases_of b) v h

  pub held_out : Sound s (leases_of b) → Reordered (own_of b h) (recorded_of (own_of b h) m ∷ remove_of (lease_id_in m) (own_of b h))
  unfolding pair_ok
  held_out v =
      subst (λ (x : Lease). Reordered (own_of b h) (x ∷ remove_of (lease_id_in m) (own_of b h))) (sym (found_at (lease_id_in m) (own_of b h)))
      (taken_out (lease_id_in m) (own_of b h)
      (and_parts (pairs_by differ (own_of b h)) (pairs_by compatible (own_of b h)) (sym (pairs_and differ compatible (own_of b h)) ∙ own_pairs v)).0 held_at)

  pub held_compatible : Sound s (leases_of b) → all_by (compatible (recorded_of (own_of b h) m)) (remove_of (lease_id_in m) (own_of b h)) ≡ true
  unfolding pair_ok
  held_compatible v =
      let o : Lease = recorded_of (own_of b h) m in
      let rest : List Lease = remove_of (lease_id_in m) (own_of b h) in
      let p = (pairs_head pair_ok o rest (sym (reordered_pairs pair_ok pair_turn (held_out v)) ∙ own_pairs v)).0 in
      (and_parts (all_by (differ o) rest) (all_by (compatible o) rest) (sym (all_and (differ o) (compatible o) rest) ∙ p)).1

  -- the others leave room for one
  pub held_room : Sound s (leases_of b) → length (remove_of (id_of (recorded_of (own_of b h) m)) (own_of b h)) < 16
  held_room v =
      let few : length (own_of b h) ≤ 16 = subst (λ (x : List Lease). length x ≤ 16) (sym (own_is b h)) (few_at s (leases_of b) v h) in
      let fewer = removed_fewer (lease_id_in m) (own_of b h) held_at in
      subst (λ (i : List ℕ). length (remove_of i (own_of b h)) < 16) (sym held_named) (let k : length (remove_of (lease_id_in m) (own_of b h)) < 16 = omega arith in k)

-- and so do the records to which a new one is granted
pub new_room : (s : State) (t : LeaseTable) (h : ℕ) (m : Fields) → error0_of s m (new_of s t h m) ≡ false → length (own_of t h) < 16
unfolding new_of new_at new_with fits_new ask_at
new_room s t h m e = ltb-true (length (own_of t h)) 16 (and_parts (ltb (length (own_of t h)) 16) _ (inside s m (new_of s t h m) e).1).0

-- ---- the leases afterwards, by the tenant's own
module _ (s : State) (b : LeaseTable) (h : ℕ) (there : h < length b.tenants) where
  there_too : h < length (leases_of b)
  there_too = let e = length-map b.tenants in_use in omega arith

  back : (f : List Lease → List Lease) → Sound s (set (leases_of b) h (f (get_or (leases_of b) h []))) → Sound s (leases_of (updated b h (f (own_of b h))))
  back f w = subst (Sound s) (sym (updated_leases b h (f (own_of b h)) ∙ ap (λ (x : List Lease). set (leases_of b) h (f x)) (own_is b h))) w

  pub release_sound : (i : List ℕ) → Sound s (leases_of b) → Sound s (leases_of (updated b h (remove_of i (own_of b h))))
  release_sound i v = back (remove_of i) (sound_removed s (leases_of b) h i v)

-- ---- DISCOVER and REQUEST for an identifier of which there is no record: a grant is held until z, or recorded (z is 0)
module _ (s : State) (b : LeaseTable) (h : ℕ) (m : Fields) (v : Sound s (leases_of b)) (known : h < tenants_in s) (there : h < length b.tenants) (good : GoodId m)
    (new : is_new m ≡ true) {o : Option Lease} (ok : Passed s m o) (free : is_some (found_of (own_of b h) m) ≡ false) (e : error0_of s m (new_of s b h m) ≡ false) (z : ℕ)
    (marks : s.clock < (new_for s b h m).end → Marks s.clock (lapsing_at z (new_for s b h m))) where
  abbrev A : Ask
  A = ask_at s h m (scope_place s (scope_in m))

  abbrev G : Grant
  G = grant_of (scope_at s (scope_place s (scope_in m))) (tenants_in s) (leases_of b) (ask_at s h m (scope_place s (scope_in m)))

  abbrev L : Lease
  L = lapsing_at z (new_for s b h m)

  here : scope_place s (scope_in m) < scopes_in s
  here = knows_place s m (ok.scope new)

  scoped : (ask_at s h m (scope_place s (scope_in m))).scope ≡ scope_place s (scope_in m) + 1
  unfolding ask_at
  scoped = let p = here in omega arith

  fit : (ltb (length (own_of b h)) 16 ≡ true) × (suffices m.counts.least G ≡ true)
  unfolding new_with fits_new ask_at
  fit = and_parts (ltb (length (own_of b h)) 16) (suffices m.counts.least G) (inside s m (new_with b m A G) (sym (ap (error0_of s m) (new_known s b h m known)) ∙ e)).1

  some : 0 < G.number
  unfolding suffices bad_counts
  some =
      let p = leb-true m.counts.least G.number fit.1 in
      let q = eqb-false m.counts.least 0 (or_none (eqb m.counts.least 0) (ltb m.counts.desired m.counts.least) ok.counts).0 in
      omega arith

  ends : L.end ≡ A.to
  unfolding lease_from new_of new_at new_with
  ends = let p = (inside s m (new_of s b h m) e).0 in omega arith

  L-scope : L.scope ≡ A.scope
  unfolding lease_from new_of new_at new_with
  L-scope = refl

  L-addresses : L.addresses ≡ G.addresses
  unfolding lease_from new_with
  L-addresses = ap (λ (p : Proposal). p.addresses) (new_known s b h m known)

  L-start : L.start ≡ A.from
  unfolding lease_from new_of new_at new_with
  L-start = refl

  period : (L.start < L.end) × (s.clock < L.end)
  unfolding ask_at start_of
  period =
      let p = ends in let q = L-start in
      let r = length_some m default_lease (omega arith) ok.length in
      (omega arith, omega arith)

  tenant_is : (ask_at s h m (scope_place s (scope_in m))).tenant ≡ h
  unfolding ask_at
  tenant_is = refl

  known_too : (ask_at s h m (scope_place s (scope_in m))).tenant < tenants_in s
  known_too = let p = tenant_is in omega arith

  scope_ok : scope_known s L ≡ true
  unfolding one_to
  scope_ok =
      let p = L-scope in let q = scoped in let r = here in
      and_both (le-leb 1 L.scope (omega arith)) (le-leb L.scope s.scope_count (omega arith))

  offsets_ok : offsets_b s L ≡ true
  unfolding offsets_b pick
  offsets_ok =
      let z : L.scope - 1 ≡ scope_place s (scope_in m) = (let p = L-scope in let q = scoped in omega arith) in
      ap (λ (t : Bool). pick t (below_b (scope_at s (L.scope - 1)).size L.addresses) true) scope_ok
      ∙ ap (λ (j : ℕ). below_b (scope_at s j).size L.addresses) z
      ∙ grant_offsets s (leases_of b) v (scope_place s (scope_in m)) here A scoped known_too some L L-scope L-addresses

  id_ok : id_b L ≡ true
  unfolding id_b lease_from
  id_ok = good.long

  lease_good : lease_ok s L ≡ true
  lease_good =
      lease_rules_law s L id_ok offsets_ok scope_ok period.0 period.1
      (grant_some s (leases_of b) v (scope_place s (scope_in m)) here A scoped known_too some L L-scope L-addresses) (marks period.1)

  others_ok : all_by (other (id_of L)) (get_or (leases_of b) h []) ≡ true
  unfolding lease_from
  others_ok =
      ap (all_by (other (lease_id_in m))) (sym (own_is b h))
      ∙ place_all (λ l. same_of (id_of l) (lease_id_in m)) (own_of b h) (ltb-false (place_of (lease_id_in m) (own_of b h)) (length (own_of b h)) (sym (found_there (lease_id_in m) (own_of b h)) ∙ free))

  room : length (get_or (leases_of b) h []) < 16
  room = let p = ltb-true (length (own_of b h)) 16 fit.0 in let q : length (own_of b h) ≡ length (get_or (leases_of b) h []) = ap length (own_is b h) in omega arith

  grant_sound : Sound s (leases_of (updated b h (insert_of L (own_of b h))))
  unfolding ask_at
  grant_sound =
      back s b h there (insert_of L)
      (sound_granted s (leases_of b) v (scope_place s (scope_in m)) here A scoped known_too some L L-scope L-addresses L-start ends (there_too s b h there) room lease_good others_ok)

module _ (s : State) (b : LeaseTable) (h : ℕ) (m : Fields) (v : Sound s (leases_of b)) (known : h < tenants_in s) (there : h < length b.tenants) (good : GoodId m)
    {o : Option Lease} (ok : Passed s m o) (free : is_some (found_of (own_of b h) m) ≡ false) (e : error0_of s m (new_of s b h m) ≡ false) where
  request_sound : m.kind ≡ 3 → Sound s (leases_of (updated b h (insert_of (new_for s b h m) (own_of b h))))
  unfolding lease_from
  request_sound k = grant_sound s b h m v known there good (new_type m k refl) ok free e 0 (λ a. lease_marks s.clock (new_for s b h m) 3 k refl refl refl good.padded)

  offer_sound : m.kind ≡ 1 → Sound s (leases_of (updated b h (insert_of (held_from s.clock (new_for s b h m)) (own_of b h))))
  unfolding lease_from held_from
  offer_sound k =
      grant_sound s b h m v known there good (new_type m k refl) ok free e (min (s.clock + hold_time) (new_for s b h m).end)
      (λ a. hold_marks s.clock (held_from s.clock (new_for s b h m)) k a refl good.padded)

-- ---- REQUEST for a hold in another scope: the same once the hold is dropped
module _ (s : State) (b : LeaseTable) (h : ℕ) (m : Fields) (there : h < length b.tenants) where
  pub own_without : own_of (without b h m) h ≡ remove_of (lease_id_in m) (own_of b h)
  own_without =
      ap in_use (get_or-set_same b.tenants h (laid_out (remove_of (lease_id_in m) (own_of b h))) (laid_out []) there) ∙ read_back (remove_of (lease_id_in m) (own_of b h))

  free_without : is_some (found_of (own_of (without b h m) h) m) ≡ false
  unfolding remove_of
  free_without =
      let i : List ℕ = lease_id_in m in
      found_there i (own_of (without b h m) h) ∙ ap (λ (x : List Lease). ltb (place_of i x) (length x)) own_without
      ∙ le-ltb (place_of i (remove_of i (own_of b h))) (length (remove_of i (own_of b h))) (none_place (λ l. same_of (id_of l) i) (remove_of i (own_of b h)) (filter_passes (other i) (own_of b h)))

  there_without : h < length (without b h m).tenants
  there_without = let p = length-set b.tenants h (laid_out (remove_of (lease_id_in m) (own_of b h))) in omega arith

  again_is : (x : List Lease) → updated (without b h m) h x ≡ updated b h x
  again_is x = ap {B = LeaseTable} (λ (y : List TenantLeases). record { tenants = y }) (set-set b.tenants h (laid_out (remove_of (lease_id_in m) (own_of b h))) (laid_out x))

  move_sound : Sound s (leases_of b) → h < tenants_in s → GoodId m → {o : Option Lease} → Passed s m o → m.kind ≡ 3 → error0_of s m (new_of s (without b h m) h m) ≡ false
      → Sound s (leases_of (updated b h (insert_of (new_for s (without b h m) h m) (remove_of (lease_id_in m) (own_of b h)))))
  move_sound v known good ok k e =
      subst (λ (x : LeaseTable). Sound s (leases_of x)) (again_is (insert_of (new_for s (without b h m) h m) (remove_of (lease_id_in m) (own_of b h))))
      (subst (λ (x : List Lease). Sound s (leases_of (updated (without b h m) h (insert_of (new_for s (without b h m) h m) x)))) own_without
      (request_sound s (without b h m) h m (release_sound s b h there (lease_id_in m) v) known there_without good ok free_without e k))

-- ---- REQUEST for a hold in the same scope: it gives way to the lease that it becomes
-- whose scope, period and addresses are its own
turned_same : (m : Fields) (o x : Lease) → compatible (turned m o) x ≡ compatible o x
unfolding turned compatible overlaps
turned_same m o x = refl

module _ (s : State) (b : LeaseTable) (h : ℕ) (m : Fields) (v : Sound s (leases_of b)) (known : h < tenants_in s) (there : h < length b.tenants) (held : is_some (found_of (own_of b h) m) ≡ true) where
  abbrev H : Lease
  H = recorded_of (own_of b h) m

  turned_good : lease_ok s (turned m H) ≡ true
  unfolding turned id_b offsets_b padded_b
  turned_good =
      let g = held_good s b h m held v in
      let f = lease_facts s H g in
      lease_rules_law s (turned m H) (id_rules s H g).0 f.offsets (known_scope_law s H g) f.period f.alive f.addresses
      (lease_marks s.clock (turned m H) 3 refl refl refl refl (and_parts (is_hold H || eqb H.lapse 0) (zero_from H.id_len H.id) f.padded).1)

  turned_compatible : all_by (compatible (turned m H)) (remove_of (lease_id_in m) (own_of b h)) ≡ true
  turned_compatible = all_same (compatible (turned m H)) (compatible H) (remove_of (lease_id_in m) (own_of b h)) (turned_same m H) ∙ held_compatible s b h m held v

  turned_named : id_of (turned m H) ≡ lease_id_in m
  unfolding turned
  turned_named = held_named s b h m held

  turn_sound : Sound s (leases_of (updated b h (insert_of (turned m (recorded_of (own_of b h) m)) (remove_of (lease_id_in m) (own_of b h)))))
  unfolding turned
  turn_sound =
      let o = own_is b h in
      back s b h there (λ x. insert_of (turned m H) (remove_of (lease_id_in m) x))
      (sound_renewed s (leases_of b) h (lease_id_in m) (turned m H) v known (there_too s b h there) turned_named
      (subst (λ (x : List Lease). place_of (lease_id_in m) x < length x) o (held_at s b h m held))
      (subst (λ (x : List Lease). (lease_at x (place_of (lease_id_in m) x)).scope ≡ (turned m H).scope) o (ap (λ (x : Lease). x.scope) (sym (found_at (lease_id_in m) (own_of b h)))))
      (subst (λ (x : List Lease). (lease_at x (place_of (lease_id_in m) x)).addresses ≡ (turned m H).addresses) o (ap (λ (x : Lease). x.addresses) (sym (found_at (lease_id_in m) (own_of b h)))))
      turned_good (subst (λ (x : List Lease). all_by (compatible (turned m H)) (remove_of (lease_id_in m) x) ≡ true) o turned_compatible))

-- ---- RENEW: the lease gives way to one of its scope and addresses
module _ (s : State) (b : LeaseTable) (h : ℕ) (m : Fields) (v : Sound s (leases_of b)) (known : h < tenants_in s) (there : h < length b.tenants) (good : GoodId m)
    (kind : m.kind ≡ 4) {o : Option Lease} (ok : Passed s m o) (held : is_some (found_of (own_of b h) m) ≡ true) (e : error0_of s m (renewed_of s b h m (recorded_of (own_of b h) m)) ≡ false) where
  abbrev O : Lease
  O = recorded_of (own_of b h) m

  abbrev F : ℕ
  F = start_of m s.clock (recorded_of (own_of b h) m).start

  abbrev E : ℕ
  E = end_of m (start_of m s.clock (recorded_of (own_of b h) m).start) (recorded_of (own_of b h) m)

  abbrev N : Lease
  N = lease_from m (renewed_of s b h m (recorded_of (own_of b h) m))

  old_good : lease_ok s O ≡ true
  old_good = held_good s b h m held v

  old_facts : LeaseFacts s O
  old_facts = lease_facts s O old_good

  N-scope : N.scope ≡ O.scope
  unfolding lease_from renewed_of renewed_to
  N-scope = refl

  N-addresses : N.addresses ≡ O.addresses
  unfolding lease_from renewed_of renewed_to
  N-addresses = refl

  N-start : N.start ≡ F
  unfolding lease_from renewed_of renewed_to
  N-start = refl

  N-end : N.end ≡ E
  unfolding lease_from renewed_of renewed_to
  N-end = let p = (inside s m (renewed_of s b h m (recorded_of (own_of b h) m)) e).0 in omega arith

  apart_from_others : bit_and (others_busy b h m O.scope F E) O.addresses ≡ 0
  unfolding renewed_of renewed_to fits_renewed
  apart_from_others = eqb-true (bit_and (others_busy b h m O.scope F E) O.addresses) 0 (inside s m (renewed_of s b h m (recorded_of (own_of b h) m)) e).1

  N-period : (N.start < N.end) × (s.clock < N.end)
  unfolding end_of start_of
  N-period =
      let p = N-end in let q = N-start in
      let o = old_facts.period in
      let r = length_some m (O.end - O.start) (omega arith) ok.length in
      (omega arith, omega arith)

  N-known : scope_known s N ≡ true
  N-known = ap (one_to s.scope_count) N-scope ∙ known_scope_law s O old_good

  N-offsets : offsets_b s N ≡ true
  unfolding offsets_b lease_from renewed_of renewed_to
  N-offsets = old_facts.offsets

  N-id : id_b N ≡ true
  unfolding id_b lease_from
  N-id = good.long

  N-marks : Marks s.clock N
  unfolding lease_from
  N-marks = lease_marks s.clock N 4 kind refl refl refl good.padded

  N-some : 0 < N.addresses
  N-some = let p = N-addresses in let q = old_facts.addresses in omega arith

  N-good : lease_ok s N ≡ true
  N-good = lease_rules_law s N N-id N-offsets N-known N-period.0 N-period.1 N-some N-marks

  N-named : id_of N ≡ lease_id_in m
  unfolding lease_from
  N-named = refl

  -- the other leases are compatible with it
  rest_is : get_or (leases_of (updated b h (remove_of (lease_id_in m) (own_of b h)))) h [] ≡ remove_of (lease_id_in m) (own_of b h)
  rest_is =
      ap (λ (x : List (List Lease)). get_or x h []) (updated_leases b h (remove_of (lease_id_in m) (own_of b h)))
      ∙ get_or-set_same (leases_of b) h (remove_of (lease_id_in m) (own_of b h)) [] (there_too s b h there)

  rest_compatible : all_by (compatible N) (remove_of (lease_id_in m) (own_of b h)) ≡ true
  unfolding others_busy disjoint
  rest_compatible =
      compatible_within N O.scope F E (others_busy b h m O.scope F E) (remove_of (lease_id_in m) (own_of b h)) N-scope N-start N-end
      (λ a. let p = bits_disjoint (others_busy b h m O.scope F E) O.addresses (eq-eqb (bit_and (others_busy b h m O.scope F E) O.addresses) 0 apart_from_others) a in
      let q : bit N.addresses a ≡ bit O.addresses a = ap (λ (x : ℕ). bit x a) N-addresses in omega arith)
      (λ a. subst (λ (x : List Lease). bit (busy_of O.scope F E x) a ≤ bit (others_busy b h m O.scope F E) a) rest_is
      (busy_here O.scope F E (leases_of (updated b h (remove_of (lease_id_in m) (own_of b h)))) h a))

  pub renew_sound : Sound s (leases_of (updated b h (insert_of N (remove_of (lease_id_in m) (own_of b h)))))
  renew_sound =
      let o = own_is b h in
      back s b h there (λ x. insert_of N (remove_of (lease_id_in m) x))
      (sound_renewed s (leases_of b) h (lease_id_in m) N v known (there_too s b h there) N-named
      (subst (λ (x : List Lease). place_of (lease_id_in m) x < length x) o (held_at s b h m held))
      (subst (λ (x : List Lease). (lease_at x (place_of (lease_id_in m) x)).scope ≡ N.scope) o (ap (λ (x : Lease). x.scope) (sym (found_at (lease_id_in m) (own_of b h))) ∙ sym N-scope))
      (subst (λ (x : List Lease). (lease_at x (place_of (lease_id_in m) x)).addresses ≡ N.addresses) o (ap (λ (x : Lease). x.addresses) (sym (found_at (lease_id_in m) (own_of b h))) ∙ sym N-addresses))
      N-good (subst (λ (x : List Lease). all_by (compatible N) (remove_of (lease_id_in m) x) ≡ true) o rest_compatible))

-- ---- the table after a hold is dropped, and where a lease is recorded then
pub applied_dropping : (b : LeaseTable) (h : ℕ) (o : Lease) → applied (dropping_first o no_edit) h b ≡ updated b h (remove_of (id_of o) (own_of b h))
unfolding applied_by edited_by left_in pick
applied_dropping b h o = refl

pub applied_moving : (b : LeaseTable) (h : ℕ) (o l : Lease) → applied (dropping_first o (entering l)) h b ≡ applied (giving_way o l) h b
unfolding applied_by edited_by left_in
applied_moving b h o l = refl

-- ---- the records after a decision on a sound book are sound again
module _ (s : State) (b : LeaseTable) (h : ℕ) (m : Fields) (v : Sound s (leases_of b)) (known : h < tenants_in s) (there : h < length b.tenants) (good : GoodId m) where
  Keeps : Decided → Type 0
  Keeps d = Sound s (leases_of (applied d.edit h b))

  -- an edit by which the table becomes t
  becomes : (t : LeaseTable) {x : LeaseTable} → x ≡ t → Sound s (leases_of t) → Sound s (leases_of x)
  becomes t e w = subst (λ (y : LeaseTable). Sound s (leases_of y)) (sym e) w

  none : Sound s (leases_of (applied no_edit h b))
  none = becomes b (applied_none b h) v

  -- the record gives way to l
  way : (l : Lease) → there_for b h m ≡ true → Sound s (leases_of (updated b h (insert_of l (remove_of (lease_id_in m) (own_of b h))))) → Sound s (leases_of (applied (giving_way (old_for b h m) l) h b))
  way l held w =
      becomes (updated b h (insert_of l (remove_of (lease_id_in m) (own_of b h))))
      (applied_way b h (old_for b h m) l (held_room s b h m held v) ∙ ap (λ (i : List ℕ). updated b h (insert_of l (remove_of i (own_of b h)))) (held_named s b h m held)) w

  pub decided_sound : (q : List Release) → Sound s (leases_of (applied (decide_of s b q h m).edit h b))
  unfolding Keeps
  decided_sound q = decided_by s b h m Keeps (record {
    resent = λ e. none;
    again = none;
    refused = λ e. none;
    repeated = λ k held. none;
    taken = λ k held. let t = held_there (found_for b h m) held in way (turned m (old_for b h m)) t (turn_sound s b h m v known there t);
    offered = λ k ok free e.
        becomes (updated b h (insert_of (held_from s.clock (new_for s b h m)) (own_of b h))) (applied_entering b h (held_from s.clock (new_for s b h m)) (new_room s b h m e))
        (offer_sound s b h m v known there good ok free e k);
    requested = λ k ok free e.
        becomes (updated b h (insert_of (new_for s b h m) (own_of b h))) (applied_entering b h (new_for s b h m) (new_room s b h m e)) (request_sound s b h m v known there good ok free e k);
    dropped = λ k held. becomes (updated b h (remove_of (id_of (old_for b h m)) (own_of b h))) (applied_dropping b h (old_for b h m)) (release_sound s b h there (id_of (old_for b h m)) v);
    moved = λ k ok held e.
        subst (λ (x : LeaseTable). Sound s (leases_of x)) (sym (applied_moving b h (old_for b h m) (new_for s (without b h m) h m)))
        (way (new_for s (without b h m) h m) (held_there (found_for b h m) held) (move_sound s b h m there v known good ok k e));
    renewed = λ k ok leased e. let t = leased_there (found_for b h m) leased in way (renewed_for s b h m) t (renew_sound s b h m v known there good k ok t e);
    released = λ k leased. becomes (updated b h (remove_of (id_of (old_for b h m)) (own_of b h))) (applied_leaving b h (old_for b h m) m.xid s.clock) (release_sound s b h there (id_of (old_for b h m)) v);
    informed = none;
  }) q

-- so a decision keeps a sound book sound
pub decision_sound : (s : State) (b : LeaseTable) (q : List Release) (h : ℕ) (m : Fields) → sound_b s b ≡ true → b ≡ table_of (leases_of b) → h < tenants_in s → h < length b.tenants → GoodId m
    → sound_b s (applied (decide_of s b q h m).edit h b) ≡ true
decision_sound s b q h m e laid known there good =
    ap (sound_b s) (applied_laid ordered (decide_of s b q h m).edit h b laid)
    ∙ lists_sound s (leases_of (applied (decide_of s b q h m).edit h b)) now (applied_rises ordered rising (decide_of s b q h m).edit s b h there (sound_rises s b e) now)
  where
    now : Sound s (leases_of (applied (decide_of s b q h m).edit h b))
    now = decided_sound s b h m (sound_lists s b e) known there good q
