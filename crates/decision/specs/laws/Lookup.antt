-- Laws: what is looked up.
use Rattle.std.specs.Prelude.{ℕ, ◌≤◌, ◌<◌, min, ◌≡◌, refl, Bool, true, false, List, cond, ltb, length, get_or, position, None, Some}
use Rattle.std.specs.List.{position_or_len}
use Rattle.std.proofs.Common.{sym, ap, ap₂, ◌∙◌, arith, lt-ltb, le-ltb, ltb-true}
use Rattle.std.proofs.lemmas.Bool.{ltb-false}
use Rattle.std.proofs.lemmas.Option.{none-some, same_Some}
use Rattle.lists.specs.Pick.{pick}
use Rattle.lists.specs.Place.{place_by}
use Rattle.state.specs.declared.Lease.{Lease}
use Rattle.state.specs.declared.Lookup.{Lookup}
use Rattle.state.specs.declared.TenantLeases.{TenantLeases}
use Rattle.state.specs.Book.{in_use, named, place_of, lookup_of, lease_at}
use Rattle.state.specs.laws.Layout.{no_lease, length_in_use, lease_in_law}
use Rattle.state.specs.laws.Lookup.{place_is}
use Rattle.admission.specs.Tests.{found_in}
use Rattle.decision.specs.declared.Recorded.{Recorded}
use Rattle.decision.specs.Gather.{recorded_in}

-- ---- what a search from the front says of the place
module _ {A : Type 0} (t : A → Bool) (l : List A) where
  pub place_some : {k : ℕ} → position t l ≡ Some k → (k ≡ place_by t l) × (k < length l)
  place_some {k} e = go (ltb (position_or_len t l) (length l)) refl e
    where
      go : (b : Bool) → ltb (position_or_len t l) (length l) ≡ b → cond b (Some (position_or_len t l)) None ≡ Some k → (k ≡ place_by t l) × (k < length l)
      go true f h =
          let s = same_Some (position_or_len t l) k h in
          let p = place_is t l in
          let q = ltb-true (position_or_len t l) (length l) f in
          (omega arith, omega arith)
      go false f h = absurd (none-some k h)

  pub place_none : position t l ≡ None → length l ≤ place_by t l
  place_none e = go (ltb (position_or_len t l) (length l)) refl e
    where
      go : (b : Bool) → ltb (position_or_len t l) (length l) ≡ b → cond b (Some (position_or_len t l)) None ≡ None → length l ≤ place_by t l
      go true f h = absurd (none-some (position_or_len t l) (sym h))
      go false f h =
          let p = place_is t l in
          let q = ltb-false (position_or_len t l) (length l) f in
          omega arith

-- ---- what is looked up
module _ (i : List ℕ) (own : TenantLeases) (x : Lookup) (g : length own.leases ≡ 16) (q : x ≡ lookup_of i (in_use own)) where
  -- the record by the test of its place
  abbrev as_told : Lookup → Bool → Lease → Recorded
  as_told y b l = record { lease = pick b (Some l) None; compared = y.compared }

  pub found_within : {at : ℕ} → x.place ≡ Some at → at < 16
  found_within e =
      let h = (place_some (named i) (in_use own) (sym (ap (λ (y : Lookup). y.place) q) ∙ e)).1 in
      let k = length_in_use own (min own.count 16) g refl in
      omega arith

  pub found_is : {at : ℕ} → x.place ≡ Some at → ◌≡◌ {A = Recorded} (record { lease = Some (get_or own.leases at no_lease); compared = x.compared }) (recorded_in i (in_use own))
  unfolding recorded_in found_in pick
  found_is {at} e =
      let v = place_some (named i) (in_use own) (sym (ap (λ (y : Lookup). y.place) q) ∙ e) in
      let k = length_in_use own (min own.count 16) g refl in
      let p : at ≡ place_of i (in_use own) = v.0 in
      let h = v.1 in
      ap₂ (as_told x) (sym (lt-ltb (place_of i (in_use own)) (length (in_use own)) (omega arith))) (lease_in_law own (min own.count 16) at g refl (omega arith) ∙ ap (lease_at (in_use own)) p)
      ∙ ap (λ (y : Lookup). as_told y (ltb (place_of i (in_use own)) (length (in_use own))) (lease_at (in_use own) (place_of i (in_use own)))) q

  pub absent_is : x.place ≡ None → ◌≡◌ {A = Recorded} (record { lease = None; compared = x.compared }) (recorded_in i (in_use own))
  unfolding recorded_in found_in pick
  absent_is e =
      let h = place_none (named i) (in_use own) (sym (ap (λ (y : Lookup). y.place) q) ∙ e) in
      ap (λ (b : Bool). as_told x b (lease_at (in_use own) (place_of i (in_use own)))) (sym (le-ltb (place_of i (in_use own)) (length (in_use own)) h))
      ∙ ap (λ (y : Lookup). as_told y (ltb (place_of i (in_use own)) (length (in_use own))) (lease_at (in_use own) (place_of i (in_use own)))) q
