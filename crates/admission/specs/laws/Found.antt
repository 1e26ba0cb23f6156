-- Laws: the record of an identifier by its place.
use Rattle.std.specs.Prelude.{◌≡◌, refl, ℕ, Bool, true, false, Some, None, is_some, unwrap_or, List, ltb, length}
use Rattle.std.proofs.Common.{sym, ltb-false}
use lib.ListN.{get_or-eq_default}
use Rattle.lists.specs.Pick.{pick}
use Rattle.state.specs.declared.Lease.{Lease}
use Rattle.state.specs.Book.{lease_at, place_of, zero_lease}
use Rattle.admission.specs.Tests.{found_in}

module _ (i : List ℕ) (own : List Lease) where
  pub found_at : unwrap_or (found_in i own) zero_lease ≡ lease_at own (place_of i own)
  unfolding found_in pick
  found_at = go (ltb (place_of i own) (length own)) refl
    where
      go : (b : Bool) → ltb (place_of i own) (length own) ≡ b → unwrap_or (pick b (Some (lease_at own (place_of i own))) None) zero_lease ≡ lease_at own (place_of i own)
      go true e = refl
      go false e = sym (get_or-eq_default own zero_lease {n = place_of i own} (ltb-false (place_of i own) (length own) e))

  pub found_there : is_some (found_in i own) ≡ ltb (place_of i own) (length own)
  unfolding found_in pick
  found_there = go (ltb (place_of i own) (length own))
    where
      go : (b : Bool) → is_some (pick b (Some (lease_at own (place_of i own))) None) ≡ b
      go true = refl
      go false = refl
