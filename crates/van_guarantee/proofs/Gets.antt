-- Proof of the van's theorem: demand 3 on its book, whose settings no call changes, and the law on one tenant alone.
use Prim.Native.Nat.{ℕ, ◌+◌, ◌≤◌}
use mathlib.Core.Path.{◌≡◌, refl, sym, ap, ap₂, ◌∙◌, subst}
use mathlib.Core.List.{List, [], map}
use native.Mathlib.Omega.{arith}
use lib.ListN.{length-replicate}
use Rattle.address_set.specs.AddressSet.{offsets}
use Rattle.state.specs.declared.Scope.{Scope}
use Rattle.state.specs.Book.{Book, laid_releases, leases_of, limit_at, reserve_at, scope_at, zero_lease}
use Rattle.soundness.specs.Sound.{scopes_in, tenants_in}
use Rattle.allocation.specs.laws.Single.{gets_all}
use Rattle.server.specs.Serve.{Call}
use Rattle.guarantee.specs.Statement.{Granted, NewRequest, SoundBook, ask_for, grant_for, place_for, says_of, scope_for, state_at, table_at, tenant_for}
use Rattle.guarantee.proofs.Granted.{S, place_known}
use Rattle.offer_guarantee.proofs.Held.{SetAs, now_set, run_later}
use Rattle.lent_guarantee.specs.Statement.{LentDemand3, SoundLent, answer_of, lent_book, served}
use Rattle.lent_guarantee.proofs.Guaranteed.{lent_demand3, run_lent_law}
use Rattle.lent_guarantee.proofs.Same.{sound_book}
use Rattle.van_guarantee.specs.Statement.{GetsAll, VanGets, open_for, van_after, van_start}
use Rattle.van_server.specs.Van.{open_of, van_scope, van_state}
use Rattle.van_server.proofs.Opened.{opened_sound}

-- ---- the van's book, for settings that are not refused
module _ (o : List ℕ) (opened : (open_of o).refusal ≡ 0) where
  starts_sound : SoundLent (van_start o)
  starts_sound = record { whole = length-replicate 128 zero_lease; eight = length-replicate 8 (laid_releases []); sound = opened_sound o opened }

  starts_set : SetAs (van_state o) (lent_book (van_start o)).state
  unfolding van_state
  starts_set = refl

  -- after a list of calls, and at the next call c, a new REQUEST for the size or more
  module _ (cs : List Call) (c : Call) where
    abbrev b : Book
    b = lent_book (van_after o cs)

    still_sound : SoundLent (van_after o cs)
    still_sound = (run_lent_law (van_start o) cs starts_sound).0

    v : SoundBook b
    v = sound_book (van_after o cs).ledger (van_after o cs).leases (van_after o cs).names c still_sound.whole still_sound.eight still_sound.sound

    -- the settings are the van's still
    then : SetAs (van_state o) (state_at b c)
    then =
        now_set (van_state o) b c
        (subst (λ (x : Book). SetAs (van_state o) x.state) (sym (run_lent_law (van_start o) cs starts_sound).1) (run_later (van_state o) (lent_book (van_start o)) cs starts_set).0)

    alone : tenants_in (state_at b c) ≡ 1
    unfolding van_state
    alone = ap tenants_in then

    one : scopes_in (state_at b c) ≡ 1
    unfolding van_state
    one = ap scopes_in then

    module _ (r : NewRequest b c) (wish : (scope_for b c).size ≤ (says_of b c).counts.desired) where
      mine : tenant_for b c ≡ 0
      mine = let h = r.house in let n = alone in omega arith

      first : place_for b c ≡ 0
      first = let h = place_known b c v r in let n = one in omega arith

      the_scope : scope_for b c ≡ van_scope o
      unfolding van_state
      the_scope = ap₂ scope_at then first

      reserved : reserve_at (scope_for b c) 0 ≡ (scope_for b c).size
      unfolding van_scope
      reserved = ap (λ (x : Scope). reserve_at x 0) the_scope ∙ sym (ap (λ (x : Scope). x.size) the_scope)

      limited : limit_at (scope_for b c) 0 ≡ (scope_for b c).size
      unfolding van_scope
      limited = ap (λ (x : Scope). limit_at x 0) the_scope ∙ sym (ap (λ (x : Scope). x.size) the_scope)

      all : (grant_for b c).addresses ≡ open_for b c
      all = gets_all (state_at b c) (leases_of (table_at b c)) (S b c v r) (place_for b c) (place_known b c v r) (ask_for b c) refl mine alone reserved limited wish

      granted : Granted b c (answer_of (van_after o cs).names (served (van_after o cs) c))
      unfolding LentDemand3
      granted = (lent_demand3 (van_start o) starts_sound cs).next c r

      pub gets : GetsAll b c (answer_of (van_after o cs).names (served (van_after o cs) c))
      gets = record {
        granted = granted;
        addresses = all;
        names = granted.names ∙ ap (λ (m : ℕ). map (λ k. (scope_for b c).lowest + k) (offsets m)) all;
      }

pub van_gets : VanGets
unfolding VanGets
van_gets o opened cs c r wish = gets o opened cs c r wish
