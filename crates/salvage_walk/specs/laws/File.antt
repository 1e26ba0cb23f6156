-- Laws: the settings of a file alone.
use Rattle.std.specs.Prelude.{Bool, List, [], ◌≡◌, ◌+◌, ℕ, get_or, replicate}
use Rattle.std.proofs.Math.Bool.{false, true}
use Rattle.std.proofs.Common.{◌∙◌}
use Rattle.std.proofs.Math.Path.{ap, ap₂, sym}
use native.Mathlib.Omega.{arith}
use borrow.Author.Tests.{leb-true, ltb-false}
use Rattle.lists.specs.Pick.{pick}
use Rattle.lists.specs.laws.Pick.{both, neither}
use Rattle.format.specs.laws.Fixed.{walk_length}
use Rattle.state.specs.Book.{laid_out, table_of}
use Rattle.state.specs.declared.LeaseTable.{LeaseTable}
use Rattle.state.specs.declared.State.{State}
use Rattle.state.specs.declared.TenantLeases.{TenantLeases}
use Rattle.soundness.specs.Sound.{sound_b}
use Rattle.state_file.specs.Place.{Formed, SettingsIn, file_at, state_at, tenant_count_in, range_at, file_scope_at}
use Rattle.state_file.specs.Records.{counts_fit, settings_fit_b, stored_state}
use Rattle.state_file.specs.StateFile.{zero_table}
use Rattle.state_file.specs.declared.Places.{Places}
use Rattle.salvage_walk.specs.Walk.{settings_sound}

-- ---- the settings
pub no_table_is : (z : TenantLeases) → z ≡ laid_out [] → ◌≡◌ {A = LeaseTable} (record { tenants = replicate 8 z }) zero_table
unfolding zero_table table_of
no_table_is z e = ap {B = LeaseTable} (λ (t : TenantLeases). record { tenants = replicate 8 t }) e

module _ {s : List ℕ} {p : Places} (v : Formed s p) where
  counts_are : counts_fit (get_or s 9 0) (get_or s p.scopes 0) ≡ settings_fit_b (file_at s p)
  unfolding file_at
  counts_are =
      sym (ap₂ counts_fit (walk_length range_at _ (tenant_count_in s) s 10) (walk_length (file_scope_at (tenant_count_in s)) _ (get_or s p.scopes 0) s (p.scopes + 1)))

  settings_in : settings_fit_b (file_at s p) ≡ true → SettingsIn s p.scopes
  unfolding counts_fit
  settings_in e =
      let c = neither _ _ (counts_are ∙ e) in
      record { tenants = v.tenants; few = ltb-false 8 (get_or s 9 0) c.0; four = leb-true (get_or s p.scopes 0) 4 c.1; room = let h = v.records.start in let z = v.sizes in omega arith }

  pub settings_here : {q : Bool} → q ≡ counts_fit (get_or s 9 0) (get_or s p.scopes 0) → q ≡ true → SettingsIn s p.scopes
  settings_here e y = settings_in (sym counts_are ∙ sym e ∙ y)

  pub settings_known : settings_sound (file_at s p) ≡ true → SettingsIn s p.scopes
  unfolding settings_sound
  settings_known e = settings_in (both (settings_fit_b (file_at s p)) _ e).0

  pub state_as : {r : State} → r ≡ state_at s p.scopes → r ≡ stored_state (file_at s p)
  unfolding stored_state file_at
  state_as e = e

  module _ {q : Bool} (eq : q ≡ counts_fit (get_or s 9 0) (get_or s p.scopes 0)) where
    settings_open : (y : Bool) → q ≡ y → pick y (sound_b (stored_state (file_at s p)) zero_table) false ≡ settings_sound (file_at s p)
    unfolding settings_sound
    settings_open y e = ap (λ (z : Bool). pick z (sound_b (stored_state (file_at s p)) zero_table) false) (sym e ∙ eq ∙ counts_are)

    pub settings_many : q ≡ false → false ≡ settings_sound (file_at s p)
    unfolding pick
    settings_many e = settings_open false e

    pub settings_judged : (r : State) (t : LeaseTable) (x : Bool) → q ≡ true → r ≡ state_at s p.scopes → t ≡ zero_table → x ≡ sound_b r t → x ≡ settings_sound (file_at s p)
    unfolding pick
    settings_judged r t x e er et ex = ex ∙ ap₂ sound_b (state_as er) et ∙ settings_open true e
