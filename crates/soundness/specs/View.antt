-- Definitions: what a call has at hand of a sound book: the records of one tenant, counted from 0, and what every tenant holds.
use Rattle.std.specs.Prelude.{ℕ, ◌<◌, true, ◌≡◌, length}
use Rattle.state.specs.declared.TenantLeases.{TenantLeases}
use Rattle.state.specs.declared.LeaseTable.{LeaseTable}
use Rattle.state.specs.declared.State.{State}
use Rattle.state.specs.Book.{tenant_at}
use Rattle.soundness.specs.declared.HeldTable.{HeldTable}
use Rattle.soundness.specs.Sound.{sound_b, tenants_in}
use Rattle.soundness.specs.Parts.{holdings_of}

-- t is the table of a sound book with settings s, `own` the records of tenant h in it, `held` what its tenants hold
pub record View (s : State) (t : LeaseTable) (h : ℕ) (own : TenantLeases) (held : HeldTable) : Type 0 where
  pub sound : sound_b s t ≡ true
  pub eight : length t.tenants ≡ 8
  pub known : h < tenants_in s
  pub records : own ≡ tenant_at t h
  pub holdings : held ≡ holdings_of t
