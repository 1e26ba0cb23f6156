-- Definitions: what the types of a book's records say of its numbers and arrays: every book that code has is so.
use Rattle.std.specs.Prelude.{◌≡◌, ◌<◌, ◌^◌, length}
use Rattle.lists.specs.All.{All}
use Rattle.state.specs.declared.ClientRange.{ClientRange}
use Rattle.state.specs.declared.Lease.{Lease}
use Rattle.state.specs.declared.LeaseTable.{LeaseTable}
use Rattle.state.specs.declared.Memory.{Memory}
use Rattle.state.specs.declared.Release.{Release}
use Rattle.state.specs.declared.Scope.{Scope}
use Rattle.state.specs.declared.State.{State}
use Rattle.state.specs.declared.TenantLeases.{TenantLeases}
use Rattle.state.specs.declared.TenantReleases.{TenantReleases}

pub record TypedLease (l : Lease) : Type 0 where
  pub scope : l.scope < 256
  pub long : length l.id ≡ 32
  pub id : All (λ x. x < 256) l.id
  pub kind : l.kind < 256
  pub xid : l.xid < 4294967296
  pub start : l.start < 4294967296
  pub end : l.end < 4294967296
  pub addresses : l.addresses < 2 ^ 64
  pub lapse : l.lapse < 4294967296

pub record TypedTenant (t : TenantLeases) : Type 0 where
  pub long : length t.leases ≡ 16
  pub each : All TypedLease t.leases

pub record TypedRange (r : ClientRange) : Type 0 where
  pub low : r.low < 4294967296
  pub high : r.high < 4294967296

pub record TypedScope (c : Scope) : Type 0 where
  pub lowest : c.lowest < 4294967296
  pub size : c.size < 256
  pub ttl : c.ttl < 256
  pub reserves : length c.reserve ≡ 8
  pub reserve : All (λ x. x < 256) c.reserve
  pub limits : length c.limit ≡ 8
  pub limit : All (λ x. x < 256) c.limit

pub record TypedRelease (r : Release) : Type 0 where
  pub long : length r.id ≡ 32
  pub id : All (λ x. x < 256) r.id
  pub xid : r.xid < 4294967296
  pub time : r.time < 4294967296

pub record TypedReleases (q : TenantReleases) : Type 0 where
  pub long : length q.releases ≡ 4
  pub each : All TypedRelease q.releases

pub record Typed (s : State) (b : LeaseTable) (m : Memory) : Type 0 where
  pub server : s.server < 4294967296
  pub clock : s.clock < 4294967296
  pub eight : length s.tenants ≡ 8
  pub ranges : All TypedRange s.tenants
  pub four : length s.scopes ≡ 4
  pub scopes : All TypedScope s.scopes
  pub tenants : length b.tenants ≡ 8
  pub leases : All TypedTenant b.tenants
  pub memory : length m.releases ≡ 8
  pub releases : All TypedReleases m.releases
