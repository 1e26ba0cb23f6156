-- Laws: what the type of the records says of them: there are 128, and every identifier has 32 octets; and that a memory is of eight tenants.
use mathlib.Core.Path.{◌≡◌}
use mathlib.Core.List.{List, [], ◌∷◌}
use lib.ListN.{length}
use mir.Val.{Val}
use denote.Array.{each}
use denote.Laws.{Is}
use denote.Shadow.{shadow}
use Rattle.lists.specs.All.{All}
use Rattle.state.specs.declared.Lease.{Lease}
use Rattle.state.specs.declared.Memory.{Memory}
use Rattle.state.specs.contracts.Lease as L
use Rattle.state.specs.contracts.Memory as M
use Rattle.records.specs.declared.Records.{Records}
use Rattle.records.specs.laws.Rows.{Long}
use Rattle.records.specs.contracts.Records as R

lease_long : (l : Lease) (u : Val) → shadow ((L.the_row).own_val l (u ∷ [])) → length l.id ≡ 32
lease_long l u p = p.1.1.1.1.0.1.0.1

each_long : (ls : List Lease) (us : List Val) → shadow (each (L.the_row).Denot (L.the_row).own_val ls us) → All Long ls
unfolding All
each_long [] us p = tt
each_long (l ∷ ls) [] p = absurd p
each_long (l ∷ ls) (u ∷ us) p = (lease_long l u p.0, each_long ls us p.1)

pub records_long : (r : Records) (vs : List Val) → Is R.the_row r vs → All Long r.leases
records_long r vs p = each_long r.leases p.1.1.0.0 p.1.1.0.1.1

pub records_size : (r : Records) (vs : List Val) → Is R.the_row r vs → length r.leases ≡ 128
records_size r vs p = p.1.1.0.1.0.1

pub memory_size : (m : Memory) (vs : List Val) → Is M.the_row m vs → length m.releases ≡ 8
memory_size m vs p = p.1.1.0.1.0.1
