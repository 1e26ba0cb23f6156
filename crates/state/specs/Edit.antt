-- Definitions: what a call does to one tenant's leases and to what is remembered of it, as a value, and the book afterwards.
use Rattle.std.specs.Prelude.{ℕ, ◌-◌, List, [], ◌∷◌, ◌++◌, drop, length, set, None, Some}
use Rattle.std.specs.Option.{option_map_or}
use Rattle.lists.specs.Filter.{filter_by}
use Rattle.occupancy.specs.declared.Board.{Board}
use Rattle.state.specs.declared.Lease.{Lease}
use Rattle.state.specs.declared.TenantLeases.{TenantLeases}
use Rattle.state.specs.declared.LeaseTable.{LeaseTable}
use Rattle.state.specs.declared.Release.{Release}
use Rattle.state.specs.declared.TenantReleases.{TenantReleases}
use Rattle.state.specs.declared.Memory.{Memory}
use Rattle.state.specs.declared.Edit.{Edit}
use Rattle.state.specs.Book.{Book, Order, changed_to, in_use, laid_out, tenant_at, put_at, id_of, inserted_by, ordered, remove_of, remembered, laid_releases, releases_at, other_release, board_with, board_without}

abbrev pub no_edit : Edit
no_edit = record { leaves = None; enters = None; forgets = None; remembers = None }

-- "A new lease on the identifier forgets it" (document 02, W-202), and a hold "forgets its identifier's release" (W-205)
abbrev pub entering : Lease → Edit
entering l = record { leaves = None; enters = Some l; forgets = Some l; remembers = None }

-- the released identifier, "with transaction id and the clock at release"
abbrev pub release_of : Lease → ℕ → ℕ → Release
release_of o x c = record { id_len = o.id_len; id = o.id; xid = x; time = c }

abbrev pub leaving : Lease → ℕ → ℕ → Edit
leaving o x c = record { leaves = Some o; enters = None; forgets = None; remembers = Some (release_of o x c) }

-- "first drops the hold" (document 02, W-205): o leaves before what e does, in which nothing else leaves. Nothing is remembered of a hold, and the release that it
-- forgot does not come back
abbrev pub dropping_first : Lease → Edit → Edit
dropping_first o e = record { leaves = Some o; enters = e.enters; forgets = e.forgets; remembers = e.remembers }

-- o gives way to l of the same identifier, of which no release is remembered
abbrev pub giving_way : Lease → Lease → Edit
giving_way o l = record { leaves = Some o; enters = Some l; forgets = None; remembers = None }

-- ---- the leases
-- a tenant's records: the lease with the old one's identifier leaves
unfoldable pub left_in : Edit → TenantLeases → TenantLeases
left_in e t = option_map_or (λ o. laid_out (remove_of (id_of o) (in_use t))) e.leaves t

-- and the new one enters, by any order
unfoldable pub edited_by : Order → Edit → TenantLeases → TenantLeases
edited_by o e t = option_map_or (λ l. inserted_by o l (left_in e t)) e.enters (left_in e t)

abbrev pub edited_in : Edit → TenantLeases → TenantLeases
edited_in e t = edited_by ordered e t

-- the table, with the records of the tenant at place h edited: the only way in which a call changes a lease that is live
unfoldable pub applied_by : Order → Edit → ℕ → LeaseTable → LeaseTable
applied_by o e h b = put_at b h (edited_by o e (tenant_at b h))

-- ---- what is remembered
-- the last four: "a fifth release forgets the oldest"
unfoldable pub remember_of : Release → List Release → List Release
remember_of r q = drop (length (q ++ r ∷ []) - 4) (q ++ r ∷ [])

-- those of other identifiers
unfoldable pub forget_of : List ℕ → List Release → List Release
forget_of i q = filter_by (other_release i) q

-- what is remembered of one tenant; no edit does both
unfoldable pub noted_in : Edit → TenantReleases → TenantReleases
noted_in e q =
    option_map_or (λ r. laid_releases (remember_of r (remembered q))) e.remembers
    (option_map_or (λ l. laid_releases (forget_of (id_of l) (remembered q))) e.forgets q)

-- ---- the board (document 02, W-207): what leaves is taken off it
unfoldable pub board_left : Edit → ℕ → Board → Board
board_left e h b = option_map_or (board_without h b) e.leaves b

-- and what enters is added
unfoldable pub board_edited : Edit → ℕ → Board → Board
board_edited e h b = option_map_or (board_with h (board_left e h b)) e.enters (board_left e h b)

-- the memory, with the releases of the tenant at place h and the board so changed: the only way in which a call changes it, but for the drop
unfoldable pub noted : Edit → ℕ → Memory → Memory
noted e h m = record { releases = set m.releases h (noted_in e (releases_at m h)); board = board_edited e h m.board }

-- ---- the book
abbrev pub edited_book_by : Order → Edit → ℕ → Book → Book
edited_book_by o e h b = changed_to b b.state (applied_by o e h b.table) (noted e h b.memory)

abbrev pub edited_book : Edit → ℕ → Book → Book
edited_book e h b = edited_book_by ordered e h b
