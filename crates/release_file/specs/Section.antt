-- Definitions: the campus file's section of releases (document 02, W-202): "house(1), identifier length(1) and octets, transaction id(4), time(4), by house,
-- oldest first". Its values, its format, and how they stand in the book's memory. A tenant is document 01's house.
use Rattle.std.specs.Prelude.{Bool, false, ◌&&◌, ◌||◌, List, map, ◌+◌, ℕ, eqb, leb, ltb, length, take}
use Rattle.lists.specs.All.{all_by, all_to}
use Rattle.lists.specs.Pick.{pick}
use Rattle.lists.specs.Row.{laid_row}
use Rattle.format.specs.Format.{Format, ◌⊗◌, counted, number, octet, viewed}
use Rattle.format.specs.Section.{section_format}
use Rattle.format.specs.Tenants.{apart, filed_all, own}
use Rattle.occupancy.specs.Board.{no_board}
use Rattle.state.specs.declared.Memory.{Memory}
use Rattle.state.specs.declared.Release.{Release}
use Rattle.state.specs.Book.{laid_releases, remembered}

pub record FileRelease : Type 0 where
  pub tenant : ℕ
  pub id : List ℕ
  pub xid : ℕ
  pub time : ℕ

-- what of a release the next is compared with, and whether one is out of order after that: "by house, oldest first"; equal times are fine
abbrev pub release_key : FileRelease → ℕ × ℕ
release_key x = (x.tenant, x.time)

abbrev pub release_after : ℕ × ℕ → FileRelease → Bool
release_after k x = ltb x.tenant k.0 || (eqb x.tenant k.0 && ltb x.time k.1)

abbrev pub release_format : Format FileRelease
release_format =
    viewed (λ p. record { tenant = p.0; id = p.1.0; xid = p.1.1.0; time = p.1.1.1 }) (λ x. (x.tenant, (x.id, (x.xid, x.time))))
    (octet ⊗ counted octet ⊗ number ⊗ number)

-- after a one-octet count, as the other sections
abbrev pub releases_format : Format (List FileRelease)
releases_format = section_format release_key release_after (0, 0) release_format

-- ---- in the book
-- a release of the file as the memory keeps it, and one of tenant t as it stands in the file
unfoldable pub stored_release : FileRelease → Release
stored_release x = record { id_len = length x.id; id = laid_row 0 32 x.id; xid = x.xid; time = x.time }

unfoldable pub filed_release : ℕ → Release → FileRelease
filed_release t r = record { tenant = t; id = take r.id_len r.id; xid = r.xid; time = r.time }

abbrev pub release_tenant : FileRelease → ℕ
release_tenant x = x.tenant

-- tenant by tenant, from 1 to 8; a section says nothing of the board
-- a file has no board: an empty one, until the reader makes it (`accepted` of state_file)
unfoldable pub stored_memory : List FileRelease → Memory
stored_memory xs = record { releases = map laid_releases (map (map stored_release) (apart release_tenant 1 8 xs)); board = no_board }

unfoldable pub filed_memory : Memory → List FileRelease
filed_memory m = filed_all filed_release 1 (map remembered m.releases)

-- the octets of a memory's section
unfoldable pub memory_octets : Memory → List ℕ
memory_octets m = releases_format.write (filed_memory m)

-- ---- limits
-- a release that the memory can hold: of one of eight tenants (rule 14), with an identifier of at most 32 octets (rule 16)
unfoldable pub keepable_b : FileRelease → Bool
keepable_b x = pick (ltb x.tenant 1) false (pick (ltb 8 x.tenant) false (leb (length x.id) 32))

-- tenant t has at most four (rule 15)
unfoldable pub few_for : List FileRelease → ℕ → Bool
few_for xs t = leb (length (own release_tenant t xs)) 4

-- the memory can hold them
unfoldable pub releases_fit_b : List FileRelease → Bool
releases_fit_b xs = pick (all_by keepable_b xs) (all_to (λ i. few_for xs (i + 1)) 8) false
