-- Definitions: where the releases stand in the file's octets, for the code that goes over them.
use Rattle.std.specs.Prelude.{List, [], ◌+◌, ◌<◌, ◌≤◌, ℕ, drop, get_or, length, take, Option}
use Rattle.format.specs.Place.{EachAt, walk}
use Rattle.format.specs.Section.{EntryEnds, InRow, RowEnds, SectionEnds}
use Rattle.format.specs.Tenants.{keep_by, per_tenant}
use Rattle.lists.specs.Fold.{fold}
use Rattle.octets.specs.Octets.{at32}
use Rattle.release_file.specs.Section.{FileRelease, release_after, release_format, release_key, stored_release, release_tenant}
use Rattle.state.specs.Book.{laid_releases, pushed_release}
use Rattle.state.specs.declared.TenantReleases.{TenantReleases}

-- the release that starts at a place, whose parts are taken from where they would stand
unfoldable pub file_release_at : List ℕ → ℕ → FileRelease
file_release_at s at = record {
  tenant = get_or s at 0;
  id = take (get_or s (at + 1) 0) (drop (at + 2) s);
  xid = at32 s (at + (get_or s (at + 1) 0 + 2));
  time = at32 s (at + (get_or s (at + 1) 0 + 6));
}

-- where the entry that starts at a place ends
abbrev pub after_release : List ℕ → ℕ → ℕ
after_release s at = at + (get_or s (at + 1) 0 + 10)

abbrev pub ReleaseEnds : List ℕ → ℕ → Option ℕ → Type 0
ReleaseEnds s at r = EntryEnds release_format file_release_at after_release s at r

-- k releases in order
abbrev pub ReleasesEnd : ℕ → List ℕ → ℕ → Option ℕ → Type 0
ReleasesEnd k s from r = RowEnds release_key release_after (0, 0) release_format file_release_at after_release k s from r

-- where the section that starts at a place ends
abbrev pub ReleaseSection : List ℕ → ℕ → Option ℕ → Type 0
ReleaseSection s at r = SectionEnds release_key release_after (0, 0) release_format file_release_at after_release s at r

-- the k releases from a place on, and those of the section that starts at a place
abbrev pub releases_from : List ℕ → ℕ → ℕ → List FileRelease
releases_from s at k = walk file_release_at after_release k s at

abbrev pub releases_in : List ℕ → ℕ → List FileRelease
releases_in s at = releases_from s (at + 1) (get_or s at 0)

-- the section lies within the octets
pub record ReleasesIn (s : List ℕ) (at : ℕ) : Type 0 where
  pub start : at < length s
  pub each : InRow after_release s (at + 1) (get_or s at 0)

-- a release that lies within the octets and that an entry of one of eight tenants can hold
pub record KeepableAt (s : List ℕ) (at : ℕ) : Type 0 where
  pub from : 1 ≤ get_or s at 0
  pub to : get_or s at 0 ≤ 8
  pub ids : get_or s (at + 1) 0 ≤ 32
  pub room : after_release s at ≤ length s

abbrev pub AllKeepable : List ℕ → ℕ → ℕ → Type 0
AllKeepable s at k = EachAt KeepableAt after_release k s at

-- ---- a tenant's entries, filled from the front
abbrev pub kept_of : ℕ → List FileRelease → TenantReleases
kept_of t xs = fold (keep_by release_tenant (λ q x. pushed_release q (stored_release x)) t) (laid_releases []) xs

unfoldable pub kept_all : List FileRelease → List TenantReleases
kept_all xs = per_tenant (λ t. kept_of t xs) 1 8
