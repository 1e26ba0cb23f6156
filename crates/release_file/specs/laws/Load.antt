-- Laws: reading a section into a memory: a release into an entry, and the entries tenant by tenant.
use Rattle.std.specs.Prelude.{true, ◌≡◌, ◌+◌, ◌-◌, ◌<◌, ◌≤◌, ℕ, drop, replicate, set, take}
use mathlib.Core.List.{List, []}
use Rattle.std.proofs.Common.{◌∙◌, arith}
use Rattle.std.proofs.Math.Path.{ap, ap₂, refl, sym}
use Rattle.std.proofs.Math.ListN.{get_or, length}
use borrow.Author.Tests.{leb-true}
use Rattle.format.specs.laws.Entries.{TenantInv, kept_laid, tenant_end, tenant_start}
use Rattle.lists.specs.All.{all_by}
use Rattle.lists.specs.Row.{laid_row}
use Rattle.lists.specs.laws.All.{to_each}
use Rattle.lists.specs.laws.Pick.{both}
use Rattle.octets.specs.Octets.{at32}
use Rattle.octets.specs.laws.Run.{part_length}
use Rattle.occupancy.specs.Board.{no_board}
use Rattle.occupancy.specs.declared.Board.{Board}
use Rattle.release_file.specs.Place.{AllKeepable, KeepableAt, ReleasesIn, after_release, file_release_at, kept_all, releases_from, releases_in}
use Rattle.release_file.specs.Section.{FileRelease, few_for, keepable_b, releases_fit_b, stored_memory, stored_release, release_tenant}
use Rattle.release_file.specs.laws.Limits.{release_turn, releases_kept_law, releases_same, tenant_loop}
use Rattle.state.specs.Book.{laid_releases, no_releases, pushed_release}
use Rattle.state.specs.laws.Layout.{push_release_laid}
use Rattle.state.specs.declared.Memory.{Memory}
use Rattle.state.specs.declared.Release.{Release}
use Rattle.state.specs.declared.TenantReleases.{TenantReleases}

-- ---- one release
module _ {s : List ℕ} {at n : ℕ} (en : n ≡ get_or s (at + 1) 0) (v : KeepableAt s at) where
  pub release_stored : (id : List ℕ) (x t : ℕ) → id ≡ laid_row 0 32 (take n (drop (at + 2) s)) → x ≡ at32 s (at + (n + 2)) → t ≡ at32 s (at + (get_or s (at + 1) 0 + 6))
      → ◌≡◌ {A = Release} (record { id_len = get_or s (at + 1) 0; id = id; xid = x; time = t }) (stored_release (file_release_at s at))
  unfolding stored_release file_release_at
  release_stored id x t pi px pt =
      let l : get_or s (at + 1) 0 ≡ length (take (get_or s (at + 1) 0) (drop (at + 2) s)) = sym (part_length s (at + 2) (get_or s (at + 1) 0) (omega (arith, v.room))) in
      let qi : id ≡ laid_row 0 32 (take (get_or s (at + 1) 0) (drop (at + 2) s)) = pi ∙ ap (λ (z : ℕ). laid_row 0 32 (take z (drop (at + 2) s))) en in
      let qx : x ≡ at32 s (at + (get_or s (at + 1) 0 + 2)) = px ∙ ap (λ (z : ℕ). at32 s (at + (z + 2))) en in
      cc

-- ---- all tenants'
abbrev pub FillInv : List ℕ → ℕ → ℕ → List TenantReleases → ℕ → ℕ → Type 0
FillInv s from count out here i = TenantInv release_tenant KeepableAt file_release_at after_release (λ q x. pushed_release q (stored_release x)) (laid_releases []) no_releases s from count out here i

module _ {s : List ℕ} {from count : ℕ} where
  pub fill_start : (z : TenantReleases) → z ≡ laid_releases [] → AllKeepable s from count → FillInv s from count (replicate 8 z) from 0
  fill_start z e h = tenant_start release_tenant file_release_at _ (laid_releases []) no_releases z e h

  module _ {out : List TenantReleases} {here i : ℕ} (v : FillInv s from count out here i) where
    pub fill_next : (j k : ℕ) (x : Release) (r : TenantReleases) → i < count → j ≡ get_or s here 0 - 1 → x ≡ stored_release (file_release_at s here) → r ≡ pushed_release (get_or out j no_releases) x → k ≡ after_release s here
        → FillInv s from count (set out j r) k (i + 1)
    fill_next j k x r h e p q w = release_turn v j k r h e (q ∙ ap (pushed_release (get_or out j no_releases)) p) w

    pub fill_end : count ≤ i → out ≡ kept_all (releases_from s from count)
    unfolding kept_all
    fill_end h = tenant_end v _ (λ t. refl) h

pub ruleset fills = (fill_start, fill_next, fill_end, tenant_loop)

-- ---- the memory of a section that it can hold
module _ {s : List ℕ} {at count : ℕ} (v : ReleasesIn s at) (ec : count ≡ get_or s at 0) (e : releases_fit_b (releases_in s at) ≡ true) where
  pub releases_held : AllKeepable s (at + 1) count
  unfolding releases_fit_b
  releases_held = releases_kept_law v ec refl (ap (λ (xs : List FileRelease). all_by keepable_b xs) (releases_same v ec) ∙ (both _ _ e).0)

  pub memory_is : (qs : List TenantReleases) (b : Board) → qs ≡ kept_all (releases_from s (at + 1) count) → b ≡ no_board → ◌≡◌ {A = Memory} (record { releases = qs; board = b }) (stored_memory (releases_in s at))
  unfolding stored_memory releases_fit_b kept_all few_for
  memory_is qs b p q =
      let xs : List FileRelease = releases_in s at in
      ap₂ {C = Memory} (λ (l : List TenantReleases) (c : Board). record { releases = l; board = c })
      (p ∙ ap kept_all (releases_same v ec)
      ∙ kept_laid release_tenant stored_release 4 laid_releases pushed_release push_release_laid 8 1 xs (λ i g. leb-true _ 4 (to_each (λ i. few_for xs (i + 1)) 8 (both _ _ e).1 i g))) q
