-- Laws: whether the memory can hold the releases of a section: each of them, and as many of each tenant.
use Rattle.std.specs.Prelude.{◌↔◌, EachIndex, IsTrue, Bool, false, true, List, ◌≡◌, refl, ◌+◌, ◌-◌, ◌<◌, ◌≤◌, ℕ, leb, drop, get_or, length, set, take}
use Rattle.std.proofs.Common.{◌∙◌, subst, sym, arith, le-leb, leb-true, ltb-false}
use Rattle.std.proofs.lemmas.Bool.{lt-leb}
use Rattle.std.proofs.Math.Path.{ap}
use Rattle.format.specs.Section.{InRow, Inside}
use Rattle.format.specs.Tenants.{tally_by}
use Rattle.format.specs.laws.Entries.{CountInv, TenantInv, count_end, count_small, count_start, few_all, row_facts, tenant_held, tenant_next}
use Rattle.lists.specs.All.{all_by, all_to}
use Rattle.lists.specs.Pick.{pick}
use Rattle.lists.specs.laws.Pick.{neither}
use Rattle.octets.specs.laws.Run.{part_length}
use Rattle.release_file.specs.Place.{AllKeepable, KeepableAt, ReleasesIn, after_release, file_release_at, releases_from, releases_in}
use Rattle.release_file.specs.Section.{FileRelease, few_for, keepable_b, releases_fit_b, release_tenant}

-- ---- one release
module _ {s : List ℕ} {at : ℕ} (v : Inside after_release s at) where
  id_long : length (take (get_or s (at + 1) 0) (drop (at + 2) s)) ≡ get_or s (at + 1) 0
  id_long = part_length s (at + 2) (get_or s (at + 1) 0) (omega (arith, v.room))

  pub id_few : get_or s (at + 1) 0 ≤ 32 → true ≡ leb (length (take (get_or s (at + 1) 0) (drop (at + 2) s))) 32
  id_few h = sym (le-leb _ 32 (let e = id_long in omega arith))

  pub id_many : 32 < get_or s (at + 1) 0 → false ≡ leb (length (take (get_or s (at + 1) 0) (drop (at + 2) s))) 32
  id_many h = sym (lt-leb _ 32 (let e = id_long in omega arith))

keepable_held : (s : List ℕ) (at : ℕ) → Inside after_release s at → keepable_b (file_release_at s at) ≡ true → KeepableAt s at
unfolding keepable_b file_release_at
keepable_held s at v e =
    let a = neither _ _ e in
    let b = neither _ _ a.1 in
    let h = leb-true (length (take (get_or s (at + 1) 0) (drop (at + 2) s))) 32 b.1 in
    let l = part_length s (at + 2) (get_or s (at + 1) 0) (omega (arith, v.room)) in
    record { from = ltb-false (get_or s at 0) 1 a.0; to = ltb-false 8 (get_or s at 0) b.0; ids = omega arith; room = v.room }

-- ---- all of a section
module _ {s : List ℕ} {at count : ℕ} (v : ReleasesIn s at) (ec : count ≡ get_or s at 0) where
  pub releases_in_law : InRow after_release s (at + 1) count
  releases_in_law = subst (λ (n : ℕ). InRow after_release s (at + 1) n) (sym ec) v.each

  pub releases_same : releases_from s (at + 1) count ≡ releases_in s at
  releases_same = ap (releases_from s (at + 1)) ec

  pub releases_kept_law : {a : Bool} → a ≡ all_by keepable_b (releases_from s (at + 1) count) → a ≡ true → AllKeepable s (at + 1) count
  releases_kept_law p q = row_facts keepable_b KeepableAt file_release_at after_release keepable_held count s (at + 1) releases_in_law (sym p ∙ q)

  pub fits_yes : (a r : Bool) → a ≡ all_by keepable_b (releases_from s (at + 1) count) → a ≡ true → r ≡ all_to (λ i. few_for (releases_from s (at + 1) count) (i + 1)) 8 → r ≡ releases_fit_b (releases_in s at)
  unfolding releases_fit_b pick
  fits_yes a r p q t =
      t ∙ ap (λ (b : Bool). pick b (all_to (λ i. few_for (releases_from s (at + 1) count) (i + 1)) 8) false) (sym q ∙ p) ∙ ap releases_fit_b releases_same

  pub fits_not : (a : Bool) → a ≡ all_by keepable_b (releases_from s (at + 1) count) → a ≡ false → a ≡ releases_fit_b (releases_in s at)
  unfolding releases_fit_b pick
  fits_not a p q = q ∙ ap (λ (b : Bool). pick b (all_to (λ i. few_for (releases_from s (at + 1) count) (i + 1)) 8) false) (sym q ∙ p) ∙ ap releases_fit_b releases_same

pub ruleset section_fits = (releases_in_law, releases_kept_law, fits_yes, fits_not)

-- ---- a value for each tenant
module _ {B : Type 0} {g : B → FileRelease → B} {z d : B} {s : List ℕ} {from count : ℕ} {out : List B} {here i : ℕ} (v : TenantInv release_tenant KeepableAt file_release_at after_release g z d s from count out here i) where
  pub release_held : i < count → KeepableAt s here
  release_held h = tenant_held v h

  pub release_inside : i < count → Inside after_release s here
  release_inside h = record { room = (tenant_held v h).room }

  pub release_turn : (j n : ℕ) (x : B) → i < count → j ≡ get_or s here 0 - 1 → x ≡ g (get_or out j d) (file_release_at s here) → n ≡ after_release s here
      → TenantInv release_tenant KeepableAt file_release_at after_release g z d s from count (set out j x) n (i + 1)
  unfolding file_release_at
  release_turn j n x h ej ex en = tenant_next v j n x (λ p. p.from) h ej ex en

pub ruleset tenant_loop = (release_held, release_inside)

-- how many each has
abbrev pub TallyInv : List ℕ → ℕ → ℕ → List ℕ → ℕ → ℕ → Type 0
TallyInv s from count n here i = CountInv release_tenant KeepableAt file_release_at after_release s from count n here i

pub tally_next : {s : List ℕ} {from count : ℕ} {n : List ℕ} {here i : ℕ} → TallyInv s from count n here i → (j k : ℕ) → i < count → j ≡ get_or s here 0 - 1 → k ≡ after_release s here
    → TallyInv s from count (set n j (get_or n j 0 + 1)) k (i + 1)
tally_next v j k h e q = release_turn v j k _ h e refl q

pub ruleset tallies = (count_start, count_small, count_end, tally_next, tenant_loop)

-- what was counted decides
pub all_four : (xs : List FileRelease) {n : List ℕ} {r : Bool} → n ≡ tally_by release_tenant xs → length n ≡ 8 → (IsTrue r ↔ EachIndex n (λ i. get_or n i 0 ≤ 4)) → r ≡ all_to (λ i. few_for xs (i + 1)) 8
unfolding few_for
all_four xs e l h = few_all release_tenant 4 xs e l h
