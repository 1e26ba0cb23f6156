-- Laws: a release that stands at a place of the octets, and the walk over those of a section.
use Rattle.std.specs.Prelude.{Bool, ◌&&◌, ◌||◌, false, true, List, ◌≡◌, refl, ◌+◌, ◌-◌, ◌<◌, ◌≤◌, ℕ, eqb, leb, drop, length, None, Some}
use Rattle.std.proofs.Common.{◌∙◌, sym, leb-false, leb-true}
use Rattle.std.proofs.Math.Path.{ap, ap₂}
use native.Mathlib.Omega.{arith}
use Rattle.std.proofs.Math.Dec.{ltb}
use Rattle.std.proofs.Math.ListN.{get_or, take}
use Rattle.format.specs.Format.{◌⊗◌, counted, number, octet}
use Rattle.format.specs.Place.{Fails, Stands}
use Rattle.format.specs.Section.{Inside, IsAt}
use Rattle.format.specs.laws.Fixed.{Fixed, fixed_both, fixed_number}
use Rattle.format.specs.laws.Place.{as_nowhere, as_there, counted_none, fails_first, fails_second, number_stands, octet_fails, octet_stands, octets_short, octets_stand, stands_both, stands_to, viewed_none, viewed_stands}
use Rattle.format.specs.laws.Section.{SectionInv, entry_in, section_broken, section_done, section_next, section_start, section_wrong}
use Rattle.octets.specs.Octets.{at32}
use Rattle.release_file.specs.Place.{ReleaseEnds, ReleasesEnd, after_release, file_release_at}
use Rattle.release_file.specs.Section.{release_after, release_format, release_key}

none : {s : List ℕ} {at : ℕ} → Fails (octet ⊗ counted octet ⊗ number ⊗ number) s at → ReleaseEnds s at None
unfolding IsAt
none q = record { ends = as_nowhere (viewed_none q _ _); there = tt }

-- too short for the tenant and the identifier's length
pub release_cut : (s : List ℕ) (at : ℕ) → at ≤ length s → length s - at < 2 → ReleaseEnds s at None
release_cut s at a h = none (go (leb (length s) at) refl)
  where
    go : (b : Bool) → leb (length s) at ≡ b → Fails (octet ⊗ counted octet ⊗ number ⊗ number) s at
    go true e = fails_first _ (octet_fails s at (leb-true (length s) at e))
    go false e = let l = leb-false (length s) at e in fails_second _ (octet_stands s at l) (fails_first _ (counted_none octet s (at + 1) (omega arith)))

module _ (s : List ℕ) (at n : ℕ) (a : at ≤ length s) (two : 2 ≤ length s - at) (e : n ≡ get_or s (at + 1) 0) where
  -- the identifier and the numbers after it
  numbers : Fixed (number ⊗ number) 8
  numbers = fixed_both fixed_number fixed_number

  id_stands : at + 2 + n ≤ length s → Stands (counted octet) s (at + 1) (take n (drop (at + 2) s)) (at + (n + 2))
  id_stands h =
      let k : at + 1 + 1 ≡ at + 2 = omega arith in
      rw (← k) (stands_to (let q : at + 1 + 1 + n ≡ at + (n + 2) = omega arith in q) (octets_stand s (at + 1) n (omega arith) e (omega arith)))

  -- too short for what follows
  pub release_short : length s - at < n + 10 → ReleaseEnds s at None
  release_short h = none (fails_second _ (octet_stands s at (omega arith)) (go (leb (at + 2 + n) (length s)) refl))
    where
      go : (b : Bool) → leb (at + 2 + n) (length s) ≡ b → Fails (counted octet ⊗ number ⊗ number) s (at + 1)
      go true q = let l = leb-true (at + 2 + n) (length s) q in fails_second _ (id_stands l) (numbers.fails s (at + (n + 2)) (omega arith) (omega arith))
      go false q = let l = leb-false (at + 2 + n) (length s) q in fails_first _ (octets_short s (at + 1) n (omega arith) e (omega arith))

  pub release_there : n + 10 ≤ length s - at → ReleaseEnds s at (Some (at + (n + 10)))
  unfolding IsAt file_release_at
  release_there h =
      let k : at + (n + 2) + 4 ≡ at + (n + 6) = omega arith in
      let m : at + (n + 6) + 4 ≡ at + (n + 10) = omega arith in
      let st : Stands release_format s at (record { tenant = get_or s at 0; id = take n (drop (at + 2) s); xid = at32 s (at + (n + 2)); time = at32 s (at + (n + 6)) }) (at + (n + 10)) =
      viewed_stands
      (stands_both _ (octet_stands s at (omega arith))
      (stands_both _ (id_stands (omega arith))
      (stands_both _ (stands_to k (number_stands s (at + (n + 2)) (omega arith)))
      (stands_to m (number_stands s (at + (n + 6)) (omega arith))))))
      _ _ in
      record { ends = as_there (record { reads = rw (← e) st.reads }) (omega arith) (omega arith); there = ap (λ (x : ℕ). at + (x + 10)) e }

pub ruleset release_ends = (release_cut, release_short, release_there)

pub time_is : (s : List ℕ) (at n r : ℕ) → n ≡ get_or s (at + 1) 0 → r ≡ at32 s (at + (n + 6)) → r ≡ at32 s (at + (get_or s (at + 1) 0 + 6))
time_is s at n r e p = p ∙ ap (λ (x : ℕ). at32 s (at + (x + 6))) e

-- ---- the loop over the releases, with the tenant and the time of the one before
abbrev pub ReleasesInv : List ℕ → ℕ → ℕ → ℕ → ℕ → ℕ → ℕ → Type 0
ReleasesInv s from count here i tenant time = SectionInv release_key release_after release_format file_release_at after_release s (0, 0) from count here i (tenant, time)

pub releases_start : {s : List ℕ} {from count : ℕ} → from ≤ length s → ReleasesInv s from count from 0 0 0
releases_start h = section_start h

pub release_in : {s : List ℕ} {at n : ℕ} → ReleaseEnds s at (Some n) → Inside after_release s at
release_in w = record { room = entry_in w }

module _ {s : List ℕ} {from count here i tenant time : ℕ} (v : ReleasesInv s from count here i tenant time) (h : i < count) where
  pub releases_broken : ReleaseEnds s here None → ReleasesEnd count s from None
  releases_broken w = section_broken v h w

  module _ {next t k : ℕ} {q : Bool} (w : ReleaseEnds s here (Some next)) (et : t ≡ get_or s here 0) (ek : k ≡ at32 s (here + (get_or s (here + 1) 0 + 6))) (eq : q ≡ (ltb t tenant || (eqb t tenant && ltb k time))) where
    out_of_order : q ≡ release_after (tenant, time) (file_release_at s here)
    unfolding file_release_at
    out_of_order = eq ∙ ap₂ (λ (x y : ℕ). ltb x tenant || (eqb x tenant && ltb y time)) et ek

    pub releases_later : q ≡ true → ReleasesEnd count s from None
    releases_later p = section_wrong v h w (sym out_of_order ∙ p)

    pub releases_next : q ≡ false → ReleasesInv s from count next (i + 1) t k
    unfolding file_release_at
    releases_next p = rw (et, ek) (section_next v h w (sym out_of_order ∙ p))

pub releases_done : {s : List ℕ} {from count here i tenant time : ℕ} → ReleasesInv s from count here i tenant time → count ≤ i → ReleasesEnd count s from (Some here)
releases_done v h = section_done v h

pub ruleset release_walk = (releases_start, release_in, releases_broken, releases_later, releases_next, releases_done)
