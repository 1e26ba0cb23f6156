-- Laws: of files that are all accepted each total is at most the limit times the time from first clock to last, and far below what a u64 holds.
use Rattle.std.specs.Prelude.{ℕ, ◌+◌, ◌-◌, ◌*◌, ◌≤◌, ◌<◌, ◌≡◌, refl, Bool, true, false, eqb, ltb, length}
use Rattle.std.proofs.Common.{sym, ap, ◌∙◌, arith, mul-add, mul-le-mul, eqb-true, ltb-true}
use Rattle.std.proofs.Math.Path.{subst}
use mathlib.Core.List.{List, [], ◌∷◌}
use Rattle.std.proofs.Math.ListN.{get_or}
use Rattle.std.proofs.lemmas.Bool.{eqb-false}
use Rattle.lists.specs.Pick.{pick}
use Rattle.lists.specs.All.{All, pairs_by}
use Rattle.lists.specs.laws.Both.{and_parts, pairs_and}
use Rattle.address_set.specs.laws.Bits.{length_offsets}
use Rattle.state.specs.declared.Lease.{Lease}
use Rattle.state.specs.declared.State.{State}
use Rattle.state.specs.Book.{differ, held_count, held_of, leases_of, limit_at, scope_at, with_clock}
use Rattle.agreement.specs.laws.Tenants.{at_tenant}
use Rattle.soundness.specs.Sound.{compatible, one_to, scopes_in, sound_b, tenants_in}
use Rattle.soundness.specs.laws.Added.{pairs_at}
use Rattle.soundness.specs.laws.Book.{pair_ok}
use Rattle.soundness.proofs.Lists.{sound_lists}
use Rattle.state_file.specs.StateFile.{book_in, refusal_number}
use Rattle.usage.specs.Usage.{Reading, clock_of, covered_in, follows, last_clock, most_files, number_of, records_in, refusal, refusal_from, refusal_in, refusal_of, same_settings, settings_of, time_of, total_of}
use Rattle.usage.specs.laws.Covered.{covered_most}
use Rattle.usage.specs.laws.Same.{settings_same}

-- ---- files that are accepted
-- what is accepted is sound, as what the reader accepts is
abbrev pub SoundFile : Reading → Type 0
SoundFile f = (refusal_number f) ≡ 0 → sound_b (book_in f).state (book_in f).table ≡ true

pub record Accepted (s : State) (f : Reading) : Type 0 where
  pub read : (refusal_number f) ≡ 0
  pub same : (book_in f).state ≡ with_clock s (clock_of f)

-- clocks rise from c on
unfoldable pub Rises : ℕ → List Reading → Type 0
Rises c [] = Unit {0}
Rises c (f ∷ fs) = (c < clock_of f) × Rises (clock_of f) fs

pub number_none : (s : State) (c : ℕ) (f : Reading) → number_of s c f ≡ 0 → Accepted s f × (c < clock_of f)
unfolding number_of pick follows
number_none s c f e = go (eqb (refusal_number f) 0) refl (follows s c f) refl e
  where
    go : (a : Bool) → eqb (refusal_number f) 0 ≡ a → (b : Bool) → follows s c f ≡ b → pick a (pick b 0 26) (refusal_number f) ≡ 0 → Accepted s f × (c < clock_of f)
    go true p true q e =
        let w = and_parts (same_settings s (book_in f).state) (ltb c (clock_of f)) q in
        (record { read = eqb-true (refusal_number f) 0 p; same = settings_same s (book_in f).state w.0 }, ltb-true c (clock_of f) w.1)
    go true p false q e = absurd (omega arith)
    go false p b q e = absurd (eqb-false (refusal_number f) 0 p e)

pub accepted_from : (s : State) (c p : ℕ) (fs : List Reading) → (refusal_from s c p fs).number ≡ 0 → All (Accepted s) fs × Rises c fs
unfolding refusal_from pick All Rises
accepted_from s c p [] e = (tt, tt)
accepted_from s c p (f ∷ fs) e = go (eqb (number_of s c f) 0) refl (accepted_from s (clock_of f) (p + 1) fs) e
  where
    go : (a : Bool) → eqb (number_of s c f) 0 ≡ a → ((refusal_from s (clock_of f) (p + 1) fs).number ≡ 0 → All (Accepted s) fs × Rises (clock_of f) fs)
        → (pick a (refusal_from s (clock_of f) (p + 1) fs) (refusal (number_of s c f) p)).number ≡ 0 → All (Accepted s) (f ∷ fs) × Rises c (f ∷ fs)
    go true q ih e = let (x, y) = ih e in let (u, v) = number_none s c f (eqb-true _ _ q) in ((u, x), (v, y))
    go false q ih e = absurd (eqb-false _ _ q e)

-- the first file's settings are every file's
pub accepted_all : (f : Reading) (fs : List Reading) → (refusal_of (f ∷ fs)).number ≡ 0 → All (Accepted (book_in f).state) (f ∷ fs) × Rises (clock_of f) fs
unfolding refusal_of refusal_in pick All
accepted_all f fs e = go (one_to most_files (length (f ∷ fs))) (eqb (refusal_number f) 0) refl e
  where
    go : (a b : Bool) → eqb (refusal_number f) 0 ≡ b → (pick a (pick b (refusal_from (book_in f).state (clock_of f) 2 fs) (refusal (refusal_number f) 1)) (refusal 26 0)).number ≡ 0
        → All (Accepted (book_in f).state) (f ∷ fs) × Rises (clock_of f) fs
    go true true q e = let (x, y) = accepted_from (book_in f).state (clock_of f) 2 fs e in ((record { read = eqb-true _ _ q; same = refl }, x), y)
    go true false q e = absurd (eqb-false _ _ q e)
    go false b q e = absurd (let z : 26 ≡ 0 = e in omega arith)

-- ---- the bound
-- a tenant's records in a file: on one address they don't overlap, and they hold at most m
pub record Within (k g m : ℕ) (f : Reading) : Type 0 where
  pub pairs : pairs_by compatible (records_in f g) ≡ true
  pub held : held_count (k + 1) (records_in f g) ≤ m

pub total_most : (k g m : ℕ) (f : Reading) (fs : List Reading) → All (Within k g m) (f ∷ fs) → Rises (clock_of f) fs
    → (total_of k g (f ∷ fs) ≤ m * (last_clock (f ∷ fs) - clock_of f)) × (clock_of f ≤ last_clock (f ∷ fs))
unfolding total_of last_clock All Rises
total_most k g m f [] w r = (omega arith, omega arith)
total_most k g m f (h ∷ fs) (w, v) (p, r) =
    let (x, y) = total_most k g m h fs v r in
    let d : ℕ = clock_of h - clock_of f in
    let e : clock_of f + d ≡ clock_of h = omega arith in
    let a : covered_in (k + 1) (clock_of f) (clock_of h) (records_in f g) ≤ held_count (k + 1) (records_in f g) * d =
    subst (λ (n : ℕ). covered_in (k + 1) (clock_of f) n (records_in f g) ≤ held_count (k + 1) (records_in f g) * d) e (covered_most (k + 1) (clock_of f) d (records_in f g) w.pairs) in
    let b : held_count (k + 1) (records_in f g) * d ≤ m * d = mul-le-mul w.held (let z : d ≤ d = omega arith in z) in
    let q : m * (d + (last_clock (h ∷ fs) - clock_of h)) ≡ m * d + m * (last_clock (h ∷ fs) - clock_of h) = mul-add m d (last_clock (h ∷ fs) - clock_of h) in
    let s : d + (last_clock (h ∷ fs) - clock_of h) ≡ last_clock (h ∷ fs) - clock_of f = omega arith in
    let t : m * (d + (last_clock (h ∷ fs) - clock_of h)) ≡ m * (last_clock (h ∷ fs) - clock_of f) = ap (λ (n : ℕ). m * n) s in
    (omega arith, omega arith)

-- ---- of a sound file
module _ (f : Reading) (h : sound_b (book_in f).state (book_in f).table ≡ true) (g : ℕ) where
  pairs_of : pairs_by compatible (records_in f g) ≡ true
  unfolding pair_ok
  pairs_of =
      let l = get_or (leases_of (book_in f).table) g [] in
      subst (λ (x : List Lease). pairs_by compatible x ≡ true) (sym (at_tenant (book_in f).table g))
      (and_parts (pairs_by differ l) (pairs_by compatible l) (sym (pairs_and differ compatible l) ∙ pairs_at (book_in f).state (leases_of (book_in f).table) (sound_lists (book_in f).state (book_in f).table h) g)).1

  -- a set has at most 64 addresses
  pub within_set : (k : ℕ) → Within k g 64 f
  within_set k = record { pairs = pairs_of; held = length_offsets (held_of (k + 1) (records_in f g)) }

  pub within_limit : (k : ℕ) → k < scopes_in (book_in f).state → g < tenants_in (book_in f).state → Within k g (limit_at (scope_at (book_in f).state k) g) f
  within_limit k p q = record {
    pairs = pairs_of;
    held = subst (λ (x : List Lease). held_count (k + 1) x ≤ limit_at (scope_at (book_in f).state k) g) (sym (at_tenant (book_in f).table g)) ((sound_lists (book_in f).state (book_in f).table h).holdings k g p q);
  }

each_within : (s : State) (g : ℕ) (P : Reading → Type 0) → ((f : Reading) → sound_b (book_in f).state (book_in f).table ≡ true → (book_in f).state ≡ with_clock s (clock_of f) → P f)
    → (fs : List Reading) → All SoundFile fs → All (Accepted s) fs → All P fs
unfolding All
each_within s g P h [] a b = tt
each_within s g P h (f ∷ fs) (a, x) (b, y) = (h f (a b.read) b.same, each_within s g P h fs x y)

-- "Each total is .. at most the limit times the time from first clock to last"
pub bound : (fs : List Reading) → All SoundFile fs → (refusal_of fs).number ≡ 0 → (k g : ℕ) → k < scopes_in (settings_of fs) → g < tenants_in (settings_of fs)
    → total_of k g fs ≤ limit_at (scope_at (settings_of fs) k) g * time_of fs
unfolding total_of settings_of
bound [] a e k g p q = omega arith
bound (f ∷ fs) a e k g p q =
    let (x, r) = accepted_all f fs e in
    (total_most k g (limit_at (scope_at (book_in f).state k) g) f fs
    (each_within (book_in f).state g (Within k g (limit_at (scope_at (book_in f).state k) g))
    (λ h y z. subst (λ (s : State). k < scopes_in s → g < tenants_in s → Within k g (limit_at (scope_at s k) g) h) z (within_limit h y g k) p q) (f ∷ fs) a x) r).0

-- a total is at most 64 times the last clock, so that a u64 holds it where clocks have 32 bits
pub total_small : (fs : List Reading) → All SoundFile fs → (refusal_of fs).number ≡ 0 → (k g : ℕ) → total_of k g fs ≤ 64 * last_clock fs
unfolding total_of
total_small [] a e k g = omega arith
total_small (f ∷ fs) a e k g =
    let (x, r) = accepted_all f fs e in
    let m = total_most k g 64 f fs (each_within (book_in f).state g (Within k g 64) (λ h y z. within_set h y g k) (f ∷ fs) a x) r in
    omega (arith, m.0)
