-- Laws: the rules on what is remembered, tenant by tenant, and the loop over the tenants.
use Rattle.std.specs.Prelude.{ℕ, suc, ◌+◌, ◌≤◌, ◌<◌, Bool, true, false, ◌&&◌, [], ◌≡◌, eqb, length, get_or}
use Rattle.std.proofs.Math.Path.{refl, ap}
use Rattle.std.proofs.Common.{sym, ap₂, ◌∙◌, arith, add-one}
use borrow.Author.Tests.{eq-eqb, eqb-true}
use Rattle.lists.specs.Pick.{pick}
use Rattle.lists.specs.laws.Pick.{pick_zero, pick_zero_last}
use Rattle.lists.specs.All.{all_to}
use Rattle.lists.specs.laws.All.{to_each, each_to}
use Rattle.lists.specs.laws.Part.{unmapped}
use Rattle.lists.specs.laws.Row.{at_in}
use Rattle.state.specs.declared.LeaseTable.{LeaseTable}
use Rattle.state.specs.declared.Memory.{Memory}
use Rattle.state.specs.declared.State.{State}
use Rattle.state.specs.declared.TenantLeases.{TenantLeases}
use Rattle.state.specs.declared.TenantReleases.{TenantReleases}
use Rattle.state.specs.Book.{in_use, laid_out, laid_releases, releases_at}
use Rattle.soundness.specs.Sound.{tenants_in}
use Rattle.releases.specs.declared.ReleaseRules.{ReleaseRules}
use Rattle.releases.specs.Rules.{both_rules, broken_memory, broken_release, first_release, own_leases, memory_b, no_rules, release_rules_of, rules_at, rules_to}

pub six : {p p' q q' u u' r r' t t' v v' : Bool} → p ≡ p' → q ≡ q' → u ≡ u' → r ≡ r' → t ≡ t' → v ≡ v'
    → ◌≡◌ {A = ReleaseRules} (record { tenants = p; few = q; lengths = u; once = r; times = t; layout = v }) (record { tenants = p'; few = q'; lengths = u'; once = r'; times = t'; layout = v' })
six a b c d e f = cc

-- ---- the first k tenants
and_pick : (a b : Bool) → pick a b false ≡ (a && b)
unfolding pick
and_pick true b = refl
and_pick false b = refl

module _ (n clock : ℕ) (t : LeaseTable) (m : Memory) where
  pub rules_none : rules_to n clock t m 0 ≡ no_rules
  unfolding rules_to all_to
  rules_none = refl

  pub rules_more : (k : ℕ) → rules_to n clock t m (suc k) ≡ both_rules (rules_to n clock t m k) (rules_at n clock k (own_leases t k) (releases_at m k))
  unfolding rules_to both_rules rules_at all_to
  rules_more k = six (and_pick _ _) (and_pick _ _) (and_pick _ _) (and_pick _ _) (and_pick _ _) (and_pick _ _)

-- ---- none is broken
-- all of them hold
pub record Holds (r : ReleaseRules) : Type 0 where
  pub tenants : r.tenants ≡ true
  pub few : r.few ≡ true
  pub lengths : r.lengths ≡ true
  pub once : r.once ≡ true
  pub times : r.times ≡ true
  pub layout : r.layout ≡ true

none_broken : (r : ReleaseRules) → broken_release r ≡ 0 → Holds r
unfolding broken_release first_release
none_broken r e =
    let n = pick_zero_last (first_release r) 19 r.layout (omega arith) e in
    let a = pick_zero r.tenants _ 14 (omega arith) n.0 in
    let b = pick_zero r.few _ 15 (omega arith) a.1 in
    let c = pick_zero r.lengths _ 16 (omega arith) b.1 in
    let d = pick_zero r.once _ 17 (omega arith) c.1 in
    let f = pick_zero r.times _ 18 (omega arith) d.1 in
    record { tenants = a.0; few = b.0; lengths = c.0; once = d.0; times = f.0; layout = n.1 }

all_hold : (r : ReleaseRules) → Holds r → broken_release r ≡ 0
unfolding broken_release first_release pick
all_hold r v = ap broken_release (six v.tenants v.few v.lengths v.once v.times v.layout)

module _ (s : State) (t : LeaseTable) (m : Memory) where
  pub memory_each : memory_b s t m ≡ true → (h : ℕ) → h < 8 → Holds (rules_at (tenants_in s) s.clock h (own_leases t h) (releases_at m h))
  unfolding memory_b broken_memory release_rules_of rules_to rules_at
  memory_each e h p =
      let v = none_broken (release_rules_of s t m) (eqb-true _ 0 e) in
      record {
        tenants = to_each _ 8 v.tenants h p;
        few = to_each _ 8 v.few h p;
        lengths = to_each _ 8 v.lengths h p;
        once = to_each _ 8 v.once h p;
        times = to_each _ 8 v.times h p;
        layout = to_each _ 8 v.layout h p;
      }

  pub each_memory : ((h : ℕ) → h < 8 → Holds (rules_at (tenants_in s) s.clock h (own_leases t h) (releases_at m h))) → memory_b s t m ≡ true
  unfolding memory_b broken_memory release_rules_of rules_to rules_at
  each_memory f =
      eq-eqb _ 0 (all_hold (release_rules_of s t m) (record {
        tenants = each_to _ 8 (λ h p. (f h p).tenants);
        few = each_to _ 8 (λ h p. (f h p).few);
        lengths = each_to _ 8 (λ h p. (f h p).lengths);
        once = each_to _ 8 (λ h p. (f h p).once);
        times = each_to _ 8 (λ h p. (f h p).times);
        layout = each_to _ 8 (λ h p. (f h p).layout);
      }))

-- ---- the loop over the tenants
pub record MemoryInv (s : State) (t : LeaseTable) (m : Memory) (n : ℕ) (all : ReleaseRules) (h : ℕ) : Type 0 where
  pub within : h ≤ 8
  pub whole : all ≡ rules_to (tenants_in s) s.clock t m h
  pub tenants : n ≡ tenants_in s

pub memory_start : {s : State} {t : LeaseTable} {m : Memory} {n : ℕ} {all : ReleaseRules} → n ≡ tenants_in s → all ≡ no_rules → MemoryInv s t m n all 0
memory_start {s} {t} {m} e p = record { within = omega arith; whole = p ∙ sym (rules_none (tenants_in s) s.clock t m); tenants = e }

module _ {s : State} {t : LeaseTable} {m : Memory} {n : ℕ} {all : ReleaseRules} {h : ℕ} (v : MemoryInv s t m n all h) where
  -- d is what the code's element is past the end; the leases are any that give the same rules
  pub memory_next : (own : TenantLeases) (d : TenantReleases) {r : ReleaseRules} → length m.releases ≡ 8 → h < 8
      → ((n clock : ℕ) → rules_at n clock h (in_use own) (get_or m.releases h d) ≡ rules_at n clock h (own_leases t h) (get_or m.releases h d))
      → r ≡ both_rules all (rules_at n s.clock h (in_use own) (get_or m.releases h d)) → MemoryInv s t m n r (h + 1)
  memory_next own d {r} e g f p =
      let c : ℕ = s.clock in
      let k : ℕ = tenants_in s in
      record {
        within = omega arith;
        whole =
            p ∙ ap₂ both_rules v.whole
            (f n c ∙ ap (λ (q : TenantReleases). rules_at n c h (own_leases t h) q) (at_in m.releases 8 h d (laid_releases []) e g)
            ∙ ap (λ (x : ℕ). rules_at x c h (own_leases t h) (releases_at m h)) v.tenants)
            ∙ sym (ap (rules_to k c t m) (add-one h) ∙ rules_more k c t m h);
        tenants = v.tenants;
      }

  pub memory_whole : 8 ≤ h → all ≡ release_rules_of s t m
  unfolding release_rules_of
  memory_whole g =
      let e : h ≡ 8 = omega (arith, v.within) in
      v.whole ∙ ap (rules_to (tenants_in s) s.clock t m) e

pub ruleset memories = (memory_start, memory_next, memory_whole, unmapped)

-- whether none is broken
pub memory_sound : (s : State) (t : LeaseTable) (m : Memory) {all : ReleaseRules} {x : ℕ} → all ≡ release_rules_of s t m → x ≡ broken_release all → eqb x 0 ≡ memory_b s t m
unfolding memory_b broken_memory
memory_sound s t m e p = ap (λ (x : ℕ). eqb x 0) (p ∙ ap broken_release e)

-- of a table that the code reads
pub own_rules : (t : LeaseTable) (h : ℕ) (d : TenantLeases) (q : TenantReleases) → length t.tenants ≡ 8 → h < 8
    → (n clock : ℕ) → rules_at n clock h (in_use (get_or t.tenants h d)) q ≡ rules_at n clock h (own_leases t h) q
own_rules t h d q e g n clock = ap (λ (x : TenantLeases). rules_at n clock h (in_use x) q) (at_in t.tenants 8 h d (laid_out []) e g)
