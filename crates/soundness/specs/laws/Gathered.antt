-- Laws: a tenant's rules and sets gathered in one loop; leases on addresses of their own are compatible.
use Rattle.std.specs.Prelude.{ℕ, zero, suc, ◌+◌, ◌-◌, ◌^◌, ◌≤◌, ◌<◌, min, ◌≡◌, Bool, ◌&&◌, List, [], ◌∷◌, leb, ltb, length, take, get_or}
use Rattle.std.proofs.Math.Path.{refl, ap}
use Rattle.std.proofs.Common.{sym, ap₂, ◌∙◌}
use Rattle.std.proofs.Math.Bool.{true, false}
use native.Mathlib.Omega.{arith}
use Rattle.std.specs.Int.Bits.{bit_or}
use Rattle.std.proofs.Math.ListN.{get_or-eq_default}
use borrow.Author.Tests.{ltb-true, leb-true}
use Rattle.lists.specs.Pick.{pick}
use Rattle.lists.specs.Fold.{fold}
use Rattle.lists.specs.All.{all_by, pairs_by}
use Rattle.lists.specs.laws.All.{all_cons, all_both, pairs_cons}
use Rattle.lists.specs.Next.{next_by}
use Rattle.lists.specs.laws.Rest.{next_first, next_within}
use Rattle.lists.specs.laws.Both.{and_parts, and_both}
use Rattle.address_set.specs.AddressSet.{bit, set_of, up_to}
use Rattle.address_set.specs.laws.Bits.{or_bit}
use Rattle.state.specs.declared.Lease.{Lease}
use Rattle.state.specs.declared.TenantLeases.{TenantLeases}
use Rattle.state.specs.declared.Scope.{Scope}
use Rattle.state.specs.declared.State.{State}
use Rattle.state.specs.Book.{differ, in_use, in_scope, overlaps, added_if, ordered, scope_at, until, zero_scope}
use Rattle.state.proofs.Sorted.{early, rising}
use Rattle.soundness.specs.declared.Held.{Held}
use Rattle.soundness.specs.declared.TenantRules.{TenantRules}
use Rattle.soundness.specs.declared.Gathered.{Gathered}
use Rattle.soundness.specs.declared.Checked.{Checked}
use Rattle.soundness.specs.declared.Pass.{Pass}
use Rattle.soundness.specs.Sound.{one_to, disjoint, compatible, below_b, scope_of, id_b, offsets_b, lease_b, padded_b, hold_b}
use Rattle.soundness.specs.Parts.{set_at, pool_in, pools_of, added_sets, fresh_in, fresh_all, empty_sets, added_lease, none_gathered, gathered_of, Passed, checked_of}
use Rattle.soundness.specs.laws.Code.{and_assoc, and_true_r, and_more, pool_is, held_are, tenant_is}
use Rattle.soundness.specs.laws.Kept.{disjoint_less}

-- ---- leases on addresses of their own
set_added : (h : Held) (l : Lease) (k : ℕ) → k < 4 → set_at (added_sets h l) k ≡ added_if (in_scope (k + 1)) (set_at h k) l
unfolding added_sets
set_added h l zero p = refl
set_added h l (suc zero) p = refl
set_added h l (suc (suc zero)) p = refl
set_added h l (suc (suc (suc zero))) p = refl
set_added h l (suc (suc (suc (suc k)))) p = absurd (omega arith)

more : (b : Bool) (sum m n : ℕ) → bit sum n ≤ bit (pick b (bit_or sum m) sum) n
unfolding pick
more true sum m n = let q = or_bit sum m n in omega arith
more false sum m n = omega arith

all_of : (b : Bool) → b ≡ true → (sum m n : ℕ) → bit m n ≤ bit (pick b (bit_or sum m) sum) n
unfolding pick
all_of true e sum m n = let q = or_bit sum m n in omega arith
all_of false e sum m n = absurd (let z : ◌≡◌ {A = ℕ} 0 1 = cc in omega arith)

module _ (h : Held) (x y : Lease) (e : fresh_in (added_sets h x) y ≡ true) where
  known : one_to 4 y.scope ≡ true
  unfolding fresh_in
  known = (and_parts (one_to 4 y.scope) (disjoint (set_at (added_sets h x) (y.scope - 1)) y.addresses) e).0

  low : (1 ≤ y.scope) × (y.scope ≤ 4)
  unfolding one_to
  low = let p = and_parts (leb 1 y.scope) (leb y.scope 4) known in (leb-true 1 y.scope p.0, leb-true y.scope 4 p.1)

  free : disjoint (added_if (in_scope y.scope) (set_at h (y.scope - 1)) x) y.addresses ≡ true
  unfolding fresh_in
  free =
      let p = low in
      let q : y.scope - 1 + 1 ≡ y.scope = omega arith in
      ap (λ (m : ℕ). disjoint m y.addresses) (sym (set_added h x (y.scope - 1) (omega arith) ∙ ap (λ (k : ℕ). added_if (in_scope k) (set_at h (y.scope - 1)) x) q))
      ∙ (and_parts (one_to 4 y.scope) (disjoint (set_at (added_sets h x) (y.scope - 1)) y.addresses) e).1

  still : fresh_in h y ≡ true
  unfolding fresh_in added_if
  still =
      and_both known
      (disjoint_less (added_if (in_scope y.scope) (set_at h (y.scope - 1)) x) y.addresses (set_at h (y.scope - 1)) y.addresses
      (more (in_scope y.scope x) (set_at h (y.scope - 1)) x.addresses) (λ n. omega arith) free)

  with_it : compatible x y ≡ true
  unfolding compatible pick added_if
  with_it = go (in_scope y.scope x) refl
    where
      last : (c : Bool) → pick c true true ≡ true
      last true = refl
      last false = refl

      go : (c : Bool) → in_scope y.scope x ≡ c → pick c (pick (overlaps y.start y.end x) (disjoint x.addresses y.addresses) true) true ≡ true
      go false p = refl
      go true p =
          ap (λ (c : Bool). pick (overlaps y.start y.end x) c true)
          (disjoint_less (added_if (in_scope y.scope) (set_at h (y.scope - 1)) x) y.addresses x.addresses y.addresses
          (all_of (in_scope y.scope x) p (set_at h (y.scope - 1)) x.addresses) (λ n. omega arith) free)
          ∙ last (overlaps y.start y.end x)

-- with each other, and none of them on an address that h has
fresh_parts : (h : Held) (ls : List Lease) → fresh_all h ls ≡ true → (all_by (fresh_in h) ls ≡ true) × (pairs_by compatible ls ≡ true)
unfolding fresh_all all_by pairs_by
fresh_parts h [] e = (refl, refl)
fresh_parts h (x ∷ ls) e =
    let p = and_parts (fresh_in h x) (fresh_all (added_sets h x) ls) e in
    let q = fresh_parts (added_sets h x) ls p.1 in (
      all_cons (fresh_in h) x ls p.0 (all_both (fresh_in (added_sets h x)) (fresh_in (added_sets h x)) (fresh_in h) ls (λ y a b. still h x y a) q.0 q.0),
      pairs_cons compatible x ls (all_both (fresh_in (added_sets h x)) (fresh_in (added_sets h x)) (compatible x) ls (λ y a b. with_it h x y a) q.0 q.0) q.1,
    )

pub fresh_compatible : (h : Held) (ls : List Lease) {r : Bool} → r ≡ fresh_all h ls → r ≡ true → true ≡ pairs_by compatible ls
fresh_compatible h ls e y = sym (fresh_parts h ls (sym e ∙ y)).1

-- ---- the loop
gathered_same : {a a' b b' c c' o o' d d' e e' : Bool} {h h' : Held} → a ≡ a' → b ≡ b' → c ≡ c' → o ≡ o' → d ≡ d' → h ≡ h' → e ≡ e'
    → ◌≡◌ {A = Gathered} (record { ids = a; offsets = b; leases = c; holds = o; padded = d; held = h; apart = e })
    (record { ids = a'; offsets = b'; leases = c'; holds = o'; padded = d'; held = h'; apart = e' })
gathered_same p q r t u v w = cc

gathered_from : (s : State) (g : Gathered) (ls : List Lease)
    → fold (added_lease s) g ls
    ≡ record {
      ids = g.ids && all_by id_b ls;
      offsets = g.offsets && all_by (offsets_b s) ls;
      leases = g.leases && all_by (lease_b s) ls;
      holds = g.holds && all_by (hold_b s.clock) ls;
      padded = g.padded && all_by padded_b ls;
      held = fold added_sets g.held ls;
      apart = g.apart && fresh_all g.held ls;
    }
unfolding added_lease fresh_all all_by
gathered_from s g [] = sym (gathered_same (and_true_r g.ids) (and_true_r g.offsets) (and_true_r g.leases) (and_true_r g.holds) (and_true_r g.padded) refl (and_true_r g.apart))
gathered_from s g (l ∷ ls) =
    gathered_from s (added_lease s g l) ls
    ∙ gathered_same (and_more g.ids (id_b l) (all_by id_b ls)) (and_more g.offsets (offsets_b s l) (all_by (offsets_b s) ls)) (and_more g.leases (lease_b s l) (all_by (lease_b s) ls))
    (and_more g.holds (hold_b s.clock l) (all_by (hold_b s.clock) ls))
    (and_more g.padded (padded_b l) (all_by padded_b ls)) refl (and_assoc g.apart (fresh_in g.held l) (fresh_all (added_sets g.held l) ls))

pub gathered_are : (s : State) (t : TenantLeases) → fold (added_lease s) (none_gathered t.count) (in_use t) ≡ gathered_of s t
unfolding gathered_of none_gathered
gathered_are s t =
    gathered_from s _ (in_use t) ∙ gathered_same refl refl refl refl refl (held_are t) refl

-- ---- the turns of the code
pools_at : (s : State) (k : ℕ) → length s.scopes ≡ 4 → get_or (pools_of s) k 0 ≡ pool_in s k
unfolding pools_of set_of up_to
pools_at s zero e = refl
pools_at s (suc zero) e = refl
pools_at s (suc (suc zero)) e = refl
pools_at s (suc (suc (suc zero))) e = refl
pools_at s (suc (suc (suc (suc k)))) e =
    sym (ap (λ (c : Scope). set_of (up_to (min c.size 64))) (get_or-eq_default s.scopes zero_scope {n = suc (suc (suc (suc k)))} (omega arith)))

pub pool_in_law : (s : State) (l : Lease) (pools : List ℕ) (k pool : ℕ) → length s.scopes ≡ 4 → pools ≡ pools_of s → l.addresses < 2 ^ 64 → k ≡ l.scope - 1 → pool ≡ get_or pools k 0
    → leb l.addresses pool ≡ below_b (scope_of s l).size l.addresses
pool_in_law s l pools k pool n e h ek ep =
    pool_is s l k pool (scope_at s k) h ek refl (ep ∙ ap (λ (p : List ℕ). get_or p k 0) e ∙ pools_at s k n)

pub fresh_is : (h : Held) (l : Lease) (k m : ℕ) {a b r : Bool} → k ≡ l.scope - 1 → m ≡ get_or h.sets k 0 → a ≡ disjoint m l.addresses → b ≡ one_to 4 l.scope → r ≡ (b && a) → r ≡ fresh_in h l
unfolding fresh_in
fresh_is h l k m ek em ea eb er =
    er ∙ ap₂ (λ (x y : Bool). x && y) eb (ea ∙ ap (λ (x : ℕ). disjoint x l.addresses) (em ∙ ap (λ (x : ℕ). get_or h.sets x 0) ek))

pub lease_added : (s : State) (g : Gathered) (l : Lease) {a b c k d e f i o u w p : Bool} {h : Held}
    → i ≡ id_b l → o ≡ offsets_b s l → u ≡ lease_b s l → w ≡ hold_b s.clock l → p ≡ padded_b l → f ≡ fresh_in g.held l → h ≡ added_sets g.held l
    → a ≡ (g.ids && i) → b ≡ (g.offsets && o) → c ≡ (g.leases && u) → k ≡ (g.holds && w) → d ≡ (g.padded && p) → e ≡ (g.apart && f)
    → ◌≡◌ {A = Gathered} (record { ids = a; offsets = b; leases = c; holds = k; padded = d; held = h; apart = e }) (added_lease s g l)
unfolding added_lease
lease_added s g l ei eo eu ew ep ef eh a b c k d e =
    gathered_same (a ∙ ap (λ (x : Bool). g.ids && x) ei) (b ∙ ap (λ (x : Bool). g.offsets && x) eo) (c ∙ ap (λ (x : Bool). g.leases && x) eu) (k ∙ ap (λ (x : Bool). g.holds && x) ew) (d ∙ ap (λ (x : Bool). g.padded && x) ep) eh
    (e ∙ ap (λ (x : Bool). g.apart && x) ef)

-- ---- ends that rise
swift_yes : (a b : Lease) → ltb (until a) (until b) ≡ true → ordered a b ≡ true
swift_yes a b e = early a b (ltb-true (until a) (until b) e)

pub swift_rises : (l : List Lease) (x k n : ℕ) {r : Bool} → r ≡ next_by (λ a b. ltb (until a) (until b)) (take n l) → n ≡ min x k → length l ≡ k → r ≡ true → true ≡ pairs_by ordered (take x l)
swift_rises l x k n e c g = next_first ordered rising.trans l x k n c g (λ a b. ltb (until a) (until b)) swift_yes e

pub rises_within : (l : List Lease) (x k n : ℕ) {r : Bool} → r ≡ next_by ordered (take n l) → n ≡ min x k → length l ≡ k → r ≡ pairs_by ordered (take x l)
rises_within l x k n e c g = next_within ordered rising.trans l x k n c g e

-- ---- one tenant
pub gathered_apart : (s : State) (t : TenantLeases) (p : Pass) → Passed s t p → p.gathered.apart ≡ fresh_all (empty_sets t.count) (in_use t)
unfolding gathered_of
gathered_apart s t p v = ap (λ (x : Gathered). x.apart) v.gathers

pub tenant_checked : (s : State) (t : TenantLeases) (o : Pass) {rising p r v u w : Bool} → Passed s t o → rising ≡ pairs_by ordered (in_use t)
    → p ≡ (leb t.count 16 && o.gathered.ids) → r ≡ pairs_by differ (in_use t) → v ≡ pairs_by compatible (in_use t)
    → u ≡ (o.gathered.padded && o.unused) → w ≡ (rising && u)
    → ◌≡◌ {A = Checked} (record { rules = record { records = p; offsets = o.gathered.offsets; leases = o.gathered.leases; holds = o.gathered.holds; identifiers = r; periods = v; layout = w }; held = o.gathered.held })
    (checked_of s t)
unfolding checked_of gathered_of
tenant_checked s t o {rising = rising} y er p r v u w =
    let e = y.gathers in
    ap₂ {C = Checked} (λ (a : TenantRules) (b : Held). record { rules = a; held = b })
    (tenant_is s t (ap (λ (x : Gathered). x.ids) e) (ap (λ (x : Gathered). x.padded) e) er p (ap (λ (x : Gathered). x.offsets) e) (ap (λ (x : Gathered). x.leases) e) (ap (λ (x : Gathered). x.holds) e) r v
    (w ∙ ap (λ (x : Bool). rising && x) (u ∙ ap (λ (x : Bool). o.gathered.padded && x) y.rest)))
    (ap (λ (x : Gathered). x.held) e)
