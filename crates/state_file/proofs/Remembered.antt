-- Laws: what a sound memory says of its section of the file: the section can be written and held, it gives the releases back, and how long it is at most.
use mathlib.Core.Bool.{◌&&◌, true}
use mathlib.Core.List.{List, [], ◌∷◌}
use mathlib.Core.Path.{◌∙◌, ◌≡◌, ap, ap₂, refl}
use Prim.Native.Nat.{◌-◌, ◌<◌, ◌≤◌, suc, ℕ}
use native.Mathlib.Omega.{arith}
use lib.Dec.{leb}
use lib.ListN.{drop, get_or, length, length-drop, replicate}
use borrow.Author.Tests.{eqb-true, leb-true}
use Rattle.lists.specs.All.{All, all_by, pairs_by}
use Rattle.lists.specs.laws.All.{all_drop, all_facts, all_head, all_take, one_fact, two_facts}
use Rattle.lists.specs.laws.Both.{and_parts}
use Rattle.release_file.specs.Section.{filed_memory, memory_octets, releases_fit_b, releases_format, stored_memory}
use Rattle.release_file.specs.laws.Memory.{NeatRelease, NeatReleases, OctetRelease, OldestFirst, ShortReleases, memory_back, memory_fits, memory_most, memory_ok}
use Rattle.releases.specs.Rules.{few_b, filled_b, laid_b, length_b, memory_b, older, rules_at, unused_r}
use Rattle.releases.specs.laws.Tenants.{Holds, memory_each}
use Rattle.state.specs.Book.{laid_releases, remembered, zero_release}
use Rattle.state.specs.declared.Lease.{Lease}
use Rattle.state.specs.declared.LeaseTable.{LeaseTable}
use Rattle.state.specs.declared.Memory.{Memory}
use Rattle.state.specs.declared.Release.{Release}
use Rattle.state.specs.declared.State.{State}
use Rattle.state.specs.declared.TenantReleases.{TenantReleases}
use Rattle.state_file.proofs.Zeros.{zero_tail, zero_whole}
use Rattle.state_file.specs.Typed.{TypedRelease, TypedReleases}

-- what holds at every place holds of all
all_places : {A : Type 0} (P : A → Type 0) (d : A) (l : List A) → ((i : ℕ) → i < length l → P (get_or l i d)) → All P l
unfolding All
all_places P d [] f = tt
all_places P d (x ∷ l) f = (f 0 (omega arith), all_places P d l (λ i h. f (suc i) (omega arith)))

-- ---- one tenant's entries
-- of the rules, those that its part of the section rests on
record Kept (q : TenantReleases) : Type 0 where
  few : q.count ≤ 4
  lengths : all_by length_b (remembered q) ≡ true
  rising : pairs_by older (remembered q) ≡ true
  padded : all_by filled_b (remembered q) ≡ true
  unused : all_by unused_r (drop q.count q.releases) ≡ true

kept_of : (n clock h : ℕ) (ls : List Lease) (q : TenantReleases) → Holds (rules_at n clock h ls q) → Kept q
unfolding rules_at few_b laid_b
kept_of n clock h ls q v =
    let p = and_parts (pairs_by older (remembered q)) (all_by filled_b (remembered q) && all_by unused_r (drop q.count q.releases)) v.layout in
    let r = and_parts (all_by filled_b (remembered q)) (all_by unused_r (drop q.count q.releases)) p.1 in
    record { few = leb-true q.count 4 v.few; lengths = v.lengths; rising = p.0; padded = r.0; unused = r.1 }

length_most : (r : Release) → length_b r ≡ true → r.id_len ≤ 32
unfolding length_b
length_most r e = leb-true _ _ (and_parts (leb 2 r.id_len) (leb r.id_len 32) e).1

release_zero : (r : Release) → length r.id ≡ 32 → unused_r r ≡ true → r ≡ zero_release
unfolding unused_r
release_zero r v e =
    let p = and_parts _ _ e in
    let q = and_parts _ _ p.1 in
    let t = and_parts _ _ q.1 in
    let e1 : r.id_len ≡ 0 = eqb-true _ _ p.0 in
    let e2 : r.xid ≡ 0 = eqb-true _ _ q.0 in
    let e3 : r.time ≡ 0 = eqb-true _ _ t.0 in
    let e4 : r.id ≡ replicate 32 0 = zero_whole 32 r.id v t.1 in
    ap₂ (λ (n : ℕ) (i : List ℕ). make n i r.xid r.time) e1 e4 ∙ ap₂ (make 0 (replicate 32 0)) e2 e3
  where
    make : ℕ → List ℕ → ℕ → ℕ → Release
    make n i x t = record { id_len = n; id = i; xid = x; time = t }

releases_zero : (l : List Release) → All TypedRelease l → all_by unused_r l ≡ true → l ≡ replicate (length l) zero_release
unfolding All
releases_zero [] v e = refl
releases_zero (x ∷ l) v e =
    let p = all_head unused_r x l e in
    ap₂ {C = List Release} (λ (y : Release) (r : List Release). y ∷ r) (release_zero x v.0.long p.0) (releases_zero l v.1 p.1)

module _ (q : TenantReleases) where
  kept_short : Kept q → ShortReleases q
  kept_short v = record { few = v.few; ids = all_facts length_b (λ r. r.id_len ≤ 32) (remembered q) length_most v.lengths }

  kept_neat : TypedReleases q → Kept q → NeatReleases q
  unfolding filled_b
  kept_neat t v = record {
    long = t.long;
    few = v.few;
    each = two_facts (λ r. (TypedRelease r) × (r.id_len ≤ 32)) (λ r. filled_b r ≡ true) NeatRelease (remembered q)
        (λ r p z. record { long = p.0.long; short = p.1; zeros = zero_tail r.id_len 32 r.id p.0.long z })
        (two_facts TypedRelease (λ r. r.id_len ≤ 32) (λ r. (TypedRelease r) × (r.id_len ≤ 32)) (remembered q) (λ r x y. (x, y))
        (all_take TypedRelease q.count q.releases t.each) (kept_short v).ids)
        (all_facts filled_b (λ r. filled_b r ≡ true) (remembered q) (λ r z. z) v.padded);
    unused = releases_zero (drop q.count q.releases) (all_drop TypedRelease q.count q.releases t.each) v.unused
        ∙ ap (λ (k : ℕ). replicate k zero_release) (length-drop q.count q.releases ∙ ap (λ (k : ℕ). k - q.count) t.long);
  }

  kept_oldest : TypedReleases q → Kept q → OldestFirst q
  unfolding older
  kept_oldest t v = record {
    each = one_fact TypedRelease OctetRelease (remembered q) (λ r x. record { id = x.id; xid = x.xid; time = x.time }) (all_take TypedRelease q.count q.releases t.each);
    rising = v.rising;
  }

-- ---- all tenants'
module _ (s : State) (t : LeaseTable) (m : Memory) (w : memory_b s t m ≡ true) where
  kept : length m.releases ≤ 8 → All Kept m.releases
  kept h = all_places Kept (laid_releases []) m.releases (λ i g. kept_of _ _ _ _ _ (memory_each s t m w i (omega arith)))

  pub memory_short : length m.releases ≤ 8 → length (memory_octets m) ≤ 1345
  memory_short h = memory_most m h (one_fact Kept ShortReleases m.releases kept_short (kept h))

  module _ (eight : length m.releases ≡ 8) (v : All TypedReleases m.releases) where
    neat : All NeatReleases m.releases
    neat = two_facts TypedReleases Kept NeatReleases m.releases kept_neat v (kept (omega arith))

    pub memory_same : (stored_memory (filed_memory m)).releases ≡ m.releases
    memory_same = memory_back m eight neat

    pub memory_held : releases_fit_b (filed_memory m) ≡ true
    memory_held = memory_fits m eight neat

    pub memory_written : releases_format.ok (filed_memory m)
    memory_written = memory_ok m eight neat (two_facts TypedReleases Kept OldestFirst m.releases kept_oldest v (kept (omega arith)))
