-- Laws: what is remembered of the releases that the walk keeps: those that break no rule; and it is sound.
use mathlib.Core.Bool.{Bool, false, true, ◌&&◌, ◌||◌}
use mathlib.Core.List.{List, [], ◌++◌, ◌∷◌, map, map-append}
use mathlib.Core.Path.{◌∙◌, ◌≡◌, ap, ap₂, refl, sym}
use Prim.Native.Nat.{◌+◌, ◌-◌, ◌<◌, ◌≤◌, suc, zero, ℕ}
use native.Mathlib.Omega.{arith}
use lib.Dec.{eqb, leb, ltb}
use lib.ListN.{get_or, get_or-replicate, length, length-map, length-set, replicate, set, get_or-map}
use lib.Seq.{drop_at, ext_get_or, get_or-set_other, get_or-set_same}
use borrow.Author.Tests.{eq-eqb, eqb-false, eqb-true, le-leb, le-ltb, leb-true, ltb-false, ltb-true}
use Rattle.lists.specs.All.{all_by, all_to, pairs_by}
use Rattle.lists.specs.Filter.{filter_by}
use Rattle.lists.specs.Pick.{pick}
use Rattle.lists.specs.laws.All.{all_any, all_both, all_cons, all_map, each_to, pairs_cons, pairs_map, to_each}
use Rattle.lists.specs.laws.Both.{and_both, and_parts}
use Rattle.lists.specs.laws.Each.{map_set}
use Rattle.lists.specs.laws.Pick.{neither, pick_not_lt, pick_zero}
use Rattle.format.specs.Section.{ordered_from}
use Rattle.format.specs.Tenants.{apart, own}
use Rattle.format.specs.laws.Tenants.{apart_at}
use Rattle.occupancy.specs.Board.{no_board}
use Rattle.state.specs.Book.{laid_releases, pushed_release, put_releases, releases_at, remembered, zero_release}
use Rattle.state.specs.declared.LeaseTable.{LeaseTable}
use Rattle.state.specs.declared.Memory.{Memory}
use Rattle.state.specs.declared.State.{State}
use Rattle.state.specs.declared.TenantReleases.{TenantReleases}
use Rattle.state.specs.laws.Layout.{push_release_laid, releases_back}
use Rattle.soundness.specs.Sound.{id_length_b, tenants_in, zero_from}
use Rattle.releases.specs.Rules.{broken_memory, broken_release, few_b, filled_b, first_release, tenant_b, laid_b, length_b, memory_b, older, once_b, own_leases, past_b, release_rules_of, rules_to, unused_r}
use Rattle.releases.specs.declared.ReleaseRules.{ReleaseRules}
use Rattle.release_file.specs.Section.{FileRelease, few_for, keepable_b, release_after, release_key, release_tenant, releases_fit_b, stored_memory, stored_release}
use Rattle.state_file.specs.File.{File}
use Rattle.state_file.specs.Records.{stored_state}
use Rattle.state_file.specs.StateFile.{zero_memory}
use Rattle.salvage_rules.specs.Rules.{known_tenant, release_rule, with_release}
use Rattle.salvage_rules.specs.laws.Rules.{tenant_facts}
use Rattle.salvage_walk.specs.Walk.{records_kept, release_rules, releases_kept}
use Rattle.salvage_laws.specs.Statement.{kept_ones}
use Rattle.salvage_laws.proofs.Chosen.{walk_holds}
use Rattle.salvage_laws.proofs.Records.{all_more, or_last, zeros_past}
use Rattle.salvage_laws.proofs.Table.{own_less, own_more}

-- ---- one release more
apart_long : (n t : ℕ) (rs : List FileRelease) → length (apart release_tenant t n rs) ≡ n
unfolding apart
apart_long zero t rs = refl
apart_long (suc n) t rs = ap suc (apart_long n (suc t) rs)

module _ (rs : List FileRelease) (x : FileRelease) (h : ℕ) (small : h < 8) (e : x.tenant ≡ h + 1) where
  apart_more : apart release_tenant 1 8 (rs ++ x ∷ []) ≡ set (apart release_tenant 1 8 rs) h (get_or (apart release_tenant 1 8 rs) h [] ++ x ∷ [])
  apart_more =
      ext_get_or [] (apart release_tenant 1 8 (rs ++ x ∷ [])) (set (apart release_tenant 1 8 rs) h (get_or (apart release_tenant 1 8 rs) h [] ++ x ∷ []))
      (apart_long 8 1 (rs ++ x ∷ []) ∙ sym (length-set (apart release_tenant 1 8 rs) h (get_or (apart release_tenant 1 8 rs) h [] ++ x ∷ []) ∙ apart_long 8 1 rs)) at
    where
      at : (i : ℕ) → i < length (apart release_tenant 1 8 (rs ++ x ∷ [])) → get_or (apart release_tenant 1 8 (rs ++ x ∷ [])) i [] ≡ get_or (set (apart release_tenant 1 8 rs) h (get_or (apart release_tenant 1 8 rs) h [] ++ x ∷ [])) i []
      at i p = go (eqb i h) refl
        where
          below : i < 8
          below = let k = apart_long 8 1 (rs ++ x ∷ []) in omega arith

          go : (c : Bool) → eqb i h ≡ c → get_or (apart release_tenant 1 8 (rs ++ x ∷ [])) i [] ≡ get_or (set (apart release_tenant 1 8 rs) h (get_or (apart release_tenant 1 8 rs) h [] ++ x ∷ [])) i []
          go true f =
              let q : i ≡ h = eqb-true i h f in
              apart_at release_tenant 8 1 i (rs ++ x ∷ []) below ∙ ap (λ (k : ℕ). own release_tenant (k + 1) (rs ++ x ∷ [])) q ∙ own_more release_tenant (h + 1) rs x e
              ∙ ap (λ (l : List FileRelease). l ++ x ∷ []) (sym (apart_at release_tenant 8 1 h rs small))
              ∙ sym (get_or-set_same (apart release_tenant 1 8 rs) h (get_or (apart release_tenant 1 8 rs) h [] ++ x ∷ []) [] (let k = apart_long 8 1 rs in omega arith))
              ∙ ap (λ (k : ℕ). get_or (set (apart release_tenant 1 8 rs) h (get_or (apart release_tenant 1 8 rs) h [] ++ x ∷ [])) k []) (sym q)
          go false f =
              let n : i ≡ h → ⊥ = eqb-false i h f in
              apart_at release_tenant 8 1 i (rs ++ x ∷ []) below ∙ own_less release_tenant (i + 1) rs x (λ z. n (let y : i ≡ h = omega arith in y)) ∙ sym (apart_at release_tenant 8 1 i rs below)
              ∙ sym (get_or-set_other (apart release_tenant 1 8 rs) h i (get_or (apart release_tenant 1 8 rs) h [] ++ x ∷ []) [] n)

pub tenant_releases : (rs : List FileRelease) (h : ℕ) → releases_at (stored_memory rs) h ≡ laid_releases (map stored_release (get_or (apart release_tenant 1 8 rs) h []))
unfolding stored_memory
tenant_releases rs h = get_or-map laid_releases (map (map stored_release) (apart release_tenant 1 8 rs)) h [] ∙ ap laid_releases (get_or-map (map stored_release) (apart release_tenant 1 8 rs) h [])

pub memory_more : (rs : List FileRelease) (x : FileRelease) (h : ℕ) → h < 8 → x.tenant ≡ h + 1 → (releases_at (stored_memory rs) h).count < 4 → with_release (stored_memory rs) x ≡ stored_memory (rs ++ x ∷ [])
unfolding with_release stored_memory laid_releases
memory_more rs x h small e few =
    let A : List (List FileRelease) = apart release_tenant 1 8 rs in
    let q : x.tenant - 1 ≡ h = omega arith in
    let c = ap (λ (z : TenantReleases). z.count) (tenant_releases rs h) in
    let pushed : pushed_release (releases_at (stored_memory rs) h) (stored_release x) ≡ laid_releases (map stored_release (get_or (apart release_tenant 1 8 rs) h [] ++ x ∷ [])) =
    ap (λ (z : TenantReleases). pushed_release z (stored_release x)) (tenant_releases rs h)
    ∙ push_release_laid (map stored_release (get_or (apart release_tenant 1 8 rs) h [])) (stored_release x) (let k : length (map stored_release (get_or (apart release_tenant 1 8 rs) h [])) < 4 = omega arith in k)
    ∙ ap laid_releases (sym (map-append stored_release (get_or (apart release_tenant 1 8 rs) h []) (x ∷ []))) in
    ap (λ (k : ℕ). put_releases (stored_memory rs) k (pushed_release (releases_at (stored_memory rs) k) (stored_release x))) q
    ∙ ap (put_releases (stored_memory rs) h) pushed
    ∙ ap {B = Memory} (λ (l : List TenantReleases). record { releases = l; board = no_board })
    (map_set laid_releases (map (map stored_release) (apart release_tenant 1 8 rs)) h (map stored_release (get_or (apart release_tenant 1 8 rs) h [] ++ x ∷ []))
    ∙ ap (map laid_releases) (map_set (map stored_release) (apart release_tenant 1 8 rs) h (get_or (apart release_tenant 1 8 rs) h [] ++ x ∷ []))
    ∙ ap (λ (l : List (List FileRelease)). map laid_releases (map (map stored_release) l)) (sym (apart_more rs x h small e)))

-- ---- what the walk keeps
pub record Remembers (st : State) (b : LeaseTable) (rs : List FileRelease) (m : Memory) : Type 0 where
  pub memory : m ≡ stored_memory rs
  pub rules : first_release (release_rules_of st b m) ≡ 0
  pub each : all_by keepable_b rs ≡ true

pub release_kept_on : (st : State) (b : LeaseTable) (rs : List FileRelease) (m : Memory) (x : FileRelease) → Remembers st b rs m → release_rule st b m x ≡ 0 → Remembers st b (rs ++ x ∷ []) (with_release m x)
unfolding release_rule keepable_b
release_kept_on st b rs m x v e =
    let p = pick_zero (known_tenant st x.tenant) _ 14 (omega arith) e in
    let q = pick_zero (ltb (releases_at m (x.tenant - 1)).count 4) _ 15 (omega arith) p.1 in
    let r = pick_zero (id_length_b (length x.id)) _ 16 (omega arith) q.1 in
    let t = tenant_facts st x.tenant p.0 in
    let f : 1 ≤ x.tenant = t.0 in
    let g : x.tenant ≤ 8 = t.1 in
    let few : (releases_at (stored_memory rs) (x.tenant - 1)).count < 4 = ltb-true _ 4 (ap (λ (y : Memory). ltb (releases_at y (x.tenant - 1)).count 4) (sym v.memory) ∙ q.0) in
    record {
      memory = ap (λ (y : Memory). with_release y x) v.memory ∙ memory_more rs x (x.tenant - 1) (omega arith) (let z : x.tenant ≡ x.tenant - 1 + 1 = omega arith in z) few;
      rules = r.1;
      each =
          all_more keepable_b rs x v.each
          (sym (pick_not_lt false _ true x.tenant 1 f (pick_not_lt false _ true 8 x.tenant g (sym (and_parts (leb 2 (length x.id)) (leb (length x.id) 32) r.0).1))));
    }

tenant_none : (n h : ℕ) → tenant_b n h (laid_releases []) ≡ true
unfolding tenant_b laid_releases
tenant_none n h = or_last (ltb h n)

few_none : few_b (laid_releases []) ≡ true
unfolding few_b laid_releases
few_none = refl

all_none : {A : Type 0} (t : A → Bool) → all_by t [] ≡ true
unfolding all_by
all_none t = refl

once_none : (b : LeaseTable) (h : ℕ) → once_b (own_leases b h) (laid_releases []) ≡ true
unfolding once_b laid_releases pairs_by all_by
once_none b h = refl

-- none at first
module _ (st : State) (b : LeaseTable) where
  zero_at : (h : ℕ) → h < 8 → releases_at zero_memory h ≡ laid_releases []
  zero_at h p = get_or-replicate 8 h (laid_releases []) (laid_releases []) p

  none_remembered : first_release (release_rules_of st b zero_memory) ≡ 0
  unfolding release_rules_of rules_to first_release pick
  none_remembered =
      ap₂ (λ (p q : Bool). pick p (pick q (pick (release_rules_of st b zero_memory).lengths (pick (release_rules_of st b zero_memory).once (pick {A = ℕ} (release_rules_of st b zero_memory).times 0 18) 17) 16) 15) 14) tenants few
      ∙ ap₂ (λ (p q : Bool). pick p (pick q (pick {A = ℕ} (release_rules_of st b zero_memory).times 0 18) 17) 16) lengths once
      ∙ ap (λ (p : Bool). pick {A = ℕ} p 0 18) times
    where
      tenants : all_to (λ h. tenant_b (tenants_in st) h (releases_at zero_memory h)) 8 ≡ true
      tenants = each_to (λ h. tenant_b (tenants_in st) h (releases_at zero_memory h)) 8 (λ h p. ap (tenant_b (tenants_in st) h) (zero_at h p) ∙ tenant_none (tenants_in st) h)

      few : all_to (λ h. few_b (releases_at zero_memory h)) 8 ≡ true
      few = each_to (λ h. few_b (releases_at zero_memory h)) 8 (λ h p. ap few_b (zero_at h p) ∙ few_none)

      lengths : all_to (λ h. all_by length_b (remembered (releases_at zero_memory h))) 8 ≡ true
      lengths = each_to (λ h. all_by length_b (remembered (releases_at zero_memory h))) 8 (λ h p. ap (λ (q : TenantReleases). all_by length_b (remembered q)) (zero_at h p) ∙ ap (all_by length_b) (releases_back []) ∙ all_none length_b)

      once : all_to (λ h. once_b (own_leases b h) (releases_at zero_memory h)) 8 ≡ true
      once = each_to (λ h. once_b (own_leases b h) (releases_at zero_memory h)) 8 (λ h p. ap (once_b (own_leases b h)) (zero_at h p) ∙ once_none b h)

      times : all_to (λ h. all_by (past_b st.clock) (remembered (releases_at zero_memory h))) 8 ≡ true
      times = each_to (λ h. all_by (past_b st.clock) (remembered (releases_at zero_memory h))) 8 (λ h p. ap (λ (q : TenantReleases). all_by (past_b st.clock) (remembered q)) (zero_at h p) ∙ ap (all_by (past_b st.clock)) (releases_back []) ∙ all_none (past_b st.clock))

  pub nothing_kept : Remembers st b [] zero_memory
  unfolding stored_memory apart filter_by all_by
  nothing_kept = record { memory = refl; rules = none_remembered; each = refl }

pub memory_holds : (f : File) → Remembers (stored_state f) (records_kept f) (kept_ones (release_rules f) f.releases) (releases_kept f)
memory_holds f =
    walk_holds (release_rule (stored_state f) (records_kept f)) with_release (λ m rs. Remembers (stored_state f) (records_kept f) rs m) (λ _. Unit {0})
    (λ m rs x k p z. release_kept_on (stored_state f) (records_kept f) rs m x k z)
    zero_memory [] f.releases (nothing_kept (stored_state f) (records_kept f)) (all_any (λ (_ : FileRelease). Unit {0}) (λ x. tt) f.releases)

-- ---- the memory can hold them
rules_parts : (r : ReleaseRules) → first_release r ≡ 0 → r.few ≡ true
unfolding first_release
rules_parts r e = (pick_zero r.few _ 15 (omega arith) (pick_zero r.tenants _ 14 (omega arith) e).1).0

module _ (st : State) (b : LeaseTable) (rs : List FileRelease) (m : Memory) (v : Remembers st b rs m) where
  own_count : (h : ℕ) → h < 8 → (releases_at m h).count ≡ length (own release_tenant (h + 1) rs)
  unfolding laid_releases
  own_count h p =
      ap (λ (y : Memory). (releases_at y h).count) v.memory ∙ ap (λ (q : TenantReleases). q.count) (tenant_releases rs h) ∙ length-map (get_or (apart release_tenant 1 8 rs) h []) stored_release
      ∙ ap length (apart_at release_tenant 8 1 h rs p)

  pub memory_fits : releases_fit_b rs ≡ true
  unfolding releases_fit_b release_rules_of rules_to pick few_for few_b
  memory_fits =
      ap (λ (p : Bool). pick p (all_to (λ i. few_for rs (i + 1)) 8) false) v.each
      ∙ each_to (λ i. few_for rs (i + 1)) 8 (λ i p. ap (λ (k : ℕ). leb k 4) (sym (own_count i p)) ∙ to_each (λ h. few_b (releases_at m h)) 8 (rules_parts (release_rules_of st b m) v.rules) i p)

-- ---- "oldest first"
-- a release that is not out of order, and the other way
pub release_facts : (k : ℕ × ℕ) (x : FileRelease) → release_after k x ≡ false → (k.0 ≤ x.tenant) × (x.tenant ≡ k.0 → k.1 ≤ x.time)
release_facts k x e = go (ltb x.tenant k.0) refl (eqb x.tenant k.0) refl (ltb x.time k.1) refl e
  where
    go : (a : Bool) → ltb x.tenant k.0 ≡ a → (c : Bool) → eqb x.tenant k.0 ≡ c → (d : Bool) → ltb x.time k.1 ≡ d → (a || (c && d)) ≡ false → (k.0 ≤ x.tenant) × (x.tenant ≡ k.0 → k.1 ≤ x.time)
    go true a c f d g z = absurd (let w : ◌≡◌ {A = ℕ} 0 1 = cc in omega arith)
    go false a true f true g z = absurd (let w : ◌≡◌ {A = ℕ} 0 1 = cc in omega arith)
    go false a true f false g z = (ltb-false x.tenant k.0 a, λ q. ltb-false x.time k.1 g)
    go false a false f d g z = (ltb-false x.tenant k.0 a, λ q. absurd (eqb-false x.tenant k.0 f q))

pub release_not : (k : ℕ × ℕ) (x : FileRelease) → k.0 ≤ x.tenant → (x.tenant ≡ k.0 → k.1 ≤ x.time) → release_after k x ≡ false
release_not k x h g = ap (λ (a : Bool). a || (eqb x.tenant k.0 && ltb x.time k.1)) (le-ltb x.tenant k.0 h) ∙ go (eqb x.tenant k.0) refl
  where
    go : (c : Bool) → eqb x.tenant k.0 ≡ c → (c && ltb x.time k.1) ≡ false
    go true e = le-ltb x.time k.1 (g (eqb-true x.tenant k.0 e))
    go false e = refl

own_older : (t : ℕ) (k : ℕ × ℕ) (rs : List FileRelease) → ordered_from release_key release_after k rs ≡ true
    → (t < k.0 → own release_tenant t rs ≡ []) × (k.0 ≡ t → all_by (λ x. leb k.1 x.time) (own release_tenant t rs) ≡ true) × (pairs_by (λ x y. leb x.time y.time) (own release_tenant t rs) ≡ true)
unfolding ordered_from filter_by pick all_by pairs_by
own_older t k [] e = (λ h. refl, λ h. refl, refl)
own_older t k (x ∷ rs) e =
    let p = neither (release_after k x) (ordered_from release_key release_after (release_key x) rs) e in
    go (eqb x.tenant t) refl (release_facts k x p.0) (own_older t (release_key x) rs p.1)
  where
    O : List FileRelease
    O = own release_tenant t rs

    go : (c : Bool) → eqb x.tenant t ≡ c → (k.0 ≤ x.tenant) × (x.tenant ≡ k.0 → k.1 ≤ x.time)
        → (t < x.tenant → O ≡ []) × (x.tenant ≡ t → all_by (λ y. leb x.time y.time) O ≡ true) × (pairs_by (λ x y. leb x.time y.time) O ≡ true)
        → (t < k.0 → pick c (x ∷ O) O ≡ []) × (k.0 ≡ t → all_by (λ y. leb k.1 y.time) (pick c (x ∷ O) O) ≡ true) × (pairs_by (λ x y. leb x.time y.time) (pick c (x ∷ O) O) ≡ true)
    go true f z ih =
        let q : x.tenant ≡ t = eqb-true x.tenant t f in
        let w = z.0 in (
          λ h. absurd (omega arith),
          λ h.
              let late : k.1 ≤ x.time = z.1 (q ∙ sym h) in
              all_cons (λ y. leb k.1 y.time) x O (le-leb k.1 x.time late)
              (all_both (λ y. leb x.time y.time) (λ y. leb x.time y.time) (λ y. leb k.1 y.time) O (λ y u u'. le-leb k.1 y.time (let n = leb-true x.time y.time u in omega arith)) (ih.1 q) (ih.1 q)),
          pairs_cons (λ x y. leb x.time y.time) x O (ih.1 q) ih.2,
        )
    go false f z ih =
        let n = eqb-false x.tenant t f in
        let w = z.0 in (
          λ h. ih.0 (omega arith),
          λ h. ap (all_by (λ y. leb k.1 y.time)) (ih.0 (let m : t < x.tenant = above x.tenant t n (omega arith) in m)),
          ih.2,
        )
      where
        above : (a t : ℕ) → (a ≡ t → ⊥) → t ≤ a → t < a
        above a t n h = omega arith

-- ---- so the memory is sound
release_filled : (x : FileRelease) → filled_b (stored_release x) ≡ true
unfolding filled_b stored_release
release_filled x = zeros_past (32 - length x.id) x.id

unused_releases : (k : ℕ) → all_by unused_r (replicate k zero_release) ≡ true
unfolding all_by unused_r zero_from pick
unused_releases zero = refl
unused_releases (suc k) = all_cons unused_r zero_release (replicate k zero_release) blank (unused_releases k)
  where
    blank : unused_r zero_release ≡ true
    blank = refl

releases_laid : (l : List FileRelease) → pairs_by (λ x y. leb x.time y.time) l ≡ true → laid_b (laid_releases (map stored_release l)) ≡ true
unfolding laid_b laid_releases older stored_release
releases_laid l p =
    and_both (ap (pairs_by older) (releases_back (map stored_release l)) ∙ pairs_map older stored_release l ∙ p)
    (and_both (ap (all_by filled_b) (releases_back (map stored_release l)) ∙ all_map filled_b stored_release l ∙ filled l)
    (ap (all_by unused_r) (drop_at (map stored_release l) (replicate (4 - length (map stored_release l)) zero_release) (length (map stored_release l)) refl) ∙ unused_releases (4 - length (map stored_release l))))
  where
    filled : (l : List FileRelease) → all_by (λ x. filled_b (stored_release x)) l ≡ true
    filled [] = all_none (λ x. filled_b (stored_release x))
    filled (x ∷ l) = all_cons (λ x. filled_b (stored_release x)) x l (release_filled x) (filled l)

module _ (st : State) (b : LeaseTable) (rs : List FileRelease) (m : Memory) (v : Remembers st b rs m) (o : ordered_from release_key release_after (0, 0) rs ≡ true) where
  memory_laid : (release_rules_of st b m).layout ≡ true
  unfolding release_rules_of rules_to
  memory_laid =
      each_to (λ h. laid_b (releases_at m h)) 8 (λ h p.
      ap (λ (y : Memory). laid_b (releases_at y h)) v.memory ∙ ap laid_b (tenant_releases rs h) ∙ ap (λ (l : List FileRelease). laid_b (laid_releases (map stored_release l))) (apart_at release_tenant 8 1 h rs p)
      ∙ releases_laid (own release_tenant (h + 1) rs) (own_older (h + 1) (0, 0) rs o).2)

  pub memory_sound_on : memory_b st b m ≡ true
  unfolding memory_b broken_memory broken_release pick
  memory_sound_on =
      eq-eqb _ 0 (ap₂ (λ (p q : Bool). pick p (pick {A = ℕ} q 0 19) (first_release (release_rules_of st b m))) (eq-eqb (first_release (release_rules_of st b m)) 0 v.rules) memory_laid)
