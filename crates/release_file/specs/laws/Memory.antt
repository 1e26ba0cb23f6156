-- Laws: a section read and written again, and a memory's releases written and read again: each gives the other back. What is written has the section's format, and a
-- memory can hold it.
use Rattle.std.specs.Prelude.{Bool, ◌&&◌, ◌||◌, ◌≡◌, refl, eqb, drop, get_or, replicate, take}
use Rattle.std.proofs.Math.Bool.{false, true}
use mathlib.Core.List.{List, [], ◌∷◌, map}
use Rattle.std.proofs.Common.{◌∙◌, sym, length-take, length-take-le}
use Rattle.std.proofs.Math.Path.{ap, ap₂}
use Prim.Native.Nat.{◌*◌, ◌+◌, ◌-◌, ◌<◌, ◌≤◌, suc, zero, ℕ}
use native.Mathlib.Omega.{arith}
use Rattle.std.proofs.Math.Dec.{leb, ltb}
use Rattle.std.proofs.Math.ListN.{length, length-map}
use borrow.Author.Tests.{eq-eqb, le-leb, le-ltb, leb-true, ltb-false, ne_eqb}
use Rattle.format.specs.Section.{ordered_from}
use Rattle.format.specs.Tenants.{apart, filed_all, own}
use Rattle.format.specs.laws.Rows.{write_most}
use Rattle.format.specs.laws.Tenants.{Sorted, apart_at, entries_again, entries_back, filed_each, filed_most, filed_ordered, sorted_up}
use Rattle.lists.specs.All.{All, all_by, all_to, pairs_by}
use Rattle.lists.specs.Pick.{pick}
use Rattle.lists.specs.laws.All.{all_facts, all_mapped, all_take, all_tests, each_to, one_fact, two_facts}
use Rattle.lists.specs.laws.Each.{map_back}
use Rattle.lists.specs.laws.Pick.{both, neither}
use Rattle.lists.specs.laws.Row.{row_back, row_fill}
use Rattle.release_file.specs.Section.{FileRelease, few_for, filed_memory, filed_release, keepable_b, memory_octets, release_after, release_format, release_key, releases_fit_b, releases_format, stored_memory, stored_release, release_tenant}
use Rattle.release_file.specs.laws.Rows.{release_size}
use Rattle.state.specs.Book.{laid_releases, remembered, zero_release}
use Rattle.state.specs.laws.Layout.{releases_back}
use Rattle.state.specs.declared.Memory.{Memory}
use Rattle.state.specs.declared.Release.{Release}
use Rattle.state.specs.declared.TenantReleases.{TenantReleases}

-- ---- read and written again
filed_stored : (x : FileRelease) → filed_release x.tenant (stored_release x) ≡ x
unfolding filed_release stored_release
filed_stored x = ap {B = FileRelease} (λ (i : List ℕ). record { tenant = x.tenant; id = i; xid = x.xid; time = x.time }) (row_back 0 32 x.id)

-- a release that the memory can hold is one of the tenants'
record Kept (x : FileRelease) : Type 0 where
  from : 1 ≤ x.tenant
  to : x.tenant < 9

keepable_facts : (x : FileRelease) → keepable_b x ≡ true → Kept x
unfolding keepable_b
keepable_facts x e =
    let a = neither _ _ e in
    let b = neither _ _ a.1 in
    let h = ltb-false 8 x.tenant b.0 in
    record { from = ltb-false x.tenant 1 a.0; to = omega arith }

-- the section's order is sorted by tenant
ordered_sorted : (t k : ℕ) (l : List FileRelease) → ordered_from release_key release_after (t, k) l ≡ true → Sorted release_tenant t l
unfolding ordered_from Sorted pick
ordered_sorted t k [] e = tt
ordered_sorted t k (x ∷ l) e = go (ltb x.tenant t) refl (ordered_sorted x.tenant x.time l) e
  where
    go : (b : Bool) → ltb x.tenant t ≡ b → (ordered_from release_key release_after (x.tenant, x.time) l ≡ true → Sorted release_tenant x.tenant l)
        → pick (b || (eqb x.tenant t && ltb x.time k)) false (ordered_from release_key release_after (x.tenant, x.time) l) ≡ true → (t ≤ x.tenant) × Sorted release_tenant x.tenant l
    go true p ih e = absurd (let z : ◌≡◌ {A = ℕ} 0 1 = cc in omega arith)
    go false p ih e = (ltb-false x.tenant t p, ih (neither (eqb x.tenant t && ltb x.time k) (ordered_from release_key release_after (x.tenant, x.time) l) e).1)

pub memory_again : (xs : List FileRelease) → ordered_from release_key release_after (0, 0) xs ≡ true → releases_fit_b xs ≡ true → filed_memory (stored_memory xs) ≡ xs
unfolding filed_memory stored_memory releases_fit_b
memory_again xs o e =
    let kept : All Kept xs = all_facts keepable_b Kept xs keepable_facts (both _ _ e).0 in
    ap (filed_all filed_release 1) (map_back laid_releases remembered releases_back (map (map stored_release) (apart release_tenant 1 8 xs)))
    ∙ entries_again release_tenant stored_release filed_release Kept (λ x p. filed_stored x) 8 xs
    (sorted_up release_tenant 0 1 xs (one_fact Kept (λ x. 1 ≤ x.tenant) xs (λ x p. p.from) kept) (ordered_sorted 0 0 xs o)) (one_fact Kept (λ x. x.tenant < 1 + 8) xs (λ x p. p.to) kept) kept

-- ---- written and read again
-- a tenant's entries as rules 15 and 16 have them
pub record ShortReleases (q : TenantReleases) : Type 0 where
  pub few : q.count ≤ 4
  pub ids : All (λ r. r.id_len ≤ 32) (remembered q)

-- an entry with zeros past its identifier
pub record NeatRelease (r : Release) : Type 0 where
  pub long : length r.id ≡ 32
  pub short : r.id_len ≤ 32
  pub zeros : drop r.id_len r.id ≡ replicate (32 - r.id_len) 0

-- a tenant's entries, those of no use past the others
pub record NeatReleases (q : TenantReleases) : Type 0 where
  pub long : length q.releases ≡ 4
  pub few : q.count ≤ 4
  pub each : All NeatRelease (remembered q)
  pub unused : drop q.count q.releases ≡ replicate (4 - q.count) zero_release

-- numbers that their octets can hold
pub record OctetRelease (r : Release) : Type 0 where
  pub id : All (λ x. x < 256) r.id
  pub xid : r.xid < 4294967296
  pub time : r.time < 4294967296

pub record OldestFirst (q : TenantReleases) : Type 0 where
  pub each : All OctetRelease (remembered q)
  pub rising : pairs_by (λ a b. leb a.time b.time) (remembered q) ≡ true

neat_id : (r : Release) → NeatRelease r → length (take r.id_len r.id) ≡ r.id_len
neat_id r v = length-take-le r.id_len r.id (let h = v.short in omega (arith, v.long))

stored_filed : (t : ℕ) (r : Release) → NeatRelease r → stored_release (filed_release t r) ≡ r
unfolding filed_release stored_release
stored_filed t r v =
    ap₂ {C = Release} (λ (n : ℕ) (i : List ℕ). record { id_len = n; id = i; xid = r.xid; time = r.time }) (neat_id r v) (row_fill 0 32 r.id_len r.id (neat_id r v) v.zeros)

neat_count : (q : TenantReleases) → NeatReleases q → length (remembered q) ≡ q.count
neat_count q v = length-take-le q.count q.releases (let h = v.few in omega (arith, v.long))

laid_again : (q : TenantReleases) → NeatReleases q → laid_releases (remembered q) ≡ q
unfolding laid_releases
laid_again q v =
    ap₂ {C = TenantReleases} (λ (l : List Release) (n : ℕ). record { releases = l; count = n }) (row_fill zero_release 4 q.count q.releases (neat_count q v) v.unused) (neat_count q v)

laid_all : (qs : List TenantReleases) → All NeatReleases qs → map laid_releases (map remembered qs) ≡ qs
unfolding All
laid_all [] v = refl
laid_all (q ∷ qs) v = ap₂ {C = List TenantReleases} (λ (x : TenantReleases) (l : List TenantReleases). x ∷ l) (laid_again q v.0) (laid_all qs v.1)

module _ (m : Memory) (eight : length m.releases ≡ 8) (v : All NeatReleases m.releases) where
  rows : List (List Release)
  rows = map remembered m.releases

  many : length rows ≡ 8
  unfolding rows
  many = length-map m.releases remembered ∙ eight

  neat : All (All NeatRelease) rows
  unfolding rows
  neat = all_mapped (All NeatRelease) remembered m.releases (one_fact NeatReleases (λ q. All NeatRelease (remembered q)) m.releases (λ q p. p.each) v)

  apart_back : map (map stored_release) (apart release_tenant 1 8 (filed_memory m)) ≡ rows
  unfolding filed_memory filed_release rows
  apart_back =
      ap (λ (k : ℕ). map (map stored_release) (apart release_tenant 1 k (filed_all filed_release 1 rows))) (sym many)
      ∙ entries_back release_tenant stored_release filed_release NeatRelease (λ t y. refl) stored_filed 1 rows neat

  pub memory_back : (stored_memory (filed_memory m)).releases ≡ m.releases
  unfolding stored_memory rows
  memory_back = ap (map laid_releases) apart_back ∙ laid_all m.releases v

  -- ---- a memory can hold its own section
  own_row : (i : ℕ) → i < 8 → length (own release_tenant (i + 1) (filed_memory m)) ≡ length (get_or rows i [])
  own_row i h =
      ap length (sym (apart_at release_tenant 8 1 i (filed_memory m) h)) ∙ rows_long i (apart release_tenant 1 8 (filed_memory m))
      ∙ ap (λ (ls : List (List Release)). length (get_or ls i [])) apart_back
    where
      rows_long : (i : ℕ) (ls : List (List FileRelease)) → length (get_or ls i []) ≡ length (get_or (map (map stored_release) ls) i [])
      rows_long i [] = refl
      rows_long zero (l ∷ ls) = sym (length-map l stored_release)
      rows_long (suc i) (l ∷ ls) = rows_long i ls

  rows_few : All (λ l. length l ≤ 4) rows
  unfolding rows
  rows_few = all_mapped (λ l. length l ≤ 4) remembered m.releases (one_fact NeatReleases (λ q. length (remembered q) ≤ 4) m.releases (λ q p. let a = neat_count q p in let b = p.few in omega arith) v)

  row_few : (i : ℕ) (ls : List (List Release)) → All (λ l. length l ≤ 4) ls → length (get_or ls i []) ≤ 4
  unfolding All
  row_few i [] h = omega arith
  row_few zero (l ∷ ls) h = h.0
  row_few (suc i) (l ∷ ls) h = row_few i ls h.1

  keepable : (t : ℕ) (r : Release) → 1 ≤ t → t < 9 → NeatRelease r → keepable_b (filed_release t r) ≡ true
  unfolding keepable_b filed_release pick
  keepable t r h g p =
      ap₂ (λ (a b : Bool). pick a false (pick b false (leb (length (take r.id_len r.id)) 32))) (le-ltb t 1 h) (le-ltb 8 t (omega arith))
      ∙ le-leb (length (take r.id_len r.id)) 32 (let n = neat_id r p in let s = p.short in omega arith)

  pub memory_fits : releases_fit_b (filed_memory m) ≡ true
  unfolding releases_fit_b filed_memory few_for rows pick
  memory_fits =
      let n = many in
      let a : all_by keepable_b (filed_memory m) ≡ true = all_tests keepable_b (λ x. keepable_b x ≡ true) (filed_memory m) (λ x p. p) (filed_each filed_release (λ x. keepable_b x ≡ true) NeatRelease 1 9 keepable 1 rows (omega arith) (omega arith) neat) in
      ap (λ (b : Bool). pick b (all_to (λ i. few_for (filed_memory m) (i + 1)) 8) false) a
      ∙ each_to (λ i. few_for (filed_memory m) (i + 1)) 8 (λ i h. le-leb (length (own release_tenant (i + 1) (filed_memory m))) 4 (let p = own_row i h in let q = row_few i rows rows_few in omega arith))

  -- ---- and its section has the format
  module _ (w : All OldestFirst m.releases) where
    both_facts : All (All (λ r. NeatRelease r × OctetRelease r)) rows
    unfolding rows
    both_facts =
        all_mapped (All (λ r. NeatRelease r × OctetRelease r)) remembered m.releases
        (two_facts NeatReleases OldestFirst (λ q. All (λ r. NeatRelease r × OctetRelease r) (remembered q)) m.releases
        (λ q p o. two_facts NeatRelease OctetRelease (λ r. NeatRelease r × OctetRelease r) (remembered q) (λ r a b. (a, b)) p.each o.each) v w)

    rising : All (λ l. pairs_by (λ a b. leb a.time b.time) l ≡ true) rows
    unfolding rows
    rising = all_mapped (λ l. pairs_by (λ a b. leb a.time b.time) l ≡ true) remembered m.releases (one_fact OldestFirst (λ q. pairs_by (λ a b. leb a.time b.time) (remembered q) ≡ true) m.releases (λ q p. p.rising) w)

    each_ok : (t : ℕ) (r : Release) → 1 ≤ t → t < 9 → NeatRelease r × OctetRelease r → release_format.ok (filed_release t r)
    unfolding filed_release
    each_ok t r h g (p, o) =
        let n = neat_id r p in let s = p.short in
        (let a : t < 256 = omega arith in a, ((let a : length (take r.id_len r.id) < 256 = omega arith in a, all_take (λ x. x < 256) r.id_len r.id o.id), (o.xid, o.time)))

    -- a later tenant is in order, whatever the time; and so is the same at a time that is no earlier
    enters : (k : ℕ × ℕ) (t : ℕ) (y : Release) → k.0 < t → release_after k (filed_release t y) ≡ false
    unfolding filed_release
    enters k t y h = ap₂ (λ (a b : Bool). a || (b && ltb y.time k.1)) (le-ltb t k.0 (omega arith)) (ne_eqb t k.0 (λ e. absurd (omega arith)))

    goes : (t : ℕ) (x y : Release) → leb x.time y.time ≡ true → release_after (release_key (filed_release t x)) (filed_release t y) ≡ false
    unfolding filed_release
    goes t x y e =
        let h = leb-true x.time y.time e in
        ap₂ (λ (a b : Bool). a || (eqb t t && b)) (le-ltb t t (omega arith)) (le-ltb y.time x.time h) ∙ ap (λ (a : Bool). a && false) (eq-eqb t t refl)

    leaves : (t : ℕ) (y : Release) → (release_key (filed_release t y)).0 < suc t
    unfolding filed_release
    leaves t y = omega arith

    ordered : ordered_from release_key release_after (0, 0) (filed_memory m) ≡ true
    unfolding filed_memory rows
    ordered = filed_ordered filed_release release_key release_after (λ k t. k.0 < t) (λ a b. leb a.time b.time) enters goes leaves (λ k t h. omega arith) (0, 0) 1 rows (omega arith) rising

    pub memory_ok : releases_format.ok (filed_memory m)
    unfolding filed_memory rows
    memory_ok =
        let n = many in
        let l = filed_most filed_release 4 1 rows rows_few in
        let s : length rows * 4 ≡ 32 = ap (λ (k : ℕ). k * 4) n in
        (((let a : length (filed_all filed_release 1 rows) < 256 = omega arith in a), filed_each filed_release release_format.ok (λ r. NeatRelease r × OctetRelease r) 1 9 each_ok 1 rows (omega arith) (omega arith) both_facts), ordered)

-- ---- how long a section gets: 42 octets a release, four releases a tenant
pub memory_most : (m : Memory) → length m.releases ≤ 8 → All ShortReleases m.releases → length (memory_octets m) ≤ 1345
unfolding memory_octets filed_memory
memory_most m h v =
    let rows : List (List Release) = map remembered m.releases in
    let n : length rows ≡ length m.releases = length-map m.releases remembered in
    let few : All (λ l. length l ≤ 4) rows =
    all_mapped (λ l. length l ≤ 4) remembered m.releases (one_fact ShortReleases (λ q. length (remembered q) ≤ 4) m.releases (λ q p. let a = length-take q.count q.releases in let b = p.few in omega arith) v) in
    let ids : All (All (λ r. r.id_len ≤ 32)) rows = all_mapped (All (λ r. r.id_len ≤ 32)) remembered m.releases (one_fact ShortReleases (λ q. All (λ r. r.id_len ≤ 32) (remembered q)) m.releases (λ q p. p.ids) v) in
    let each = filed_each filed_release (λ x. length (release_format.write x) ≤ 42) (λ r. r.id_len ≤ 32) 1 9 (λ t r a b p. let s = release_size t r in let l = length-take r.id_len r.id in omega arith) 1 rows (omega arith) (omega arith) ids in
    let w = write_most release_format.write (λ x. length (release_format.write x) ≤ 42) 42 (λ x p. p) (filed_all filed_release 1 rows) each in
    let k = filed_most filed_release 4 1 rows few in
    omega arith
